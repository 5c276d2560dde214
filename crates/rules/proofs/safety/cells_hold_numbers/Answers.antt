use Rattle.rules.proofs.Numbers.{numbers_at_power, numbers_kept}
use Rattle.rules.proofs.Reached.{reached_numbers}
use Rattle.rules.proofs.safety.cells_hold_numbers.Goals as goal

pub returns : goal.returns
returns c = record { power = numbers_at_power; kept = numbers_kept; reached = reached_numbers }
