use Rattle.rules.proofs.Runs.{one_end, reached_one_end, power_one_end}
use Rattle.rules.proofs.confluence.runs_end_alike.Goals as goal

pub returns : goal.returns
returns c = record { formed = one_end; reached = reached_one_end; power = power_one_end }
