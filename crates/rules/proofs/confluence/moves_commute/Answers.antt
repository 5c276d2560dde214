use Rattle.rules.proofs.Diamonds.{diamond}
use Rattle.rules.proofs.Runs.{reached_diamond}
use Rattle.rules.proofs.confluence.moves_commute.Goals as goal

pub returns : goal.returns
returns c = record { formed = diamond; reached = reached_diamond }
