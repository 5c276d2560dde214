use Rattle.rules.proofs.Reached.{moves_counted}
use Rattle.rules.proofs.safety.moves_are_counted.Goals as goal

pub returns : goal.returns
returns c = moves_counted
