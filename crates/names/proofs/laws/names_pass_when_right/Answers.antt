use Rattle.names.proofs.Judging.{passes_when_right}
use Rattle.names.proofs.laws.names_pass_when_right.Goals as goal

pub returns : goal.returns
returns c = passes_when_right
