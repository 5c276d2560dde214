use Rattle.program.proofs.Limits.{only_limits}
use Rattle.program.proofs.theorems.only_limits_refuse.Goals as goal

pub returns : goal.returns
returns c = only_limits
