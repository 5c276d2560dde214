use Rattle.std.proofs.Common.{refl}
use Rattle.program.proofs.theorems.cases_hold.Goals as goal

pub returns : goal.returns
returns c = refl
