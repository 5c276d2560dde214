use Rattle.std.proofs.Common.{[]}
use Rattle.sharing.proofs.Passing.{passed, passes}
use Rattle.sharing.proofs.fairness.passes_exactly.Goals as goal

pub returns : goal.returns
returns c = λ us. (passed [] us, passes [] us)
