use Rattle.program.proofs.Guaranteed.{numbers_are_within_lem}
use Rattle.program.proofs.theorems.numbers_are_within.Goals as goal

pub returns : goal.returns
returns c = numbers_are_within_lem
