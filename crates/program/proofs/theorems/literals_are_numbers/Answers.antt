use Rattle.program.proofs.Guaranteed.{literals_are_numbers_lem}
use Rattle.program.proofs.theorems.literals_are_numbers.Goals as goal

pub returns : goal.returns
returns c = literals_are_numbers_lem
