use Rattle.program.proofs.Guaranteed.{homes_are_inside_lem}
use Rattle.program.proofs.theorems.homes_are_inside.Goals as goal

pub returns : goal.returns
returns c = homes_are_inside_lem
