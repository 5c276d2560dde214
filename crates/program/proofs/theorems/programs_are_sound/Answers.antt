use Rattle.program.proofs.Accept.{accepted_sound}
use Rattle.program.proofs.theorems.programs_are_sound.Goals as goal

pub returns : goal.returns
returns c = accepted_sound
