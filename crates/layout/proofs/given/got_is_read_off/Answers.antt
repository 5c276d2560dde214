use Rattle.layout.proofs.Numbering.{given_is}
use Rattle.layout.proofs.given.got_is_read_off.Goals as goal

pub returns : goal.returns
returns c = given_is
