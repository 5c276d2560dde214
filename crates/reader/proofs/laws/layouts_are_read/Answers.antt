use Rattle.reader.proofs.Converse.{layouts_are_read_lem}
use Rattle.reader.proofs.laws.layouts_are_read.Goals as goal

pub returns : goal.returns
returns c = layouts_are_read_lem
