use Rattle.reader.proofs.Converse.{causes_are_refused_lem}
use Rattle.reader.proofs.laws.causes_are_refused.Goals as goal

pub returns : goal.returns
returns c = causes_are_refused_lem
