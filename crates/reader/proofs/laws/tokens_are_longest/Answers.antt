use Rattle.reader.proofs.Laying.{tokens_are_longest_lem}
use Rattle.reader.proofs.laws.tokens_are_longest.Goals as goal

pub returns : goal.returns
returns c = tokens_are_longest_lem
