use Rattle.grammar.proofs.Refusals.{refused_early}
use Rattle.grammar.proofs.theorems.refusals_are_early.Goals as goal

pub returns : goal.returns
returns c = refused_early
