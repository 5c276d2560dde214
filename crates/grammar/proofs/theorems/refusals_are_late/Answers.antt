use Rattle.grammar.proofs.Continued.{refused_begun}
use Rattle.grammar.proofs.theorems.refusals_are_late.Goals as goal

pub returns : goal.returns
returns c = refused_begun
