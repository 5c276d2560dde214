use Rattle.grammar.proofs.Telling.{valued, starved}
use Rattle.grammar.proofs.expressions.join.Goals as goal

pub returns-in_err-first : goal.returns-in_err-first
returns-in_err-first c text = starved _ _ c.from_residual.ensures.1 c.in_err-first.ensures.err

pub returns : goal.returns
returns c text = let e = c.in_ok-first.ensures.ok in valued _ (rw (e.0, e.1))
