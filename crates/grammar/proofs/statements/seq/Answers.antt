use Rattle.grammar.proofs.Telling.{valued, starved}
use Rattle.grammar.proofs.statements.seq.Goals as goal

pub returns-in_err-left : goal.returns-in_err-left
returns-in_err-left c text = starved _ _ c.from_residual.ensures.1 c.in_err-left.ensures.err

pub returns : goal.returns
returns c text = let e = c.in_ok-left.ensures.ok in valued _ (rw (e.0, e.1))
