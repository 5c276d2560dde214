use Rattle.std.proofs.Common.{refl}
use Rattle.grammar.proofs.Telling.{valued, starved}
use Rattle.grammar.proofs.statements.par.Goals as goal

pub returns-in_err-inner : goal.returns-in_err-inner
returns-in_err-inner c text = starved _ _ c.from_residual.ensures.1 refl

pub returns : goal.returns
returns c text = let a = c.in_ok-inner.ensures.ok in valued _ (rw a)
