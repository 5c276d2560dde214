use Rattle.std.proofs.Common.{refl}
use Rattle.grammar.proofs.Telling.{valued, starved}
use Rattle.grammar.proofs.expressions.negate.Goals as goal

pub returns-in_err-new : goal.returns-in_err-new
returns-in_err-new c text = starved _ _ c.from_residual.ensures.1 refl

pub returns : goal.returns
returns c text = let a = c.in_ok-new.ensures.ok in valued _ (rw a)
