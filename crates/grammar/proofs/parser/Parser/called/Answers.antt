use Rattle.grammar.proofs.Telling.{told, valued, stopped}
use Rattle.grammar.proofs.SimpleSteps.{called_step}
use Rattle.grammar.proofs.parser.Parser.called.Goals as goal

pub returns-in_err-open-clause-tells : goal.returns-in_err-open-clause-tells
returns-in_err-open-clause-tells c text = rw called_step (stopped _ _ c.from_residual.ensures.1 (c.in_err-open.ensures.tells text))

pub returns-in_err-names-clause-tells : goal.returns-in_err-names-clause-tells
returns-in_err-names-clause-tells c text =
    rw (called_step, told (c.in_ok-open.ensures.tells text)) (stopped _ _ c.from_residual-in_err-names.ensures.1 (c.in_err-names.ensures.tells text))

pub returns-in_err-eat-clause-tells : goal.returns-in_err-eat-clause-tells
returns-in_err-eat-clause-tells c text =
    rw (called_step, told (c.in_ok-open.ensures.tells text), told (c.in_ok-names.ensures.tells text)) (stopped _ _ c.from_residual-in_err-eat.ensures.1 (c.in_err-eat.ensures.tells text))

pub returns-clause-tells : goal.returns-clause-tells
returns-clause-tells c text =
    valued _ (rw (called_step, told (c.in_ok-open.ensures.tells text), told (c.in_ok-names.ensures.tells text), told (c.in_ok-eat.ensures.tells text)))
