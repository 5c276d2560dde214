use Rattle.grammar.proofs.Telling.{told, valued, stopped}
use Rattle.grammar.proofs.SimpleSteps.{caught_step}
use Rattle.grammar.proofs.parser.Parser.caught.Goals as goal

pub returns-in_err-open-clause-tells : goal.returns-in_err-open-clause-tells
returns-in_err-open-clause-tells c text = rw caught_step (stopped _ _ c.from_residual.ensures.1 (c.in_err-open.ensures.tells text))

pub returns-in_err-exception-clause-tells : goal.returns-in_err-exception-clause-tells
returns-in_err-exception-clause-tells c text =
    rw (caught_step, told (c.in_ok-open.ensures.tells text)) (stopped _ _ c.from_residual-in_err-exception.ensures.1 (c.in_err-exception.ensures.tells text))

pub returns-in_err-eat-clause-tells : goal.returns-in_err-eat-clause-tells
returns-in_err-eat-clause-tells c text =
    rw (caught_step, told (c.in_ok-open.ensures.tells text), told (c.in_ok-exception.ensures.tells text)) (stopped _ _ c.from_residual-in_err-eat.ensures.1 (c.in_err-eat.ensures.tells text))

pub returns-clause-tells : goal.returns-clause-tells
returns-clause-tells c text =
    valued _ (rw (caught_step, told (c.in_ok-open.ensures.tells text), told (c.in_ok-exception.ensures.tells text), told (c.in_ok-eat.ensures.tells text)))
