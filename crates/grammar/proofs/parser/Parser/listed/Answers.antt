use Rattle.grammar.proofs.Telling.{told, valued, stopped}
use Rattle.grammar.proofs.ProgramSteps.{listed_step}
use Rattle.grammar.proofs.parser.Parser.listed.Goals as goal

pub returns-in_err-open-clause-tells : goal.returns-in_err-open-clause-tells
returns-in_err-open-clause-tells c text = rw listed_step (stopped _ _ c.from_residual.ensures.1 (c.in_err-open.ensures.tells text))

pub returns-in_err-params-clause-tells : goal.returns-in_err-params-clause-tells
returns-in_err-params-clause-tells c text =
    rw (listed_step, told (c.in_ok-open.ensures.tells text)) (stopped _ _ c.from_residual-in_err-params.ensures.1 (c.in_err-params.ensures.tells text))

pub returns-in_err-eat-clause-tells : goal.returns-in_err-eat-clause-tells
returns-in_err-eat-clause-tells c text =
    rw (listed_step, told (c.in_ok-open.ensures.tells text), told (c.in_ok-params.ensures.tells text)) (stopped _ _ c.from_residual-in_err-eat.ensures.1 (c.in_err-eat.ensures.tells text))

pub returns-clause-tells : goal.returns-clause-tells
returns-clause-tells c text =
    valued _ (rw (listed_step, told (c.in_ok-open.ensures.tells text), told (c.in_ok-params.ensures.tells text), told (c.in_ok-eat.ensures.tells text)))
