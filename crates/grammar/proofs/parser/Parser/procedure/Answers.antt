use Rattle.grammar.proofs.Telling.{told, valued, stopped}
use Rattle.grammar.proofs.ProgramSteps.{proc_step}
use Rattle.grammar.proofs.parser.Parser.procedure.Goals as goal

pub returns-in_err-name-clause-tells : goal.returns-in_err-name-clause-tells
returns-in_err-name-clause-tells c text = rw proc_step (stopped _ _ c.from_residual.ensures.1 (c.in_err-name.ensures.tells text))

pub returns-in_err-params-clause-tells : goal.returns-in_err-params-clause-tells
returns-in_err-params-clause-tells c text =
    rw (proc_step, told (c.in_ok-name.ensures.tells text)) (stopped _ _ c.from_residual-in_err-params.ensures.1 (c.in_err-params.ensures.tells text))

pub returns-in_err-body-clause-tells : goal.returns-in_err-body-clause-tells
returns-in_err-body-clause-tells c text =
    rw (proc_step, told (c.in_ok-name.ensures.tells text), told (c.in_ok-params.ensures.tells text)) (stopped _ _ c.from_residual-in_err-body.ensures.1 (c.in_err-body.ensures.tells text))

pub returns-clause-tells : goal.returns-clause-tells
returns-clause-tells c text =
    valued _ (rw (proc_step, told (c.in_ok-name.ensures.tells text), told (c.in_ok-params.ensures.tells text), told (c.in_ok-body.ensures.tells text)))
