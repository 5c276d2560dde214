use Rattle.grammar.proofs.Telling.{told, valued, stopped}
use Rattle.grammar.proofs.ProgramSteps.{param_taken}
use Rattle.grammar.proofs.parser.Parser.param.Goals as goal

pub returns-in_err-name-clause-tells : goal.returns-in_err-name-clause-tells
returns-in_err-name-clause-tells c text =
    rw (param_taken text c.args.self.now.rest.now c.takes-reference.new.self.rest.now c.takes-reference.result c.takes-reference.ensures.yes c.takes-reference.ensures.no)
    (stopped _ _ c.from_residual.ensures.1 (c.in_err-name.ensures.tells text))

pub returns-clause-tells : goal.returns-clause-tells
returns-clause-tells c text =
    valued _ (rw (param_taken text c.args.self.now.rest.now c.takes-reference.new.self.rest.now c.takes-reference.result c.takes-reference.ensures.yes c.takes-reference.ensures.no, told (c.in_ok-name.ensures.tells text)))
