use Rattle.grammar.specs.Readers.{ended_name}
use Rattle.grammar.proofs.Telling.{told, valued, stopped}
use Rattle.grammar.proofs.parser.Parser.ended_name.Goals as goal

pub returns-in_err-name-clause-tells : goal.returns-in_err-name-clause-tells
unfolding ended_name
returns-in_err-name-clause-tells c text = stopped _ _ c.from_residual.ensures.1 (c.in_err-name.ensures.tells text)

pub returns-in_err-eat-clause-tells : goal.returns-in_err-eat-clause-tells
unfolding ended_name
returns-in_err-eat-clause-tells c text = rw (told (c.in_ok-name.ensures.tells text)) (stopped _ _ c.from_residual-in_err-eat.ensures.1 (c.in_err-eat.ensures.tells text))

pub returns-clause-tells : goal.returns-clause-tells
unfolding ended_name
returns-clause-tells c text = valued _ (rw (told (c.in_ok-name.ensures.tells text), told (c.in_ok-eat.ensures.tells text)))
