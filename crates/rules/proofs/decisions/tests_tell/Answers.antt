use Rattle.rules.proofs.Decide.{ready_tells, spoiled_tells, counted_tells, permitted_tells}
use Rattle.rules.proofs.decisions.tests_tell.Goals as goal

pub returns : goal.returns
returns c = record { ready = ready_tells; spoiled = spoiled_tells; counted = counted_tells; permitted = permitted_tells }
