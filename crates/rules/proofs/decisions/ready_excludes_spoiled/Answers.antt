use Rattle.rules.proofs.Decide.{ready_or_spoiled}
use Rattle.rules.proofs.decisions.ready_excludes_spoiled.Goals as goal

pub returns : goal.returns
returns c = ready_or_spoiled
