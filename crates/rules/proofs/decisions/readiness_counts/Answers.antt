use Rattle.rules.proofs.Decide.{counted_form}
use Rattle.rules.proofs.decisions.readiness_counts.Goals as goal

pub returns : goal.returns
returns c = counted_form
