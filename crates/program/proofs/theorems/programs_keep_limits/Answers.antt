use Rattle.program.proofs.Counts.{within_limits}
use Rattle.program.proofs.theorems.programs_keep_limits.Goals as goal

pub returns : goal.returns
returns c = within_limits
