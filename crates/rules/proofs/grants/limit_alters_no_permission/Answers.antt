use Rattle.rules.proofs.Looks.{permission_looks}
use Rattle.rules.proofs.grants.limit_alters_no_permission.Goals as goal

pub returns : goal.returns
returns c = permission_looks
