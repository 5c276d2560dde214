use Rattle.rules.proofs.Granting.{granted_exactly, granted_makes, no_such_exactly, limit_exactly, not_permitted_exactly, refused_leaves}
use Rattle.rules.proofs.grants.grants_tell.Goals as goal

pub returns : goal.returns
returns c = record { granted = granted_exactly; makes = granted_makes; none = no_such_exactly; limit = limit_exactly; refused = not_permitted_exactly; leaves = refused_leaves }
