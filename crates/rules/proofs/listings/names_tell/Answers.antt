use Rattle.rules.proofs.Names.{names_tell_lem}
use Rattle.rules.proofs.listings.names_tell.Goals as goal

pub returns : goal.returns
returns c = names_tell_lem
