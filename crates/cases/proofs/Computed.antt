-- The listed boards hold: they are computed.
use Rattle.std.proofs.Common.{refl}
use Rattle.rules.specs.Listings.{listing}
use Rattle.rules.specs.Choices.{run}
use Rattle.cases.specs.Listed.{ListedHold}

pub listed_hold : ListedHold
unfolding listing run
listed_hold = refl
