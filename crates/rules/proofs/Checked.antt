-- The listed cases hold: they are computed.
use Rattle.std.proofs.Common.{refl}
use Rattle.rules.specs.Listings.{listing}
use Rattle.rules.specs.Choices.{run}
use Rattle.rules.specs.Boards.{CasesHold}
use Rattle.rules.specs.Samples.{SamplesHold}

pub cases_hold_lem : CasesHold
unfolding listing run
cases_hold_lem k w = (refl, refl)

pub samples_hold : SamplesHold
unfolding listing run
samples_hold = refl
