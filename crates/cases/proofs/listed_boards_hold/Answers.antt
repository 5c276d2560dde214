use Rattle.cases.proofs.Computed.{listed_hold}
use Rattle.cases.proofs.listed_boards_hold.Goals as goal

pub returns : goal.returns
returns c = listed_hold
