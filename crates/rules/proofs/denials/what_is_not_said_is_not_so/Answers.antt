use Rattle.rules.proofs.Denied.{throw_stays_inside, lesser_wins, poisoned_only}
use Rattle.rules.proofs.denials.what_is_not_said_is_not_so.Goals as goal

pub returns : goal.returns
returns c = record { thrown = throw_stays_inside; outer = lesser_wins; waits = poisoned_only }
