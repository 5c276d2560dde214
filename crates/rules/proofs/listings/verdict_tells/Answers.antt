use Rattle.rules.proofs.Verdicts.{verdict_finished, verdict_deadlock, verdict_moving, finished_rests}
use Rattle.rules.proofs.listings.verdict_tells.Goals as goal

pub returns : goal.returns
returns c = record { finished = verdict_finished; deadlock = verdict_deadlock; moving = verdict_moving; rests = finished_rests }
