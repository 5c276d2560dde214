use Rattle.rules.proofs.Told.{throw_tells, close_tells}
use Rattle.rules.proofs.effects.throw_and_close_tell.Goals as goal

pub returns : goal.returns
returns c = record { throws = throw_tells; closes = close_tells }
