use Rattle.rules.proofs.Told.{meet_tells, poison_tells}
use Rattle.rules.proofs.effects.meet_and_poison_tell.Goals as goal

pub returns : goal.returns
returns c = record { meets = meet_tells; poisons = poison_tells }
