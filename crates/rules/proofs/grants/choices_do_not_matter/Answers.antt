use Rattle.rules.proofs.Chosen.{choices_run, choices_stop, choices_alike}
use Rattle.rules.proofs.grants.choices_do_not_matter.Goals as goal

pub returns : goal.returns
returns c = record { runs = choices_run; stops = choices_stop; alike = choices_alike }
