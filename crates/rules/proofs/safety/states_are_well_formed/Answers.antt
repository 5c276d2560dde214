use Rattle.rules.proofs.Invariant.{kept, at_power}
use Rattle.rules.proofs.Reached.{reached_wf}
use Rattle.rules.proofs.safety.states_are_well_formed.Goals as goal

pub returns : goal.returns
returns c = record { power = at_power; kept = kept; reached = reached_wf }
