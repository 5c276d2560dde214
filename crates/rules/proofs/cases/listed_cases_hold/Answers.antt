use Rattle.rules.proofs.Checked.{cases_hold_lem, samples_hold}
use Rattle.rules.proofs.cases.listed_cases_hold.Goals as goal

pub returns : goal.returns
returns c = record { cases = cases_hold_lem; samples = samples_hold }
