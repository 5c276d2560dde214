use Rattle.reader.proofs.Laying.{refusals_have_causes_lem}
use Rattle.reader.proofs.laws.refusals_have_causes.Goals as goal

pub returns : goal.returns
returns c = refusals_have_causes_lem
