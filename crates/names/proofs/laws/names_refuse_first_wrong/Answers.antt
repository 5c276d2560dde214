use Rattle.names.proofs.Judging.{refuses_first_wrong}
use Rattle.names.proofs.laws.names_refuse_first_wrong.Goals as goal

pub returns : goal.returns
returns c = refuses_first_wrong
