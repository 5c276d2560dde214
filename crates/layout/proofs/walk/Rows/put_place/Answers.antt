use Rattle.std.proofs.Common.{rules}
use Rattle.layout.proofs.walk.Rows.put_place.Goals as goal

pub returns-clause-rows : goal.returns-clause-rows
returns-clause-rows c = λ text. search (rules, c.push_got.ensures text)
