use Rattle.std.proofs.Common.{◌≡◌}
use Rattle.rules.specs.Trees.{within}
use Rattle.tables.specs.Views.{table}
use Rattle.tables.proofs.tables.Tables.within.Given as goal

abbrev pub invariant-loop-v : goal.invariant-loop-v
invariant-loop-v l = within (table l.self) l.p l.q ≡ within (table l.self) l.p l.v

abbrev pub decreases-loop-v : goal.decreases-loop-v
decreases-loop-v l = l.v
