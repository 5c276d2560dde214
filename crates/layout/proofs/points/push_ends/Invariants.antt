use Rattle.std.proofs.Common.{◌≡◌, ◌-◌, ◌++◌, vec_items}
use Rattle.program.specs.Layout.{ends}
use Rattle.layout.specs.Rows.{point_rows}
use Rattle.layout.proofs.points.push_ends.Given as goal

abbrev pub invariant-loop-q : goal.invariant-loop-q
invariant-loop-q l = point_rows (vec_items l.out) ++ ends l.e l.q (l.n - l.q) ≡ point_rows (vec_items l.initial.out) ++ ends l.e 0 l.n
