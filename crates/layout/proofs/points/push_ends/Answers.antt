use Rattle.std.proofs.Common.{vec_items, ◌∙◌}
use Rattle.layout.specs.Rows.{point_rows}
use Rattle.layout.proofs.Pointing.{end_more}
use Rattle.layout.proofs.points.push_ends.Goals as goal

pub loop-q-preserved : goal.loop-q-preserved
loop-q-preserved c =
    end_more c.args.e c.loop-q.q c.args.n (point_rows (vec_items c.loop-q.out)) (point_rows (vec_items c.push_point.new.out)) c.loop-q-test.true c.in_ok-push_point.ensures.rows
    ∙ c.loop-q.invariant
