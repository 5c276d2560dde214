use Rattle.std.proofs.Common.{arith, length-set}
use Rattle.tables.specs.Views.{table}
use Rattle.board.specs.Views.{portless}
use Rattle.board.proofs.Upward.{counted_more}
use Rattle.board.proofs.state.State.counted.Goals as goal

pub loop-q-preserved : goal.loop-q-preserved
loop-q-preserved c = (
  simp length-set c.loop-q.invariant.0,
  counted_more (table c.args.t.now) c.args.t.now.lower (portless c.args.self.now) c.args.h c.args.p
      c.loop-q.out c.loop-q.q _ (omega arith) c.loop-q.invariant.1 c.counted_one.ensures,
)
