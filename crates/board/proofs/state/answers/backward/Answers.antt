use Rattle.std.proofs.Common.{◌-◌, arith, length-set}
use Rattle.board.proofs.Backward.{answered_more}
use Rattle.board.proofs.state.answers.backward.Goals as goal

pub loop-p-preserved : goal.loop-p-preserved
loop-p-preserved g c =
    let p = c.loop-p.p - 1 in
    record {
      size = simp length-set c.loop-p.invariant.size;
      told = λ f h. answered_more f c.args.n c.loop-p.out c.loop-p.p p c.one.result (omega arith) (omega arith)
          (c.loop-p.invariant.told f h) (h p _ c.one.result c.one.ensures);
    }

pub returns : goal.returns
returns g c f h p a l = c.loop-p.invariant.told f h p (omega arith) l
