use Rattle.std.proofs.Common.{◌+◌, sym, refl, subst, arith}
use Rattle.rules.specs.Tests.{knowing_child}
use Rattle.tables.specs.Views.{table}
use Rattle.board.specs.Views.{portless, flags}
use Rattle.board.proofs.Turns.{Both, both_took, both_left, both_missed, both_end}
use Rattle.board.proofs.state.State.children_ready.Goals as goal
use Rattle.board.proofs.state.State.children_ready.Goals.{then-knowing_child+else-not-later-c, else-knowing_child}

pub loop-c-init : goal.loop-c-init
loop-c-init c = (refl, refl)

pub loop-c-preserved : goal.loop-c-preserved
loop-c-preserved c =
    let f = knowing_child (table c.args.t.now) (portless c.args.self.now) c.args.h c.args.p in
    let r = flags c.args.later.now in
    elim c.if-knowing_child.branch [
      | then-knowing_child+else-not-later-c w ↦ subst (Both f r (c.loop-c.c + 1)) (sym w.some-is) (both_took f r _ _ c.loop-c.invariant (sym w.if-knowing_child.ensures) w.if-not-later-c.false)
      | else-knowing_child w ↦ subst (Both f r (c.loop-c.c + 1)) (sym w.some-is) (both_left f r _ _ c.loop-c.invariant (sym w.if-knowing_child.ensures))
    ]

pub returns-then-not-later-c : goal.returns-then-not-later-c
returns-then-not-later-c c = both_missed (knowing_child (table c.args.t.now) (portless c.args.self.now) c.args.h c.args.p) (flags c.args.later.now) (table c.args.t.now).places c.loop-c.c (omega arith) (sym c.if-knowing_child.ensures) c.if-not-later-c.true

pub returns : goal.returns
returns c = both_end (knowing_child (table c.args.t.now) (portless c.args.self.now) c.args.h c.args.p) (flags c.args.later.now) c.loop-c.c (table c.args.t.now).places _ (omega arith) c.loop-c.invariant
