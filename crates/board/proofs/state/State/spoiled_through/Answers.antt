use Rattle.std.proofs.Common.{sym, refl, ◌∙◌, arith}
use Rattle.rules.specs.Tests.{knowing_child}
use Rattle.std.proofs.lemmas.Bool.{or_right}
use Rattle.board.specs.Loops.{spoiled_child}
use Rattle.tables.specs.Views.{table}
use Rattle.board.specs.Views.{portless, flags}
use Rattle.board.proofs.Turns.{any_more, any_found, any_took, any_left, through_end}
use Rattle.board.proofs.state.State.spoiled_through.Goals as goal
use Rattle.board.proofs.state.State.spoiled_through.Goals.{then-knowing_child, else-knowing_child}

pub loop-c-init : goal.loop-c-init
loop-c-init c = (refl, refl)

pub loop-c-preserved : goal.loop-c-preserved
loop-c-preserved c =
    let f = knowing_child (table c.args.t.now) (portless c.args.self.now) c.args.h c.args.q in (
      elim c.if-knowing_child.branch [
        | then-knowing_child w ↦ w.some-is ∙ any_took f _ (sym w.if-knowing_child.ensures)
        | else-knowing_child w ↦ w.some-is ∙ any_left f _ _ c.loop-c.invariant.0 (sym w.if-knowing_child.ensures)
      ],
      any_more (spoiled_child (table c.args.t.now) (portless c.args.self.now) c.args.q (flags c.args.later.now)) _ c.loop-c.invariant.1 (sym c.if-spoiled_child.ensures),
    )

pub returns-then-spoiled_child : goal.returns-then-spoiled_child
returns-then-spoiled_child c =
    sym (or_right _ _ (any_found (spoiled_child (table c.args.t.now) (portless c.args.self.now) c.args.q (flags c.args.later.now)) (table c.args.t.now).places c.loop-c.c (omega arith) (sym c.if-spoiled_child.ensures)))

pub returns : goal.returns
returns c =
    through_end (knowing_child (table c.args.t.now) (portless c.args.self.now) c.args.h c.args.q)
    (spoiled_child (table c.args.t.now) (portless c.args.self.now) c.args.q (flags c.args.later.now))
    c.loop-c.c (table c.args.t.now).places c.loop-c.some (omega arith) c.loop-c.invariant.0 c.loop-c.invariant.1
