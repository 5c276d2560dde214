use Rattle.std.proofs.Common.{ℕ, false, cond, eqb, List, length, get_or, refl, ap, ◌∙◌, arith, length-set}
use Rattle.tables.specs.Views.{table}
use Rattle.board.specs.Views.{portless, flags}
use Rattle.board.proofs.Copying.{met_cell_more, get_d_set}
use Rattle.board.proofs.state.State.cells_met.Goals as goal
use Rattle.board.proofs.state.State.cells_met.Goals.{in-Some, in_default}

pub loop-q-init : goal.loop-q-init
loop-q-init c = (omega arith, λ k. refl)

pub loop-q-preserved : goal.loop-q-preserved
loop-q-preserved c =
    let more = met_cell_more (table c.args.t.now) (portless c.args.self.now) (flags c.args.counted.now) c.args.word c.loop-q.q in
    elim c.match-own_cell.branch [
      | in-Some w ↦ (
        ap (λ (v : List ℕ). length v) w.cells-is ∙ length-set _ _ _ ∙ c.loop-q.invariant.0,
        λ k. ap (λ (v : List ℕ). get_or v k 0) w.cells-is
            ∙ more k _ (eqb k w.in-Some.c) (w.in-Some.ensures.is k)
            (get_d_set c.loop-q.cells w.in-Some.c k c.args.word 0 (omega (arith, w.in-Some.ensures.named, c.loop-q.invariant.0))
            ∙ ap (λ v. cond (eqb k w.in-Some.c) c.args.word v) (c.loop-q.invariant.1 k)),
      )
      | in_default w ↦ (
        ap (λ (v : List ℕ). length v) w.cells-is ∙ c.loop-q.invariant.0,
        λ k. ap (λ (v : List ℕ). get_or v k 0) w.cells-is ∙ more k _ false (w.in_default.ensures.is k) (c.loop-q.invariant.1 k),
      )
    ]
