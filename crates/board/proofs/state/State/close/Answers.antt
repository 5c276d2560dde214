use Rattle.std.proofs.Common.{◌+◌, refl, subst, rules, arith}
use Rattle.rules.specs.States.{Local}
use Rattle.rules.specs.Moves.{close_effect}
use Rattle.board.specs.declared.state.State.{State}
use Rattle.tables.specs.Views.{table}
use Rattle.board.specs.Views.{idle_place, local, place}
use Rattle.board.specs.Effects.{Shaped, After, PlaceAfter}
use Rattle.board.proofs.Sweeps.{made, swept_after, close_past}
use Rattle.board.proofs.state.State.close.Goals as goal

pub returns : goal.returns
returns c =
    let s = c.args.self.now in
    let shaped : Shaped s = (omega arith, omega arith, omega arith) in
    let r : State = record { places = c.from_fn-self.result; cells = s.cells; meets = s.meets; total = s.total + 1 } in
    let e = close_effect (table c.args.t.now) c.args.p (local c.after_close-out.result) in
    subst (λ (v : Local). After (close_effect (table c.args.t.now) c.args.p v) s r) c.after_close-out.ensures
    (swept_after e s r shaped c.from_fn-self.ensures.items.long refl refl refl
    (made (λ k y. PlaceAfter e k (place s k) y) c.from_fn-self.ensures.items (λ i y q k. search rules) idle_place)
    (close_past (table c.args.t.now) c.args.p (local c.after_close-out.result) c.requires.inside) (λ k. refl) (λ k. refl))
