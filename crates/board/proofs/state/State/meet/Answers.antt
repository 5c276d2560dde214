use Rattle.std.proofs.Common.{ℕ, ◌+◌, ◌<◌, get_or, set, refl, subst, rules, arith}
use Rattle.rules.specs.Readiness.{counted}
use Rattle.rules.specs.Moves.{meet_effect, observed}
use Rattle.board.specs.declared.state.State.{State}
use Rattle.tables.specs.Views.{table}
use Rattle.board.specs.Views.{idle_place, local, place, portless, flags}
use Rattle.board.specs.Effects.{Shaped, After, PlaceAfter, observed_if, observed_by}
use Rattle.board.proofs.Sweeps.{made, observed_as, meet_at, meet_after}
use Rattle.board.proofs.state.State.meet.Goals as goal

pub returns : goal.returns
returns c =
    let s = c.args.self.now in
    let shaped : Shaped s = (omega arith, omega arith, omega arith) in
    let t = table c.args.t.now in
    let h = c.args.h in
    let w = get_or s.cells h 0 in
    let r : State = record { places = c.from_fn-self.result; cells = c.cells_met-cells.result; meets = set s.meets h (get_or s.meets h 0 + 1); total = s.total + 1 } in
    let f = counted t (portless s) h c.declarer-p.result in
    let b = flags c.counted-counted.result in
    let v = observed_by f (portless s) in
    let each : (k : ℕ) → k < 64 → PlaceAfter (meet_effect t 0 (observed_if (b k) (local (place s k).at)) 0) 0 (place s k) (place r k) =
    made (λ k y. PlaceAfter (meet_effect t 0 (observed_if (b k) (local (place s k).at)) 0) 0 (place s k) y) c.from_fn-self.ensures.items (λ i y q k. search rules) idle_place in
    subst (λ (p : ℕ). After (meet_effect t h (observed t (portless s) h p) w) s r) c.declarer-p.ensures.is
    (meet_after t h c.declarer-p.result s r b shaped c.requires.inside c.args.t.now.sized.1
    c.from_fn-self.ensures.items.long c.cells_met-cells.ensures.size refl refl c.counted-counted.ensures
    (λ k l. meet_at v k (b k) (local (place s k).at) (observed_as s f b k (c.counted-counted.ensures k l)) (place s k) (place r k) t h w (each k l))
    c.cells_met-cells.ensures.cells)
