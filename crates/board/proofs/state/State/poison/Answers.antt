use Rattle.std.proofs.Common.{ℕ, ◌+◌, ◌<◌, refl, rules, arith}
use Rattle.rules.specs.Readiness.{counted}
use Rattle.rules.specs.Moves.{poison_effect}
use Rattle.board.specs.declared.state.State.{State}
use Rattle.tables.specs.Views.{table}
use Rattle.board.specs.Views.{idle_place, local, place, portless, flags}
use Rattle.board.specs.Effects.{Shaped, PlaceAfter, observed_if, observed_by}
use Rattle.board.proofs.Sweeps.{made, swept_after, observed_as, poison_past, poison_at}
use Rattle.board.proofs.state.State.poison.Goals as goal

pub returns : goal.returns
returns c =
    let s = c.args.self.now in
    let shaped : Shaped s = (omega arith, omega arith, omega arith) in
    let r : State = record { places = c.from_fn-self.result; cells = s.cells; meets = s.meets; total = s.total + 1 } in
    let f = counted (table c.args.t.now) (portless s) c.args.h c.args.p in
    let b = flags c.counted-counted.result in
    let v = observed_by f (portless s) in
    let each : (k : ℕ) → k < 64 → PlaceAfter (poison_effect (observed_if (b k) (local (place s k).at))) 0 (place s k) (place r k) =
    made (λ k y. PlaceAfter (poison_effect (observed_if (b k) (local (place s k).at))) 0 (place s k) y) c.from_fn-self.ensures.items (λ i y q k. search rules) idle_place in
    swept_after (poison_effect v) s r shaped c.from_fn-self.ensures.items.long refl refl refl
    (λ k l. poison_at v k (b k) (local (place s k).at) (observed_as s f b k (c.counted-counted.ensures k l)) (place s k) (place r k) (each k l))
    (poison_past s shaped f) (λ k. refl) (λ k. refl)
