use Rattle.std.proofs.Common.{◌+◌, refl, rules, arith}
use Rattle.rules.specs.Steps.{step_effect, raise}
use Rattle.board.specs.declared.state.State.{State}
use Rattle.tables.specs.Views.{table}
use Rattle.board.specs.Views.{idle_place, place}
use Rattle.board.specs.Effects.{Shaped, PlaceAfter}
use Rattle.board.proofs.Sweeps.{made, swept_after, throw_past}
use Rattle.board.proofs.state.State.throw.Goals as goal

pub returns : goal.returns
returns c =
    let s = c.args.self.now in
    let shaped : Shaped s = (omega arith, omega arith, omega arith) in
    let r : State = record { places = c.from_fn-self.result; cells = s.cells; meets = s.meets; total = s.total + 1 } in
    let e = step_effect (table c.args.t.now) c.args.p (raise c.args.g c.args.k) in
    swept_after e s r shaped c.from_fn-self.ensures.items.long refl refl refl
    (made (λ k y. PlaceAfter e k (place s k) y) c.from_fn-self.ensures.items (λ i y q k. search rules) idle_place)
    (throw_past (table c.args.t.now) c.args.t.now.lower c.args.t.now.sized.3 c.args.p c.args.g c.args.k c.requires.inside c.requires.above) (λ k. refl) (λ k. refl)
