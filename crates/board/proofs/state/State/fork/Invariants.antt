use Rattle.std.proofs.Common.{◌≡◌, drop}
use Rattle.tables.specs.Views.{table}
use Rattle.board.specs.Effects.{with_places, forked}
use Rattle.board.proofs.state.State.fork.Given as goal

abbrev pub invariant-loop-b : goal.invariant-loop-b
invariant-loop-b l =
    (l.self ≡ with_places l.initial.self l.self.places)
    × (forked (table l.t).start l.initial.self.places l.branches ≡ forked (table l.t).start l.self.places (drop l.b-index l.branches))
