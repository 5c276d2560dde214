use Rattle.std.proofs.Common.{◌≡◌, ℕ, ◌<◌, false, length, get_or}
use Rattle.rules.specs.Readiness.{counted}
use Rattle.tables.specs.Views.{table}
use Rattle.board.specs.Views.{portless}
use Rattle.board.proofs.state.State.counted.Given as goal

abbrev pub invariant-loop-q : goal.invariant-loop-q
invariant-loop-q l =
    (length l.out ≡ 64)
    × ((k : ℕ) → k < l.q → get_or l.out k false ≡ counted (table l.t) (portless l.self) l.h l.p k)
