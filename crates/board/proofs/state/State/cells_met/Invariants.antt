use Rattle.std.proofs.Common.{◌≡◌, ℕ, length, get_or}
use Rattle.tables.specs.Views.{table}
use Rattle.board.specs.Views.{portless, flags}
use Rattle.board.specs.Effects.{met_cell}
use Rattle.board.proofs.state.State.cells_met.Given as goal

abbrev pub invariant-loop-q : goal.invariant-loop-q
invariant-loop-q l =
    (length l.cells ≡ 128)
    × ((c : ℕ) → get_or l.cells c 0 ≡ met_cell (table l.t) (portless l.self) (flags l.counted) l.word l.q c)
