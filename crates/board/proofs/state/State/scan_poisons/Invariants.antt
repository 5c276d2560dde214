use Rattle.std.proofs.Common.{ℕ, ◌+◌, ◌*◌, ◌≤◌, List, ◌++◌}
use Rattle.rules.specs.States.{Move}
use Rattle.rules.specs.Listings.{each, poisons_of}
use Rattle.tables.specs.Views.{table, cells_of}
use Rattle.board.specs.Views.{portless}
use Rattle.board.specs.Scans.{Scanned}
use Rattle.board.proofs.state.State.scan_poisons.Given as goal

abbrev pub invariant-loop-p : goal.invariant-loop-p
invariant-loop-p l =
    record {
      grows : l.scan.count ≤ l.initial.scan.count + 128 * l.p-counter;
      list : (w : ℕ) (xs : List Move) → Scanned w xs l.initial.scan → Scanned w (xs ++ each (poisons_of (table l.t) (portless l.self) (cells_of l.t)) l.p-counter) l.scan;
    }
