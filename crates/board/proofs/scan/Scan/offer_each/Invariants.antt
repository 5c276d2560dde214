use Rattle.std.proofs.Common.{◌≡◌, ℕ, ◌+◌, ◌<◌, ◌≤◌, List, ◌++◌}
use Rattle.rules.specs.States.{Move}
use Rattle.rules.specs.Listings.{each}
use Rattle.board.specs.Scans.{Scanned, listed}
use Rattle.board.proofs.scan.Scan.offer_each.Given as goal

abbrev pub invariant-loop-i : goal.invariant-loop-i
invariant-loop-i g l =
    record {
      grows : l.self.count ≤ l.initial.self.count + l.i;
      list : (f : ℕ → List Move) → ((k : ℕ) (m : _) → k < l.n → goal.F-post g l.permitted k m → listed m ≡ f k)
          → (w : ℕ) (xs : List Move) → Scanned w xs l.initial.self → Scanned w (xs ++ each f l.i) l.self;
    }
