-- States of a board, and its moves.
use Rattle.std.specs.Prelude.{ℕ, min, Bool, true, false, cond, List, ◌==◌}
use Rattle.std.proofs.Math.Option.{Option, some, none}
use Rattle.rules.specs.Programs.{Table}

-- A place is idle, running, parted, finished or poisoned. A running place stands at a point; a parted one at its par.
pub data Local : Type 0 where
  idle : Local
  running : ℕ → Local
  parted : ℕ → Local
  finished : Local
  poisoned : Local

-- Running, parted and poisoned places are live.
abbrev pub live : Local → Bool
live idle = false
live (running x) = true
live (parted x) = true
live finished = false
live poisoned = true

-- A place that runs or is parted: while a child is so, no close.
abbrev pub busy : Local → Bool
busy idle = false
busy (running x) = true
busy (parted x) = true
busy finished = false
busy poisoned = false

abbrev pub is_parted : Local → Bool
is_parted idle = false
is_parted (running x) = false
is_parted (parted x) = true
is_parted finished = false
is_parted poisoned = false

abbrev pub is_idle : Local → Bool
is_idle idle = true
is_idle (running x) = false
is_idle (parted x) = false
is_idle finished = false
is_idle poisoned = false

-- A mark is none, 0, or a try's number from 1.
abbrev pub Mark : Type 0
Mark = Option ℕ

-- The lesser of a mark and a number; none is the greatest.
abbrev pub lesser : Mark → ℕ → Mark
lesser none k = some k
lesser (some j) k = some (min j k)

-- What a board holds: of each place where it stands and its mark, of each cell its word, of each port the words
-- still to come, and the counts: steps of each place, meets of each home, and all granted moves.
-- Equality of states is equality of all of these.
pub record State : Type 0 where
  pub at : ℕ → Local
  pub mark : ℕ → Mark
  pub cell : ℕ → ℕ
  pub port : ℕ → List ℕ
  pub steps : ℕ → ℕ
  pub meets : ℕ → ℕ
  pub total : ℕ

-- The moves: a step of a place, a close of a place, a meet of a home, a poison of a place for a home.
pub data Move : Type 0 where
  step : ℕ → Move
  close : ℕ → Move
  meet : ℕ → Move
  poison : ℕ → ℕ → Move

-- At power place 0 runs, the others are idle, marks are none, cells are word 0 and counts are 0;
-- the words to come are the bank's.
abbrev pub powered : Table → (ℕ → List ℕ) → State
powered t r =
    record {
      at = λ q. cond (q == 0) (running (t.start 0)) idle;
      mark = λ q. none;
      cell = λ c. 0;
      port = r;
      steps = λ q. 0;
      meets = λ h. 0;
      total = 0;
    }
