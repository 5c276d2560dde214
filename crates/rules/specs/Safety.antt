-- Theorems on single states: what every state of a board keeps, for every sound program.
use Rattle.std.specs.Prelude.{◌≡◌, ℕ, ◌+◌, List}
use Rattle.numbers.specs.Kinds.{Meaning, Laws}
use Rattle.rules.specs.Programs.{Table}
use Rattle.rules.specs.Soundness.{Sound}
use Rattle.rules.specs.States.{State, Move, powered}
use Rattle.rules.specs.Permissions.{Permitted}
use Rattle.rules.specs.Moves.{made}
use Rattle.rules.specs.Invariants.{Wf}
use Rattle.rules.specs.Numbers.{Literals, Numbers}
use Rattle.rules.specs.Runs.{Run, Reached}

-- The state at power is well formed, whatever words are to come.
abbrev pub AtPower : Type 0
AtPower = (t : Table) (w : ℕ → List ℕ) → Sound t → Wf t (powered t w)

-- Every permitted move keeps it so.
abbrev pub Kept : Type 0
Kept = (k : Meaning) (t : Table) (s : State) (m : Move) → Sound t → Wf t s → Permitted t s m → Wf t (made k t s m)

-- At power every cell holds a number of the kind.
abbrev pub NumbersAtPower : Type 0
NumbersAtPower = (k : Meaning) (t : Table) (w : ℕ → List ℕ) → Laws k → Numbers k (powered t w)

-- Every move keeps it so: a taken word enters a cell only if it is a number.
abbrev pub NumbersKept : Type 0
NumbersKept =
    (k : Meaning) (t : Table) (s : State) (m : Move) → Laws k → Literals k t → Numbers k s → Numbers k (made k t s m)

-- So every state that a board reaches is well formed, its cells hold numbers, and its count is that of the moves made.
abbrev pub ReachedWellFormed : Type 0
ReachedWellFormed = (k : Meaning) (t : Table) (w : ℕ → List ℕ) (s : State) → Sound t → Reached k t w s → Wf t s

abbrev pub ReachedNumbers : Type 0
ReachedNumbers =
    (k : Meaning) (t : Table) (w : ℕ → List ℕ) (s : State) → Laws k → Literals k t → Reached k t w s → Numbers k s

abbrev pub MovesCounted : Type 0
MovesCounted = (k : Meaning) (t : Table) (s r : State) (n : ℕ) → Run k t s n r → r.total ≡ n + s.total
