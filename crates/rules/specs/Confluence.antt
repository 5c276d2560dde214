-- Theorems on the order of moves, for every sound program, every kind and all words at the ports.
-- Equal states have the same cells, local states with their points, marks, words to come and counts.
use Rattle.std.specs.Prelude.{◌≡◌, ℕ, ◌+◌, ◌≤◌, ◌≢◌, ◌↔◌, List}
use Rattle.numbers.specs.Kinds.{Meaning}
use Rattle.rules.specs.Programs.{Table}
use Rattle.rules.specs.Soundness.{Sound}
use Rattle.rules.specs.States.{State, Move, powered}
use Rattle.rules.specs.Permissions.{Permitted, Rests}
use Rattle.rules.specs.Moves.{made}
use Rattle.rules.specs.Invariants.{Wf}
use Rattle.rules.specs.Runs.{Run, Reached}

-- Two moves can be made in either order: both remain permitted, and the ends are equal.
abbrev pub Commute : Meaning → Table → State → Move → Move → Type 0
Commute k t s m n =
    Permitted t (made k t s m) n × Permitted t (made k t s n) m × (made k t (made k t s m) n ≡ made k t (made k t s n) m)

-- Any two different permitted moves commute.
abbrev pub Diamond : Type 0
Diamond =
    (k : Meaning) (t : Table) (s : State) (m n : Move)
    → Sound t
    → Wf t s
    → Permitted t s m
    → Permitted t s n
    → m ≢ n
    → Commute k t s m n

-- How a run of j moves to u stands to one of n moves, from the same state, that came to rest at r:
-- it has at most n moves, rests exactly at n, is then at the same state, and can always be completed to it.
abbrev pub SameEnd : Meaning → Table → ℕ → State → ℕ → State → Type 0
SameEnd k t n r j u =
    (j ≤ n) × (Rests t u ↔ (j ≡ n)) × (j ≡ n → u ≡ r) × ((i : ℕ) × (j + i ≡ n) × Run k t u i r)

-- One end: if some run of n moves from a state rests, every run from it ends there.
abbrev pub OneEnd : Type 0
OneEnd =
    (k : Meaning) (t : Table) (s r u : State) (n j : ℕ)
    → Sound t
    → Wf t s
    → Run k t s n r
    → Rests t r
    → Run k t s j u
    → SameEnd k t n r j u

-- The same of boards: of every state reached from power, and from power itself.
abbrev pub DiamondWhenReached : Type 0
DiamondWhenReached =
    (k : Meaning) (t : Table) (w : ℕ → List ℕ) (s : State) (m n : Move)
    → Sound t
    → Reached k t w s
    → Permitted t s m
    → Permitted t s n
    → m ≢ n
    → Commute k t s m n

abbrev pub OneEndWhenReached : Type 0
OneEndWhenReached =
    (k : Meaning) (t : Table) (w : ℕ → List ℕ) (s r u : State) (n j : ℕ)
    → Sound t
    → Reached k t w s
    → Run k t s n r
    → Rests t r
    → Run k t s j u
    → SameEnd k t n r j u

abbrev pub OneEndFromPower : Type 0
OneEndFromPower =
    (k : Meaning) (t : Table) (w : ℕ → List ℕ) (r u : State) (n j : ℕ)
    → Sound t
    → Run k t (powered t w) n r
    → Rests t r
    → Run k t (powered t w) j u
    → SameEnd k t n r j u
