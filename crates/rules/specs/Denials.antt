-- What the rules do not say is not so: three plausible readings, each refuted for every board.
use Rattle.std.specs.Prelude.{◌≡◌, ℕ, ◌≢◌, ◌⊎◌}
use Rattle.std.proofs.Math.Option.{some}
use Rattle.numbers.specs.Kinds.{Meaning}
use Rattle.rules.specs.Programs.{Table, throw}
use Rattle.rules.specs.Trees.{Within}
use Rattle.rules.specs.Soundness.{Sound}
use Rattle.rules.specs.States.{State, running, poisoned, lesser, Move, step, close, poison}
use Rattle.rules.specs.Readiness.{Waits}
use Rattle.rules.specs.Permissions.{Permitted}
use Rattle.rules.specs.Moves.{made}
use Rattle.rules.specs.Invariants.{Wf}

-- p runs before a throw to the try j of place g.
abbrev pub Throws : Table → State → ℕ → ℕ → ℕ → Type 0
Throws t s p g j = (x : ℕ) × (s.at p ≡ running x) × (t.stm x ≡ throw g j)

-- A throw does not poison beyond its own try: no place but the thrower changes its local state,
-- and no mark but that of the try's place and those between the two.
abbrev pub ThrowStaysInside : Type 0
ThrowStaysInside =
    (k : Meaning) (t : Table) (s : State) (p g j q : ℕ)
    → Throws t s p g j
    → (q ≢ p → (made k t s (step p)).at q ≡ s.at q)
    × (q ≢ g → (Within t g q × Within t q (t.parent p) → ⊥) → (made k t s (step p)).mark q ≡ s.mark q)

-- The first raised try does not win over an outer one: the mark becomes the lesser of what it was and the try's number,
-- and the outermost try has the least.
abbrev pub LesserWins : Type 0
LesserWins =
    (k : Meaning) (t : Table) (s : State) (p g j : ℕ) → Throws t s p g j → (made k t s (step p)).mark g ≡ lesser (s.mark g) j

-- How a move comes to poison q: q throws, or closes with mark 0, or waits for the home of a poison.
abbrev pub PoisonedBy : Table → State → ℕ → Move → Type 0
PoisonedBy t s q m =
    ((m ≡ step q) × ((g : ℕ) × (j : ℕ) × Throws t s q g j))
    ⊎ (((m ≡ close q) × (s.mark q ≡ some 0)) ⊎ ((p : ℕ) × (h : ℕ) × (m ≡ poison p h) × Waits t s h q))

-- A place that waits for nothing is not poisoned by a sibling: a permitted move poisons in no other way.
abbrev pub PoisonedOnly : Type 0
PoisonedOnly =
    (k : Meaning) (t : Table) (s : State) (m : Move) (q : ℕ)
    → Sound t
    → Wf t s
    → Permitted t s m
    → s.at q ≢ poisoned
    → (made k t s m).at q ≡ poisoned
    → PoisonedBy t s q m
