-- The tree of places: each place but 0 is a branch of a par in its parent.
use Rattle.std.specs.Prelude.{◌≡◌, ℕ, zero, suc, Bool, not, ◌&&◌, ◌||◌, T, ◌==◌}
use Rattle.rules.specs.Programs.{Table}

-- From q one comes up to p, and every number on the way, p left out, is ok.
pub data Climb (up : ℕ → ℕ) (ok : ℕ → Bool) (p : ℕ) : ℕ → Type 0 where
  here : {q : ℕ} → q ≡ p → Climb up ok p q
  more : {q : ℕ} → T (ok q) → Climb up ok p (up q) → Climb up ok p q

-- The same as a test, with at most so many ways up.
abbrev pub climbs : (ℕ → ℕ) → (ℕ → Bool) → ℕ → ℕ → ℕ → Bool
climbs up ok p zero q = q == p
climbs up ok p (suc f) q = q == p || (ok q && climbs up ok p f (up q))

abbrev pub nonzero : ℕ → Bool
nonzero q = not (q == 0)

-- q is p, or stands below it.
abbrev pub Within : Table → ℕ → ℕ → Type 0
Within t p q = Climb t.parent nonzero p q

abbrev pub within : Table → ℕ → ℕ → Bool
within t p q = climbs t.parent nonzero p q q

-- c is a child of p. Two children of one place are siblings.
abbrev pub Child : Table → ℕ → ℕ → Type 0
Child t p c = T (nonzero c) × (t.parent c ≡ p)
