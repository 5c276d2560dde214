-- Which moves are permitted, and rest.
use Rattle.std.specs.Prelude.{◌≡◌, ℕ, T, ◌≢◌}
use Rattle.std.proofs.Math.Option.{none}
use Rattle.rules.specs.Programs.{Table, awaits}
use Rattle.rules.specs.Trees.{Child}
use Rattle.rules.specs.States.{State, running, parted, live, busy, Move, step, close, meet, poison}
use Rattle.rules.specs.Readiness.{Ready, Spoiled}

-- Step p: p runs and is not before a next.
-- Close p: p is parted and no child runs or is parted.
-- Meet h: the place that declared h is ready for h.
-- Poison p h: p knows h and is ready for h, and a live sibling is spoiled for h.
-- The h of a meet or a poison is a home.
abbrev pub Permitted : Table → State → Move → Type 0
Permitted t s (step p) = (x : ℕ) × (s.at p ≡ running x) × (awaits (t.stm x) ≡ none)
Permitted t s (close p) = (x : ℕ) × (s.at p ≡ parted x) × ((c : ℕ) → Child t p c → T (busy (s.at c)) → ⊥)
Permitted t s (meet h) = (t.home h ≡ h) × Ready t s h (t.declarer h)
Permitted t s (poison p h) =
    (t.home h ≡ h)
    × T (t.knows p h)
    × Ready t s h p
    × ((c : ℕ) × (c ≢ p) × Child t (t.parent p) c × T (live (s.at c)) × Spoiled t s h c)

-- A board is at rest when no move is permitted.
abbrev pub Rests : Table → State → Type 0
Rests t s = (m : Move) → Permitted t s m → ⊥
