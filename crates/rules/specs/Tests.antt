-- Readiness, spoiling and permission as tests that compute, over the places of a program.
-- Fuel: a child's number is greater than its parent's, so the number of places is enough.
use Rattle.std.specs.Prelude.{ℕ, zero, suc, Bool, true, false, not, ◌&&◌, ◌||◌, ◌==◌}
use Rattle.std.proofs.Math.Option.{Option, some, none}
use Rattle.rules.specs.Programs.{Table, awaits}
use Rattle.rules.specs.Trees.{nonzero}
use Rattle.rules.specs.States.{State, Local, idle, running, parted, finished, poisoned, live, busy, Mark, Move, step, close, meet, poison}
use Rattle.rules.specs.Moves.{any_below}

-- Every number below a bound passes a test.
abbrev pub all_below : ℕ → (ℕ → Bool) → Bool
all_below zero f = true
all_below (suc n) f = f n && all_below n f

-- c is a child of p.
abbrev pub child : Table → ℕ → ℕ → Bool
child t p c = nonzero c && t.parent c == p

-- c is a live child of p that knows h.
abbrev pub knowing_child : Table → State → ℕ → ℕ → ℕ → Bool
knowing_child t s h p c = child t p c && (live (s.at c) && t.knows c h)

-- A next of home h.
abbrev pub for_home : Option (ℕ × ℕ) → ℕ → Bool
for_home none h = false
for_home (some d) h = d.1 == h

abbrev pub no_next : Option (ℕ × ℕ) → Bool
no_next none = true
no_next (some d) = false

-- p is ready for h, where r tells it of its children.
abbrev pub ready_at : Table → State → ℕ → ℕ → (ℕ → Bool) → Local → Bool
ready_at t s h p r idle = false
ready_at t s h p r (running x) = for_home (awaits (t.stm x)) h
ready_at t s h p r (parted x) =
    any_below t.places (knowing_child t s h p) && all_below t.places (λ c. not (knowing_child t s h p c) || r c)
ready_at t s h p r finished = false
ready_at t s h p r poisoned = false

abbrev pub ready : Table → State → ℕ → ℕ → ℕ → Bool
ready t s h zero p = false
ready t s h (suc f) p = ready_at t s h p (λ c. ready t s h f c) (s.at p)

abbrev pub is_zero : Mark → Bool
is_zero none = false
is_zero (some zero) = true
is_zero (some (suc j)) = false

-- q, which knows h, is spoiled for it, where r tells it of its children.
abbrev pub spoiled_at : Table → State → ℕ → ℕ → (ℕ → Bool) → Local → Bool
spoiled_at t s h q r idle = false
spoiled_at t s h q r (running x) = false
spoiled_at t s h q r (parted x) =
    is_zero (s.mark q)
    && (not (any_below t.places (knowing_child t s h q)) || any_below t.places (λ c. child t q c && (live (s.at c) && r c)))
spoiled_at t s h q r finished = false
spoiled_at t s h q r poisoned = true

abbrev pub spoiled : Table → State → ℕ → ℕ → ℕ → Bool
spoiled t s h zero q = false
spoiled t s h (suc f) q = t.knows q h && spoiled_at t s h q (λ c. spoiled t s h f c) (s.at q)

abbrev pub steps_at : Table → Local → Bool
steps_at t idle = false
steps_at t (running x) = no_next (awaits (t.stm x))
steps_at t (parted x) = false
steps_at t finished = false
steps_at t poisoned = false

abbrev pub closes_at : Table → State → ℕ → Local → Bool
closes_at t s p idle = false
closes_at t s p (running x) = false
closes_at t s p (parted x) = all_below t.places (λ c. not (child t p c && busy (s.at c)))
closes_at t s p finished = false
closes_at t s p poisoned = false

abbrev pub permitted : Table → State → Move → Bool
permitted t s (step p) = steps_at t (s.at p)
permitted t s (close p) = closes_at t s p (s.at p)
permitted t s (meet h) = t.home h == h && ready t s h t.places (t.declarer h)
permitted t s (poison p h) =
    (t.home h == h)
    && (t.knows p h
    && (ready t s h t.places p
    && any_below t.places (λ c.
    not (c == p) && (child t (t.parent p) c && (live (s.at c) && spoiled t s h t.places c)))))
