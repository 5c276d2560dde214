-- What each move does.
use Rattle.std.specs.Prelude.{ℕ, zero, suc, Bool, false, cond, ◌&&◌, ◌||◌, ◌==◌, slice_index}
use Rattle.std.proofs.Math.Option.{Option, some, none, map}
use Rattle.numbers.specs.Kinds.{Meaning}
use Rattle.rules.specs.Programs.{Table, awaits}
use Rattle.rules.specs.Trees.{nonzero}
use Rattle.rules.specs.States.{Local, idle, running, parted, finished, poisoned, Mark, State, Move, step, close, meet, poison}
use Rattle.rules.specs.Readiness.{counted}
use Rattle.rules.specs.Effects.{MarkChange, keep, lower_to, reset, Effect, apply, nothing, never, zeros, one_at}
use Rattle.rules.specs.Steps.{doing, step_effect}

-- ---- close

-- Where a close puts a place parted at x: with mark none after the par, with 0 it is poisoned,
-- with k it stands at the catch block of its k-th open try.
abbrev pub after_close : Table → ℕ → Mark → Local
after_close t x none = running (t.after x)
after_close t x (some zero) = poisoned
after_close t x (some (suc j)) = running (slice_index (t.catches x) j)

abbrev pub closing : Table → Mark → Local → Local
closing t m idle = idle
closing t m (running x) = running x
closing t m (parted x) = after_close t x m
closing t m finished = finished
closing t m poisoned = poisoned

-- The mark becomes none and the children idle.
abbrev pub close_effect : Table → ℕ → Local → Effect
close_effect t p l =
    record {
      at = λ q. cond (q == p) (some l) (cond (nonzero q && t.parent q == p) (some idle) none);
      mark = λ q. cond (q == p) reset keep;
      cell = nothing;
      pop = never;
      steps = zeros;
      meets = zeros;
    }

-- ---- meet and poison

-- Where the places stand that readiness of p for h counts.
abbrev pub observed : Table → State → ℕ → ℕ → ℕ → Option Local
observed t s h p q = cond (counted t s h p q) (some (s.at q)) none

-- The point of an observed running place: a next, since p is ready.
abbrev pub runs_at : Option Local → Option ℕ
runs_at none = none
runs_at (some idle) = none
runs_at (some (running x)) = some x
runs_at (some (parted x)) = none
runs_at (some finished) = none
runs_at (some poisoned) = none

-- An observed parted place gets mark 0.
abbrev pub parts_at : Option Local → MarkChange
parts_at none = keep
parts_at (some idle) = keep
parts_at (some (running x)) = keep
parts_at (some (parted x)) = lower_to 0
parts_at (some finished) = keep
parts_at (some poisoned) = keep

-- c is the own cell of a next.
abbrev pub owns : Option (ℕ × ℕ) → ℕ → Bool
owns none c = false
owns (some d) c = c == d.0

abbrev pub owns_at : Table → Option ℕ → ℕ → Bool
owns_at t none c = false
owns_at t (some x) c = owns (awaits (t.stm x)) c

-- Some number below a bound passes a test.
abbrev pub any_below : ℕ → (ℕ → Bool) → Bool
any_below zero f = false
any_below (suc n) f = f n || any_below n f

-- Every next so counted sets its own cell to h's value, here w, and is passed. A meet counts one for its home.
abbrev pub meet_effect : Table → ℕ → (ℕ → Option Local) → ℕ → Effect
meet_effect t h v w =
    record {
      at = λ q. map (λ x. running (t.after x)) (runs_at (v q));
      mark = λ q. keep;
      cell = λ c. cond (any_below t.places (λ q. owns_at t (runs_at (v q)) c)) (some w) none;
      pop = never;
      steps = zeros;
      meets = one_at h;
    }

-- The waiting places so counted are poisoned; the parted ones, p included, get mark 0.
abbrev pub poison_effect : (ℕ → Option Local) → Effect
poison_effect v =
    record {
      at = λ q. map (λ x. poisoned) (runs_at (v q));
      mark = λ q. parts_at (v q);
      cell = nothing;
      pop = never;
      steps = zeros;
      meets = zeros;
    }

-- ---- every move

abbrev pub effect : Meaning → Table → State → Move → Effect
effect k t s (step p) = step_effect t p (doing k t s (s.at p))
effect k t s (close p) = close_effect t p (closing t (s.mark p) (s.at p))
effect k t s (meet h) = meet_effect t h (observed t s h (t.declarer h)) (s.cell h)
effect k t s (poison p h) = poison_effect (observed t s h p)

-- The state after a move.
abbrev pub made : Meaning → Table → State → Move → State
made k t s m = apply (effect k t s m) s
