-- The permitted moves in the order of their names.
use Rattle.std.specs.Prelude.{ℕ, zero, suc, Bool, cond, List, [], ◌∷◌, ◌++◌, length, ◌==◌}
use Rattle.std.proofs.Math.Option.{Option, some, none}
use Rattle.rules.specs.Programs.{Table}
use Rattle.rules.specs.States.{State, Move, step, close, meet, poison}
use Rattle.rules.specs.Tests.{permitted}

-- The move at an index.
abbrev pub nth : List Move → ℕ → Option Move
nth [] i = none
nth (x ∷ xs) zero = some x
nth (x ∷ xs) (suc i) = nth xs i

-- The lists of the numbers below n, one after another.
abbrev pub each : (ℕ → List Move) → ℕ → List Move
each f zero = []
each f (suc n) = each f n ++ f n

abbrev pub if_permitted : Table → State → Move → List Move
if_permitted t s m = cond (permitted t s m) (m ∷ []) []

abbrev pub steps_of : Table → State → ℕ → List Move
steps_of t s p = if_permitted t s (step p)

abbrev pub closes_of : Table → State → ℕ → List Move
closes_of t s p = if_permitted t s (close p)

abbrev pub meets_of : Table → State → ℕ → List Move
meets_of t s h = if_permitted t s (meet h)

abbrev pub poisons_of : Table → State → ℕ → ℕ → List Move
poisons_of t s n p = each (λ h. if_permitted t s (poison p h)) n

-- By kind and then by numbers, for the places and the n cells of a board. That h is a home is part of the permission.
unfoldable pub listing : Table → State → ℕ → List Move
listing t s n =
    each (steps_of t s) t.places
    ++ (each (closes_of t s) t.places ++ (each (meets_of t s) n ++ each (poisons_of t s n) t.places))

-- A board is at rest when no move is permitted.
abbrev pub at_rest : Table → ℕ → State → Bool
at_rest t n s = length (listing t s n) == 0
