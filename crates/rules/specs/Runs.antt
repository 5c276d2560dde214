-- Runs of permitted moves.
use Rattle.std.specs.Prelude.{◌≡◌, ℕ, zero, suc, List}
use Rattle.numbers.specs.Kinds.{Meaning}
use Rattle.rules.specs.Programs.{Table}
use Rattle.rules.specs.States.{State, Move, powered}
use Rattle.rules.specs.Permissions.{Permitted}
use Rattle.rules.specs.Moves.{made}

-- A run of so many permitted moves from a state to a state.
abbrev pub Run : Meaning → Table → State → ℕ → State → Type 0
Run k t s zero r = s ≡ r
Run k t s (suc n) r = (m : Move) × Permitted t s m × Run k t (made k t s m) n r

-- A state that a board comes to from power, by some run.
abbrev pub Reached : Meaning → Table → (ℕ → List ℕ) → State → Type 0
Reached k t w s = (n : ℕ) × Run k t (powered t w) n s
