-- Parts of the rules' tests that one loop, or one turn of a loop, answers. r gives the answers for other places.
use Rattle.std.specs.Prelude.{◌≡◌, ℕ, ◌<◌, ◌≤◌, Bool, not, ◌&&◌, ◌||◌, ◌==◌, List}
use Rattle.rules.specs.Programs.{Table}
use Rattle.rules.specs.States.{State, Local, live, busy}
use Rattle.rules.specs.Readiness.{counts_child}
use Rattle.rules.specs.Moves.{any_below}
use Rattle.board.specs.Views.{flags}
use Rattle.rules.specs.Tests.{all_below, child, knowing_child, spoiled_at}

-- Some live child of p knows h, and every live child that knows h is ready.
abbrev pub children_ready : Table → State → ℕ → ℕ → (ℕ → Bool) → Bool
children_ready t s h p r =
    any_below t.places (knowing_child t s h p) && all_below t.places (λ c. not (knowing_child t s h p c) || r c)

-- c is a live child of q that is spoiled.
abbrev pub spoiled_child : Table → State → ℕ → (ℕ → Bool) → ℕ → Bool
spoiled_child t s q r c = child t q c && (live (s.at c) && r c)

-- No live child of q knows h, or some live child is spoiled.
abbrev pub spoiled_through : Table → State → ℕ → ℕ → (ℕ → Bool) → Bool
spoiled_through t s h q r =
    not (any_below t.places (knowing_child t s h q)) || any_below t.places (spoiled_child t s q r)

-- q is spoiled for h.
abbrev pub spoiled_one : Table → State → ℕ → ℕ → (ℕ → Bool) → Local → Bool
spoiled_one t s h q r l = t.knows q h && spoiled_at t s h q r l

-- c is a live sibling of p that is spoiled.
abbrev pub spoiled_sibling : Table → State → ℕ → (ℕ → Bool) → ℕ → Bool
spoiled_sibling t s p r c = not (c == p) && spoiled_child t s (t.parent p) r c

-- c is a child of p that runs or is parted.
abbrev pub busy_child : Table → State → ℕ → ℕ → Bool
busy_child t s p c = child t p c && busy (s.at c)

abbrev pub no_child_busy : Table → State → ℕ → Bool
no_child_busy t s p = all_below t.places (λ c. not (busy_child t s p c))

-- q is counted from p, where r tells which places before it are.
abbrev pub counted_one : Table → State → ℕ → ℕ → (ℕ → Bool) → ℕ → Bool
counted_one t s h p r q = q == p || (counts_child t s h q && r (t.parent q))

-- The answers out for the places from i up to n are g's, by answers that agree with out on the places after each.
abbrev pub AnsweredFrom : (ℕ → (ℕ → Bool) → Bool) → ℕ → List Bool → ℕ → Type 0
AnsweredFrom g n out i =
    (p : ℕ) → i ≤ p → p < n → (u : ℕ → Bool) × ((c : ℕ) → p < c → u c ≡ flags out c) × (flags out p ≡ g p u)
