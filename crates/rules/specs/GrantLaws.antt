-- Theorems on what is granted: named moves, and runs over choices.
use Rattle.std.specs.Prelude.{◌≡◌, ℕ, ◌<◌, ◌≤◌, ◌↔◌, List, length, Ok, Err}
use Rattle.std.proofs.Math.Option.{Option, some, none}
use Rattle.numbers.specs.Kinds.{Meaning}
use Rattle.rules.specs.declared.answers.Refusal.{Refusal}
use Rattle.rules.specs.declared.answers.Refusal.TheVariants.{NoSuch, Limit, NotPermitted}
use Rattle.rules.specs.declared.answers.Stop as stop
use Rattle.rules.specs.declared.answers.Stop.TheVariants as stops
use Rattle.rules.specs.Programs.{Table}
use Rattle.rules.specs.Soundness.{Sound, HomesInside}
use Rattle.rules.specs.States.{State, Move}
use Rattle.rules.specs.Permissions.{Permitted, Rests}
use Rattle.rules.specs.Moves.{made}
use Rattle.rules.specs.Invariants.{Wf}
use Rattle.rules.specs.Runs.{Run}
use Rattle.rules.specs.Answers.{limit, answer, granted}
use Rattle.rules.specs.Choices.{run}

-- A move is granted exactly if it is named, the limit is not reached and the rules permit it; and then it is made.
abbrev pub GrantedExactly : Type 0
GrantedExactly =
    (t : Table) (s : State) (o : Option Move)
    → Sound t
    → Wf t s
    → (answer t s o ≡ Ok tt) ↔ ((m : Move) × (o ≡ some m) × (s.total < limit) × Permitted t s m)

abbrev pub GrantedMakes : Type 0
GrantedMakes = (k : Meaning) (t : Table) (s : State) (m : Move) → answer t s (some m) ≡ Ok tt → granted k t s (some m) ≡ made k t s m

-- The refusals, in their order; a refused move leaves everything.
abbrev pub NoSuchExactly : Type 0
NoSuchExactly = (t : Table) (s : State) (o : Option Move) → (answer t s o ≡ Err NoSuch) ↔ (o ≡ none)

abbrev pub LimitExactly : Type 0
LimitExactly =
    (t : Table) (s : State) (o : Option Move) → (answer t s o ≡ Err Limit) ↔ ((m : Move) × (o ≡ some m) × (limit ≤ s.total))

abbrev pub NotPermittedExactly : Type 0
NotPermittedExactly =
    (t : Table) (s : State) (o : Option Move)
    → Sound t
    → Wf t s
    → (answer t s o ≡ Err NotPermitted) ↔ ((m : Move) × (o ≡ some m) × (s.total < limit) × (Permitted t s m → ⊥))

abbrev pub RefusedLeaves : Type 0
RefusedLeaves =
    (k : Meaning) (t : Table) (s : State) (o : Option Move) (e : Refusal) → answer t s o ≡ Err e → granted k t s o ≡ s

-- The limit alters no permission, nor do other counts, words or cells: it hangs on local states and marks alone.
abbrev pub PermissionLooks : Type 0
PermissionLooks =
    (t : Table) (s r : State) (m : Move) → s.at ≡ r.at → s.mark ≡ r.mark → Permitted t s m ↔ Permitted t r m

-- How a run over so many choices stopped.
abbrev pub StopsAs : Table → ℕ → ℕ → State → stop.Stop → Type 0
StopsAs t choices number left stops.Rest = Rests t left
StopsAs t choices number left stops.Limit = (limit ≤ left.total) × ((m : Move) × Permitted t left m)
StopsAs t choices number left stops.End = (number ≡ choices) × (left.total < limit) × ((m : Move) × Permitted t left m)

-- A run over choices makes as many permitted moves as it tells. It stops at rest, where nothing is permitted; else at
-- the limit; else when every choice has been granted.
abbrev pub ChoicesRun : Type 0
ChoicesRun =
    (k : Meaning) (t : Table) (n : ℕ) (s : State) (cs : List ℕ)
    → Sound t
    → HomesInside t n
    → Wf t s
    → Run k t s (run k t n s cs).number (run k t n s cs).left

abbrev pub ChoicesStop : Type 0
ChoicesStop =
    (k : Meaning) (t : Table) (n : ℕ) (s : State) (cs : List ℕ)
    → Sound t
    → HomesInside t n
    → Wf t s
    → StopsAs t (length cs) (run k t n s cs).number (run k t n s cs).left (run k t n s cs).stop

-- Two runs over any choices, from one state, that come to rest: as many moves, and the same state.
abbrev pub ChoicesAlike : Type 0
ChoicesAlike =
    (k : Meaning) (t : Table) (n : ℕ) (s : State) (cs ds : List ℕ)
    → Sound t
    → HomesInside t n
    → Wf t s
    → (run k t n s cs).stop ≡ stops.Rest
    → (run k t n s ds).stop ≡ stops.Rest
    → ((run k t n s cs).number ≡ (run k t n s ds).number) × ((run k t n s cs).left ≡ (run k t n s ds).left)
