-- Theorems on names and the listing.
use Rattle.std.specs.Prelude.{◌≡◌, ℕ, ◌<◌, T, ◌↔◌, ◌≢◌}
use Rattle.std.proofs.Math.Option.{some}
use Rattle.rules.specs.declared.answers.Verdict.TheVariants.{Finished, Deadlock, Moving}
use Rattle.rules.specs.Programs.{Table}
use Rattle.rules.specs.Soundness.{Sound, HomesInside}
use Rattle.rules.specs.States.{State, finished, Move}
use Rattle.rules.specs.Permissions.{Permitted, Rests}
use Rattle.rules.specs.Invariants.{Wf}
use Rattle.rules.specs.Names.{name_of, Exists, named_move, Precedes}
use Rattle.rules.specs.Listings.{nth, listing, at_rest}
use Rattle.rules.specs.Answers.{verdict}

-- A kind and two numbers name a move exactly if it exists and this is its name.
abbrev pub NamesTell : Type 0
NamesTell =
    (t : Table) (n kind a b : ℕ) (m : Move)
    → (named_move t n kind a b ≡ some m) ↔ (Exists t n m × (name_of m ≡ record { kind = kind; first = a; second = b }))

-- A move is at some index of the listing.
abbrev pub Listed : Table → State → ℕ → Move → Type 0
Listed t s n m = (i : ℕ) × (nth (listing t s n) i ≡ some m)

-- The listing holds exactly the permitted moves that exist.
abbrev pub ListingTells : Type 0
ListingTells =
    (t : Table) (s : State) (n : ℕ) (m : Move) → Sound t → Wf t s → Listed t s n m ↔ (Permitted t s m × Exists t n m)

-- They stand in the strict order of their names, so each stands there once.
abbrev pub ListingOrdered : Type 0
ListingOrdered =
    (t : Table) (s : State) (n i j : ℕ) (m l : Move)
    → i < j
    → nth (listing t s n) i ≡ some m
    → nth (listing t s n) j ≡ some l
    → Precedes (name_of m) (name_of l)

abbrev pub ListingOnce : Type 0
ListingOnce =
    (t : Table) (s : State) (n i j : ℕ) (m : Move) → nth (listing t s n) i ≡ some m → nth (listing t s n) j ≡ some m → i ≡ j

-- Every permitted move exists: rest by the listing is rest by the rules.
abbrev pub PermittedExists : Type 0
PermittedExists =
    (t : Table) (s : State) (n : ℕ) (m : Move) → Sound t → Wf t s → HomesInside t n → Permitted t s m → Exists t n m

abbrev pub RestTells : Type 0
RestTells = (t : Table) (s : State) (n : ℕ) → Sound t → Wf t s → HomesInside t n → T (at_rest t n s) ↔ Rests t s

-- The verdict is finished if place 0 is, else deadlock at rest, else moving.
abbrev pub VerdictFinished : Type 0
VerdictFinished = (t : Table) (s : State) (n : ℕ) → (verdict t n s ≡ Finished) ↔ (s.at 0 ≡ finished)

abbrev pub VerdictDeadlock : Type 0
VerdictDeadlock =
    (t : Table) (s : State) (n : ℕ) → Sound t → Wf t s → HomesInside t n
    → (verdict t n s ≡ Deadlock) ↔ ((s.at 0 ≢ finished) × Rests t s)

abbrev pub VerdictMoving : Type 0
VerdictMoving =
    (t : Table) (s : State) (n : ℕ) → Sound t → Wf t s → HomesInside t n
    → (verdict t n s ≡ Moving) ↔ ((s.at 0 ≢ finished) × ((m : Move) × Permitted t s m))

-- A finished board is at rest.
abbrev pub FinishedRests : Type 0
FinishedRests = (t : Table) (s : State) → Sound t → Wf t s → s.at 0 ≡ finished → Rests t s
