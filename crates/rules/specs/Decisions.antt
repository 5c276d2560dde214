-- Theorems on readiness, spoiling and permission: the tests that code computes say exactly what the rules say.
use Rattle.std.specs.Prelude.{◌≡◌, ℕ, T, ◌⊎◌, ◌↔◌}
use Rattle.rules.specs.Programs.{Table}
use Rattle.rules.specs.Soundness.{Sound}
use Rattle.rules.specs.States.{State, parted, Move}
use Rattle.rules.specs.Readiness.{Ready, Spoiled, Waits, KnowingChild, Counted, counted}
use Rattle.rules.specs.Permissions.{Permitted}
use Rattle.rules.specs.Invariants.{Wf}
use Rattle.rules.specs.Tests.{ready, spoiled, permitted}

-- No place is both ready and spoiled for a home.
abbrev pub ReadyOrSpoiled : Type 0
ReadyOrSpoiled = (t : Table) (s : State) (h q : ℕ) → Ready t s h q → Spoiled t s h q → ⊥

abbrev pub ReadyTells : Type 0
ReadyTells = (t : Table) (s : State) (h p : ℕ) → Sound t → Wf t s → T (ready t s h t.places p) ↔ Ready t s h p

abbrev pub SpoiledTells : Type 0
SpoiledTells = (t : Table) (s : State) (h q : ℕ) → Sound t → Wf t s → T (spoiled t s h t.places q) ↔ Spoiled t s h q

abbrev pub CountedTells : Type 0
CountedTells = (t : Table) (s : State) (h p q : ℕ) → Sound t → T (counted t s h p q) ↔ Counted t s h p q

abbrev pub PermittedTells : Type 0
PermittedTells = (t : Table) (s : State) (m : Move) → Sound t → Wf t s → T (permitted t s m) ↔ Permitted t s m

-- A place waits for h, or is parted with a live child that knows h.
abbrev pub WaitsOrParts : Table → State → ℕ → ℕ → Type 0
WaitsOrParts t s h q = Waits t s h q ⊎ ((x : ℕ) × (s.at q ≡ parted x) × ((c : ℕ) × KnowingChild t s h q c))

-- Readiness without recursion: so does every place that it counts.
abbrev pub CountedForm : Type 0
CountedForm =
    (t : Table) (s : State) (h p : ℕ) → Sound t → Wf t s → Ready t s h p ↔ ((q : ℕ) → Counted t s h p q → WaitsOrParts t s h q)
