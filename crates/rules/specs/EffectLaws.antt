-- Theorems on throw, close, meet and poison: whom they change and how, in the words of the rules.
use Rattle.std.specs.Prelude.{◌≡◌, ℕ, ◌≢◌}
use Rattle.std.proofs.Math.Option.{some, none}
use Rattle.numbers.specs.Kinds.{Meaning}
use Rattle.rules.specs.Programs.{Table, awaits}
use Rattle.rules.specs.Trees.{Within, Child}
use Rattle.rules.specs.Soundness.{Sound}
use Rattle.rules.specs.States.{State, idle, running, parted, poisoned, lesser, step, close, meet, poison}
use Rattle.rules.specs.Readiness.{Waits, Counted}
use Rattle.rules.specs.Permissions.{Permitted}
use Rattle.rules.specs.Moves.{made, after_close}
use Rattle.rules.specs.Invariants.{Wf}
use Rattle.rules.specs.Denials.{Throws}

-- A throw of p to the try j of place g: p is poisoned, g's mark becomes the lesser of itself and j, the places between
-- get mark 0; no other place and no other mark changes.
pub record ThrowDoes (k : Meaning) (t : Table) (s : State) (p g j : ℕ) : Type 0 where
  pub thrower : (made k t s (step p)).at p ≡ poisoned
  pub tried : (made k t s (step p)).mark g ≡ lesser (s.mark g) j
  pub between : (q : ℕ) → q ≢ g → Within t g q → Within t q (t.parent p) → (made k t s (step p)).mark q ≡ some 0
  pub other_places : (q : ℕ) → q ≢ p → (made k t s (step p)).at q ≡ s.at q
  pub other_marks : (q : ℕ) → q ≢ g → (Within t g q × Within t q (t.parent p) → ⊥) → (made k t s (step p)).mark q ≡ s.mark q

abbrev pub ThrowTells : Type 0
ThrowTells = (k : Meaning) (t : Table) (s : State) (p g j : ℕ) → Sound t → Throws t s p g j → ThrowDoes k t s p g j

-- A close of a place parted at x: the mark says where it stands, the mark becomes none and the children idle;
-- no other place, no other mark and no cell changes.
pub record CloseDoes (k : Meaning) (t : Table) (s : State) (p x : ℕ) : Type 0 where
  pub stands : (made k t s (close p)).at p ≡ after_close t x (s.mark p)
  pub unmarked : (made k t s (close p)).mark p ≡ none
  pub children : (c : ℕ) → Child t p c → (made k t s (close p)).at c ≡ idle
  pub other_places : (q : ℕ) → q ≢ p → (Child t p q → ⊥) → (made k t s (close p)).at q ≡ s.at q
  pub other_marks : (q : ℕ) → q ≢ p → (made k t s (close p)).mark q ≡ s.mark q
  pub cells : (made k t s (close p)).cell ≡ s.cell
  pub ports : (made k t s (close p)).port ≡ s.port

abbrev pub CloseTells : Type 0
CloseTells = (k : Meaning) (t : Table) (s : State) (p x : ℕ) → Sound t → s.at p ≡ parted x → CloseDoes k t s p x

-- A counted next of home h, at the point x of place q, with the own cell c.
abbrev pub CountedNext : Table → State → ℕ → ℕ → ℕ → ℕ → Type 0
CountedNext t s h q x c = Counted t s h (t.declarer h) q × (s.at q ≡ running x) × (awaits (t.stm x) ≡ some (c, h))

-- Every next that a meet counts sets its own cell to the home's value and is passed;
-- no other place, no other cell and no mark changes.
pub record MeetDoes (k : Meaning) (t : Table) (s : State) (h : ℕ) : Type 0 where
  pub passed : (q x c : ℕ) → CountedNext t s h q x c → (made k t s (meet h)).at q ≡ running (t.after x)
  pub given : (q x c : ℕ) → CountedNext t s h q x c → (made k t s (meet h)).cell c ≡ s.cell h
  pub other_places : (q : ℕ) → ((x c : ℕ) → CountedNext t s h q x c → ⊥) → (made k t s (meet h)).at q ≡ s.at q
  pub other_cells : (c : ℕ) → ((q x : ℕ) → CountedNext t s h q x c → ⊥) → (made k t s (meet h)).cell c ≡ s.cell c
  pub marks : (made k t s (meet h)).mark ≡ s.mark
  pub ports : (made k t s (meet h)).port ≡ s.port

abbrev pub MeetTells : Type 0
MeetTells = (k : Meaning) (t : Table) (s : State) (h : ℕ) → Sound t → Wf t s → Permitted t s (meet h) → MeetDoes k t s h

-- The waiting places that a poison counts are poisoned, the parted ones get mark 0; no other place, no other mark
-- and no cell changes.
pub record PoisonDoes (k : Meaning) (t : Table) (s : State) (p h : ℕ) : Type 0 where
  pub poisons : (q : ℕ) → Counted t s h p q → Waits t s h q → (made k t s (poison p h)).at q ≡ poisoned
  pub marked : (q x : ℕ) → Counted t s h p q → s.at q ≡ parted x → (made k t s (poison p h)).mark q ≡ some 0
  pub other_places : (q : ℕ) → (Counted t s h p q → Waits t s h q → ⊥) → (made k t s (poison p h)).at q ≡ s.at q
  pub other_marks : (q : ℕ) → ((x : ℕ) → Counted t s h p q → s.at q ≢ parted x) → (made k t s (poison p h)).mark q ≡ s.mark q
  pub cells : (made k t s (poison p h)).cell ≡ s.cell
  pub ports : (made k t s (poison p h)).port ≡ s.port

abbrev pub PoisonTells : Type 0
PoisonTells =
    (k : Meaning) (t : Table) (s : State) (p h : ℕ) → Sound t → Wf t s → Permitted t s (poison p h) → PoisonDoes k t s p h
