-- Ready and spoiled for a home, and which places count.
use Rattle.std.specs.Prelude.{◌≡◌, ℕ, Bool, ◌&&◌, T}
use Rattle.std.proofs.Math.Option.{some}
use Rattle.rules.specs.Programs.{Table, awaits}
use Rattle.rules.specs.Trees.{Climb, climbs, nonzero, Child}
use Rattle.rules.specs.States.{State, running, parted, poisoned, live, is_parted}

-- c is a live child of p that knows h.
abbrev pub KnowingChild : Table → State → ℕ → ℕ → ℕ → Type 0
KnowingChild t s h p c = T (nonzero c) × (t.parent c ≡ p) × T (live (s.at c)) × T (t.knows c h)

-- q runs and stands before a next of home h: it waits for h.
abbrev pub Waits : Table → State → ℕ → ℕ → Type 0
Waits t s h q = (x : ℕ) × (c : ℕ) × (s.at q ≡ running x) × (awaits (t.stm x) ≡ some (c, h))

-- A place is ready for home h if it runs and stands before a next of home h.
-- A parted place is ready if some live child knows h and every live child that knows h is ready.
pub data Ready (t : Table) (s : State) (h : ℕ) : ℕ → Type 0 where
  waits : {p : ℕ} → Waits t s h p → Ready t s h p
  parts : {p : ℕ} (x : ℕ) → s.at p ≡ parted x → (c : ℕ) → KnowingChild t s h p c
      → ((c : ℕ) → KnowingChild t s h p c → Ready t s h c) → Ready t s h p

-- A place is spoiled for h if it knows h and is poisoned. It is also spoiled if it knows h, is parted with mark 0,
-- and no live child knows h or some live child is spoiled for h.
pub data Spoiled (t : Table) (s : State) (h : ℕ) : ℕ → Type 0 where
  itself : {q : ℕ} → T (t.knows q h) → s.at q ≡ poisoned → Spoiled t s h q
  no_child_knows : {q : ℕ} (x : ℕ) → T (t.knows q h) → s.at q ≡ parted x → s.mark q ≡ some 0
      → ((c : ℕ) → KnowingChild t s h q c → ⊥) → Spoiled t s h q
  child_spoiled : {q : ℕ} (x : ℕ) → T (t.knows q h) → s.at q ≡ parted x → s.mark q ≡ some 0
      → (c : ℕ) → Child t q c → T (live (s.at c)) → Spoiled t s h c → Spoiled t s h q

-- The places that readiness of p for h counts: p, and from a counted parted one its live children that know h.
-- The step up from q is one that readiness makes down: q is a live child, of a parted place, that knows h.
abbrev pub counts_child : Table → State → ℕ → ℕ → Bool
counts_child t s h q = nonzero q && (is_parted (s.at (t.parent q)) && (live (s.at q) && t.knows q h))

abbrev pub Counted : Table → State → ℕ → ℕ → ℕ → Type 0
Counted t s h p q = Climb t.parent (counts_child t s h) p q

abbrev pub counted : Table → State → ℕ → ℕ → ℕ → Bool
counted t s h p q = climbs t.parent (counts_child t s h) p q q
