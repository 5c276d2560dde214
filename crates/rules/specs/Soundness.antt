-- What clearing owes the moves: facts of every cleared program, on which the theorems about moves rest.
use Rattle.std.specs.Prelude.{◌≡◌, ℕ, zero, suc, ◌<◌, T, ◌≢◌, ◌⊎◌, List, slice_index}
use Rattle.std.proofs.Math.Option.{some}
use Rattle.rules.specs.Programs.{
  Expr,
  own,
  word,
  plus,
  minus,
  times,
  below,
  same,
  Copies,
  Stm,
  end,
  var,
  set,
  know,
  next,
  call,
  test,
  try,
  take,
  par,
  goto,
  throw,
  Table,
  awaits,
  pick,
  elem,
}
use Rattle.rules.specs.Trees.{nonzero, Within, Child}

-- An expression reads a cell.
abbrev pub Reads : Expr → ℕ → Type 0
Reads (own c) a = a ≡ c
Reads (word w) a = ⊥
Reads (plus e f) a = Reads e a ⊎ Reads f a
Reads (minus e f) a = Reads e a ⊎ Reads f a
Reads (times e f) a = Reads e a ⊎ Reads f a
Reads (below e f) a = Reads e a ⊎ Reads f a
Reads (same e f) a = Reads e a ⊎ Reads f a

-- A cell is copied from, or to.
abbrev pub Copied : Copies → ℕ → Type 0
Copied cs a = ((d : ℕ) × (pick cs d ≡ some a)) ⊎ ((c : ℕ) × (pick cs a ≡ some c))

-- A statement reads or writes a cell.
abbrev pub Touches : Stm → ℕ → Type 0
Touches end a = ⊥
Touches (var c) a = a ≡ c
Touches (set c e) a = (a ≡ c) ⊎ Reads e a
Touches know a = ⊥
Touches (next c h) a = a ≡ c
Touches (call cs y) a = Copied cs a
Touches (test e y z) a = Reads e a
Touches (try y) a = ⊥
Touches (take i c z) a = a ≡ c
Touches (par bs cs) a = Copied cs a
Touches (goto y) a = ⊥
Touches (throw g j) a = ⊥

-- A statement takes from a port.
abbrev pub Takes : Stm → ℕ → Type 0
Takes end i = ⊥
Takes (var c) i = ⊥
Takes (set c e) i = ⊥
Takes know i = ⊥
Takes (next c h) i = ⊥
Takes (call cs y) i = ⊥
Takes (test e y z) i = ⊥
Takes (try y) i = ⊥
Takes (take j c z) i = i ≡ j
Takes (par bs cs) i = ⊥
Takes (goto y) i = ⊥
Takes (throw g j) i = ⊥

-- The points where a statement, with the point a after it, leads in its own place.
abbrev pub Leads : Stm → ℕ → ℕ → Type 0
Leads end a y = ⊥
Leads (var c) a y = y ≡ a
Leads (set c e) a y = y ≡ a
Leads know a y = y ≡ a
Leads (next c h) a y = y ≡ a
Leads (call cs z) a y = y ≡ z
Leads (test e z w) a y = (y ≡ z) ⊎ (y ≡ w)
Leads (try z) a y = y ≡ z
Leads (take i c z) a y = (y ≡ a) ⊎ (y ≡ z)
Leads (par bs cs) a y = y ≡ a
Leads (goto z) a y = y ≡ z
Leads (throw g j) a y = ⊥

-- A mark j on the par at x names a try that is open there: its catch block is in the same place.
abbrev pub Catches : Table → ℕ → ℕ → Type 0
Catches t x zero = Unit {0}
Catches t x (suc j) = t.place (slice_index (t.catches x) j) ≡ t.place x

-- p and q stand in two branches of one par.
abbrev pub Beside : Table → ℕ → ℕ → Type 0
Beside t p q =
    (c : ℕ) × (d : ℕ) × (c ≢ d) × T (nonzero c) × T (nonzero d) × (t.under c ≡ t.under d) × Within t c p × Within t d q

pub record Sound (t : Table) : Type 0 where
  -- The tree: there is a place 0, parents come before their children, and the branches of a par at x are
  -- places under x, children of the place that x belongs to.
  pub some_place : 0 < t.places
  pub lower : (q : ℕ) → T (nonzero q) → t.parent q < q
  pub branch : (x : ℕ) (bs : List ℕ) (cs : Copies) → t.stm x ≡ par bs cs → (q : ℕ) → T (elem q bs) → T (nonzero q) × (t.under q ≡ x) × (q < t.places)
  pub under_place : (q : ℕ) → T (nonzero q) → q < t.places → t.place (t.under q) ≡ t.parent q
  -- Points: a place starts at a point of its own, and a statement leads to points of its own place.
  pub start_place : (q : ℕ) → q < t.places → t.place (t.start q) ≡ q
  pub leads_place : (x y : ℕ) → Leads (t.stm x) (t.after x) y → t.place y ≡ t.place x
  -- Throws: the try stands in a place above, and its number names a try open at the par on the way down.
  pub thrown : (x g j : ℕ) → t.stm x ≡ throw g j → T (nonzero (t.place x)) × Within t g (t.parent (t.place x))
  pub caught : (x g j : ℕ) → t.stm x ≡ throw g j → (c : ℕ) → Child t g c → Within t c (t.place x) → Catches t (t.under c) j
  -- Homes: a place got a variable from a parent that got or declared it, a place never gets what it declares,
  -- and a next names its own cell's home.
  pub known : (q h : ℕ) → T (t.knows q h) → T (nonzero q) × (T (t.knows (t.parent q) h) ⊎ (t.parent q ≡ t.declarer h))
  pub declared : (h : ℕ) → T (t.knows (t.declarer h) h) → ⊥
  pub next_home : (x c h : ℕ) → awaits (t.stm x) ≡ some (c, h) → t.home c ≡ h
  -- Cells and ports: who touches a cell knows or declared its home; two branches of one par touch no common
  -- own cell and take from no common port.
  pub touch_home : (x c : ℕ) → Touches (t.stm x) c → T (t.knows (t.place x) (t.home c)) ⊎ (t.place x ≡ t.declarer (t.home c))
  pub cells_apart : (x y c : ℕ) → Beside t (t.place x) (t.place y) → Touches (t.stm x) c → Touches (t.stm y) c → ⊥
  pub ports_apart : (x y i : ℕ) → Beside t (t.place x) (t.place y) → Takes (t.stm x) i → Takes (t.stm y) i → ⊥

-- The homes that a program's nexts name are among the n cells of the board.
abbrev pub HomesInside : Table → ℕ → Type 0
HomesInside t n = (x c h : ℕ) → awaits (t.stm x) ≡ some (c, h) → h < n
