-- What the statements of a program name: cells, words of literals, places and ports.
use Rattle.std.specs.Prelude.{ℕ, ◌<◌, List, [], ◌∷◌, Some, None, Option}
use Rattle.rules.specs.Programs as rules
use Rattle.rules.specs.Programs.{Expr, own, word, plus, minus, times, below, same, Copies}
use Rattle.unfold.specs.Unfolded.{New, Got, Part, plain, calls, tests, loops, tries, takes, Node, one, throws, two, par, Nodes, nil, seq, Branches, last, also}

abbrev pub Each : {A : Type 0} → (A → Type 0) → List A → Type 0
Each R [] = Unit {0}
Each R (a ∷ as') = R a × Each R as'

-- Each cell that an expression reads has C, and each of its words W.
abbrev pub NamesExpr : (ℕ → Type 0) → (ℕ → Type 0) → Expr → Type 0
NamesExpr C W (own c) = C c
NamesExpr C W (word w) = W w
NamesExpr C W (plus a b) = NamesExpr C W a × NamesExpr C W b
NamesExpr C W (minus a b) = NamesExpr C W a × NamesExpr C W b
NamesExpr C W (times a b) = NamesExpr C W a × NamesExpr C W b
NamesExpr C W (below a b) = NamesExpr C W a × NamesExpr C W b
NamesExpr C W (same a b) = NamesExpr C W a × NamesExpr C W b

-- both cells of each copy have C
abbrev pub NamesCopies : (ℕ → Type 0) → Copies → Type 0
NamesCopies C cs = Each (λ (d : ℕ × ℕ). C d.0 × C d.1) cs

-- Each cell of a statement has C, each word W, each place P, and a port is one of the eight.
abbrev pub NamesStm : (ℕ → Type 0) → (ℕ → Type 0) → (ℕ → Type 0) → rules.Stm → Type 0
NamesStm C W P rules.end = Unit {0}
NamesStm C W P (rules.var c) = C c
NamesStm C W P (rules.set c e) = C c × NamesExpr C W e
NamesStm C W P rules.know = Unit {0}
NamesStm C W P (rules.next c h) = C c × C h
NamesStm C W P (rules.call cs y) = NamesCopies C cs
NamesStm C W P (rules.test e y z) = NamesExpr C W e
NamesStm C W P (rules.try y) = Unit {0}
NamesStm C W P (rules.take i c z) = (i < 8) × C c
NamesStm C W P (rules.par bs cs) = Each P bs × NamesCopies C cs
NamesStm C W P (rules.goto y) = Unit {0}
NamesStm C W P (rules.throw g j) = P g

-- ---- the unfolded text

abbrev pub NamesPart : (ℕ → Type 0) → (ℕ → Type 0) → Part → Type 0
NamesPart C W plain = Unit {0}
NamesPart C W (calls cs rs) = NamesCopies C cs
NamesPart C W (tests e) = NamesExpr C W e
NamesPart C W (loops e) = NamesExpr C W e
NamesPart C W (tries n) = Unit {0}
NamesPart C W (takes i c) = (i < 8) × C c

-- the homes of the cells that a statement brings
abbrev pub NamesNew : (ℕ → Type 0) → List New → Type 0
NamesNew C ns = Each (λ (n : New). C n.home) ns

-- the cells of what a branch got, and of what it copies
abbrev pub NamesSource : (ℕ → Type 0) → Option ℕ → Type 0
NamesSource C None = Unit {0}
NamesSource C (Some a) = C a

abbrev pub NamesGot : (ℕ → Type 0) → Got → Type 0
NamesGot C g = C g.own × C g.home × NamesSource C g.from

abbrev mutual
  pub NamesNode : (ℕ → Type 0) → (ℕ → Type 0) → (ℕ → Type 0) → Node → Type 0
  NamesNode C W P (one at ns s) = NamesNew C ns × NamesStm C W P s
  NamesNode C W P (throws at n) = Unit {0}
  NamesNode C W P (two at ns h a b) = NamesNew C ns × NamesPart C W h × NamesNodes C W P a × NamesNodes C W P b
  NamesNode C W P (par at ns bs) = NamesNew C ns × NamesBranches C W P bs

  pub NamesNodes : (ℕ → Type 0) → (ℕ → Type 0) → (ℕ → Type 0) → Nodes → Type 0
  NamesNodes C W P nil = Unit {0}
  NamesNodes C W P (seq u us) = NamesNode C W P u × NamesNodes C W P us

  pub NamesBranches : (ℕ → Type 0) → (ℕ → Type 0) → (ℕ → Type 0) → Branches → Type 0
  NamesBranches C W P last = Unit {0}
  NamesBranches C W P (also g us bs) = Each (NamesGot C) g × NamesNodes C W P us × NamesBranches C W P bs

-- Every cell number in the unfolded text is below a number of cells, and every port is one of the eight.
-- What stands in one node without blocks names no place: places follow from the layout.
abbrev pub Within : ℕ → Nodes → Type 0
Within cells us = NamesNodes (λ c. c < cells) (λ w. Unit {0}) (λ p. ⊥) us

-- A statement names only cells below a number of cells, places below a number of places, and the eight ports.
abbrev pub StmWithin : ℕ → ℕ → rules.Stm → Type 0
StmWithin cells places s = NamesStm (λ c. c < cells) (λ w. Unit {0}) (λ p. p < places) s
