-- What the cells of an unfolded text must be.
use Rattle.std.proofs.Common.{◌≡◌, ℕ, suc, ◌+◌, Bool, true, false, T, List, [], ◌∷◌, Some, None, Option}
use mathlib.Core.Option.{some}
use Rattle.rules.specs.Soundness.{Reads, Copied, Touches}
use Rattle.rules.specs.Programs.{awaits}
use Rattle.unfold.specs.Unfolded.{Got, Part, plain, calls, tests, loops, tries, takes, Node, one, throws, two, par, Nodes, nil, seq, Branches, last, also}
use Rattle.unfold.specs.Sharing.{owns, apart, of_branches, names_apart, names_distinct, all_writes}
use Rattle.program.specs.Layout.{Cell}
use Rattle.program.specs.Sizes.{how_many, node_places}
use Rattle.program.proofs.Facts.{Own, Home, CellAt}
use Rattle.rules.specs.Programs as rules

-- a statement that stands in one place and leads to the point after it
abbrev pub inert : rules.Stm → Bool
inert rules.end = false
inert (rules.var c) = true
inert (rules.set c e) = true
inert rules.know = true
inert (rules.next c h) = true
inert (rules.call cs y) = false
inert (rules.test e y z) = false
inert (rules.try y) = false
inert (rules.take i c z) = false
inert (rules.par bs cs) = false
inert (rules.goto y) = false
inert (rules.throw g k) = false

abbrev pub PartTouches : Part → ℕ → Type 0
PartTouches plain a = ⊥
PartTouches (calls cs rs) a = Copied cs a
PartTouches (tests e) a = Reads e a
PartTouches (loops e) a = Reads e a
PartTouches (tries n) a = ⊥
PartTouches (takes i c) a = a ≡ c

-- what stage 5 asks of a part
abbrev pub SharingPart : Part → Type 0
SharingPart plain = Unit {0}
SharingPart (calls cs rs) = T (names_distinct rs)
SharingPart (tests e) = Unit {0}
SharingPart (loops e) = Unit {0}
SharingPart (tries n) = Unit {0}
SharingPart (takes i c) = Unit {0}

-- where a new own cell is copied from
abbrev pub Source : (ℕ → Cell) → ℕ → List Got → Option ℕ → Type 0
Source C p g None = Unit {0}
Source C p g (Some s) = CellAt C p g s

abbrev pub GotProper : (ℕ → Cell) → ℕ → List Got → Got → Type 0
GotProper C p g x = ((C x.own).home ≡ x.home) × Own C p g x.own × Home C p g x.home × Source C p g x.from

abbrev pub GotsProper : (ℕ → Cell) → ℕ → List Got → List Got → Type 0
GotsProper C p g [] = Unit {0}
GotsProper C p g (x ∷ xs) = GotProper C p g x × GotsProper C p g xs

abbrev mutual
  pub ProperNode : (ℕ → Cell) → ℕ → List Got → Node → ℕ → Type 0
  ProperNode C p g (one at ns s) q =
      T (inert s) × ((a : ℕ) → Touches s a → CellAt C p g a) × ((c h : ℕ) → awaits s ≡ some (c, h) → (C c).home ≡ h)
  ProperNode C p g (throws at n) q = Unit {0}
  ProperNode C p g (two at ns h a b) q =
      ((x : ℕ) → PartTouches h x → CellAt C p g x) × (SharingPart h → Proper C p g a q) × Proper C p g b (q + how_many a)
  ProperNode C p g (par at ns bs) q =
      ProperBranches C p g bs q × (T (names_apart (all_writes bs)) → T (apart (of_branches (λ g us. owns g) bs)))

  pub Proper : (ℕ → Cell) → ℕ → List Got → Nodes → ℕ → Type 0
  Proper C p g nil q = Unit {0}
  Proper C p g (seq u us) q = ProperNode C p g u q × Proper C p g us (q + node_places u)

  pub ProperBranches : (ℕ → Cell) → ℕ → List Got → Branches → ℕ → Type 0
  ProperBranches C p g last q = Unit {0}
  ProperBranches C p g (also x us bs) q = GotsProper C p g x × Proper C q x us (suc q) × ProperBranches C p g bs (suc q + how_many us)
