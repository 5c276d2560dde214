-- What the fifth stage asks of an unfolded text, said of each of its statements.
use Rattle.std.specs.Prelude.{◌≡◌, ℕ, zero, suc, ◌≢◌, ◌⊎◌, List, [], ◌∷◌, None, Ok}
use Rattle.unfold.specs.Unfolded.{Got, Part, plain, calls, tests, loops, tries, takes, Node, one, throws, two, par, Nodes, nil, seq, Branches, last, also}
use Rattle.unfold.specs.Sharing.{part_tries, sharing}

-- x stands in a list
abbrev pub In : {A : Type 0} → A → List A → Type 0
In x [] = ⊥
In x (y ∷ ys) = (x ≡ y) ⊎ In x ys

-- x stands at the place k of a list
abbrev pub At : {A : Type 0} → List A → ℕ → A → Type 0
At [] k x = ⊥
At (y ∷ ys) zero x = x ≡ y
At (y ∷ ys) (suc k) x = At ys k x

-- the branch at the place k of a par got the variables g, and us is its block
abbrev pub Branch : Branches → ℕ → List Got → Nodes → Type 0
Branch last k g us = ⊥
Branch (also h vs bs) zero g us = (g ≡ h) × (us ≡ vs)
Branch (also h vs bs) (suc k) g us = Branch bs k g us

-- a branch writes the variable w: it got it with both cells of the parent
abbrev pub Writes : List ℕ → List Got → Type 0
Writes w gs = (g : Got) × In g gs × (g.name.text ≡ w) × (g.from ≡ None)

-- the port i stands in a block
abbrev pub PartPort : ℕ → Part → Type 0
PartPort i plain = ⊥
PartPort i (calls cs rs) = ⊥
PartPort i (tests e) = ⊥
PartPort i (loops e) = ⊥
PartPort i (tries n) = ⊥
PartPort i (takes j c) = i ≡ j

abbrev mutual
  pub NodePort : ℕ → Node → Type 0
  NodePort i (one at ns s) = ⊥
  NodePort i (throws at n) = ⊥
  NodePort i (two at ns h a b) = PartPort i h ⊎ (Port i a ⊎ Port i b)
  NodePort i (par at ns bs) = BranchPort i bs

  pub Port : ℕ → Nodes → Type 0
  Port i nil = ⊥
  Port i (seq u us) = NodePort i u ⊎ Port i us

  pub BranchPort : ℕ → Branches → Type 0
  BranchPort i last = ⊥
  BranchPort i (also g us bs) = Port i us ⊎ BranchPort i bs

-- two different branches write no common variable, and no port stands in both
abbrev pub Apart : Branches → Type 0
Apart bs =
    (j k : ℕ) (g h : List Got) (us vs : Nodes) → j ≢ k → Branch bs j g us → Branch bs k h vs
    → ((w : List ℕ) → Writes w g → Writes w h → ⊥) × ((i : ℕ) → Port i us → Port i vs → ⊥)

-- no name stands at two places
abbrev pub Once : List (List ℕ) → Type 0
Once rs = (j k : ℕ) (w : List ℕ) → At rs j w → At rs k w → j ≡ k

-- a call is given no variable twice by reference
abbrev pub GivenOnce : Part → Type 0
GivenOnce plain = Unit {0}
GivenOnce (calls cs rs) = Once rs
GivenOnce (tests e) = Unit {0}
GivenOnce (loops e) = Unit {0}
GivenOnce (tries n) = Unit {0}
GivenOnce (takes i c) = Unit {0}

-- what is asked of a statement that stands in the first blocks of tries of the names ts
abbrev pub Fair : List (List ℕ) → Node → Type 0
Fair ts (one at ns s) = Unit {0}
Fair ts (throws at n) = In n ts
Fair ts (two at ns h a b) = GivenOnce h
Fair ts (par at ns bs) = Apart bs

-- P holds of every statement of a text, with the names of the tries whose first block it stands in
abbrev mutual
  pub Each : (List (List ℕ) → Node → Type 0) → List (List ℕ) → Node → Type 0
  Each P ts (one at ns s) = P ts (one at ns s)
  Each P ts (throws at n) = P ts (throws at n)
  Each P ts (two at ns h a b) = P ts (two at ns h a b) × Every P (part_tries ts h) a × Every P ts b
  Each P ts (par at ns bs) = P ts (par at ns bs) × EveryBranch P ts bs

  pub Every : (List (List ℕ) → Node → Type 0) → List (List ℕ) → Nodes → Type 0
  Every P ts nil = Unit {0}
  Every P ts (seq u us) = Each P ts u × Every P ts us

  pub EveryBranch : (List (List ℕ) → Node → Type 0) → List (List ℕ) → Branches → Type 0
  EveryBranch P ts last = Unit {0}
  EveryBranch P ts (also g us bs) = Every P ts us × EveryBranch P ts bs

-- the stage passes exactly the texts whose every statement is fair
abbrev pub PassesExactly : Type 0
PassesExactly = (us : Nodes) → (sharing [] us ≡ Ok tt → Every Fair [] us) × (Every Fair [] us → sharing [] us ≡ Ok tt)
