-- The fifth stage of clearing: what two branches of a par may not share, what a call may not be given twice, and throws that no try catches.
use Rattle.std.specs.Prelude.{ℕ, Bool, true, not, ◌&&◌, List, [], ◌∷◌, ◌++◌, Some, None, Ok}
use Rattle.reader.specs.declared.fault.Cause.TheVariants.{WrittenTwice, ReferencedTwice, PortTwice, Uncaught}
use Rattle.reader.specs.Faults.{Answer, must, ◌>>=◌}
use Rattle.reader.specs.Tokens.{among}
use Rattle.rules.specs.Programs.{elem}
use Rattle.unfold.specs.Unfolded.{Got, Part, plain, calls, tests, loops, tries, takes, Node, one, throws, two, par, Nodes, nil, seq, Branches, last, also}

-- ---- ports

-- the ports that stand in a block, those of called procedures and of statements never reached too
abbrev pub part_ports : Part → List ℕ
part_ports plain = []
part_ports (calls cs rs) = []
part_ports (tests e) = []
part_ports (loops e) = []
part_ports (tries n) = []
part_ports (takes i c) = i ∷ []

abbrev mutual
  pub node_ports : Node → List ℕ
  node_ports (one at ns s) = []
  node_ports (throws at n) = []
  node_ports (two at ns h a b) = part_ports h ++ (ports a ++ ports b)
  node_ports (par at ns bs) = branch_ports bs

  pub ports : Nodes → List ℕ
  ports nil = []
  ports (seq u us) = node_ports u ++ ports us

  pub branch_ports : Branches → List ℕ
  branch_ports last = []
  branch_ports (also g us bs) = ports us ++ branch_ports bs

abbrev pub none_in : List ℕ → List ℕ → Bool
none_in [] bs = true
none_in (a ∷ as') bs = not (elem a bs) && none_in as' bs

abbrev pub none_in_any : List ℕ → List (List ℕ) → Bool
none_in_any a [] = true
none_in_any a (b ∷ bs) = none_in a b && none_in_any a bs

-- no two of the lists have a number in common
abbrev pub apart : List (List ℕ) → Bool
apart [] = true
apart (a ∷ bs) = none_in_any a bs && apart bs

-- the own cells and the homes that a branch got
abbrev pub owns : List Got → List ℕ
owns [] = []
owns (g ∷ gs) = g.own ∷ owns gs

abbrev pub homes : List Got → List ℕ
homes [] = []
homes (g ∷ gs) = g.home ∷ homes gs

abbrev pub of_branches : (List Got → Nodes → List ℕ) → Branches → List (List ℕ)
of_branches f last = []
of_branches f (also g us bs) = f g us ∷ of_branches f bs

abbrev pub all_ports : Branches → List (List ℕ)
all_ports bs = of_branches (λ g us. ports us) bs

-- ---- names

abbrev pub none_among : List (List ℕ) → List (List ℕ) → Bool
none_among [] vs = true
none_among (w ∷ ws) vs = not (among w vs) && none_among ws vs

abbrev pub none_among_any : List (List ℕ) → List (List (List ℕ)) → Bool
none_among_any ws [] = true
none_among_any ws (v ∷ vs) = none_among ws v && none_among_any ws vs

-- no name stands in two of the lists
abbrev pub names_apart : List (List (List ℕ)) → Bool
names_apart [] = true
names_apart (w ∷ ws) = none_among_any w ws && names_apart ws

abbrev pub names_distinct : List (List ℕ) → Bool
names_distinct [] = true
names_distinct (w ∷ ws) = not (among w ws) && names_distinct ws

-- the variables that a branch writes are those that have both cells of the parent
abbrev pub writes : List Got → List (List ℕ)
writes [] = []
writes (g ∷ gs) = elim g.from [ None ↦ g.name.text ∷ writes gs | Some a ↦ writes gs ]

abbrev pub all_writes : Branches → List (List (List ℕ))
all_writes last = []
all_writes (also g us bs) = writes g ∷ all_writes bs

-- ---- the stage, over the unfolded text in order

-- a call is given no variable twice by reference
abbrev pub part_sharing : ℕ → Part → Answer (Unit {0})
part_sharing at plain = Ok tt
part_sharing at (calls cs rs) = must (names_distinct rs) ReferencedTwice at
part_sharing at (tests e) = Ok tt
part_sharing at (loops e) = Ok tt
part_sharing at (tries n) = Ok tt
part_sharing at (takes i c) = Ok tt

-- the names of the open tries in the first block of a statement; a catch block is not held by its own try
abbrev pub part_tries : List (List ℕ) → Part → List (List ℕ)
part_tries ts plain = ts
part_tries ts (calls cs rs) = ts
part_tries ts (tests e) = ts
part_tries ts (loops e) = ts
part_tries ts (tries n) = n ∷ ts
part_tries ts (takes i c) = ts

-- Two branches of a par write no common variable and take from no common port; a throw stands in a try of its name.
-- ts are the names of the tries open around.
abbrev mutual
  pub node_sharing : List (List ℕ) → Node → Answer (Unit {0})
  node_sharing ts (one at ns s) = Ok tt
  node_sharing ts (throws at n) = must (among n ts) Uncaught at
  node_sharing ts (two at ns h a b) =
      part_sharing at h >>= (λ u. sharing (part_tries ts h) a >>= (λ w. sharing ts b))
  node_sharing ts (par at ns bs) =
      must (names_apart (all_writes bs)) WrittenTwice at >>= (λ u.
      must (apart (all_ports bs)) PortTwice at >>= (λ w. branches_sharing ts bs))

  pub sharing : List (List ℕ) → Nodes → Answer (Unit {0})
  sharing ts nil = Ok tt
  sharing ts (seq u us) = node_sharing ts u >>= (λ w. sharing ts us)

  pub branches_sharing : List (List ℕ) → Branches → Answer (Unit {0})
  branches_sharing ts last = Ok tt
  branches_sharing ts (also g us bs) = sharing ts us >>= (λ w. branches_sharing ts bs)
