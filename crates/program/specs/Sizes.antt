-- Sizes of the unfolded text, and where its blocks are entered: points and places are numbered by them.
use Rattle.std.specs.Prelude.{ℕ, suc, ◌+◌}
use Rattle.unfold.specs.Unfolded.{Part, plain, calls, tests, loops, tries, takes, Node, one, throws, two, par, Nodes, nil, seq, Branches, last, also}

-- how many statements there are: a block that belongs to one counts nothing
abbrev mutual
  pub node_size : Node → ℕ
  node_size (one at ns s) = 1
  node_size (throws at n) = 1
  node_size (two at ns h a b) = suc (size a + size b)
  node_size (par at ns bs) = suc (branch_size bs)

  pub size : Nodes → ℕ
  size nil = 0
  size (seq u us) = node_size u + size us

  pub branch_size : Branches → ℕ
  branch_size last = 0
  branch_size (also g us bs) = size us + branch_size bs

-- how many places: the branches of all pars
abbrev mutual
  pub node_places : Node → ℕ
  node_places (one at ns s) = 0
  node_places (throws at n) = 0
  node_places (two at ns h a b) = how_many a + how_many b
  node_places (par at ns bs) = branch_places bs

  pub how_many : Nodes → ℕ
  how_many nil = 0
  how_many (seq u us) = node_places u + how_many us

  pub branch_places : Branches → ℕ
  branch_places last = 0
  branch_places (also g us bs) = suc (how_many us) + branch_places bs

-- Where a block is entered, if o is its first point and k the point after it. A plain block is entered and left without a move.

abbrev pub part_entry : Part → ℕ → ℕ → ℕ
part_entry plain o i = i
part_entry (calls cs rs) o i = o
part_entry (tests e) o i = o
part_entry (loops e) o i = o
part_entry (tries n) o i = o
part_entry (takes j c) o i = o

abbrev mutual
  pub node_entry : Node → ℕ → ℕ → ℕ
  node_entry (one at ns s) o k = o
  node_entry (throws at n) o k = o
  node_entry (two at ns h a b) o k = part_entry h o (entry a (suc o) k)
  node_entry (par at ns bs) o k = o

  pub entry : Nodes → ℕ → ℕ → ℕ
  entry nil o k = k
  entry (seq u us) o k = node_entry u o (entry us (o + node_size u) k)
