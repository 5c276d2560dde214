-- The unfolded text laid out as lists: points, places and cells.
-- A statement's point is its number in the unfolded text; the ends of the places follow. The main block is place 0, and each
-- branch of a par gets the next number where it begins in the unfolded text: a branch, all that is inside it, then the next branch.
-- Cells are in the order of the statements that bring them.
use Rattle.std.specs.Prelude.{ℕ, zero, suc, ◌+◌, true, false, cond, List, [], ◌∷◌, ◌++◌, length, Some, None, Option, ◌==◌, slice_index_or}
use Rattle.reader.specs.Tokens.{same}
use Rattle.rules.specs.Programs as rules
use Rattle.rules.specs.Programs.{Table, elem}
use Rattle.unfold.specs.Unfolded.{New, Got, Part, plain, calls, tests, loops, tries, takes, Node, one, throws, two, par, Nodes, nil, seq, Branches, last, also}
use Rattle.unfold.specs.Variables.{got_copies}
use Rattle.unfold.specs.Sharing.{ports, homes}
use Rattle.program.specs.Sizes.{node_size, size, node_places, how_many, entry}

-- its place, what stands there, the point after it, the catch blocks of the tries open there from outside, and its offset in the text
pub record Point : Type 0 where
  pub place : ℕ
  pub stm : rules.Stm
  pub after : ℕ
  pub catches : List ℕ
  pub offset : ℕ

-- its parent and the point of the par it is a branch of, its first point, what it got at its start, and the ports that stand in it
pub record Place : Type 0 where
  pub parent : ℕ
  pub under : ℕ
  pub start : ℕ
  pub got : List Got
  pub ports : List ℕ

-- its home, the place of the statement that brought it, and the part of the text that named it
pub record Cell : Type 0 where
  pub home : ℕ
  pub brought_in : ℕ
  pub name_at : ℕ
  pub name_length : ℕ

-- ---- throws

-- an open try: its place, its number among the open ones of the place from outside, and its catch block
pub record Open : Type 0 where
  pub name : List ℕ
  pub place : ℕ
  pub number : ℕ
  pub catch : ℕ

-- the nearest open try of a name
abbrev pub nearest : List ℕ → List Open → Option Open
nearest n [] = None
nearest n (r ∷ rs) = elim (same n r.name) [ true ↦ Some r | false ↦ nearest n rs ]

-- A throw whose try is in its own place goes to the catch block; any other names the try's place and number.
abbrev pub thrown : ℕ → Option Open → rules.Stm
thrown p None = rules.end
thrown p (Some r) = cond (r.place == p) (rules.goto r.catch) (rules.throw r.place r.number)

-- ---- points

-- the first block is entered at i, the second at j, and k is after the statement
abbrev pub part_stm : Part → ℕ → ℕ → ℕ → rules.Stm
part_stm plain i j k = rules.goto i
part_stm (calls cs rs) i j k = rules.call cs i
part_stm (tests e) i j k = rules.test e i j
part_stm (loops e) i j k = rules.test e i k
part_stm (tries n) i j k = rules.try i
part_stm (takes p c) i j k = rules.take p c i

-- where the first block leads: back to a while at o
abbrev pub part_after : Part → ℕ → ℕ → ℕ
part_after plain o k = k
part_after (calls cs rs) o k = k
part_after (tests e) o k = k
part_after (loops e) o k = o
part_after (tries n) o k = k
part_after (takes p c) o k = k

-- the open tries in the first block, where j is the second
abbrev pub part_catches : Part → ℕ → List ℕ → List ℕ
part_catches plain j cs = cs
part_catches (calls ds rs) j cs = cs
part_catches (tests e) j cs = cs
part_catches (loops e) j cs = cs
part_catches (tries n) j cs = cs ++ (j ∷ [])
part_catches (takes p c) j cs = cs

abbrev pub part_opens : Part → ℕ → ℕ → List ℕ → List Open → List Open
part_opens plain p j cs rs = rs
part_opens (calls ds ss) p j cs rs = rs
part_opens (tests e) p j cs rs = rs
part_opens (loops e) p j cs rs = rs
part_opens (tries n) p j cs rs = record { name = n; place = p; number = suc (length cs); catch = j } ∷ rs
part_opens (takes i c) p j cs rs = rs

-- the places of a par's branches from q on
abbrev pub branch_list : Branches → ℕ → List ℕ
branch_list last q = []
branch_list (also g us bs) q = q ∷ branch_list bs (suc q + how_many us)

abbrev pub branch_copies : Branches → rules.Copies
branch_copies last = []
branch_copies (also g us bs) = got_copies g ++ branch_copies bs

-- The context is: the end of place q is e + q; the place p, its open tries' catch blocks and all open tries; the next place q,
-- the next point o, and the point k after.
abbrev mutual
  pub node_points : (e p : ℕ) → List ℕ → List Open → Node → (q o k : ℕ) → List Point
  node_points e p cs rs (one at ns s) q o k = record { place = p; stm = s; after = k; catches = cs; offset = at } ∷ []
  node_points e p cs rs (throws at n) q o k =
      record { place = p; stm = thrown p (nearest n rs); after = k; catches = cs; offset = at } ∷ []
  node_points e p cs rs (two at ns h a b) q o k =
      let i = entry a (suc o) (part_after h o k) in
      let j = entry b (suc o + size a) k in
      record { place = p; stm = part_stm h i j k; after = k; catches = cs; offset = at }
      ∷ (points e p (part_catches h j cs) (part_opens h p j cs rs) a q (suc o) (part_after h o k)
      ++ points e p cs rs b (q + how_many a) (suc o + size a) k)
  node_points e p cs rs (par at ns bs) q o k =
      record { place = p; stm = rules.par (branch_list bs q) (branch_copies bs); after = k; catches = cs; offset = at }
      ∷ branch_points e rs bs q (suc o)

  pub points : (e p : ℕ) → List ℕ → List Open → Nodes → (q o k : ℕ) → List Point
  points e p cs rs nil q o k = []
  points e p cs rs (seq u us) q o k =
      node_points e p cs rs u q o (entry us (o + node_size u) k)
      ++ points e p cs rs us (q + node_places u) (o + node_size u) k

  pub branch_points : ℕ → List Open → Branches → (q o : ℕ) → List Point
  branch_points e rs last q o = []
  branch_points e rs (also g us bs) q o =
      points e q [] rs us (suc q) o (e + q) ++ branch_points e rs bs (suc q + how_many us) (o + size us)

-- ---- places

abbrev mutual
  pub node_placing : (e p : ℕ) → Node → (q o : ℕ) → List Place
  node_placing e p (one at ns s) q o = []
  node_placing e p (throws at n) q o = []
  node_placing e p (two at ns h a b) q o =
      placing e p a q (suc o) ++ placing e p b (q + how_many a) (suc o + size a)
  node_placing e p (par at ns bs) q o = branch_placing e p o bs q (suc o)

  pub placing : (e p : ℕ) → Nodes → (q o : ℕ) → List Place
  placing e p nil q o = []
  placing e p (seq u us) q o = node_placing e p u q o ++ placing e p us (q + node_places u) (o + node_size u)

  pub branch_placing : (e p x : ℕ) → Branches → (q o : ℕ) → List Place
  branch_placing e p x last q o = []
  branch_placing e p x (also g us bs) q o =
      record { parent = p; under = x; start = entry us o (e + q); got = g; ports = ports us }
      ∷ (placing e q us (suc q) o ++ branch_placing e p x bs (suc q + how_many us) (o + size us))

-- ---- cells

abbrev pub cells_of : ℕ → List New → List Cell
cells_of p [] = []
cells_of p (n ∷ ns) =
    record { home = n.home; brought_in = p; name_at = n.name.at; name_length = length n.name.text } ∷ cells_of p ns

abbrev mutual
  pub node_cells : ℕ → Node → ℕ → List Cell
  node_cells p (one at ns s) q = cells_of p ns
  node_cells p (throws at n) q = []
  node_cells p (two at ns h a b) q = cells_of p ns ++ (cells p a q ++ cells p b (q + how_many a))
  node_cells p (par at ns bs) q = cells_of p ns ++ branch_cells bs q

  pub cells : ℕ → Nodes → ℕ → List Cell
  cells p nil q = []
  cells p (seq u us) q = node_cells p u q ++ cells p us (q + node_places u)

  pub branch_cells : Branches → ℕ → List Cell
  branch_cells last q = []
  branch_cells (also g us bs) q = cells q us (suc q) ++ branch_cells bs (suc q + how_many us)

-- ---- the program

pub record Program : Type 0 where
  pub points : List Point
  pub places : List Place
  pub cells : List Cell

-- the ends of so many places from q on
abbrev pub ends : ℕ → ℕ → ℕ → List Point
ends e q zero = []
ends e q (suc n) = record { place = q; stm = rules.end; after = e + q; catches = []; offset = 0 } ∷ ends e (suc q) n

abbrev pub laid_out : Nodes → Program
laid_out us =
    let e = size us in
    record {
      points = points e 0 [] [] us 1 0 e ++ ends e 0 (suc (how_many us));
      places = record { parent = 0; under = 0; start = entry us 0 e; got = []; ports = ports us } ∷ placing e 0 us 1 0;
      cells = cells 0 us 1;
    }

-- past the end of a list
abbrev pub no_point : Point
no_point = record { place = 0; stm = rules.end; after = 0; catches = []; offset = 0 }

abbrev pub no_place : Place
no_place = record { parent = 0; under = 0; start = 0; got = []; ports = [] }

abbrev pub no_cell : Cell
no_cell = record { home = 0; brought_in = 0; name_at = 0; name_length = 0 }

-- A place knows the homes of the variables that it got; the place that brought a home declared it.
abbrev pub table_of : Program → Table
table_of r =
    record {
      places = length r.places;
      parent = λ q. (slice_index_or r.places q no_place).parent;
      under = λ q. (slice_index_or r.places q no_place).under;
      start = λ q. (slice_index_or r.places q no_place).start;
      knows = λ q h. elem h (homes (slice_index_or r.places q no_place).got);
      declarer = λ h. (slice_index_or r.cells h no_cell).brought_in;
      home = λ c. (slice_index_or r.cells c no_cell).home;
      place = λ x. (slice_index_or r.points x no_point).place;
      stm = λ x. (slice_index_or r.points x no_point).stm;
      after = λ x. (slice_index_or r.points x no_point).after;
      catches = λ x. (slice_index_or r.points x no_point).catches;
    }
