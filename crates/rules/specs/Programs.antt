-- The unfolded program as the moves see it.
-- Places, points, cells, homes and ports are numbers, and what the program says of each is a function of the number.
-- A cell is named by its number, and a home is a cell that is its own home.
use Rattle.std.specs.Prelude.{ℕ, Bool, false, cond, ◌||◌, List, [], ◌∷◌, ◌==◌}
use Rattle.std.proofs.Math.Option.{Option, some, none}

-- An expression over own cells and words. A literal is the word that its kind reads; `-e` is the word 0 minus e.
pub data Expr : Type 0 where
  own : ℕ → Expr
  word : ℕ → Expr
  plus : Expr → Expr → Expr
  minus : Expr → Expr → Expr
  times : Expr → Expr → Expr
  below : Expr → Expr → Expr
  same : Expr → Expr → Expr

-- A list of copies: the new own cell, and the own cell of the parent or the caller that it copies.
abbrev pub Copies : Type 0
Copies = List (ℕ × ℕ)

-- What stands at a point. Blocks are entered and left without a move, so a point is that of a statement,
-- or the end of a place.
pub data Stm : Type 0 where
  -- the end of a place
  end : Stm
  -- `var v;` with its cell
  var : ℕ → Stm
  -- `v = e;` with the own cell
  set : ℕ → Expr → Stm
  -- `know v;`
  know : Stm
  -- `next v;` with the own cell and the home
  next : ℕ → ℕ → Stm
  -- a call: the copies of its by-value arguments, and the first point of the procedure's block
  call : Copies → ℕ → Stm
  -- `if` or `while`: where a word other than 0 leads, and where 0 does
  test : Expr → ℕ → ℕ → Stm
  -- `try`: the first point of its first block
  try : ℕ → Stm
  -- `take n v else`: port, own cell, the first point of the else block
  take : ℕ → ℕ → ℕ → Stm
  -- `par`: the places of its branches, and the copies for their new cells
  par : List ℕ → Copies → Stm
  -- `throw` whose nearest open try is in its own place: the first point of the catch block
  goto : ℕ → Stm
  -- any other `throw`: the place of the nearest open try of its name, and the try's number there,
  -- counted from 1 at that place's outermost open try
  throw : ℕ → ℕ → Stm

pub record Table : Type 0 where
  -- the number of places: they are 0 to places - 1, and place 0 is the main block
  pub places : ℕ
  -- of a place other than 0: the place whose par it is a branch of, and the point of that par
  pub parent : ℕ → ℕ
  pub under : ℕ → ℕ
  -- the first point of a place
  pub start : ℕ → ℕ
  -- a place got a variable of this home at its start
  pub knows : ℕ → ℕ → Bool
  -- the place where a home's `var` stands
  pub declarer : ℕ → ℕ
  -- the home of a cell
  pub home : ℕ → ℕ
  -- the place that a point belongs to
  pub place : ℕ → ℕ
  -- what stands at a point
  pub stm : ℕ → Stm
  -- the point after the statement at a point
  pub after : ℕ → ℕ
  -- the first points of the catch blocks of the tries open at a point, from the outermost in its place
  pub catches : ℕ → List ℕ

-- The own cell and the home, where a next stands.
abbrev pub awaits : Stm → Option (ℕ × ℕ)
awaits end = none
awaits (var c) = none
awaits (set c e) = none
awaits know = none
awaits (next c h) = some (c, h)
awaits (call cs y) = none
awaits (test e y z) = none
awaits (try y) = none
awaits (take i c z) = none
awaits (par bs cs) = none
awaits (goto y) = none
awaits (throw g k) = none

-- The cell that a cell is copied from: the first copy for it counts.
abbrev pub pick : Copies → ℕ → Option ℕ
pick [] c = none
pick (d ∷ ds) c = cond (c == d.0) (some d.1) (pick ds c)

-- A number stands in a list.
abbrev pub elem : ℕ → List ℕ → Bool
elem q [] = false
elem q (b ∷ bs) = q == b || elem q bs
