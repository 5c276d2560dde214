-- What the walk over the unfolded text lays out: rows of all four tables.
use Rattle.std.specs.Prelude.{ℕ, List, [], ◌∷◌, ◌++◌, vec_items}
use Rattle.rules.specs.Programs as rules
use Rattle.tables.specs.declared.rows.Got as code_got
use Rattle.tables.specs.declared.rows.Place as code-place
use Rattle.unfold.specs.Unfolded.{New, Got, Node, Nodes, Branches}
use Rattle.program.specs.Layout.{Point, Cell, Open, node_points, points, branch_points, node_placing, placing, branch_placing, cells_of, node_cells, cells, branch_cells}
use Rattle.layout.specs.declared.walk.Rows as code-rows
use Rattle.layout.specs.Given.{given, node_given, nodes_given, branches_given}
use Rattle.layout.specs.Rows.{cell_rows, place_rows, point_rows, standing}

pub record Rows : Type 0 where
  pub points : List Point
  pub places : List code-place.Place
  pub cells : List Cell
  pub got : List code_got.Got

abbrev pub rows : code-rows.Rows → Rows
rows r = record { points = point_rows (vec_items r.points); places = vec_items r.places; cells = cell_rows (vec_items r.cells); got = vec_items r.got }

-- one after the other
abbrev pub more : Rows → Rows → Rows
more a b = record { points = a.points ++ b.points; places = a.places ++ b.places; cells = a.cells ++ b.cells; got = a.got ++ b.got }

-- a statement's point, and the cells that it brings
abbrev pub statement_rows : ℕ → rules.Stm → ℕ → List ℕ → ℕ → List New → Rows
statement_rows p s k cs at ns = record { points = standing p s k cs at ∷ []; places = []; cells = cells_of p ns; got = [] }

-- a place and what it got
abbrev pub begun : ℕ → code-place.Place → List Got → Rows
begun q x gs = record { points = []; places = x ∷ []; cells = []; got = given q gs }

-- The context is that of the definition's lists.
abbrev pub node_rows : (e p : ℕ) → List ℕ → List Open → Node → (q o k : ℕ) → Rows
node_rows e p cs rs u q o k =
    record { points = node_points e p cs rs u q o k; places = place_rows (node_placing e p u q o); cells = node_cells p u q; got = node_given u q }

abbrev pub block_rows : (e p : ℕ) → List ℕ → List Open → Nodes → (q o k : ℕ) → Rows
block_rows e p cs rs us q o k =
    record { points = points e p cs rs us q o k; places = place_rows (placing e p us q o); cells = cells p us q; got = nodes_given us q }

abbrev pub branch_rows : (e p x : ℕ) → List Open → Branches → (q o : ℕ) → Rows
branch_rows e p x rs bs q o =
    record { points = branch_points e rs bs q o; places = place_rows (branch_placing e p x bs q o); cells = branch_cells bs q; got = branches_given bs q }
