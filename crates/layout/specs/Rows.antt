-- What the rows of the tables stand for.
use Rattle.std.specs.Prelude.{ℕ, List, map, vec_items}
use Rattle.rules.specs.Programs as rules
use Rattle.tables.specs.declared.rows.Cell as code-cell
use Rattle.tables.specs.declared.rows.Point as code-point
use Rattle.tables.specs.declared.rows.Place as code-place
use Rattle.tables.specs.Stms.{stm}
use Rattle.program.specs.Layout.{Point, Place, Cell}

abbrev pub cell : code-cell.Cell → Cell
cell c = record { home = c.home; brought_in = c.declarer; name_at = c.at; name_length = c.len }

abbrev pub cell_rows : List code-cell.Cell → List Cell
cell_rows cs = map cell cs

-- The row of a place; what it got stands in a list of its own.
abbrev pub place_row : Place → code-place.Place
place_row p = record { parent = p.parent; under = p.under; start = p.start }

abbrev pub place_rows : List Place → List code-place.Place
place_rows ps = map place_row ps

-- A point.
abbrev pub point : code-point.Point → Point
point x = record { place = x.place; stm = stm x.place x.stmt; after = x.after; catches = vec_items x.catches; offset = x.offset }

abbrev pub point_rows : List code-point.Point → List Point
point_rows xs = map point xs

abbrev pub standing : ℕ → rules.Stm → ℕ → List ℕ → ℕ → Point
standing p s k cs at = record { place = p; stm = s; after = k; catches = cs; offset = at }
