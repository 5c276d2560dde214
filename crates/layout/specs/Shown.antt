-- Tables stand for a laid-out program: every lookup in them gives what the program has there.
use Rattle.std.specs.Prelude.{◌≡◌, ℕ, cond, length, Some, None, vec_items, Option, nat_lt, slice_index_or}
use Rattle.tables.specs.declared.tables.Tables.{Tables}
use Rattle.tables.specs.Stms.{offset_at, recorded}
use Rattle.tables.specs.Views.{table, cells_of}
use Rattle.program.specs.Layout.{Program, table_of, no_point, no_cell}

-- The offset in the text of the statement at a point.
abbrev pub offset_of : Program → ℕ → ℕ
offset_of p x = (slice_index_or p.points x no_point).offset

-- Where the recorded name of a cell stands in the text: its first byte and its length.
abbrev pub name_of : Program → ℕ → Option (ℕ × ℕ)
name_of p c =
    cond (nat_lt c (length p.cells)) (Some ((slice_index_or p.cells c no_cell).name_at, (slice_index_or p.cells c no_cell).name_length)) None

pub record Shows (t : Tables) (p : Program) : Type 0 where
  pub table_is : table t ≡ table_of p
  pub cells_are : cells_of t ≡ length p.cells
  pub offset_is : (x : ℕ) → offset_at (vec_items t.points) x ≡ offset_of p x
  pub name_is : (c : ℕ) → recorded (vec_items t.cells) c ≡ name_of p c
