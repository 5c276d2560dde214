-- Lookups in the rows of the tables and in the lists of a laid-out program.
use Rattle.std.proofs.Common.{◌≡◌, ℕ, zero, suc, List, [], ◌∷◌, get_or, refl}
use Rattle.tables.specs.declared.rows.Point as code-point
use Rattle.tables.specs.Stms.{stm_at, after_at, place_at, catches_at, offset_at}
use Rattle.program.specs.Layout.{Point, no_point}
use Rattle.layout.specs.Rows.{point_rows}

abbrev pub looked : List code-point.Point → ℕ → Point
looked xs x = record { place = place_at xs x; stm = stm_at xs x; after = after_at xs x; catches = catches_at xs x; offset = offset_at xs x }

pub point_looked : (xs : List code-point.Point) (x : ℕ) → looked xs x ≡ get_or (point_rows xs) x no_point
point_looked [] x = refl
point_looked (p ∷ ps) zero = refl
point_looked (p ∷ ps) (suc x) = point_looked ps x
