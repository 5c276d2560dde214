-- Rows read off the tables.
use Rattle.std.proofs.Common.{◌≡◌, ℕ, zero, suc, ◌<◌, ◌≤◌, List, [], ◌∷◌, length, get_or, vec_items, Bor, sym, refl, ap, arith}
use Rattle.std.specs.Prelude.{Option, Some, None, MatchOption}
use Rattle.std.specs.Slice.{IsItemAt}
use Rattle.tables.specs.declared.rows.Point.{Point}
use Rattle.tables.specs.Stms.{stm, RowAt, PastRows}

pub read : (ps : List Point) (i : ℕ) (p : Point) → i < length ps → p ≡ get_or ps i p → RowAt ps i p
read [] i p h e = absurd (omega arith)
read (x ∷ ps) zero p h e =
    record {
      stm_is = ap (λ (v : Point). stm v.place v.stmt) (sym e);
      after_is = ap (λ (v : Point). v.after) (sym e);
      catches_is = ap (λ (v : Point). vec_items v.catches) (sym e);
      offset_is = ap (λ (v : Point). v.offset) (sym e);
    }
read (x ∷ ps) (suc i) p h e =
    let r = read ps i p (omega arith) e in
    record { stm_is = r.stm_is; after_is = r.after_is; catches_is = r.catches_is; offset_is = r.offset_is }

pub past : (ps : List Point) (i : ℕ) → length ps ≤ i → PastRows ps i
past [] i h = record { stm_is = refl; after_is = refl; catches_is = refl; offset_is = refl }
past (x ∷ ps) zero h = absurd (omega arith)
past (x ∷ ps) (suc i) h =
    let r = past ps i (omega arith) in
    record { stm_is = r.stm_is; after_is = r.after_is; catches_is = r.catches_is; offset_is = r.offset_is }

-- a look at a row
pub looked : (ps : List Point) (i : ℕ) (r : Option (Bor Point)) → IsItemAt ps i r → MatchOption r (PastRows ps i) (λ p. RowAt ps i p.now)
looked ps i None h = past ps i h.3
looked ps i (Some p) h = read ps i p.now h.3.0 h.1
