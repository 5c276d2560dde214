-- Tables with the rows of a laid-out program stand for it, and its bounds are theirs.
use Rattle.std.proofs.Common.{◌≡◌, ℕ, ◌<◌, true, cond, T, eqb, ltb, List, length, get_or, Some, None, vec_items, vec_len, Vec, sym, ap, ◌∙◌, subst, arith, eqb→eq}
use mathlib.Core.Path.{fun_ext}
use Rattle.std.proofs.lemmas.List.{length-map}
use Rattle.std.proofs.Math.ListN.{get_or-map}
use lib.Dec.{not_T}
use Rattle.std.specs.declared.alloc.Global.{Global}
use Rattle.rules.specs.Programs.{Stm}
use Rattle.rules.specs.Trees.{nonzero}
use Rattle.rules.specs.Soundness.{Sound}
use Rattle.tables.specs.declared.rows.Cell as code-cell
use Rattle.tables.specs.declared.rows.Got as code_got
use Rattle.tables.specs.declared.rows.Place as code-place
use Rattle.tables.specs.declared.rows.Point as code-point
use Rattle.tables.specs.declared.tables.Tables.{Tables}
use Rattle.tables.specs.Fit as fit
use Rattle.tables.specs.Fit.{named, parents, declarers, Sized, AllNamed, Lower, Declared}
use Rattle.tables.specs.Stms as row
use Rattle.tables.specs.Stms.{stm_at, after_at, place_at, catches_at, offset_at, has_got, recorded}
use Rattle.tables.specs.Views.{table}
use Rattle.program.specs.Layout.{Point, Cell, Program, table_of, no_point, no_place, no_cell}
use Rattle.program.specs.Guarantees.{Bounded}
use Rattle.layout.specs.Given.{given_from}
use Rattle.layout.specs.Rows.{cell, cell_rows, place_row, place_rows, point_rows}
use Rattle.layout.specs.Shown.{Shows, name_of}
use Rattle.layout.proofs.Fitting.{within_named}
use Rattle.layout.proofs.Knowing.{knows_got}
use Rattle.layout.proofs.Looking.{looked, point_looked}

-- ---- points

module _ (p : Program) (xs : List code-point.Point) (e : point_rows xs ≡ p.points) (x : ℕ) where
  point_shown : looked xs x ≡ get_or p.points x no_point
  point_shown = point_looked xs x ∙ ap (λ (l : List Point). get_or l x no_point) e

  stm_shown : stm_at xs x ≡ (table_of p).stm x
  stm_shown = ap (λ (d : Point). d.stm) point_shown

-- ---- places

module _ (p : Program) (ps : Vec code-place.Place Global) (e : vec_items ps ≡ place_rows p.places) where
  places_shown : vec_len ps ≡ (table_of p).places
  places_shown = ps.ok.0 ∙ ap length e ∙ length-map p.places place_row

  row_shown : (q : ℕ) → get_or (vec_items ps) q fit.no_place ≡ place_row (get_or p.places q no_place)
  row_shown q = ap (λ (l : List code-place.Place). get_or l q fit.no_place) e ∙ get_or-map place_row p.places q no_place

  parent_shown : (q : ℕ) → parents (vec_items ps) q ≡ (table_of p).parent q
  parent_shown q = ap (λ (r : code-place.Place). r.parent) (row_shown q)

knows_shown : (p : Program) (gs : List code_got.Got) → gs ≡ given_from 0 p.places → (q h : ℕ) → has_got gs q h ≡ (table_of p).knows q h
knows_shown p gs e q h = ap (λ (l : List code_got.Got). has_got l q h) e ∙ knows_got p.places q h

-- ---- cells

module _ (p : Program) (cs : Vec code-cell.Cell Global) (e : cell_rows (vec_items cs) ≡ p.cells) where
  cells_shown : vec_len cs ≡ length p.cells
  cells_shown = cs.ok.0 ∙ sym (length-map (vec_items cs) cell) ∙ ap length e

  cell_shown : (c : ℕ) → cell (get_or (vec_items cs) c row.no_cell) ≡ get_or p.cells c no_cell
  cell_shown c = sym (get_or-map cell (vec_items cs) c row.no_cell) ∙ ap (λ (l : List Cell). get_or l c no_cell) e

  declarer_shown : (c : ℕ) → declarers (vec_items cs) c ≡ (table_of p).declarer c
  declarer_shown c = ap (λ (d : Cell). d.brought_in) (cell_shown c)

  name_shown : (c : ℕ) → recorded (vec_items cs) c ≡ name_of p c
  name_shown c =
      ap (λ (n : ℕ). cond (ltb c n) (Some ((get_or (vec_items cs) c row.no_cell).at, (get_or (vec_items cs) c row.no_cell).len)) None) (sym cs.ok.0 ∙ cells_shown)
      ∙ ap (λ (d : Cell). cond (ltb c (length p.cells)) (Some (d.name_at, d.name_length)) None) (cell_shown c)

-- ---- the tables

module _ (t : Tables) (p : Program) (pt : point_rows (vec_items t.points) ≡ p.points) (pl : vec_items t.places ≡ place_rows p.places)
    (ce : cell_rows (vec_items t.cells) ≡ p.cells) (gt : vec_items t.got ≡ given_from 0 p.places) where
  table_shown : table t ≡ table_of p
  table_shown = λ i. record {
    places = places_shown p t.places pl i;
    parent = fun_ext (parent_shown p t.places pl) i;
    under = fun_ext (λ q. ap (λ (r : code-place.Place). r.under) (row_shown p t.places pl q)) i;
    start = fun_ext (λ q. ap (λ (r : code-place.Place). r.start) (row_shown p t.places pl q)) i;
    knows = fun_ext (λ q. fun_ext (knows_shown p (vec_items t.got) gt q)) i;
    declarer = fun_ext (declarer_shown p t.cells ce) i;
    home = fun_ext (λ c. ap (λ (d : Cell). d.home) (cell_shown p t.cells ce c)) i;
    place = fun_ext (λ x. ap (λ (d : Point). d.place) (point_shown p (vec_items t.points) pt x)) i;
    stm = fun_ext (stm_shown p (vec_items t.points) pt) i;
    after = fun_ext (λ x. ap (λ (d : Point). d.after) (point_shown p (vec_items t.points) pt x)) i;
    catches = fun_ext (λ x. ap (λ (d : Point). d.catches) (point_shown p (vec_items t.points) pt x)) i;
  }

  pub shown : Shows t p
  shown = record {
    table_is = table_shown;
    cells_are = cells_shown p t.cells ce;
    offset_is = λ x. ap (λ (d : Point). d.offset) (point_shown p (vec_items t.points) pt x);
    name_is = name_shown p t.cells ce;
  }

-- ---- their bounds

pub named_shown : (p : Program) (xs : Vec code-point.Point Global) → Bounded p → point_rows (vec_items xs) ≡ p.points → AllNamed xs
named_shown p xs b e x =
    subst (λ (s : Stm). named s ≡ true) (sym (stm_shown p (vec_items xs) e x))
    (within_named (length p.cells) (length p.places) ((table_of p).stm x) b.2 b.1 (b.3 x))

above_zero : (q : ℕ) → 0 < q → T (nonzero q)
above_zero q h = not_T (eqb q 0) (λ t. let e = eqb→eq q 0 t in omega arith)

pub lower_shown : (p : Program) (ps : Vec code-place.Place Global) → Sound (table_of p) → vec_items ps ≡ place_rows p.places → Lower ps
lower_shown p ps s e q h = omega (arith, parent_shown p ps e q, s.lower q (above_zero q h))

module _ (p : Program) (ps : Vec code-place.Place Global) (cs : Vec code-cell.Cell Global) (b : Bounded p) (pl : vec_items ps ≡ place_rows p.places) (ce : cell_rows (vec_items cs) ≡ p.cells) where
  pub sized_shown : Sized ps cs
  sized_shown =
      let n = places_shown p ps pl in
      let m = cells_shown p cs ce in
      (omega (arith, b.0), omega (arith, b.1), omega (arith, b.2), omega (arith, parent_shown p ps pl 0, b.5))

  pub declared_shown : Declared ps cs
  declared_shown c = omega (arith, declarer_shown p cs ce c, places_shown p ps pl, b.6 c)
