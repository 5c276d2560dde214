-- The program that a clear leaves names only what there is, and only words that its literals have.
use Rattle.std.proofs.Common.{◌≡◌, ℕ, suc, ◌+◌, ◌<◌, ◌≤◌, true, List, [], ◌∷◌, ◌++◌, length, get_or, Some, None, Ok, Err, Option, refl, ap, subst, arith}
use mathlib.Core.Option.{some, none}
use Rattle.lemmas.proofs.Tests.{some_none, pair_eq}
use Rattle.numbers.specs.Kinds.{Meaning, Laws}
use Rattle.numbers.specs.Literals.{digits_value, literal_reading}
use Rattle.reader.specs.Faults.{Answer, ◌>>=◌}
use Rattle.reader.specs.Tokens.{tokenized}
use Rattle.grammar.specs.Trees.{Block, Proc}
use Rattle.grammar.specs.Parsing.{parsed}
use Rattle.names.specs.Naming.{Reading, named}
use Rattle.rules.specs.Programs as rules
use Rattle.rules.specs.Programs.{Expr, own, word, plus, minus, times, below, same, awaits}
use Rattle.rules.specs.Soundness.{HomesInside}
use Rattle.rules.specs.Numbers.{LiteralsIn, LiteralsOf, Literals}
use Rattle.unfold.specs.Unfolded.{Nodes, nil}
use Rattle.unfold.specs.Unfolding.{Count, unfold_block, callees, unfolded}
use Rattle.unfold.specs.Sharing.{sharing}
use Rattle.program.specs.Sizes.{size, how_many}
use Rattle.program.specs.Layout.{Program, Cell, laid_out, table_of, points, cells, ends, no_point, no_cell}
use Rattle.program.specs.Clearing.{cleared, left}
use Rattle.program.specs.Bounds.{Each, NamesExpr, NamesStm, NamesNodes}
use Rattle.program.specs.Guarantees.{HomesAreInside, LiteralsAreNumbers, Bounded, UnfoldedWithin, NumbersAreWithin}
use Rattle.program.proofs.Results.{bound, ok_eq}
use Rattle.program.proofs.Agree.{placing_size}
use Rattle.program.proofs.Unfolds.{block_ok, callees_ok}
use Rattle.program.proofs.Accept.{cell_in}
use Rattle.program.proofs.Counts.{block_count, callees_count}
use Rattle.program.proofs.Named.{each_join}
use Rattle.program.proofs.NamedBlocks.{block_in, callees_in}
use Rattle.program.proofs.Bounded.{each_or, each_at, PointIn, points_in, ends_in, CellIn, cells_in}

-- ---- an unfolded text

abbrev start : Count
start = record { statements = 0; places = 1; cells = 0 }

unfolded_named : (l : Reading) (W P : ℕ → Type 0) → W 0 → ((ds : List ℕ) (w : ℕ) → l ds ≡ Some w → W w)
    → (ps : List Proc) (b : Block) (us : Nodes) → unfolded l ps b ≡ Ok us → NamesNodes (λ c. c < length (cells 0 us 1)) W P us
unfolded_named l W P z read ps b us i =
    let k = bound (unfold_block l (callees l ps) b [] start) (λ r. Ok r.0) us i in
    let v = k.0.0 in
    let N = length (cells 0 v 1) in
    let s = (block_ok (cell_in v) b l (callees l ps) [] start (callees_ok (cell_in v) l ps) k.0 k.1).0 0 1 in
    let lo : k.0.1.cells ≤ N = omega arith in
    subst (λ (x : Nodes). NamesNodes (λ c. c < length (cells 0 x 1)) W P x) (ok_eq v us k.2)
    ((block_in l N (λ c. c < N) W P (λ c h. h) z read b (callees l ps) [] start (callees_in l N (λ c. c < N) W P (λ c h. h) z read ps) k.0 k.1).1 lo tt)

abbrev Limits : Nodes → Type 0
Limits us = (length (cells 0 us 1) ≤ 128) × (size us ≤ 1024) × (how_many us ≤ 63)

unfolded_limits : (l : Reading) (ps : List Proc) (b : Block) (us : Nodes) → unfolded l ps b ≡ Ok us → Limits us
unfolded_limits l ps b us i =
    let k = bound (unfold_block l (callees l ps) b [] start) (λ r. Ok r.0) us i in
    let v = k.0.0 in
    let n = block_count b l (callees l ps) [] start (callees_count l ps) k.0 k.1 in
    let s = (block_ok (cell_in v) b l (callees l ps) [] start (callees_ok (cell_in v) l ps) k.0 k.1).0 0 1 in
    let f = n.2 (omega arith, omega arith, omega arith) in
    let n0 = n.0 in
    let n1 = n.1 in
    let x = f.0 in
    let y = f.1 in
    let w = f.2 in
    subst Limits (ok_eq v us k.2) (omega arith, omega arith, omega arith)

pub unfolded_within : (l : Reading) (ps : List Proc) (b : Block) (us : Nodes) → unfolded l ps b ≡ Ok us → UnfoldedWithin us
unfolded_within l ps b us i =
    let m = unfolded_limits l ps b us i in
    (unfolded_named l (λ w. Unit {0}) (λ p. ⊥) tt (λ ds w j. tt) ps b us i, m.0, m.1, m.2)

-- ---- its layout

-- what a text names, over its own cells and places
abbrev Named : (ℕ → Type 0) → Nodes → Type 0
Named W us = NamesNodes (λ c. c < length (cells 0 us 1)) W (λ p. p < length (laid_out us).places) us

many : (us : Nodes) → length (laid_out us).places ≡ suc (how_many us)
many us = ap suc (placing_size (size us) 0 us 1 0)

module _ (W : ℕ → Type 0) (us : Nodes) (h : Named W us) where
  abbrev n : ℕ
  n = length (laid_out us).places

  abbrev C : ℕ → Type 0
  C c = c < length (cells 0 us 1)

  pub point_at : (x : ℕ) → PointIn C W n (size us) (get_or (laid_out us).points x no_point)
  point_at x =
      let m = many us in
      let e = size us in
      let some_place : 0 < n = omega arith in
      let all_places : 1 + how_many us ≤ n = omega arith in
      each_or (PointIn C W n e) no_point (points e 0 [] [] us 1 0 e ++ ends e 0 (suc (how_many us)))
      (each_join (PointIn C W n e) (points e 0 [] [] us 1 0 e) (ends e 0 (suc (how_many us)))
      (points_in C W n e 0 [] [] us 1 0 e h some_place all_places tt) (ends_in C W n e 0 (suc (how_many us)) (omega arith))) (tt, some_place) x

  all_cells : Each (CellIn C W (λ p. p < n) n) (cells 0 us 1)
  all_cells =
      let m = many us in
      cells_in C W (λ p. p < n) n 0 us 1 h (omega arith) (omega arith)

  pub declarer_at : (c : ℕ) → (get_or (cells 0 us 1) c no_cell).brought_in < n
  declarer_at c =
      let m = many us in
      each_or (λ (r : Cell). r.brought_in < n) no_cell (cells 0 us 1) (keep (cells 0 us 1) all_cells) (omega arith) c
    where
      keep : (cs : List Cell) → Each (CellIn C W (λ p. p < n) n) cs → Each (λ (r : Cell). r.brought_in < n) cs
      keep [] k = tt
      keep (c ∷ cs) k = (k.0.0, keep cs k.1)

  pub home_at : (c : ℕ) → c < length (cells 0 us 1) → (get_or (cells 0 us 1) c no_cell).home < length (cells 0 us 1)
  home_at c l = (each_at (CellIn C W (λ p. p < n) n) no_cell (cells 0 us 1) all_cells c l).1

laid_bounded : (us : Nodes) → Named (λ w. Unit {0}) us → Limits us → Bounded (laid_out us)
laid_bounded us h f =
    let m = many us in
    let cells_few = f.0 in
    let branches_few = f.2 in (
      omega arith,
      omega arith,
      cells_few,
      λ x. (point_at (λ w. Unit {0}) us h x).0,
      λ x. (point_at (λ w. Unit {0}) us h x).1,
      refl,
      declarer_at (λ w. Unit {0}) us h,
      home_at (λ w. Unit {0}) us h,
    )

-- ---- the program that a clear leaves

left_named : (l : Reading) (W : ℕ → Type 0) → W 0 → ((ds : List ℕ) (w : ℕ) → l ds ≡ Some w → W w)
    → (bs : List ℕ) (r : Answer Program) → cleared l bs ≡ r → (us : Nodes) × (laid_out us ≡ left r) × Named W us × Limits us
left_named l W z read bs (Err x) i = (nil, refl, tt, (omega arith, omega arith, omega arith))
left_named l W z read bs (Ok p) i =
    let a = bound (tokenized bs) (λ ts. parsed ts >>= (λ t. named l t >>= (λ ps. unfolded l ps t.main >>= (λ us. sharing [] us >>= (λ u. Ok (laid_out us)))))) p i in
    let b = bound (parsed a.0) (λ t. named l t >>= (λ ps. unfolded l ps t.main >>= (λ us. sharing [] us >>= (λ u. Ok (laid_out us))))) p a.2 in
    let c = bound (named l b.0) (λ ps. unfolded l ps b.0.main >>= (λ us. sharing [] us >>= (λ u. Ok (laid_out us)))) p b.2 in
    let d = bound (unfolded l c.0 b.0.main) (λ us. sharing [] us >>= (λ u. Ok (laid_out us))) p c.2 in
    let f = bound (sharing [] d.0) (λ u. Ok (laid_out d.0)) p d.2 in
    let us = d.0 in (
      us,
      ok_eq (laid_out us) p f.2,
      unfolded_named l W (λ p. p < length (laid_out us).places) z read c.0 b.0.main us d.1,
      unfolded_limits l c.0 b.0.main us d.1,
    )

-- ---- homes

await_in : (C W P : ℕ → Type 0) (s : rules.Stm) → NamesStm C W P s → (c h : ℕ) → awaits s ≡ some (c, h) → C h
await_in C W P rules.end x c h e = some_none (c, h) none e refl
await_in C W P (rules.var a) x c h e = some_none (c, h) none e refl
await_in C W P (rules.set a f) x c h e = some_none (c, h) none e refl
await_in C W P rules.know x c h e = some_none (c, h) none e refl
await_in C W P (rules.next a b) x c h e = subst C (pair_eq a c b h e).1 x.1
await_in C W P (rules.call cs y) x c h e = some_none (c, h) none e refl
await_in C W P (rules.test f y z) x c h e = some_none (c, h) none e refl
await_in C W P (rules.try y) x c h e = some_none (c, h) none e refl
await_in C W P (rules.take i a z) x c h e = some_none (c, h) none e refl
await_in C W P (rules.par bs cs) x c h e = some_none (c, h) none e refl
await_in C W P (rules.goto y) x c h e = some_none (c, h) none e refl
await_in C W P (rules.throw g j) x c h e = some_none (c, h) none e refl

pub homes_are_inside_lem : HomesAreInside
homes_are_inside_lem l bs =
    let r = left_named l (λ w. Unit {0}) tt (λ ds w j. tt) bs (cleared l bs) refl in
    let us = r.0 in
    subst (λ (q : Program). HomesInside (table_of q) (length q.cells)) r.1
    (λ x c h e. await_in (λ c. c < length (cells 0 us 1)) (λ w. Unit {0}) (λ p. p < length (laid_out us).places) (get_or (laid_out us).points x no_point).stm (point_at (λ w. Unit {0}) us r.2 x).0 c h e)

-- ---- literals

literal_expr : (k : Meaning) (C : ℕ → Type 0) (e : Expr) → NamesExpr C (λ w. k.number w ≡ true) e → LiteralsIn k e
literal_expr k C (own c) h = tt
literal_expr k C (word w) h = h
literal_expr k C (plus a b) h = (literal_expr k C a h.0, literal_expr k C b h.1)
literal_expr k C (minus a b) h = (literal_expr k C a h.0, literal_expr k C b h.1)
literal_expr k C (times a b) h = (literal_expr k C a h.0, literal_expr k C b h.1)
literal_expr k C (below a b) h = (literal_expr k C a h.0, literal_expr k C b h.1)
literal_expr k C (same a b) h = (literal_expr k C a h.0, literal_expr k C b h.1)

literal_stm : (k : Meaning) (C P : ℕ → Type 0) (s : rules.Stm) → NamesStm C (λ w. k.number w ≡ true) P s → LiteralsOf k s
literal_stm k C P rules.end h = tt
literal_stm k C P (rules.var c) h = tt
literal_stm k C P (rules.set c e) h = literal_expr k C e h.1
literal_stm k C P rules.know h = tt
literal_stm k C P (rules.next c d) h = tt
literal_stm k C P (rules.call cs y) h = tt
literal_stm k C P (rules.test e y z) h = literal_expr k C e h
literal_stm k C P (rules.try y) h = tt
literal_stm k C P (rules.take i c z) h = tt
literal_stm k C P (rules.par bs cs) h = tt
literal_stm k C P (rules.goto y) h = tt
literal_stm k C P (rules.throw g j) h = tt

read_number : (k : Meaning) → Laws k → (ds : List ℕ) (w : ℕ) → literal_reading k ds ≡ Some w → k.number w ≡ true
read_number k laws ds w e = go (digits_value ds) e
  where
    go : (o : Option ℕ) → ◌≡◌ {A = Option ℕ} (elim o [ Some n ↦ k.literal n | None ↦ None ]) (Some w) → k.number w ≡ true
    go None i = absurd (let z : ◌≡◌ {A = ℕ} 0 1 = cc in omega arith)
    go (Some n) i = laws.literal_number n w i

pub literals_are_numbers_lem : LiteralsAreNumbers
literals_are_numbers_lem k laws bs =
    let r = left_named (literal_reading k) (λ w. k.number w ≡ true) laws.zero_number (read_number k laws) bs (cleared (literal_reading k) bs) refl in
    let us = r.0 in
    subst (λ (q : Program). Literals k (table_of q)) r.1
    (λ x. literal_stm k (λ c. c < length (cells 0 us 1)) (λ p. p < length (laid_out us).places) (get_or (laid_out us).points x no_point).stm (point_at (λ w. k.number w ≡ true) us r.2 x).0)

-- ---- bounds

pub numbers_are_within_lem : NumbersAreWithin
numbers_are_within_lem = (
  λ l bs.
      let r = left_named l (λ w. Unit {0}) tt (λ ds w j. tt) bs (cleared l bs) refl in
      subst Bounded r.1 (laid_bounded r.0 r.2 r.3),
  unfolded_within,
)
