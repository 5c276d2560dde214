-- Where an unfolded text names only such cells and words, so does each of its points, and the places that they name are there.
use Rattle.std.proofs.Common.{◌≡◌, ℕ, zero, suc, ◌+◌, ◌<◌, ◌≤◌, Bool, true, false, cond, eqb, List, [], ◌∷◌, ◌++◌, length, get_or, Some, None, Option, refl, subst, arith}
use Rattle.reader.specs.Tokens.{same}
use Rattle.rules.specs.Programs as rules
use Rattle.unfold.specs.Unfolded.{New, Got, Part, plain, calls, tests, loops, tries, takes, Node, one, throws, two, par, Nodes, nil, seq, Branches, last, also}
use Rattle.unfold.specs.Variables.{got_copies}
use Rattle.program.specs.Sizes.{node_size, size, node_places, how_many, branch_places, entry}
use Rattle.program.specs.Layout.{Point, Cell, Open, nearest, thrown, part_stm, part_after, part_catches, part_opens, branch_list, branch_copies, node_points, points, branch_points, cells_of, node_cells, cells, branch_cells, ends}
use Rattle.program.specs.Bounds.{Each, NamesCopies, NamesStm, NamesPart, NamesNew, NamesSource, NamesGot, NamesNode, NamesNodes, NamesBranches}
use Rattle.program.proofs.Named.{each_join}

-- ---- members

pub each_or : {A : Type 0} (R : A → Type 0) (d : A) (as' : List A) → Each R as' → R d → (i : ℕ) → R (get_or as' i d)
each_or R d [] h k i = k
each_or R d (a ∷ as') h k zero = h.0
each_or R d (a ∷ as') h k (suc i) = each_or R d as' h.1 k i

pub each_at : {A : Type 0} (R : A → Type 0) (d : A) (as' : List A) → Each R as' → (i : ℕ) → i < length as' → R (get_or as' i d)
each_at R d [] h i l = absurd (omega arith)
each_at R d (a ∷ as') h zero l = h.0
each_at R d (a ∷ as') h (suc i) l = each_at R d as' h.1 i (omega arith)

-- ---- points

-- n is the number of places
module _ (C W : ℕ → Type 0) (n e : ℕ) where
  abbrev pub PointIn : Point → Type 0
  PointIn r = NamesStm C W (λ p. p < n) r.stm × (r.place < n)

  abbrev OpensIn : List Open → Type 0
  OpensIn rs = Each (λ (r : Open). r.place < n) rs

  near : (m : List ℕ) (rs : List Open) (r : Open) → OpensIn rs → nearest m rs ≡ Some r → r.place < n
  near m [] r h i = absurd (let z : ◌≡◌ {A = ℕ} 0 1 = cc in omega arith)
  near m (x ∷ rs) r h i = go (same m x.name) (near m rs r h.1) i
    where
      go : (t : Bool) → (nearest m rs ≡ Some r → r.place < n) → ◌≡◌ {A = Option Open} (elim t [ true ↦ Some x | false ↦ nearest m rs ]) (Some r) → r.place < n
      go true f j = let k : x ≡ r = cc in subst (λ (y : Open). y.place < n) k h.0
      go false f j = f j

  thrown_in : (p : ℕ) (o : Option Open) → ((r : Open) → o ≡ Some r → r.place < n) → NamesStm C W (λ p. p < n) (thrown p o)
  thrown_in p None h = tt
  thrown_in p (Some r) h = go (eqb r.place p)
    where
      go : (t : Bool) → NamesStm C W (λ p. p < n) (cond t (rules.goto r.catch) (rules.throw r.place r.number))
      go true = tt
      go false = h r refl

  part_in : (h : Part) (i j k : ℕ) → NamesPart C W h → NamesStm C W (λ p. p < n) (part_stm h i j k)
  part_in plain i j k x = tt
  part_in (calls cs rs) i j k x = x
  part_in (tests f) i j k x = x
  part_in (loops f) i j k x = x
  part_in (tries m) i j k x = tt
  part_in (takes p c) i j k x = x

  opens_in : (h : Part) (p j : ℕ) (cs : List ℕ) (rs : List Open) → p < n → OpensIn rs → OpensIn (part_opens h p j cs rs)
  opens_in plain p j cs rs l x = x
  opens_in (calls ds ss) p j cs rs l x = x
  opens_in (tests f) p j cs rs l x = x
  opens_in (loops f) p j cs rs l x = x
  opens_in (tries m) p j cs rs l x = (l, x)
  opens_in (takes i c) p j cs rs l x = x

  list_in : (bs : Branches) (q : ℕ) → q + branch_places bs ≤ n → Each (λ p. p < n) (branch_list bs q)
  list_in last q l = tt
  list_in (also g us bs) q l = (omega arith, list_in bs (suc q + how_many us) (omega arith))

  got_in : (g : List Got) → Each (NamesGot C) g → NamesCopies C (got_copies g)
  got_in [] h = tt
  got_in (x ∷ g) h = go x.from h.0.2 (got_in g h.1)
    where
      go : (o : Option ℕ) → NamesSource C o → NamesCopies C (got_copies g) → NamesCopies C (elim o [ None ↦ got_copies g | Some a ↦ (x.own, a) ∷ got_copies g ])
      go None s r = r
      go (Some a) s r = ((h.0.0, s), r)

  copies_in : (bs : Branches) → NamesBranches C W (λ p. p < n) bs → NamesCopies C (branch_copies bs)
  copies_in last h = tt
  copies_in (also g us bs) h =
      each_join (λ (d : ℕ × ℕ). C d.0 × C d.1) (got_copies g) (branch_copies bs) (got_in g h.0) (copies_in bs h.2)

  mutual
    node_points_in : (p : ℕ) (cs : List ℕ) (rs : List Open) (u : Node) (q o k : ℕ) → NamesNode C W (λ p. p < n) u → p < n → q + node_places u ≤ n → OpensIn rs
        → Each PointIn (node_points e p cs rs u q o k)
    node_points_in p cs rs (one at ns s) q o k h l m x = ((h.1, l), tt)
    node_points_in p cs rs (throws at t) q o k h l m x = ((thrown_in p (nearest t rs) (λ r. near t rs r x), l), tt)
    node_points_in p cs rs (two at ns t a b) q o k h l m x =
        let i = entry a (suc o) (part_after t o k) in
        let j = entry b (suc o + size a) k in (
          (part_in t i j k h.1, l),
          each_join PointIn (points e p (part_catches t j cs) (part_opens t p j cs rs) a q (suc o) (part_after t o k)) (points e p cs rs b (q + how_many a) (suc o + size a) k)
              (points_in p (part_catches t j cs) (part_opens t p j cs rs) a q (suc o) (part_after t o k) h.2 l (omega arith) (opens_in t p j cs rs l x))
              (points_in p cs rs b (q + how_many a) (suc o + size a) k h.3 l (omega arith) x),
        )
    node_points_in p cs rs (par at ns bs) q o k h l m x = (((list_in bs q m, copies_in bs h.1), l), branch_points_in rs bs q (suc o) h.1 m x)

    pub points_in : (p : ℕ) (cs : List ℕ) (rs : List Open) (us : Nodes) (q o k : ℕ) → NamesNodes C W (λ p. p < n) us → p < n → q + how_many us ≤ n → OpensIn rs
        → Each PointIn (points e p cs rs us q o k)
    points_in p cs rs nil q o k h l m x = tt
    points_in p cs rs (seq u us) q o k h l m x =
        each_join PointIn (node_points e p cs rs u q o (entry us (o + node_size u) k)) (points e p cs rs us (q + node_places u) (o + node_size u) k)
        (node_points_in p cs rs u q o (entry us (o + node_size u) k) h.0 l (omega arith) x)
        (points_in p cs rs us (q + node_places u) (o + node_size u) k h.1 l (omega arith) x)

    branch_points_in : (rs : List Open) (bs : Branches) (q o : ℕ) → NamesBranches C W (λ p. p < n) bs → q + branch_places bs ≤ n → OpensIn rs
        → Each PointIn (branch_points e rs bs q o)
    branch_points_in rs last q o h m x = tt
    branch_points_in rs (also g us bs) q o h m x =
        each_join PointIn (points e q [] rs us (suc q) o (e + q)) (branch_points e rs bs (suc q + how_many us) (o + size us))
        (points_in q [] rs us (suc q) o (e + q) h.1 (omega arith) (omega arith) x)
        (branch_points_in rs bs (suc q + how_many us) (o + size us) h.2 (omega arith) x)

  pub ends_in : (q m : ℕ) → q + m ≤ n → Each PointIn (ends e q m)
  ends_in q zero l = tt
  ends_in q (suc m) l = ((tt, omega arith), ends_in (suc q) m (omega arith))

-- ---- cells

module _ (C W P : ℕ → Type 0) (n : ℕ) where
  abbrev pub CellIn : Cell → Type 0
  CellIn c = (c.brought_in < n) × C c.home

  news_in : (p : ℕ) (ns : List New) → p < n → NamesNew C ns → Each CellIn (cells_of p ns)
  news_in p [] l h = tt
  news_in p (x ∷ ns) l h = ((l, h.0), news_in p ns l h.1)

  mutual
    node_cells_in : (p : ℕ) (u : Node) (q : ℕ) → NamesNode C W P u → p < n → q + node_places u ≤ n → Each CellIn (node_cells p u q)
    node_cells_in p (one at ns s) q h l m = news_in p ns l h.0
    node_cells_in p (throws at t) q h l m = tt
    node_cells_in p (two at ns t a b) q h l m =
        each_join CellIn (cells_of p ns) (cells p a q ++ cells p b (q + how_many a)) (news_in p ns l h.0)
        (each_join CellIn (cells p a q) (cells p b (q + how_many a)) (cells_in p a q h.2 l (omega arith)) (cells_in p b (q + how_many a) h.3 l (omega arith)))
    node_cells_in p (par at ns bs) q h l m =
        each_join CellIn (cells_of p ns) (branch_cells bs q) (news_in p ns l h.0) (branch_cells_in bs q h.1 m)

    pub cells_in : (p : ℕ) (us : Nodes) (q : ℕ) → NamesNodes C W P us → p < n → q + how_many us ≤ n → Each CellIn (cells p us q)
    cells_in p nil q h l m = tt
    cells_in p (seq u us) q h l m =
        each_join CellIn (node_cells p u q) (cells p us (q + node_places u))
        (node_cells_in p u q h.0 l (omega arith)) (cells_in p us (q + node_places u) h.1 l (omega arith))

    branch_cells_in : (bs : Branches) (q : ℕ) → NamesBranches C W P bs → q + branch_places bs ≤ n → Each CellIn (branch_cells bs q)
    branch_cells_in last q h m = tt
    branch_cells_in (also g us bs) q h m =
        each_join CellIn (cells q us (suc q)) (branch_cells bs (suc q + how_many us))
        (cells_in q us (suc q) h.1 (omega arith) (omega arith)) (branch_cells_in bs (suc q + how_many us) h.2 (omega arith))
