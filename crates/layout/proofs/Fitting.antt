-- What names only cells below 128 and places below 64 fits the tables.
use Rattle.std.proofs.Common.{◌≡◌, ℕ, ◌<◌, ◌≤◌, true, ltb, List, [], ◌∷◌, length, Some, None, Option, refl, arith}
use Rattle.std.proofs.lemmas.Bool.{lt-ltb, and_from}
use Rattle.rules.specs.Programs as rules
use Rattle.rules.specs.Programs.{Expr, own, word, plus, minus, times, below, same, Copies}
use Rattle.tables.specs.Fit.{in_cells, copies_in, places_in, named}
use Rattle.unfold.specs.Unfolded.{New, Got, Part, plain, calls, tests, loops, tries, takes, Node, one, throws, two, par, Nodes, nil, seq, Branches, last, also}
use Rattle.program.specs.Bounds.{Each, NamesExpr, NamesCopies, NamesStm, NamesPart, NamesNew, NamesSource, NamesGot, NamesNode, NamesNodes, NamesBranches, StmWithin}
use Rattle.program.specs.Layout.{cells}
use Rattle.program.specs.Guarantees.{UnfoldedWithin}
use Rattle.layout.specs.Fits.{news_fit, from_fits, gots_fit, part_fits, node_fits, fits, branches_fit}

module _ (C W P : ℕ → Type 0) (cell : (c : ℕ) → C c → ltb c 128 ≡ true) (place : (p : ℕ) → P p → ltb p 64 ≡ true) where
  expr_in : (e : Expr) → NamesExpr C W e → in_cells e ≡ true
  expr_in (own c) h = cell c h
  expr_in (word w) h = refl
  expr_in (plus a b) h = and_from _ _ (expr_in a h.0) (expr_in b h.1)
  expr_in (minus a b) h = and_from _ _ (expr_in a h.0) (expr_in b h.1)
  expr_in (times a b) h = and_from _ _ (expr_in a h.0) (expr_in b h.1)
  expr_in (below a b) h = and_from _ _ (expr_in a h.0) (expr_in b h.1)
  expr_in (same a b) h = and_from _ _ (expr_in a h.0) (expr_in b h.1)

  all_copies_in : (cs : Copies) → NamesCopies C cs → copies_in cs ≡ true
  all_copies_in [] h = refl
  all_copies_in (c ∷ cs) h =
      and_from _ _
      (and_from _ _ (cell c.0 h.0.0) (cell c.1 h.0.1)) (all_copies_in cs h.1)

  all_places_in : (bs : List ℕ) → Each P bs → places_in bs ≡ true
  all_places_in [] h = refl
  all_places_in (b ∷ bs) h = and_from _ _ (place b h.0) (all_places_in bs h.1)

  stm_named : (s : rules.Stm) → NamesStm C W P s → named s ≡ true
  stm_named rules.end h = refl
  stm_named (rules.var c) h = cell c h
  stm_named (rules.set c e) h = and_from _ _ (cell c h.0) (expr_in e h.1)
  stm_named rules.know h = refl
  stm_named (rules.next c d) h = and_from _ _ (cell c h.0) (cell d h.1)
  stm_named (rules.call cs y) h = all_copies_in cs h
  stm_named (rules.test e y z) h = expr_in e h
  stm_named (rules.try y) h = refl
  stm_named (rules.take i c z) h = cell c h.1
  stm_named (rules.par bs cs) h = and_from _ _ (all_places_in bs h.0) (all_copies_in cs h.1)
  stm_named (rules.goto y) h = refl
  stm_named (rules.throw g j) h = place g h

  news_in : (ns : List New) → NamesNew C ns → news_fit ns ≡ true
  news_in [] h = refl
  news_in (n ∷ ns) h = and_from _ _ (cell n.home h.0) (news_in ns h.1)

  source_in : (o : Option ℕ) → NamesSource C o → from_fits o ≡ true
  source_in None h = refl
  source_in (Some a) h = cell a h

  gots_in : (gs : List Got) → Each (NamesGot C) gs → gots_fit gs ≡ true
  gots_in [] h = refl
  gots_in (g ∷ gs) h =
      and_from _ _
      (and_from _ _ (cell g.own h.0.0)
      (and_from _ _ (cell g.home h.0.1) (source_in g.from h.0.2)))
      (gots_in gs h.1)

  part_in : (p : Part) → NamesPart C W p → part_fits p ≡ true
  part_in plain h = refl
  part_in (calls cs rs) h = all_copies_in cs h
  part_in (tests e) h = expr_in e h
  part_in (loops e) h = expr_in e h
  part_in (tries n) h = refl
  part_in (takes i c) h = and_from _ _ (lt-ltb i 8 h.0) (cell c h.1)

  mutual
    node_in : (u : Node) → NamesNode C W P u → node_fits u ≡ true
    node_in (one at ns s) h = and_from _ _ (news_in ns h.0) (stm_named s h.1)
    node_in (throws at n) h = refl
    node_in (two at ns p a b) h =
        and_from _ _
        (and_from _ _ (news_in ns h.0) (part_in p h.1))
        (and_from _ _ (nodes_in a h.2) (nodes_in b h.3))
    node_in (par at ns bs) h = and_from _ _ (news_in ns h.0) (branches_in bs h.1)

    nodes_in : (us : Nodes) → NamesNodes C W P us → fits us ≡ true
    nodes_in nil h = refl
    nodes_in (seq u us) h = and_from _ _ (node_in u h.0) (nodes_in us h.1)

    branches_in : (bs : Branches) → NamesBranches C W P bs → branches_fit bs ≡ true
    branches_in last h = refl
    branches_in (also g us bs) h =
        and_from _ _ (gots_in g h.0)
        (and_from _ _ (nodes_in us h.1) (branches_in bs h.2))

pub within_fits : (us : Nodes) → UnfoldedWithin us → fits us ≡ true
within_fits us h =
    let n = length (cells 0 us 1) in
    let few = h.1 in
    nodes_in (λ c. c < n) (λ w. Unit {0}) (λ p. ⊥) (λ c l. lt-ltb c 128 (omega arith)) (λ p l. absurd l) us h.0

pub within_named : (n m : ℕ) (s : rules.Stm) → n ≤ 128 → m ≤ 64 → StmWithin n m s → named s ≡ true
within_named n m s a b h =
    stm_named (λ c. c < n) (λ w. Unit {0}) (λ p. p < m) (λ c l. lt-ltb c 128 (omega arith)) (λ p l. lt-ltb p 64 (omega arith)) s h
