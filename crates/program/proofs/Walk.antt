-- A laid-out tree whose cells are right and whose branches share nothing: each point and each place is as it must be.
use Rattle.std.proofs.Common.{◌≡◌, ℕ, suc, ◌+◌, ◌<◌, ◌≤◌, Bool, true, false, cond, not, T, eqb, ◌≢◌, ◌⊎◌, List, [], ◌∷◌, ◌++◌, length, get_or, Some, None, Ok, Option, sym, refl, ap, ◌∙◌, subst, inl, inr, arith, eqb→eq, length-append}
use mathlib.Core.Option.{some, none}
use lib.ListN.{get_or-append}
use Rattle.rules.specs.Programs.{Table, awaits, elem, Copies, pick}
use Rattle.rules.specs.Trees.{here, more, Within, Child, nonzero}
use Rattle.rules.specs.Soundness.{Catches, Leads, Touches, Takes, Copied}
use Rattle.lemmas.proofs.Tests.{T_and, T_or, or_l, or_r, T_dec, same?, eq_eqb, some_none, pair_eq}
use Rattle.reader.specs.Faults.{◌>>=◌, must}
use Rattle.reader.specs.Tokens.{same}
use Rattle.unfold.specs.Unfolded.{Got, Part, plain, calls, tests, loops, tries, takes, Node, one, throws, two, par, Nodes, nil, seq, Branches, last, also}
use Rattle.unfold.specs.Variables.{got_copies}
use Rattle.unfold.specs.Sharing.{owns, homes, part_ports, node_ports, ports, branch_ports, none_in, none_in_any, apart, of_branches, all_ports, names_apart, names_distinct, all_writes, part_sharing, part_tries, node_sharing, sharing, branches_sharing}
use Rattle.program.specs.Layout.{Open, Point, Place, Cell, node_points, points, branch_points, node_placing, placing, branch_placing, part_after, part_stm, part_catches, part_opens, nearest, thrown, branch_list, branch_copies}
use Rattle.program.specs.Sizes.{node_size, size, branch_size, node_places, how_many, branch_places, part_entry, node_entry, entry}
use Rattle.program.proofs.Facts.{tab, Own, Home, CellAt, Good, Fine, nonzero_at, climb_le}
use Rattle.program.proofs.Agree.{Agrees, first, second, node_points_size, points_size, node_placing_size, placing_size, join, onto, elem_left, elem_right, none_both}
use Rattle.program.proofs.Proper.{inert, PartTouches, SharingPart, Source, GotsProper, ProperNode, Proper, ProperBranches}
use Rattle.reader.specs.declared.fault.Cause.TheVariants.{PortTwice, ReferencedTwice, WrittenTwice}
use Rattle.rules.specs.Programs as rules
use Rattle.program.proofs.Results.{bound, must_be}

-- ---- parents stand before their children

module _ (Q : ℕ → Place) (e : ℕ) where
  abbrev Low : ℕ → Type 0
  Low z = (Q z).parent < z

  mutual
    node_low : (u : Node) (p q o : ℕ) → Agrees Q q (node_placing e p u q o) → p < q → (z : ℕ) → q ≤ z → z < q + node_places u → Low z
    node_low (one at ns s) p q o h l = λ z a b. absurd (omega arith)
    node_low (throws at n) p q o h l = λ z a b. absurd (omega arith)
    node_low (two at ns h a b) p q o k l =
        join Low q (how_many a) (how_many b)
        (low a p q (suc o) (first Q q (placing e p a q (suc o)) (placing e p b (q + how_many a) (suc o + size a)) k) l)
        (low b p (q + how_many a) (suc o + size a) (second Q q (how_many a) (placing e p a q (suc o)) (placing e p b (q + how_many a) (suc o + size a)) (placing_size e p a q (suc o)) k) (omega arith))
    node_low (par at ns bs) p q o h l = branch_low bs p o q (suc o) h l

    pub low : (us : Nodes) (p q o : ℕ) → Agrees Q q (placing e p us q o) → p < q → (z : ℕ) → q ≤ z → z < q + how_many us → Low z
    low nil p q o h l = λ z a b. absurd (omega arith)
    low (seq u us) p q o h l =
        let A = node_placing e p u q o in
        let B' = placing e p us (q + node_places u) (o + node_size u) in
        join Low q (node_places u) (how_many us)
        (node_low u p q o (first Q q A B' h) l)
        (low us p (q + node_places u) (o + node_size u) (second Q q (node_places u) A B' (node_placing_size e p u q o) h) (omega arith))

    branch_low : (bs : Branches) (p x q o : ℕ) → Agrees Q q (branch_placing e p x bs q o) → p < q → (z : ℕ) → q ≤ z → z < q + branch_places bs → Low z
    branch_low last p x q o h l z a b = absurd (omega arith)
    branch_low (also g us bs) p x q o h l z a b =
        let A = placing e q us (suc q) o in
        let B' = branch_placing e p x bs (suc q + how_many us) (o + size us) in
        onto Low q (how_many us + branch_places bs) (subst (λ (v : Place). v.parent < q) (sym h.0) l)
        (join Low (suc q) (how_many us) (branch_places bs)
        (low us q (suc q) o (first Q (suc q) A B' h.1) (omega arith))
        (branch_low bs p x (suc q + how_many us) (o + size us) (second Q (suc q) (how_many us) A B' (placing_size e q us (suc q) o) h.1) (omega arith)))
        z a (omega arith)

-- ---- where blocks are entered

module _ (P : ℕ → Point) (e : ℕ) where
  abbrev At : ℕ → ℕ → Type 0
  At y p = (P y).place ≡ p

  -- the first point of a statement
  pub node_first : (u : Node) (p : ℕ) (cs : List ℕ) (rs : List Open) (q o k : ℕ) → Agrees P o (node_points e p cs rs u q o k) → At o p
  node_first (one at ns s) p cs rs q o k h = ap (λ r. r.place) h.0
  node_first (throws at n) p cs rs q o k h = ap (λ r. r.place) h.0
  node_first (two at ns x a b) p cs rs q o k h = ap (λ r. r.place) h.0
  node_first (par at ns bs) p cs rs q o k h = ap (λ r. r.place) h.0

  part_at : (h : Part) (p o i : ℕ) → At o p → At i p → At (part_entry h o i) p
  part_at plain p o i a b = b
  part_at (calls cs rs) p o i a b = a
  part_at (tests x) p o i a b = a
  part_at (loops x) p o i a b = a
  part_at (tries n) p o i a b = a
  part_at (takes j c) p o i a b = a

  pub after_at : (h : Part) (p o k : ℕ) → At o p → At k p → At (part_after h o k) p
  after_at plain p o k a b = b
  after_at (calls cs rs) p o k a b = b
  after_at (tests x) p o k a b = b
  after_at (loops x) p o k a b = a
  after_at (tries n) p o k a b = b
  after_at (takes j c) p o k a b = b

  -- the entry of a statement with a part is the statement, or, of a plain block, the entry of its block
  entered : (h : Part) (p o k : ℕ) (a : Nodes) → At o p → At (entry a (suc o) (part_after h o k)) p → At (part_entry h o (entry a (suc o) k)) p
  entered plain p o k a f i = i
  entered (calls cs rs) p o k a f i = f
  entered (tests x) p o k a f i = f
  entered (loops x) p o k a f i = f
  entered (tries n) p o k a f i = f
  entered (takes j c) p o k a f i = f

  mutual
    pub node_entry_at : (u : Node) (p : ℕ) (cs : List ℕ) (rs : List Open) (q o k : ℕ) → Agrees P o (node_points e p cs rs u q o k) → At k p → At (node_entry u o k) p
    node_entry_at (one at ns s) p cs rs q o k h a = ap (λ r. r.place) h.0
    node_entry_at (throws at n) p cs rs q o k h a = ap (λ r. r.place) h.0
    node_entry_at (two at ns x a b) p cs rs q o k h w =
        let f : At o p = ap (λ r. r.place) h.0 in
        let j = entry b (suc o + size a) k in
        entered x p o k a f
        (entry_at a p (part_catches x j cs) (part_opens x p j cs rs) q (suc o) (part_after x o k)
        (first P (suc o) (points e p (part_catches x j cs) (part_opens x p j cs rs) a q (suc o) (part_after x o k)) (points e p cs rs b (q + how_many a) (suc o + size a) k) h.1) (after_at x p o k f w))
    node_entry_at (par at ns bs) p cs rs q o k h a = ap (λ r. r.place) h.0

    pub entry_at : (us : Nodes) (p : ℕ) (cs : List ℕ) (rs : List Open) (q o k : ℕ) → Agrees P o (points e p cs rs us q o k) → At k p → At (entry us o k) p
    entry_at nil p cs rs q o k h a = a
    entry_at (seq u us) p cs rs q o k h a =
        let k' = entry us (o + node_size u) k in
        let A = node_points e p cs rs u q o k' in
        let B' = points e p cs rs us (q + node_places u) (o + node_size u) k in
        node_entry_at u p cs rs q o k' (first P o A B' h)
        (entry_at us p cs rs (q + node_places u) (o + node_size u) k (second P o (node_size u) A B' (node_points_size e p cs rs u q o k') h) a)

-- ---- kinds of statements

abbrev is_par : rules.Stm → Bool
is_par rules.end = false
is_par (rules.var c) = false
is_par (rules.set c e) = false
is_par rules.know = false
is_par (rules.next c h) = false
is_par (rules.call cs y) = false
is_par (rules.test e y z) = false
is_par (rules.try y) = false
is_par (rules.take i c z) = false
is_par (rules.par bs cs) = true
is_par (rules.goto y) = false
is_par (rules.throw g k) = false

abbrev is_throw : rules.Stm → Bool
is_throw rules.end = false
is_throw (rules.var c) = false
is_throw (rules.set c e) = false
is_throw rules.know = false
is_throw (rules.next c h) = false
is_throw (rules.call cs y) = false
is_throw (rules.test e y z) = false
is_throw (rules.try y) = false
is_throw (rules.take i c z) = false
is_throw (rules.par bs cs) = false
is_throw (rules.goto y) = false
is_throw (rules.throw g k) = true

not_par : (s : rules.Stm) (bs : List ℕ) (cs : Copies) → T (not (is_par s)) → s ≡ rules.par bs cs → ⊥
not_par s bs cs h e = subst (λ (v : rules.Stm). T (not (is_par v))) e h

not_throw : (s : rules.Stm) (g j : ℕ) → T (not (is_throw s)) → s ≡ rules.throw g j → ⊥
not_throw s g j h e = subst (λ (v : rules.Stm). T (not (is_throw v))) e h

inert_not : (s : rules.Stm) → T (inert s) → T (not (is_par s)) × T (not (is_throw s)) × ((k y : ℕ) → Leads s k y → y ≡ k) × ((i : ℕ) → Takes s i → ⊥)
inert_not rules.end h = absurd h
inert_not (rules.var c) h = (tt, tt, λ k y a. a, λ i a. a)
inert_not (rules.set c e) h = (tt, tt, λ k y a. a, λ i a. a)
inert_not rules.know h = (tt, tt, λ k y a. a, λ i a. a)
inert_not (rules.next c d) h = (tt, tt, λ k y a. a, λ i a. a)
inert_not (rules.call cs y) h = absurd h
inert_not (rules.test e y z) h = absurd h
inert_not (rules.try y) h = absurd h
inert_not (rules.take i c z) h = absurd h
inert_not (rules.par bs cs) h = absurd h
inert_not (rules.goto y) h = absurd h
inert_not (rules.throw g k) h = absurd h

part_not : (h : Part) (i j k : ℕ) → T (not (is_par (part_stm h i j k))) × T (not (is_throw (part_stm h i j k))) × (awaits (part_stm h i j k) ≡ none)
part_not plain i j k = (tt, tt, refl)
part_not (calls cs rs) i j k = (tt, tt, refl)
part_not (tests x) i j k = (tt, tt, refl)
part_not (loops x) i j k = (tt, tt, refl)
part_not (tries n) i j k = (tt, tt, refl)
part_not (takes p c) i j k = (tt, tt, refl)

part_leads : (h : Part) (i j k y : ℕ) → Leads (part_stm h i j k) k y → (y ≡ i) ⊎ ((y ≡ j) ⊎ (y ≡ k))
part_leads plain i j k y a = inl a
part_leads (calls cs rs) i j k y a = inl a
part_leads (tests x) i j k y (inl a) = inl a
part_leads (tests x) i j k y (inr a) = inr (inl a)
part_leads (loops x) i j k y (inl a) = inl a
part_leads (loops x) i j k y (inr a) = inr (inr a)
part_leads (tries n) i j k y a = inl a
part_leads (takes p c) i j k y (inl a) = inr (inr a)
part_leads (takes p c) i j k y (inr a) = inl a

part_touches : (h : Part) (i j k a : ℕ) → Touches (part_stm h i j k) a → PartTouches h a
part_touches plain i j k a t = t
part_touches (calls cs rs) i j k a t = t
part_touches (tests x) i j k a t = t
part_touches (loops x) i j k a t = t
part_touches (tries n) i j k a t = t
part_touches (takes p c) i j k a t = t

part_takes : (h : Part) (i j k a : ℕ) → Takes (part_stm h i j k) a → T (elem a (part_ports h))
part_takes plain i j k a t = absurd t
part_takes (calls cs rs) i j k a t = absurd t
part_takes (tests x) i j k a t = absurd t
part_takes (loops x) i j k a t = absurd t
part_takes (tries n) i j k a t = absurd t
part_takes (takes p c) i j k a t = or_l (eqb a p) false (eq_eqb a p t)

part_is_shared : (h : Part) (at : ℕ) (u : Unit {0}) → part_sharing at h ≡ Ok u → SharingPart h
part_is_shared plain at u e = tt
part_is_shared (calls cs rs) at u e = must_be (names_distinct rs) ReferencedTwice at u e
part_is_shared (tests x) at u e = tt
part_is_shared (loops x) at u e = tt
part_is_shared (tries n) at u e = tt
part_is_shared (takes i c) at u e = tt

-- ---- copies

abbrev pub Pairs : (ℕ → Type 0) → Copies → Type 0
Pairs R [] = Unit {0}
Pairs R (d ∷ ds) = R d.0 × R d.1 × Pairs R ds

picked : (R : ℕ → Type 0) (cs : Copies) (c a : ℕ) → Pairs R cs → pick cs c ≡ some a → R c × R a
picked R [] c a h e = absurd (let z : ◌≡◌ {A = ℕ} 0 1 = cc in omega arith)
picked R (d ∷ ds) c a h e = go (λ i. picked R ds c a h.2 i) (T_dec (eqb c d.0))
  where
    go : (pick ds c ≡ some a → R c × R a) → T (eqb c d.0) ⊎ (T (eqb c d.0) → ⊥) → R c × R a
    go f (inl t) =
        let i : c ≡ d.0 = eqb→eq c d.0 t in
        let j : some d.1 ≡ some a = subst (λ (b : Bool). cond b (some d.1) (pick ds c) ≡ some a) (Rattle.lemmas.proofs.Tests.T_true (eqb c d.0) t) e in
        let k : d.1 ≡ a = cc in
        (subst R (sym i) h.0, subst R k h.1)
    go f (inr n) =
        f (subst (λ (b : Bool). cond b (some d.1) (pick ds c) ≡ some a) (Rattle.lemmas.proofs.Tests.T_false (eqb c d.0) n) e)

pub copied : (R : ℕ → Type 0) (cs : Copies) (a : ℕ) → Pairs R cs → Copied cs a → R a
copied R cs a h (inl t) = (picked R cs t.0 a h t.1).1
copied R cs a h (inr t) = (picked R cs a t.0 h t.1).0

pairs_join : (R : ℕ → Type 0) (cs ds : Copies) → Pairs R cs → Pairs R ds → Pairs R (cs ++ ds)
pairs_join R [] ds h k = k
pairs_join R (c ∷ cs) ds h k = (h.0, h.1, pairs_join R cs ds h.2 k)

got_pairs : (C : ℕ → Cell) (p : ℕ) (g gs : List Got) → GotsProper C p g gs → Pairs (CellAt C p g) (got_copies gs)
got_pairs C p g [] h = tt
got_pairs C p g (x ∷ xs) h = go (got_pairs C p g xs h.1) x.from h.0.3
  where
    go : Pairs (CellAt C p g) (got_copies xs) → (o : Option ℕ) → Source C p g o → Pairs (CellAt C p g) (elim o [ None ↦ got_copies xs | Some a ↦ (x.own, a) ∷ got_copies xs ])
    go r None s = r
    go r (Some a) s = ((h.0.1, subst (λ (v : ℕ). Home C p g v) (sym h.0.0) h.0.2), s, r)

branch_pairs : (C : ℕ → Cell) (p : ℕ) (g : List Got) (bs : Branches) (q : ℕ) → ProperBranches C p g bs q → Pairs (CellAt C p g) (branch_copies bs)
branch_pairs C p g last q h = tt
branch_pairs C p g (also x us bs) q h =
    pairs_join (CellAt C p g) (got_copies x) (branch_copies bs) (got_pairs C p g x h.0) (branch_pairs C p g bs (suc q + how_many us) h.2)

gots_own : (C : ℕ → Cell) (p : ℕ) (g gs : List Got) → GotsProper C p g gs → (a : ℕ) → T (elem a (owns gs)) → Own C p g a
gots_own C p g [] h a t = absurd t
gots_own C p g (x ∷ xs) h a t =
    elim (T_or (eqb a x.own) (elem a (owns xs)) t) [
      | inl e ↦ subst (λ (v : ℕ). Own C p g v) (sym (eqb→eq a x.own e)) h.0.1
      | inr k ↦ gots_own C p g xs h.1 a k
    ]

gots_home : (C : ℕ → Cell) (p : ℕ) (g gs : List Got) → GotsProper C p g gs → (a : ℕ) → T (elem a (homes gs)) → Home C p g a
gots_home C p g [] h a t = absurd t
gots_home C p g (x ∷ xs) h a t =
    elim (T_or (eqb a x.home) (elem a (homes xs)) t) [
      | inl e ↦ subst (λ (v : ℕ). Home C p g v) (sym (eqb→eq a x.home e)) h.0.2
      | inr k ↦ gots_home C p g xs h.1 a k
    ]

-- ---- the branches of a par, in the list of places

module _ (Q : ℕ → Place) (e p x : ℕ) where
  pub arms : (bs : Branches) (q o : ℕ) → Agrees Q q (branch_placing e p x bs q o) → (c : ℕ) → T (elem c (branch_list bs q))
      → (q ≤ c) × (c < q + branch_places bs) × ((Q c).under ≡ x)
  arms last q o h c t = absurd t
  arms (also g us bs) q o h c t =
      let A = placing e q us (suc q) o in
      let B' = branch_placing e p x bs (suc q + how_many us) (o + size us) in
      elim (T_or (eqb c q) (elem c (branch_list bs (suc q + how_many us))) t) [
        | inl i ↦
            let j = eqb→eq c q i in
            (omega arith, omega arith, subst (λ (v : ℕ). (Q v).under ≡ x) (sym j) (ap (λ r. r.under) h.0))
        | inr i ↦
            let k = arms bs (suc q + how_many us) (o + size us) (second Q (suc q) (how_many us) A B' (placing_size e q us (suc q) o) h.1) c i in
            (omega arith, omega arith, k.2)
      ]

  -- a list of each branch, which its place has too
  module _
      (f : List Got → Nodes → List ℕ) (F : Place → List ℕ)
      (of : (g : List Got) (us : Nodes) (s : ℕ) → F (record { parent = p; under = x; start = s; got = g; ports = ports us }) ≡ f g us)
    where
      away : (bs : Branches) (q o : ℕ) → Agrees Q q (branch_placing e p x bs q o) → (l : List ℕ) → T (none_in_any l (of_branches f bs))
          → (c a : ℕ) → T (elem c (branch_list bs q)) → T (elem a l) → T (elem a (F (Q c))) → ⊥
      away last q o h l n c a t i j = t
      away (also g us bs) q o h l n c a t i j =
          let A = placing e q us (suc q) o in
          let B' = branch_placing e p x bs (suc q + how_many us) (o + size us) in
          let m = T_and (none_in l (f g us)) (none_in_any l (of_branches f bs)) n in
          elim (T_or (eqb c q) (elem c (branch_list bs (suc q + how_many us))) t) [
            | inl k ↦
                none_both a l (f g us) m.0 i
                (subst (λ (v : List ℕ). T (elem a v)) (ap F h.0 ∙ of g us (entry us o (e + q))) (subst (λ (v : ℕ). T (elem a (F (Q v)))) (eqb→eq c q k) j))
            | inr k ↦
                away bs (suc q + how_many us) (o + size us) (second Q (suc q) (how_many us) A B' (placing_size e q us (suc q) o) h.1) l m.1 c a k i j
          ]

      pub unshared : (bs : Branches) (q o : ℕ) → Agrees Q q (branch_placing e p x bs q o) → T (apart (of_branches f bs))
          → (c d a : ℕ) → T (elem c (branch_list bs q)) → T (elem d (branch_list bs q)) → c ≢ d → T (elem a (F (Q c))) → T (elem a (F (Q d))) → ⊥
      unshared last q o h n c d a t u ne i j = t
      unshared (also g us bs) q o h n c d a t u ne i j =
          let A = placing e q us (suc q) o in
          let B' = branch_placing e p x bs (suc q + how_many us) (o + size us) in
          let r = second Q (suc q) (how_many us) A B' (placing_size e q us (suc q) o) h.1 in
          let m = T_and (none_in_any (f g us) (of_branches f bs)) (apart (of_branches f bs)) n in
          let mine : F (Q q) ≡ f g us = ap F h.0 ∙ of g us (entry us o (e + q)) in
          elim (T_or (eqb c q) (elem c (branch_list bs (suc q + how_many us))) t) [
            | inl k ↦
                elim (T_or (eqb d q) (elem d (branch_list bs (suc q + how_many us))) u) [
                  | inl l ↦ ne (eqb→eq c q k ∙ sym (eqb→eq d q l))
                  | inr l ↦
                      away bs (suc q + how_many us) (o + size us) r (f g us) m.0 d a l
                      (subst (λ (v : List ℕ). T (elem a v)) mine (subst (λ (v : ℕ). T (elem a (F (Q v)))) (eqb→eq c q k) i)) j
                ]
            | inr k ↦
                elim (T_or (eqb d q) (elem d (branch_list bs (suc q + how_many us))) u) [
                  | inl l ↦
                      away bs (suc q + how_many us) (o + size us) r (f g us) m.0 c a k
                      (subst (λ (v : List ℕ). T (elem a v)) mine (subst (λ (v : ℕ). T (elem a (F (Q v)))) (eqb→eq d q l) j)) i
                  | inr l ↦ unshared bs (suc q + how_many us) (o + size us) r m.1 c d a k l ne i j
                ]
          ]

-- ---- the walk

last_of : (cs : List ℕ) (j : ℕ) → get_or (cs ++ (j ∷ [])) (length cs) 0 ≡ j
last_of [] j = refl
last_of (c ∷ cs) j = last_of cs j

module _
    (P : ℕ → Point) (Q : ℕ → Place) (C : ℕ → Cell) (n e : ℕ)
    (lower : (q : ℕ) → T (nonzero q) → (Q q).parent < q)
    (ending : (q : ℕ) → q < n → (P (e + q)).place ≡ q)
  where
    abbrev t : Table
    t = tab P Q C n

    -- an open try of p, or of a place above it
    abbrev Outside : ℕ → Open → Type 0
    Outside p r =
        T (nonzero p)
        × Within t r.place (Q p).parent
        × ((c : ℕ) → Child t r.place c → Within t c p → Catches t (Q c).under r.number)

    abbrev Inside : ℕ → List ℕ → Open → Type 0
    Inside p cs r = (r.place ≡ p) × ((j : ℕ) × (r.number ≡ suc j) × (j < length cs) × (get_or cs j 0 ≡ r.catch))

    abbrev TryOk : ℕ → List ℕ → Open → Type 0
    TryOk p cs r = ((P r.catch).place ≡ r.place) × (Inside p cs r ⊎ Outside p r)

    abbrev TriesOk : ℕ → List ℕ → List Open → Type 0
    TriesOk p cs [] = Unit {0}
    TriesOk p cs (r ∷ rs) = TryOk p cs r × TriesOk p cs rs

    longer : (p j : ℕ) (cs : List ℕ) (rs : List Open) → TriesOk p cs rs → TriesOk p (cs ++ (j ∷ [])) rs
    longer p j cs [] h = tt
    longer p j cs (r ∷ rs) h = (
      (
        h.0.0,
        elim h.0.1 [
          | inl i ↦
              let k = i.1 in
              let l = length-append cs (j ∷ []) in
              inl (i.0, (k.0, k.1, omega arith, get_or-append cs (j ∷ []) 0 k.0 k.2 ∙ k.3))
          | inr o ↦ inr o
        ],
      ),
      longer p j cs rs h.1,
    )

    opened : (h : Part) (p j : ℕ) (cs : List ℕ) (rs : List Open) → (P j).place ≡ p → TriesOk p cs rs → TriesOk p (part_catches h j cs) (part_opens h p j cs rs)
    opened plain p j cs rs a k = k
    opened (calls ds ss) p j cs rs a k = k
    opened (tests x) p j cs rs a k = k
    opened (loops x) p j cs rs a k = k
    opened (tries m) p j cs rs a k =
        let l = length-append cs (j ∷ []) in
        ((a, inl (refl, (length cs, refl, omega arith, last_of cs j))), longer p j cs rs k)
    opened (takes i c) p j cs rs a k = k

    -- from a par at x of p into its branch q
    entering : (p x q : ℕ) (cs : List ℕ) (rs : List Open) → T (nonzero q) → (Q q).parent ≡ p → (Q q).under ≡ x → (P x).place ≡ p → (P x).catches ≡ cs
        → TriesOk p cs rs → TriesOk q [] rs
    entering p x q cs [] z a b f g h = tt
    entering p x q cs (r ∷ rs) z a b f g h =
        ((h.0.0, inr (elim h.0.1 [ inl i ↦ own i | inr o ↦ far o ])), entering p x q cs rs z a b f g h.1)
      where
        own : Inside p cs r → Outside q r
        own i = (z, here (a ∙ sym i.0), λ c ch w. at c ch w)
          where
            at : (c : ℕ) → Child t r.place c → Within t c q → Catches t (Q c).under r.number
            at c ch (here m) =
                let k = i.1 in
                let u : (Q c).under ≡ x = ap (λ v. (Q v).under) (sym m) ∙ b in
                subst (λ (v : ℕ). Catches t (Q c).under v) (sym k.1)
                (subst (λ (v : ℕ). (P (get_or (P v).catches k.0 0)).place ≡ (P v).place) (sym u)
                (subst (λ (v : List ℕ). (P (get_or v k.0 0)).place ≡ (P x).place) (sym g)
                (ap (λ v. (P v).place) k.3 ∙ h.0.0 ∙ i.0 ∙ sym f)))
            at c ch (more y w) =
                let l = lower c ch.0 in
                let m = climb_le P Q C n lower w in
                let s = ch.1 in
                let d = i.0 in
                absurd (omega arith)

        far : Outside p r → Outside q r
        far o =
            (z, subst (λ (v : ℕ). Within t r.place v) (sym a) (more o.0 o.1), λ c ch w. at c ch w)
          where
            at : (c : ℕ) → Child t r.place c → Within t c q → Catches t (Q c).under r.number
            at c ch (here m) =
                let l = lower p o.0 in
                let k = climb_le P Q C n lower o.1 in
                let s : (Q c).parent ≡ p = ap (λ v. (Q v).parent) (sym m) ∙ a in
                let d = ch.1 in
                absurd (omega arith)
            at c ch (more y w) = o.2 c ch (subst (λ (v : ℕ). Within t c v) a w)

    near : (p : ℕ) (cs : List ℕ) (m : List ℕ) (rs : List Open) → TriesOk p cs rs → (r : Open) → nearest m rs ≡ Some r → TryOk p cs r
    near p cs m [] h r i = absurd (let z : ◌≡◌ {A = ℕ} 0 1 = cc in omega arith)
    near p cs m (s ∷ rs) h r i = go (same m s.name) (λ k. near p cs m rs h.1 r k) i
      where
        go : (b : Bool) → (nearest m rs ≡ Some r → TryOk p cs r) → ◌≡◌ {A = Option Open} (elim b [ true ↦ Some s | false ↦ nearest m rs ]) (Some r) → TryOk p cs r
        go true f k = let l : s ≡ r = cc in subst (λ (v : Open). TryOk p cs v) l h.0
        go false f k = f k

    abbrev Pts : ℕ → ℕ → Type 0
    Pts o m = (x : ℕ) → o ≤ x → x < o + m → Good P Q C n x (P x)

    abbrev Pls : ℕ → ℕ → Type 0
    Pls q m = (z : ℕ) → q ≤ z → z < q + m → Fine P Q C z

    -- a statement that neither parts nor throws
    calm : (x : ℕ) (r : Point) → r.place < n → ((y : ℕ) → Leads r.stm r.after y → (P y).place ≡ r.place)
        → T (not (is_par r.stm)) → T (not (is_throw r.stm)) → ((c h : ℕ) → awaits r.stm ≡ some (c, h) → (C c).home ≡ h)
        → ((a : ℕ) → Touches r.stm a → CellAt C r.place (Q r.place).got a) → ((i : ℕ) → Takes r.stm i → T (elem i (Q r.place).ports))
        → Good P Q C n x r
    calm x r i l np nt h o k =
        record {
          inside = i;
          leads = l;
          branch = λ bs cs eq. absurd (not_par r.stm bs cs np eq);
          disjoint = λ bs cs eq. absurd (not_par r.stm bs cs np eq);
          thrown = λ g j eq. absurd (not_throw r.stm g j nt eq);
          caught = λ g j eq. absurd (not_throw r.stm g j nt eq);
          next_home = h;
          touch = o;
          take = k;
        }

    -- an end
    pub over : (x : ℕ) (r : Point) → r.place < n → r.stm ≡ rules.end → Good P Q C n x r
    over x r i eq =
        calm x r i (λ y l. absurd (subst (λ (v : rules.Stm). Leads v r.after y) eq l)) (subst (λ (v : rules.Stm). T (not (is_par v))) (sym eq) tt)
        (subst (λ (v : rules.Stm). T (not (is_throw v))) (sym eq) tt) (λ c h a. some_none (c, h) (awaits r.stm) a (ap awaits eq))
        (λ a l. absurd (subst (λ (v : rules.Stm). Touches v a) eq l)) (λ a l. absurd (subst (λ (v : rules.Stm). Takes v a) eq l))

    throw_eq : (a b c d : ℕ) → rules.throw a b ≡ rules.throw c d → (a ≡ c) × (b ≡ d)
    throw_eq a b c d i = (cc, cc)

    thrown_at : (x p k at : ℕ) (cs : List ℕ) → p < n → (r : Open) → TryOk p cs r → (b : Bool) → eqb r.place p ≡ b
        → Good P Q C n x (record { place = p; stm = cond b (rules.goto r.catch) (rules.throw r.place r.number); after = k; catches = cs; offset = at })
    thrown_at x p k at cs l r h true i =
        calm x (record { place = p; stm = rules.goto r.catch; after = k; catches = cs; offset = at }) l
        (λ y m. ap (λ v. (P v).place) m ∙ h.0 ∙ eqb→eq r.place p (subst T (sym i) tt)) tt tt (λ c d a. some_none (c, d) none a refl) (λ a m. absurd m) (λ a m. absurd m)
    thrown_at x p k at cs l r h false i =
        let o : Outside p r = out h.1 in
        record {
          inside = l;
          leads = λ y m. absurd m;
          branch = λ bs ds eq. absurd (not_par (rules.throw r.place r.number) bs ds tt eq);
          disjoint = λ bs ds eq. absurd (not_par (rules.throw r.place r.number) bs ds tt eq);
          thrown = λ g j eq. (o.0, subst (λ (v : ℕ). Within t v (Q p).parent) (throw_eq r.place r.number g j eq).0 o.1);
          caught = λ g j eq c ch w.
              let m = throw_eq r.place r.number g j eq in
              subst (λ (v : ℕ). Catches t (Q c).under v) m.1 (o.2 c (subst (λ (v : ℕ). Child t v c) (sym m.0) ch) w);
          next_home = λ c d a. some_none (c, d) none a refl;
          touch = λ a m. absurd m;
          take = λ a m. absurd m;
        }
      where
        out : Inside p cs r ⊎ Outside p r → Outside p r
        out (inl j) = absurd (subst T i (eq_eqb r.place p j.0))
        out (inr j) = j

    throw_good : (x p k at : ℕ) (cs : List ℕ) → p < n → (s : Option Open) → ((r : Open) → s ≡ Some r → TryOk p cs r)
        → Good P Q C n x (record { place = p; stm = thrown p s; after = k; catches = cs; offset = at })
    throw_good x p k at cs l None h = over x (record { place = p; stm = rules.end; after = k; catches = cs; offset = at }) l refl
    throw_good x p k at cs l (Some r) h = thrown_at x p k at cs l r (h r refl) (eqb r.place p) refl

    abbrev Ctx : ℕ → List Got → ℕ → ℕ → ℕ → List ℕ → Type 0
    Ctx p g k q m l =
        ((Q p).got ≡ g) × ((P k).place ≡ p) × (p < q) × (q + m ≤ n) × ((i : ℕ) → T (elem i l) → T (elem i (Q p).ports))

    into_own : (q p : ℕ) (g : List Got) → (Q q).parent ≡ p → (Q p).got ≡ g → (a : ℕ) → Own C p g a → Own C (Q q).parent (Q (Q q).parent).got a
    into_own q p g i j a h = subst (λ (v : ℕ). Own C v (Q v).got a) (sym i) (subst (λ (v : List Got). Own C p v a) (sym j) h)

    into_home : (q p : ℕ) (g : List Got) → (Q q).parent ≡ p → (Q p).got ≡ g → (a : ℕ) → Home C p g a → Home C (Q q).parent (Q (Q q).parent).got a
    into_home q p g i j a h = subst (λ (v : ℕ). Home C v (Q v).got a) (sym i) (subst (λ (v : List Got). Home C p v a) (sym j) h)

    par_eq : (bs bs' : List ℕ) (cs cs' : Copies) → rules.par bs cs ≡ rules.par bs' cs' → bs ≡ bs'
    par_eq bs bs' cs cs' i = cc

    par_good : (p : ℕ) (g : List Got) (cs : List ℕ) (bs : Branches) (q o k at : ℕ)
        → Agrees Q q (branch_placing e p o bs q (suc o)) → ProperBranches C p g bs q → T (apart (of_branches (λ g us. owns g) bs)) → T (apart (all_ports bs))
        → Ctx p g k q (branch_places bs) (branch_ports bs)
        → Good P Q C n o (record { place = p; stm = rules.par (branch_list bs q) (branch_copies bs); after = k; catches = cs; offset = at })
    par_good p g cs bs q o k at b w ao ap' x =
        let l = x.2 in
        let m = x.3 in
        record {
          inside = omega arith;
          leads = λ y i. ap (λ v. (P v).place) i ∙ x.1;
          branch = λ bs' cs' eq c i.
              let h = arms Q e p o bs q (suc o) b c (subst (λ (v : List ℕ). T (elem c v)) (sym (par_eq (branch_list bs q) bs' (branch_copies bs) cs' eq)) i) in
              (nonzero_at c (omega arith), h.2, omega arith);
          disjoint = λ bs' cs' eq c d a i j ne.
              let back : bs' ≡ branch_list bs q = sym (par_eq (branch_list bs q) bs' (branch_copies bs) cs' eq) in
              let i' = subst (λ (v : List ℕ). T (elem c v)) back i in
              let j' = subst (λ (v : List ℕ). T (elem d v)) back j in (
                unshared Q e p o (λ g us. owns g) (λ r. owns r.got) (λ g us s. refl) bs q (suc o) b ao c d a i' j' ne,
                unshared Q e p o (λ g us. ports us) (λ r. r.ports) (λ g us s. refl) bs q (suc o) b ap' c d a i' j' ne,
              );
          thrown = λ g j eq. absurd (not_throw (rules.par (branch_list bs q) (branch_copies bs)) g j tt eq);
          caught = λ g j eq. absurd (not_throw (rules.par (branch_list bs q) (branch_copies bs)) g j tt eq);
          next_home = λ c d a. some_none (c, d) none a refl;
          touch = λ a i.
              subst (λ (v : List Got). CellAt C p v a) (sym x.0) (copied (CellAt C p g) (branch_copies bs) a (branch_pairs C p g bs q w) i);
          take = λ a i. absurd i;
        }

    mutual
      walk_node : (u : Node) (p : ℕ) (g : List Got) (cs : List ℕ) (rs : List Open) (ts : List (List ℕ)) (q o k : ℕ)
          → Agrees P o (node_points e p cs rs u q o k) → Agrees Q q (node_placing e p u q o) → ProperNode C p g u q → node_sharing ts u ≡ Ok tt
          → Ctx p g k q (node_places u) (node_ports u) → TriesOk p cs rs → Pts o (node_size u) × Pls q (node_places u)
      walk_node (one at ns s) p g cs rs ts q o k a b w f x y =
          let l = x.2 in
          let m = x.3 in
          let i = inert_not s w.0 in (
            onto (λ v. Good P Q C n v (P v)) o 0
                (subst (λ (v : Point). Good P Q C n o v) (sym a.0)
                (calm o (record { place = p; stm = s; after = k; catches = cs; offset = at }) (omega arith) (λ z h. ap (λ v. (P v).place) (i.2 k z h) ∙ x.1) i.0 i.1 w.2
                (λ c h. subst (λ (v : List Got). CellAt C p v c) (sym x.0) (w.1 c h)) (λ c h. absurd (i.3 c h))))
                (λ v h j. absurd (omega arith)),
            λ v h j. absurd (omega arith),
          )
      walk_node (throws at m) p g cs rs ts q o k a b w f x y =
          let l = x.2 in
          let j = x.3 in (
            onto (λ v. Good P Q C n v (P v)) o 0
                (subst (λ (v : Point). Good P Q C n o v) (sym a.0) (throw_good o p k at cs (omega arith) (nearest m rs) (near p cs m rs y)))
                (λ v h j. absurd (omega arith)),
            λ v h j. absurd (omega arith),
          )
      walk_node (two at ns h d c) p g cs rs ts q o k a b w f x y =
          let l = x.2 in
          let m = x.3 in
          let oc = suc o + size d in
          let qc = q + how_many d in
          let j = entry c oc k in
          let cs' = part_catches h j cs in
          let rs' = part_opens h p j cs rs in
          let kd = part_after h o k in
          let D = points e p cs' rs' d q (suc o) kd in
          let E = points e p cs rs c qc oc k in
          let aD = first P (suc o) D E a.1 in
          let aE = second P (suc o) (size d) D E (points_size e p cs' rs' d q (suc o) kd) a.1 in
          let bD = first Q q (placing e p d q (suc o)) (placing e p c qc oc) b in
          let bE = second Q q (how_many d) (placing e p d q (suc o)) (placing e p c qc oc) (placing_size e p d q (suc o)) b in
          let f0 = bound (part_sharing at h) (λ u. sharing (part_tries ts h) d >>= (λ z. sharing ts c)) tt f in
          let f1 = bound (sharing (part_tries ts h) d) (λ z. sharing ts c) tt f0.2 in
          let here' : (P o).place ≡ p = ap (λ r. r.place) a.0 in
          let atj : (P j).place ≡ p = entry_at P e c p cs rs qc oc k aE x.1 in
          let atk : (P kd).place ≡ p = after_at P e h p o k here' x.1 in
          let ati : (P (entry d (suc o) kd)).place ≡ p = entry_at P e d p cs' rs' q (suc o) kd aD atk in
          let i = part_not h (entry d (suc o) kd) j k in
          let rd = walk d p g cs' rs' (part_tries ts h) q (suc o) kd aD bD (w.1 (part_is_shared h at f0.0 f0.1)) f1.1
          (x.0, atk, l, omega arith, λ z r. x.4 z (elem_right z (part_ports h) (ports d ++ ports c) (elem_left z (ports d) (ports c) r))) (opened h p j cs rs atj y) in
          let rc = walk c p g cs rs ts qc oc k aE bE w.2 f1.2
          (x.0, x.1, omega arith, omega arith, λ z r. x.4 z (elem_right z (part_ports h) (ports d ++ ports c) (elem_right z (ports d) (ports c) r))) y in (
            onto (λ v. Good P Q C n v (P v)) o (size d + size c)
                (subst (λ (v : Point). Good P Q C n o v) (sym a.0)
                (calm o (record { place = p; stm = part_stm h (entry d (suc o) kd) j k; after = k; catches = cs; offset = at }) (omega arith)
                (λ z r. elim (part_leads h (entry d (suc o) kd) j k z r) [
                  | inl v ↦ ap (λ v. (P v).place) v ∙ ati
                  | inr v ↦ elim v [ inl v ↦ ap (λ v. (P v).place) v ∙ atj | inr v ↦ ap (λ v. (P v).place) v ∙ x.1 ]
                ])
                i.0 i.1 (λ v z r. some_none (v, z) (awaits (part_stm h (entry d (suc o) kd) j k)) r i.2)
                (λ v r. subst (λ (z : List Got). CellAt C p z v) (sym x.0) (w.0 v (part_touches h (entry d (suc o) kd) j k v r)))
                (λ v r. x.4 v (elem_left v (part_ports h) (ports d ++ ports c) (part_takes h (entry d (suc o) kd) j k v r)))))
                (join (λ v. Good P Q C n v (P v)) (suc o) (size d) (size c) rd.0 rc.0),
            join (λ v. Fine P Q C v) q (how_many d) (how_many c) rd.1 rc.1,
          )
      walk_node (par at ns bs) p g cs rs ts q o k a b w f x y =
          let f0 = bound (must (names_apart (all_writes bs)) WrittenTwice at) (λ u. must (apart (all_ports bs)) PortTwice at >>= (λ z. branches_sharing ts bs)) tt f in
          let f1 = bound (must (apart (all_ports bs)) PortTwice at) (λ z. branches_sharing ts bs) tt f0.2 in
          let r = walk_branches bs p g o rs cs ts q (suc o) (branch_list bs q) (branch_copies bs) a.1 b w.0 f1.2
          (x.0, ap (λ r. r.place) a.0, x.2, x.3, x.4) (ap (λ r. r.stm) a.0) (ap (λ r. r.catches) a.0) (λ c i. i) y in (
            onto (λ v. Good P Q C n v (P v)) o (branch_size bs)
                (subst (λ (v : Point). Good P Q C n o v) (sym a.0)
                (par_good p g cs bs q o k at b w.0 (w.1 (must_be (names_apart (all_writes bs)) WrittenTwice at f0.0 f0.1)) (must_be (apart (all_ports bs)) PortTwice at f1.0 f1.1) x))
                r.0,
            r.1,
          )

      pub walk : (us : Nodes) (p : ℕ) (g : List Got) (cs : List ℕ) (rs : List Open) (ts : List (List ℕ)) (q o k : ℕ)
          → Agrees P o (points e p cs rs us q o k) → Agrees Q q (placing e p us q o) → Proper C p g us q → sharing ts us ≡ Ok tt
          → Ctx p g k q (how_many us) (ports us) → TriesOk p cs rs → Pts o (size us) × Pls q (how_many us)
      walk nil p g cs rs ts q o k a b w f x y = (λ v h j. absurd (omega arith), λ v h j. absurd (omega arith))
      walk (seq u us) p g cs rs ts q o k a b w f x y =
          let l = x.2 in
          let m = x.3 in
          let o' = o + node_size u in
          let q' = q + node_places u in
          let k' = entry us o' k in
          let A = node_points e p cs rs u q o k' in
          let B' = points e p cs rs us q' o' k in
          let aB = second P o (node_size u) A B' (node_points_size e p cs rs u q o k') a in
          let f0 = bound (node_sharing ts u) (λ z. sharing ts us) tt f in
          let r = walk_node u p g cs rs ts q o k' (first P o A B' a) (first Q q (node_placing e p u q o) (placing e p us q' o') b) w.0 f0.1
          (x.0, entry_at P e us p cs rs q' o' k aB x.1, l, omega arith, λ i h. x.4 i (elem_left i (node_ports u) (ports us) h)) y in
          let s = walk us p g cs rs ts q' o' k aB
          (second Q q (node_places u) (node_placing e p u q o) (placing e p us q' o') (node_placing_size e p u q o) b) w.1 f0.2
          (x.0, x.1, omega arith, omega arith, λ i h. x.4 i (elem_right i (node_ports u) (ports us) h)) y in
          (join (λ v. Good P Q C n v (P v)) o (node_size u) (size us) r.0 s.0, join (λ v. Fine P Q C v) q (node_places u) (how_many us) r.1 s.1)

      -- the branches of the par at x of p
      walk_branches : (bs : Branches) (p : ℕ) (g : List Got) (x : ℕ) (rs : List Open) (cs : List ℕ) (ts : List (List ℕ)) (q o : ℕ) (whole : List ℕ) (copies : Copies)
          → Agrees P o (branch_points e rs bs q o) → Agrees Q q (branch_placing e p x bs q o) → ProperBranches C p g bs q → branches_sharing ts bs ≡ Ok tt
          → Ctx p g x q (branch_places bs) (branch_ports bs) → (P x).stm ≡ rules.par whole copies → (P x).catches ≡ cs
          → ((c : ℕ) → T (elem c (branch_list bs q)) → T (elem c whole)) → TriesOk p cs rs
          → Pts o (branch_size bs) × Pls q (branch_places bs)
      walk_branches last p g x rs cs ts q o whole copies a b w f y s c i z = (λ v h j. absurd (omega arith), λ v h j. absurd (omega arith))
      walk_branches (also d us bs) p g x rs cs ts q o whole copies a b w f y s c i z =
          let l = y.2 in
          let m = y.3 in
          let q' = suc q + how_many us in
          let o' = o + size us in
          let A = points e q [] rs us (suc q) o (e + q) in
          let B' = branch_points e rs bs q' o' in
          let aA = first P o A B' a in
          let aB = second P o (size us) A B' (points_size e q [] rs us (suc q) o (e + q)) a in
          let bA = first Q (suc q) (placing e q us (suc q) o) (branch_placing e p x bs q' o') b.1 in
          let bB = second Q (suc q) (how_many us) (placing e q us (suc q) o) (branch_placing e p x bs q' o') (placing_size e q us (suc q) o) b.1 in
          let f0 = bound (sharing ts us) (λ z. branches_sharing ts bs) tt f in
          let parent : (Q q).parent ≡ p = ap (λ r. r.parent) b.0 in
          let under : (Q q).under ≡ x = ap (λ r. r.under) b.0 in
          let got : (Q q).got ≡ d = ap (λ r. r.got) b.0 in
          let prt : (Q q).ports ≡ ports us = ap (λ r. r.ports) b.0 in
          let zq : T (nonzero q) = nonzero_at q (omega arith) in
          let lq : q < n = omega arith in
          let fine : Fine P Q C q =
          record {
            under = ap (λ v. (P v).place) under ∙ y.1 ∙ sym parent;
            branch = (whole, copies, ap (λ v. (P v).stm) under ∙ s, i q (or_l (eqb q q) (elem q (branch_list bs q')) (eq_eqb q q refl)));
            start = ap (λ v. (P v).place) (ap (λ r. r.start) b.0) ∙ entry_at P e us q [] rs (suc q) o (e + q) aA (ending q lq);
            got = λ v h. into_own q p g parent y.0 v (gots_own C p g d w.0 v (subst (λ (r : List Got). T (elem v (owns r))) got h));
            home = λ v h. into_home q p g parent y.0 v (gots_home C p g d w.0 v (subst (λ (r : List Got). T (elem v (homes r))) got h));
            port = λ v h.
                subst (λ (r : ℕ). T (elem v (Q r).ports)) (sym parent)
                (y.4 v (elem_left v (ports us) (branch_ports bs) (subst (λ (r : List ℕ). T (elem v r)) prt h)));
          } in
          let r = walk us q d [] rs ts (suc q) o (e + q) aA bA w.1 f0.1
          (got, ending q lq, omega arith, omega arith, λ v h. subst (λ (r : List ℕ). T (elem v r)) (sym prt) h)
          (entering p x q cs rs zq parent under y.1 c z) in
          let u = walk_branches bs p g x rs cs ts q' o' whole copies aB bB w.2 f0.2
          (y.0, y.1, omega arith, omega arith, λ v h. y.4 v (elem_right v (ports us) (branch_ports bs) h)) s c
          (λ v h. i v (or_r (eqb v q) (elem v (branch_list bs q')) h)) z in (
            join (λ v. Good P Q C n v (P v)) o (size us) (branch_size bs) r.0 u.0,
            λ v h j. onto (λ v. Fine P Q C v) q (how_many us + branch_places bs) fine
                (join (λ v. Fine P Q C v) (suc q) (how_many us) (branch_places bs) r.1 u.1) v h (omega arith),
          )
