-- A list that stands in a view from an index on; sizes of the laid-out lists; ranges.
use Rattle.std.proofs.Common.{◌≡◌, ℕ, suc, ◌+◌, ◌<◌, ◌≤◌, not, T, eqb, List, [], ◌∷◌, ◌++◌, length, get_or, sym, refl, ap, subst, inl, inr, arith, eqb→eq, length-append}
use native.Mathlib.Decide.{dec_lt}
use Rattle.rules.specs.Programs.{elem}
use Rattle.lemmas.proofs.Tests.{same?, T_or, or_l, or_r, T_and}
use Rattle.unfold.specs.Unfolded.{Node, one, throws, two, par, Nodes, nil, seq, Branches, last, also}
use Rattle.unfold.specs.Sharing.{none_in}
use Rattle.program.specs.Layout.{Open, node_points, points, branch_points, node_placing, placing, branch_placing, part_after, part_catches, part_opens}
use Rattle.program.specs.Sizes.{node_size, size, branch_size, node_places, how_many, branch_places, entry}

abbrev pub Agrees : {A : Type 0} → (ℕ → A) → ℕ → List A → Type 0
Agrees f o [] = Unit {0}
Agrees f o (a ∷ as') = (f o ≡ a) × Agrees f (suc o) as'

pub first : {A : Type 0} (f : ℕ → A) (o : ℕ) (as' bs : List A) → Agrees f o (as' ++ bs) → Agrees f o as'
first f o [] bs h = tt
first f o (a ∷ as') bs h = (h.0, first f (suc o) as' bs h.1)

pub second : {A : Type 0} (f : ℕ → A) (o n : ℕ) (as' bs : List A) → length as' ≡ n → Agrees f o (as' ++ bs) → Agrees f (o + n) bs
second f o n [] bs e h = let i : o ≡ o + n = omega arith in subst (λ (v : ℕ). Agrees f v bs) i h
second f o n (a ∷ as') bs e h =
    let i : suc o + length as' ≡ o + n = omega arith in
    subst (λ (v : ℕ). Agrees f v bs) i (second f (suc o) (length as') as' bs refl h.1)

shift : {A : Type 0} (f : ℕ → A) (o : ℕ) (as' : List A) → Agrees (λ i. f (suc i)) o as' → Agrees f (suc o) as'
shift f o [] h = tt
shift f o (a ∷ as') h = (h.0, shift f (suc o) as' h.1)

-- a list stands in its own view
pub itself : {A : Type 0} (d : A) (l : List A) → Agrees (λ i. get_or l i d) 0 l
itself d [] = tt
itself d (a ∷ l) = (refl, shift (λ i. get_or (a ∷ l) i d) 0 l (itself d l))

-- ---- sizes

len2 : {A : Type 0} (as' bs : List A) (m n : ℕ) → length as' ≡ m → length bs ≡ n → length (as' ++ bs) ≡ m + n
len2 as' bs m n e i = let k = length-append as' bs in omega arith

mutual
  pub node_points_size : (e p : ℕ) (cs : List ℕ) (rs : List Open) (u : Node) (q o k : ℕ) → length (node_points e p cs rs u q o k) ≡ node_size u
  node_points_size e p cs rs (one at ns s) q o k = refl
  node_points_size e p cs rs (throws at n) q o k = refl
  node_points_size e p cs rs (two at ns h a b) q o k =
      ap suc (len2 _ _ _ _ (points_size e p (part_catches h (entry b (suc o + size a) k) cs) (part_opens h p (entry b (suc o + size a) k) cs rs) a q (suc o) (part_after h o k)) (points_size e p cs rs b (q + how_many a) (suc o + size a) k))
  node_points_size e p cs rs (par at ns bs) q o k = ap suc (branch_points_size e rs bs q (suc o))

  pub points_size : (e p : ℕ) (cs : List ℕ) (rs : List Open) (us : Nodes) (q o k : ℕ) → length (points e p cs rs us q o k) ≡ size us
  points_size e p cs rs nil q o k = refl
  points_size e p cs rs (seq u us) q o k =
      len2 _ _ _ _ (node_points_size e p cs rs u q o (entry us (o + node_size u) k)) (points_size e p cs rs us (q + node_places u) (o + node_size u) k)

  pub branch_points_size : (e : ℕ) (rs : List Open) (bs : Branches) (q o : ℕ) → length (branch_points e rs bs q o) ≡ branch_size bs
  branch_points_size e rs last q o = refl
  branch_points_size e rs (also g us bs) q o =
      len2 _ _ _ _ (points_size e q [] rs us (suc q) o (e + q)) (branch_points_size e rs bs (suc q + how_many us) (o + size us))

mutual
  pub node_placing_size : (e p : ℕ) (u : Node) (q o : ℕ) → length (node_placing e p u q o) ≡ node_places u
  node_placing_size e p (one at ns s) q o = refl
  node_placing_size e p (throws at n) q o = refl
  node_placing_size e p (two at ns h a b) q o =
      len2 _ _ _ _ (placing_size e p a q (suc o)) (placing_size e p b (q + how_many a) (suc o + size a))
  node_placing_size e p (par at ns bs) q o = branch_placing_size e p o bs q (suc o)

  pub placing_size : (e p : ℕ) (us : Nodes) (q o : ℕ) → length (placing e p us q o) ≡ how_many us
  placing_size e p nil q o = refl
  placing_size e p (seq u us) q o =
      len2 _ _ _ _ (node_placing_size e p u q o) (placing_size e p us (q + node_places u) (o + node_size u))

  pub branch_placing_size : (e p x : ℕ) (bs : Branches) (q o : ℕ) → length (branch_placing e p x bs q o) ≡ branch_places bs
  branch_placing_size e p x last q o = refl
  branch_placing_size e p x (also g us bs) q o =
      let i = len2 _ _ _ _ (placing_size e q us (suc q) o) (branch_placing_size e p x bs (suc q + how_many us) (o + size us)) in
      omega arith

-- ---- ranges

pub join : (R : ℕ → Type 0) (o a b : ℕ) → ((x : ℕ) → o ≤ x → x < o + a → R x) → ((x : ℕ) → o + a ≤ x → x < (o + a) + b → R x)
    → (x : ℕ) → o ≤ x → x < o + (a + b) → R x
join R o a b f g x l h = elim (dec_lt x (o + a)) [ yes k ↦ f x l k | no k ↦ g x (omega arith) (omega arith) ]

pub onto : (R : ℕ → Type 0) (o m : ℕ) → R o → ((x : ℕ) → suc o ≤ x → x < suc o + m → R x) → (x : ℕ) → o ≤ x → x < o + suc m → R x
onto R o m r f x l h =
    elim (same? x o) [ inl e ↦ subst R (sym e) r | inr ne ↦ f x (omega arith) (omega arith) ]

-- ---- members

pub elem_left : (i : ℕ) (as' bs : List ℕ) → T (elem i as') → T (elem i (as' ++ bs))
elem_left i [] bs h = absurd h
elem_left i (a ∷ as') bs h =
    elim (T_or (eqb i a) (elem i as') h) [
      | inl e ↦ or_l (eqb i a) (elem i (as' ++ bs)) e
      | inr k ↦ or_r (eqb i a) (elem i (as' ++ bs)) (elem_left i as' bs k)
    ]

pub elem_right : (i : ℕ) (as' bs : List ℕ) → T (elem i bs) → T (elem i (as' ++ bs))
elem_right i [] bs h = h
elem_right i (a ∷ as') bs h = or_r (eqb i a) (elem i (as' ++ bs)) (elem_right i as' bs h)

pub none_both : (a : ℕ) (l m : List ℕ) → T (none_in l m) → T (elem a l) → T (elem a m) → ⊥
none_both a [] m n h k = h
none_both a (b ∷ l) m n h k =
    let i = T_and (not (elem b m)) (none_in l m) n in
    elim (T_or (eqb a b) (elem a l) h) [
      | inl e ↦ lib.Dec.T_not (elem b m) i.0 (subst (λ (v : ℕ). T (elem v m)) (eqb→eq a b e) k)
      | inr j ↦ none_both a l m i.1 j k
    ]
