-- Tests of lists, as membership.
use Rattle.std.proofs.Common.{◌≡◌, ℕ, zero, suc, not, T, eqb, ◌⊎◌, List, [], ◌∷◌, ◌++◌, Some, None, Option, sym, refl, ap, ◌∙◌, subst, inl, inr, arith, eqb→eq, T_not}
use lib.Dec.{not_T}
use Rattle.lemmas.proofs.Tests.{T_and, and_T, T_or, or_l, or_r, T_true, eq_eqb}
use Rattle.reader.specs.Tokens.{same, among}
use Rattle.rules.specs.Programs.{elem}
use Rattle.grammar.proofs.Spelling.{same_decides}
use Rattle.unfold.specs.Unfolded.{Got, Part, plain, calls, tests, loops, tries, takes, Node, one, throws, two, par, Nodes, nil, seq, Branches, last, also}
use Rattle.unfold.specs.Sharing.{part_ports, node_ports, ports, branch_ports, none_in, none_among, names_distinct, writes}
use Rattle.sharing.specs.Fairness.{In, At, Writes, PartPort, NodePort, Port, BranchPort, Once}

same_eq : (w v : List ℕ) → T (same w v) → w ≡ v
same_eq w v h = (same_decides w v).0 (T_true (same w v) h)

eq_same : (w v : List ℕ) → w ≡ v → T (same w v)
eq_same w v e = subst T (sym ((same_decides w v).1 e)) tt

pub among_in : (w : List ℕ) (vs : List (List ℕ)) → T (among w vs) → In w vs
among_in w [] h = h
among_in w (v ∷ vs) h = elim (T_or (same w v) (among w vs) h) [ inl a ↦ inl (same_eq w v a) | inr b ↦ inr (among_in w vs b) ]

pub in_among : (w : List ℕ) (vs : List (List ℕ)) → In w vs → T (among w vs)
in_among w [] h = h
in_among w (v ∷ vs) (inl e) = or_l (same w v) (among w vs) (eq_same w v e)
in_among w (v ∷ vs) (inr h) = or_r (same w v) (among w vs) (in_among w vs h)

pub elem_in : (i : ℕ) (xs : List ℕ) → T (elem i xs) → In i xs
elem_in i [] h = h
elem_in i (x ∷ xs) h = elim (T_or (eqb i x) (elem i xs) h) [ inl a ↦ inl (eqb→eq i x a) | inr b ↦ inr (elem_in i xs b) ]

pub in_elem : (i : ℕ) (xs : List ℕ) → In i xs → T (elem i xs)
in_elem i [] h = h
in_elem i (x ∷ xs) (inl e) = or_l (eqb i x) (elem i xs) (eq_eqb i x e)
in_elem i (x ∷ xs) (inr h) = or_r (eqb i x) (elem i xs) (in_elem i xs h)

-- no common name, no common number
pub none_common : (ws vs : List (List ℕ)) → T (none_among ws vs) → (w : List ℕ) → In w ws → In w vs → ⊥
none_common [] vs h w a b = a
none_common (x ∷ ws) vs h w (inl e) b =
    T_not (among x vs) (T_and (not (among x vs)) (none_among ws vs) h).0 (in_among x vs (subst (λ (y : List ℕ). In y vs) e b))
none_common (x ∷ ws) vs h w (inr a) b = none_common ws vs (T_and (not (among x vs)) (none_among ws vs) h).1 w a b

pub common_none : (ws vs : List (List ℕ)) → ((w : List ℕ) → In w ws → In w vs → ⊥) → T (none_among ws vs)
common_none [] vs f = tt
common_none (x ∷ ws) vs f =
    and_T (not (among x vs)) (none_among ws vs) (not_T (among x vs) (λ h. f x (inl refl) (among_in x vs h))) (common_none ws vs (λ w a b. f w (inr a) b))

pub none_both : (xs ys : List ℕ) → T (none_in xs ys) → (i : ℕ) → In i xs → In i ys → ⊥
none_both [] ys h i a b = a
none_both (x ∷ xs) ys h i (inl e) b =
    T_not (elem x ys) (T_and (not (elem x ys)) (none_in xs ys) h).0 (in_elem x ys (subst (λ (y : ℕ). In y ys) e b))
none_both (x ∷ xs) ys h i (inr a) b = none_both xs ys (T_and (not (elem x ys)) (none_in xs ys) h).1 i a b

pub both_none : (xs ys : List ℕ) → ((i : ℕ) → In i xs → In i ys → ⊥) → T (none_in xs ys)
both_none [] ys f = tt
both_none (x ∷ xs) ys f =
    and_T (not (elem x ys)) (none_in xs ys) (not_T (elem x ys) (λ h. f x (inl refl) (elem_in x ys h))) (both_none xs ys (λ i a b. f i (inr a) b))

-- no name twice
at_in : (ws : List (List ℕ)) (k : ℕ) (w : List ℕ) → At ws k w → In w ws
at_in [] k w h = h
at_in (x ∷ ws) zero w h = inl h
at_in (x ∷ ws) (suc k) w h = inr (at_in ws k w h)

in_at : (ws : List (List ℕ)) (w : List ℕ) → In w ws → (k : ℕ) × At ws k w
in_at [] w h = absurd h
in_at (x ∷ ws) w (inl e) = (zero, e)
in_at (x ∷ ws) w (inr h) = let r = in_at ws w h in (suc r.0, r.1)

pub zero_suc : (k : ℕ) → zero ≡ suc k → ⊥
zero_suc k e = omega arith

pub suc_same : (j k : ℕ) → suc j ≡ suc k → j ≡ k
suc_same j k e = omega arith

pub distinct_once : (ws : List (List ℕ)) → T (names_distinct ws) → Once ws
distinct_once [] h j k w a b = absurd a
distinct_once (x ∷ ws) h zero zero w a b = refl
distinct_once (x ∷ ws) h zero (suc k) w a b =
    absurd (T_not (among x ws) (T_and (not (among x ws)) (names_distinct ws) h).0 (in_among x ws (subst (λ (y : List ℕ). In y ws) a (at_in ws k w b))))
distinct_once (x ∷ ws) h (suc j) zero w a b =
    absurd (T_not (among x ws) (T_and (not (among x ws)) (names_distinct ws) h).0 (in_among x ws (subst (λ (y : List ℕ). In y ws) b (at_in ws j w a))))
distinct_once (x ∷ ws) h (suc j) (suc k) w a b = ap suc (distinct_once ws (T_and (not (among x ws)) (names_distinct ws) h).1 j k w a b)

pub once_distinct : (ws : List (List ℕ)) → Once ws → T (names_distinct ws)
once_distinct [] f = tt
once_distinct (x ∷ ws) f =
    and_T (not (among x ws)) (names_distinct ws)
    (not_T (among x ws) (λ h. let r = in_at ws x (among_in x ws h) in zero_suc r.0 (f zero (suc r.0) x refl r.1)))
    (once_distinct ws (λ j k w a b. suc_same j k (f (suc j) (suc k) w a b)))

-- the variables that a branch writes
later : (w : List ℕ) (x : Got) (xs : List Got) → Writes w xs → Writes w (x ∷ xs)
later w x xs h = (h.0, inr h.1, h.2, h.3)

first_or : (w : List ℕ) (x : Got) (xs : List Got) (o : Option ℕ) → x.from ≡ o → (In w (writes xs) → Writes w xs)
    → In w (elim o [ None ↦ x.name.text ∷ writes xs | Some a ↦ writes xs ]) → Writes w (x ∷ xs)
first_or w x xs None e f (inl p) = (x, inl refl, sym p, e)
first_or w x xs None e f (inr h) = later w x xs (f h)
first_or w x xs (Some a) e f h = later w x xs (f h)

pub in_writes : (w : List ℕ) (gs : List Got) → In w (writes gs) → Writes w gs
in_writes w [] h = absurd h
in_writes w (x ∷ xs) h = first_or w x xs x.from refl (in_writes w xs) h

first_in : (w : List ℕ) (x : Got) (xs : List Got) (o : Option ℕ) → o ≡ None → x.name.text ≡ w → In w (elim o [ None ↦ x.name.text ∷ writes xs | Some a ↦ writes xs ])
first_in w x xs None e p = inl (sym p)
first_in w x xs (Some a) e p = absurd cc

rest_in : (w : List ℕ) (x : Got) (xs : List Got) (o : Option ℕ) → In w (writes xs) → In w (elim o [ None ↦ x.name.text ∷ writes xs | Some a ↦ writes xs ])
rest_in w x xs None h = inr h
rest_in w x xs (Some a) h = h

pub writes_in : (w : List ℕ) (gs : List Got) (g : Got) → In g gs → g.name.text ≡ w → g.from ≡ None → In w (writes gs)
writes_in w [] g h p n = absurd h
writes_in w (x ∷ xs) g (inl e) p n = first_in w x xs x.from (ap (λ (y : Got). y.from) (sym e) ∙ n) (ap (λ (y : Got). y.name.text) (sym e) ∙ p)
writes_in w (x ∷ xs) g (inr h) p n = rest_in w x xs x.from (writes_in w xs g h p n)

-- the ports that stand in a block
in_parts : (i : ℕ) (xs ys : List ℕ) → In i (xs ++ ys) → In i xs ⊎ In i ys
in_parts i [] ys h = inr h
in_parts i (x ∷ xs) ys (inl e) = inl (inl e)
in_parts i (x ∷ xs) ys (inr h) = elim (in_parts i xs ys h) [ inl a ↦ inl (inr a) | inr b ↦ inr b ]

in_left : (i : ℕ) (xs ys : List ℕ) → In i xs → In i (xs ++ ys)
in_left i [] ys h = absurd h
in_left i (x ∷ xs) ys (inl e) = inl e
in_left i (x ∷ xs) ys (inr h) = inr (in_left i xs ys h)

in_right : (i : ℕ) (xs ys : List ℕ) → In i ys → In i (xs ++ ys)
in_right i [] ys h = h
in_right i (x ∷ xs) ys h = inr (in_right i xs ys h)

in_part : (i : ℕ) (h : Part) → In i (part_ports h) → PartPort i h
in_part i plain k = k
in_part i (calls cs rs) k = k
in_part i (tests e) k = k
in_part i (loops e) k = k
in_part i (tries n) k = k
in_part i (takes j c) (inl e) = e
in_part i (takes j c) (inr k) = absurd k

part_in : (i : ℕ) (h : Part) → PartPort i h → In i (part_ports h)
part_in i plain k = k
part_in i (calls cs rs) k = k
part_in i (tests e) k = k
part_in i (loops e) k = k
part_in i (tries n) k = k
part_in i (takes j c) e = inl e

mutual
  in_node : (i : ℕ) (u : Node) → In i (node_ports u) → NodePort i u
  in_node i (one at ns s) k = k
  in_node i (throws at n) k = k
  in_node i (two at ns h a b) k =
      elim (in_parts i (part_ports h) (ports a ++ ports b) k) [
        | inl x ↦ inl (in_part i h x)
        | inr y ↦ inr (elim (in_parts i (ports a) (ports b) y) [ inl p ↦ inl (in_ports i a p) | inr q ↦ inr (in_ports i b q) ])
      ]
  in_node i (par at ns bs) k = in_branches i bs k

  pub in_ports : (i : ℕ) (us : Nodes) → In i (ports us) → Port i us
  in_ports i nil k = k
  in_ports i (seq u us) k = elim (in_parts i (node_ports u) (ports us) k) [ inl x ↦ inl (in_node i u x) | inr y ↦ inr (in_ports i us y) ]

  in_branches : (i : ℕ) (bs : Branches) → In i (branch_ports bs) → BranchPort i bs
  in_branches i last k = k
  in_branches i (also g us bs) k = elim (in_parts i (ports us) (branch_ports bs) k) [ inl x ↦ inl (in_ports i us x) | inr y ↦ inr (in_branches i bs y) ]

mutual
  node_in : (i : ℕ) (u : Node) → NodePort i u → In i (node_ports u)
  node_in i (one at ns s) k = k
  node_in i (throws at n) k = k
  node_in i (two at ns h a b) (inl x) = in_left i (part_ports h) (ports a ++ ports b) (part_in i h x)
  node_in i (two at ns h a b) (inr (inl x)) = in_right i (part_ports h) (ports a ++ ports b) (in_left i (ports a) (ports b) (ports_in i a x))
  node_in i (two at ns h a b) (inr (inr x)) = in_right i (part_ports h) (ports a ++ ports b) (in_right i (ports a) (ports b) (ports_in i b x))
  node_in i (par at ns bs) k = branches_in i bs k

  pub ports_in : (i : ℕ) (us : Nodes) → Port i us → In i (ports us)
  ports_in i nil k = k
  ports_in i (seq u us) (inl x) = in_left i (node_ports u) (ports us) (node_in i u x)
  ports_in i (seq u us) (inr x) = in_right i (node_ports u) (ports us) (ports_in i us x)

  branches_in : (i : ℕ) (bs : Branches) → BranchPort i bs → In i (branch_ports bs)
  branches_in i last k = k
  branches_in i (also g us bs) (inl x) = in_left i (ports us) (branch_ports bs) (ports_in i us x)
  branches_in i (also g us bs) (inr x) = in_right i (ports us) (branch_ports bs) (branches_in i bs x)
