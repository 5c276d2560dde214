-- A test of every two branches of a par.
use Rattle.std.proofs.Common.{◌≡◌, ℕ, zero, suc, Bool, true, ◌&&◌, T, ◌≢◌, List, sym, refl, ap, subst}
use Rattle.lemmas.proofs.Tests.{T_and, and_T}
use Rattle.unfold.specs.Unfolded.{Got, Nodes, Branches, last, also}
use Rattle.unfold.specs.Sharing.{ports, none_in, none_in_any, apart, all_ports, writes, none_among, none_among_any, names_apart, all_writes}
use Rattle.sharing.specs.Fairness.{Branch, Apart}
use Rattle.sharing.proofs.Ported.{and_both}
use Rattle.sharing.proofs.Members.{zero_suc, suc_same, none_common, common_none, none_both, both_none, in_writes, writes_in, in_ports, ports_in}

abbrev pub Test : Type 0
Test = List Got → Nodes → List Got → Nodes → Bool

abbrev pub with_later : Test → List Got → Nodes → Branches → Bool
with_later f g us last = true
with_later f g us (also h vs bs) = f g us h vs && with_later f g us bs

abbrev pub pairwise : Test → Branches → Bool
pairwise f last = true
pairwise f (also g us bs) = with_later f g us bs && pairwise f bs

later_holds : (f : Test) (g : List Got) (us : Nodes) (bs : Branches) → T (with_later f g us bs) → (k : ℕ) (h : List Got) (vs : Nodes) → Branch bs k h vs → T (f g us h vs)
later_holds f g us last t k h vs b = absurd b
later_holds f g us (also h' vs' bs) t zero h vs b =
    subst (λ (x : List Got). T (f g us x vs)) (sym b.0) (subst (λ (y : Nodes). T (f g us h' y)) (sym b.1) (T_and (f g us h' vs') (with_later f g us bs) t).0)
later_holds f g us (also h' vs' bs) t (suc k) h vs b = later_holds f g us bs (T_and (f g us h' vs') (with_later f g us bs) t).1 k h vs b

holds_later : (f : Test) (g : List Got) (us : Nodes) (bs : Branches) → ((k : ℕ) (h : List Got) (vs : Nodes) → Branch bs k h vs → T (f g us h vs)) → T (with_later f g us bs)
holds_later f g us last p = tt
holds_later f g us (also h vs bs) p = and_T (f g us h vs) (with_later f g us bs) (p zero h vs (refl, refl)) (holds_later f g us bs (λ k i ws b. p (suc k) i ws b))

pub pairs_hold : (f : Test) → ((g h : List Got) (us vs : Nodes) → T (f g us h vs) → T (f h vs g us)) → (bs : Branches) → T (pairwise f bs)
    → (j k : ℕ) (g h : List Got) (us vs : Nodes) → j ≢ k → Branch bs j g us → Branch bs k h vs → T (f g us h vs)
pairs_hold f flip last t j k g h us vs ne a b = absurd a
pairs_hold f flip (also i ws bs) t zero zero g h us vs ne a b = absurd (ne refl)
pairs_hold f flip (also i ws bs) t zero (suc k) g h us vs ne a b =
    subst (λ (x : List Got). T (f x us h vs)) (sym a.0) (subst (λ (y : Nodes). T (f i y h vs)) (sym a.1) (later_holds f i ws bs (T_and (with_later f i ws bs) (pairwise f bs) t).0 k h vs b))
pairs_hold f flip (also i ws bs) t (suc j) zero g h us vs ne a b =
    flip h g vs us (subst (λ (x : List Got). T (f x vs g us)) (sym b.0) (subst (λ (y : Nodes). T (f i y g us)) (sym b.1) (later_holds f i ws bs (T_and (with_later f i ws bs) (pairwise f bs) t).0 j g us a)))
pairs_hold f flip (also i ws bs) t (suc j) (suc k) g h us vs ne a b =
    pairs_hold f flip bs (T_and (with_later f i ws bs) (pairwise f bs) t).1 j k g h us vs (λ e. ne (ap suc e)) a b

pub hold_pairs : (f : Test) (bs : Branches) → ((j k : ℕ) (g h : List Got) (us vs : Nodes) → j ≢ k → Branch bs j g us → Branch bs k h vs → T (f g us h vs)) → T (pairwise f bs)
hold_pairs f last p = tt
hold_pairs f (also g us bs) p =
    and_T (with_later f g us bs) (pairwise f bs) (holds_later f g us bs (λ k h vs b. p zero (suc k) g h us vs (zero_suc k) (refl, refl) b))
    (hold_pairs f bs (λ j k h i vs ws ne a b. p (suc j) (suc k) h i vs ws (λ e. ne (suc_same j k e)) a b))

-- the two tests of a par
abbrev write_apart : Test
write_apart g us h vs = none_among (writes g) (writes h)

abbrev take_apart : Test
take_apart g us h vs = none_in (ports us) (ports vs)

writes_later : (g : List Got) (us : Nodes) (bs : Branches) → none_among_any (writes g) (all_writes bs) ≡ with_later write_apart g us bs
writes_later g us last = refl
writes_later g us (also h vs bs) = ap (λ (b : Bool). none_among (writes g) (writes h) && b) (writes_later g us bs)

writes_pairs : (bs : Branches) → names_apart (all_writes bs) ≡ pairwise write_apart bs
writes_pairs last = refl
writes_pairs (also g us bs) = and_both (writes_later g us bs) (writes_pairs bs)

ports_later : (g : List Got) (us : Nodes) (bs : Branches) → none_in_any (ports us) (all_ports bs) ≡ with_later take_apart g us bs
ports_later g us last = refl
ports_later g us (also h vs bs) = ap (λ (b : Bool). none_in (ports us) (ports vs) && b) (ports_later g us bs)

ports_pairs : (bs : Branches) → apart (all_ports bs) ≡ pairwise take_apart bs
ports_pairs last = refl
ports_pairs (also g us bs) = and_both (ports_later g us bs) (ports_pairs bs)

pub tests_apart : (bs : Branches) → T (names_apart (all_writes bs)) → T (apart (all_ports bs)) → Apart bs
tests_apart bs p q j k g h us vs ne a b = (
  λ w x y. none_common (writes g) (writes h)
      (pairs_hold write_apart (λ g' h' us' vs' t. common_none (writes h') (writes g') (λ v m n. none_common (writes g') (writes h') t v n m)) bs (subst T (writes_pairs bs) p) j k g h us vs ne a b)
      w (writes_in w g x.0 x.1 x.2 x.3) (writes_in w h y.0 y.1 y.2 y.3),
  λ i x y. none_both (ports us) (ports vs)
      (pairs_hold take_apart (λ g' h' us' vs' t. both_none (ports vs') (ports us') (λ v m n. none_both (ports us') (ports vs') t v n m)) bs (subst T (ports_pairs bs) q) j k g h us vs ne a b)
      i (ports_in i us x) (ports_in i vs y),
)

pub apart_writes : (bs : Branches) → Apart bs → T (names_apart (all_writes bs))
apart_writes bs p =
    subst T (sym (writes_pairs bs)) (hold_pairs write_apart bs (λ j k g h us vs ne a b.
    common_none (writes g) (writes h) (λ w m n. (p j k g h us vs ne a b).0 w (in_writes w g m) (in_writes w h n))))

pub apart_ports : (bs : Branches) → Apart bs → T (apart (all_ports bs))
apart_ports bs p =
    subst T (sym (ports_pairs bs)) (hold_pairs take_apart bs (λ j k g h us vs ne a b.
    both_none (ports us) (ports vs) (λ i m n. (p j k g h us vs ne a b).1 i (in_ports i us m) (in_ports i vs n))))
