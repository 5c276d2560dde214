-- The tests tell what is permitted; and readiness in one step.
use Rattle.std.proofs.Common.{◌≡◌, ℕ, zero, suc, ◌+◌, ◌<◌, ◌≤◌, not, ◌&&◌, ◌||◌, T, eqb, sym, refl, ap, subst, inl, inr, arith, eqb→eq, T_not}
use mathlib.Core.Option.{Option, some, none}
use lib.Dec.{not_T}
use Rattle.rules.specs.Invariants.{Wf}
use Rattle.rules.specs.Moves.{any_below}
use Rattle.rules.specs.Permissions.{Permitted}
use Rattle.rules.specs.Programs.{Table, awaits}
use Rattle.rules.specs.Readiness.{counts_child, KnowingChild, Ready, waits, parts, Spoiled, itself, no_child_knows, child_spoiled, Counted}
use Rattle.rules.specs.Soundness.{Sound}
use Rattle.rules.specs.States.{State, Local, idle, running, parted, finished, poisoned, live, busy, is_idle, Mark, Move, step, close, meet, poison}
use Rattle.rules.specs.Trees.{here, more, nonzero, Child}
use Rattle.rules.specs.Tests.{all_below, child, knowing_child, for_home, no_next, ready_at, ready, is_zero, spoiled_at, spoiled, steps_at, closes_at, permitted}
use Rattle.rules.specs.Decisions.{WaitsOrParts, ReadyOrSpoiled, ReadyTells, SpoiledTells, CountedTells, PermittedTells, CountedForm}
use Rattle.lemmas.proofs.Tests.{T_and, and_T, T_or, or_l, or_r, eq_eqb}
use Rattle.rules.proofs.Locals.{busy_live, live_some}
use Rattle.rules.proofs.Bounds.{any_out, any_in, all_out, all_in, imp_out, imp_in}
use Rattle.rules.proofs.Tree.{climbs→, →climbs}
use Rattle.rules.proofs.Readiness.{counts_out, spoiled_ready, ready_busy, ready_down, counted_child}

home_out : (o : Option (ℕ × ℕ)) (h : ℕ) → T (for_home o h) → (c : ℕ) × (o ≡ some (c, h))
home_out none h e = absurd e
home_out (some d) h e = (d.0, ap (λ v. some (d.0, v)) (eqb→eq d.1 h e))

home_in : (o : Option (ℕ × ℕ)) (c h : ℕ) → o ≡ some (c, h) → T (for_home o h)
home_in o c h e = subst (λ (v : Option (ℕ × ℕ)). T (for_home v h)) (sym e) (eq_eqb h h refl)

zero_out : (o : Mark) → T (is_zero o) → o ≡ some 0
zero_out none h = absurd h
zero_out (some zero) h = refl
zero_out (some (suc j)) h = absurd h

module _ (t : Table) (s : State) where
  child_out : (p c : ℕ) → T (child t p c) → Child t p c
  child_out p c h = let a = T_and (nonzero c) (eqb (t.parent c) p) h in (a.0, eqb→eq (t.parent c) p a.1)

  child_in : (p c : ℕ) → Child t p c → T (child t p c)
  child_in p c a = and_T (nonzero c) (eqb (t.parent c) p) a.0 (eq_eqb (t.parent c) p a.1)

  knowing_out : (h p c : ℕ) → T (knowing_child t s h p c) → KnowingChild t s h p c
  knowing_out h p c e =
      let a = T_and (child t p c) (live (s.at c) && t.knows c h) e in
      let b = child_out p c a.0 in
      let d = T_and (live (s.at c)) (t.knows c h) a.1 in
      (b.0, b.1, d.0, d.1)

  knowing_in : (h p c : ℕ) → KnowingChild t s h p c → T (knowing_child t s h p c)
  knowing_in h p c a =
      and_T (child t p c) (live (s.at c) && t.knows c h) (child_in p c (a.0, a.1)) (and_T (live (s.at c)) (t.knows c h) a.2 a.3)

  module _ (sd : Sound t) (wf : Wf t s) (h : ℕ) where
    knowing_inside : (p c : ℕ) → KnowingChild t s h p c → c < t.places
    knowing_inside p c a = wf.inside c (live_some _ a.2)

    -- ---- readiness

    ready_out : (f p : ℕ) → T (ready t s h f p) → Ready t s h p
    ready_out zero p e = absurd e
    ready_out (suc f) p e = go (s.at p) refl e (λ c. ready_out f c)
      where
        go : (l : Local) → s.at p ≡ l → T (ready_at t s h p (λ c. ready t s h f c) l) → ((c : ℕ) → T (ready t s h f c) → Ready t s h c) → Ready t s h p
        go idle i e r = absurd e
        go (running x) i e r = let a = home_out (awaits (t.stm x)) h e in waits (x, a.0, i, a.1)
        go (parted x) i e r =
            let a = T_and (any_below t.places (knowing_child t s h p)) (all_below t.places (λ c. not (knowing_child t s h p c) || ready t s h f c)) e in
            let b = any_out t.places (knowing_child t s h p) a.0 in
            parts x i b.0 (knowing_out h p b.0 b.2)
            (λ c d. r c (imp_out (knowing_child t s h p c) (ready t s h f c)
            (all_out t.places (λ c. not (knowing_child t s h p c) || ready t s h f c) a.1 c (knowing_inside p c d)) (knowing_in h p c d)))
        go finished i e r = absurd e
        go poisoned i e r = absurd e

    ready_inside : {p : ℕ} → Ready t s h p → p < t.places
    ready_inside {p} r = wf.inside p (live_some _ (busy_live _ (ready_busy t s h r)))

    ready_in : {p : ℕ} → Ready t s h p → (f : ℕ) → t.places ≤ f + p → T (ready t s h f p)
    ready_in {p} r zero l = let a = ready_inside r in absurd (omega arith)
    ready_in {p} (waits w) (suc f) l =
        subst (λ (v : Local). T (ready_at t s h p (λ c. ready t s h f c) v)) (sym w.2) (home_in (awaits (t.stm w.0)) w.1 h w.3)
    ready_in {p} (parts x e c a g) (suc f) l =
        subst (λ (v : Local). T (ready_at t s h p (λ c. ready t s h f c) v)) (sym e)
        (and_T (any_below t.places (knowing_child t s h p)) (all_below t.places (λ c. not (knowing_child t s h p c) || ready t s h f c))
        (any_in t.places (knowing_child t s h p) c (knowing_inside p c a) (knowing_in h p c a))
        (all_in t.places (λ c. not (knowing_child t s h p c) || ready t s h f c)
        (λ d i. imp_in (knowing_child t s h p d) (ready t s h f d) (λ b.
        let o = knowing_out h p d b in
        let u = sd.lower d o.0 in
        let v = o.1 in
        ready_in (g d o) f (omega arith)))))

    -- every counted place waits, or is parted with a live child that knows h
    waits_or_parts : {q : ℕ} → Ready t s h q → WaitsOrParts t s h q
    waits_or_parts (waits w) = inl w
    waits_or_parts (parts x e c a g) = inr (x, e, (c, a))

    from_counted : (f p : ℕ) → t.places ≤ f + p → ((q : ℕ) → Counted t s h p q → WaitsOrParts t s h q) → Ready t s h p
    from_counted zero p l g =
        elim (g p (here refl)) [
          | inl w ↦ waits w
          | inr o ↦ let a = wf.inside p (subst (λ (v : Local). T (not (is_idle v))) (sym o.1) tt) in absurd (omega arith)
        ]
    from_counted (suc f) p l g =
        elim (g p (here refl)) [
          | inl w ↦ waits w
          | inr o ↦
              parts o.0 o.1 o.2.0 o.2.1
              (λ c a.
              let u = sd.lower c a.0 in
              let v = a.1 in
              from_counted f c (omega arith) (λ q w. g q (through c o.0 o.1 a w)))
        ]
      where
        through : (c x : ℕ) → s.at p ≡ parted x → KnowingChild t s h p c → {q : ℕ} → Counted t s h c q → Counted t s h p q
        through c x e a (here i) = subst (λ (v : ℕ). Counted t s h p v) (sym i) (counted_child t s h p p c x (here refl) e a)
        through c x e a (more j w) = more j (through c x e a w)

    -- ---- spoiling

    spoiled_out : (f q : ℕ) → T (spoiled t s h f q) → Spoiled t s h q
    spoiled_out zero q e = absurd e
    spoiled_out (suc f) q e =
        let a = T_and (t.knows q h) (spoiled_at t s h q (λ c. spoiled t s h f c) (s.at q)) e in
        go (s.at q) refl a.0 a.1 (λ c. spoiled_out f c)
      where
        go : (l : Local) → s.at q ≡ l → T (t.knows q h) → T (spoiled_at t s h q (λ c. spoiled t s h f c) l)
            → ((c : ℕ) → T (spoiled t s h f c) → Spoiled t s h c) → Spoiled t s h q
        go idle i n e r = absurd e
        go (running x) i n e r = absurd e
        go (parted x) i n e r =
            let a = T_and (is_zero (s.mark q)) (not (any_below t.places (knowing_child t s h q)) || any_below t.places (λ c. child t q c && (live (s.at c) && spoiled t s h f c))) e in
            let m = zero_out (s.mark q) a.0 in
            elim (T_or (not (any_below t.places (knowing_child t s h q))) (any_below t.places (λ c. child t q c && (live (s.at c) && spoiled t s h f c))) a.1) [
              | inl b ↦ no_child_knows x n i m (λ c d. T_not (any_below t.places (knowing_child t s h q)) b (any_in t.places (knowing_child t s h q) c (knowing_inside q c d) (knowing_in h q c d)))
              | inr b ↦
                  let o = any_out t.places (λ c. child t q c && (live (s.at c) && spoiled t s h f c)) b in
                  let u = T_and (child t q o.0) (live (s.at o.0) && spoiled t s h f o.0) o.2 in
                  let v = T_and (live (s.at o.0)) (spoiled t s h f o.0) u.1 in
                  child_spoiled x n i m o.0 (child_out q o.0 u.0) v.0 (r o.0 v.1)
            ]
        go finished i n e r = absurd e
        go poisoned i n e r = itself n i

    spoiled_some : {q : ℕ} → Spoiled t s h q → T (not (is_idle (s.at q)))
    spoiled_some (itself n e) = subst (λ (l : Local). T (not (is_idle l))) (sym e) tt
    spoiled_some (no_child_knows x n e m g) = subst (λ (l : Local). T (not (is_idle l))) (sym e) tt
    spoiled_some (child_spoiled x n e m c d l p) = subst (λ (l : Local). T (not (is_idle l))) (sym e) tt

    spoiled_in : {q : ℕ} → Spoiled t s h q → (f : ℕ) → t.places ≤ f + q → T (spoiled t s h f q)
    spoiled_in {q} p zero l = let a = wf.inside q (spoiled_some p) in absurd (omega arith)
    spoiled_in {q} (itself n e) (suc f) l =
        and_T (t.knows q h) (spoiled_at t s h q (λ c. spoiled t s h f c) (s.at q)) n
        (subst (λ (v : Local). T (spoiled_at t s h q (λ c. spoiled t s h f c) v)) (sym e) tt)
    spoiled_in {q} (no_child_knows x n e m g) (suc f) l =
        and_T (t.knows q h) (spoiled_at t s h q (λ c. spoiled t s h f c) (s.at q)) n
        (subst (λ (v : Local). T (spoiled_at t s h q (λ c. spoiled t s h f c) v)) (sym e)
        (and_T (is_zero (s.mark q)) _ (subst (λ (o : Mark). T (is_zero o)) (sym m) tt)
        (or_l (not (any_below t.places (knowing_child t s h q))) _
        (not_T (any_below t.places (knowing_child t s h q)) (λ b. let o = any_out t.places (knowing_child t s h q) b in g o.0 (knowing_out h q o.0 o.2))))))
    spoiled_in {q} (child_spoiled x n e m c d a p) (suc f) l =
        let u = sd.lower c d.0 in
        let v = d.1 in
        and_T (t.knows q h) (spoiled_at t s h q (λ c. spoiled t s h f c) (s.at q)) n
        (subst (λ (v : Local). T (spoiled_at t s h q (λ c. spoiled t s h f c) v)) (sym e)
        (and_T (is_zero (s.mark q)) _ (subst (λ (o : Mark). T (is_zero o)) (sym m) tt)
        (or_r (not (any_below t.places (knowing_child t s h q))) _
        (any_in t.places (λ c. child t q c && (live (s.at c) && spoiled t s h f c)) c (wf.inside c (live_some _ a))
        (and_T (child t q c) (live (s.at c) && spoiled t s h f c) (child_in q c d)
        (and_T (live (s.at c)) (spoiled t s h f c) a (spoiled_in p f (omega arith))))))))

  -- ---- permission
  module _ (sd : Sound t) (wf : Wf t s) where
    none_out : (o : Option (ℕ × ℕ)) → T (no_next o) → o ≡ none
    none_out none e = refl
    none_out (some d) e = absurd e

    steps_out : (p : ℕ) (l : Local) → s.at p ≡ l → T (steps_at t l) → Permitted t s (step p)
    steps_out p idle i e = absurd e
    steps_out p (running x) i e = (x, i, none_out (awaits (t.stm x)) e)
    steps_out p (parted x) i e = absurd e
    steps_out p finished i e = absurd e
    steps_out p poisoned i e = absurd e

    closes_out : (p : ℕ) (l : Local) → s.at p ≡ l → T (closes_at t s p l) → Permitted t s (close p)
    closes_out p idle i e = absurd e
    closes_out p (running x) i e = absurd e
    closes_out p (parted x) i e = (
      x,
      i,
      λ c d b.
          T_not (child t p c && busy (s.at c))
          (all_out t.places (λ c. not (child t p c && busy (s.at c))) e c (wf.inside c (live_some _ (busy_live _ b))))
          (and_T (child t p c) (busy (s.at c)) (child_in p c d) b),
    )
    closes_out p finished i e = absurd e
    closes_out p poisoned i e = absurd e

    told : (m : Move) → T (permitted t s m) → Permitted t s m
    told (step p) e = steps_out p (s.at p) refl e
    told (close p) e = closes_out p (s.at p) refl e
    told (meet h) e =
        let a = T_and (eqb (t.home h) h) (ready t s h t.places (t.declarer h)) e in
        (eqb→eq (t.home h) h a.0, ready_out sd wf h t.places (t.declarer h) a.1)
    told (poison p h) e =
        let a = T_and (eqb (t.home h) h) _ e in
        let b = T_and (t.knows p h) _ a.1 in
        let c = T_and (ready t s h t.places p) _ b.1 in
        let o = any_out t.places (λ c. not (eqb c p) && (child t (t.parent p) c && (live (s.at c) && spoiled t s h t.places c))) c.1 in
        let u = T_and (not (eqb o.0 p)) _ o.2 in
        let v = T_and (child t (t.parent p) o.0) _ u.1 in
        let w = T_and (live (s.at o.0)) (spoiled t s h t.places o.0) v.1 in (
          eqb→eq (t.home h) h a.0,
          b.0,
          ready_out sd wf h t.places p c.0,
          (o.0, λ i. T_not (eqb o.0 p) u.0 (eq_eqb o.0 p i), child_out (t.parent p) o.0 v.0, w.0, spoiled_out sd wf h t.places o.0 w.1),
        )

    telling : (m : Move) → Permitted t s m → T (permitted t s m)
    telling (step p) a =
        subst (λ (l : Local). T (steps_at t l)) (sym a.1) (subst (λ (o : Option (ℕ × ℕ)). T (no_next o)) (sym a.2) tt)
    telling (close p) a =
        subst (λ (l : Local). T (closes_at t s p l)) (sym a.1)
        (all_in t.places (λ c. not (child t p c && busy (s.at c))) (λ c l. not_T (child t p c && busy (s.at c)) (λ e.
        let b = T_and (child t p c) (busy (s.at c)) e in a.2 c (child_out p c b.0) b.1)))
    telling (meet h) a =
        and_T (eqb (t.home h) h) (ready t s h t.places (t.declarer h)) (eq_eqb (t.home h) h a.0)
        (ready_in sd wf h a.1 t.places (omega arith))
    telling (poison p h) a =
        let o = a.3 in
        and_T (eqb (t.home h) h) _ (eq_eqb (t.home h) h a.0)
        (and_T (t.knows p h) _ a.1
        (and_T (ready t s h t.places p) _ (ready_in sd wf h a.2 t.places (omega arith))
        (any_in t.places (λ c. not (eqb c p) && (child t (t.parent p) c && (live (s.at c) && spoiled t s h t.places c)))
        o.0 (wf.inside o.0 (live_some _ o.3))
        (and_T (not (eqb o.0 p)) _ (not_T (eqb o.0 p) (λ e. o.1 (eqb→eq o.0 p e)))
        (and_T (child t (t.parent p) o.0) _ (child_in (t.parent p) o.0 o.2)
        (and_T (live (s.at o.0)) (spoiled t s h t.places o.0) o.3 (spoiled_in sd wf h o.4 t.places (omega arith))))))))

pub permitted_tells : PermittedTells
permitted_tells t s m sd wf = (told t s sd wf m, telling t s sd wf m)

pub ready_tells : ReadyTells
ready_tells t s h p sd wf = (ready_out t s sd wf h t.places p, λ r. ready_in t s sd wf h r t.places (omega arith))

pub spoiled_tells : SpoiledTells
spoiled_tells t s h q sd wf = (spoiled_out t s sd wf h t.places q, λ r. spoiled_in t s sd wf h r t.places (omega arith))

pub counted_tells : CountedTells
counted_tells t s h p q sd = (
  climbs→ t.parent (counts_child t s h) p q q,
  λ c. →climbs t.parent (counts_child t s h) p (λ v j. sd.lower v (counts_out t s h v j).2.0) c q (omega arith),
)

pub ready_or_spoiled : ReadyOrSpoiled
ready_or_spoiled t s h q r p = spoiled_ready t s h p r

pub counted_form : CountedForm
counted_form t s h p sd wf =
    (λ r q w. waits_or_parts t s sd wf h (ready_down t s h r w), λ g. from_counted t s sd wf h t.places p (omega arith) g)
