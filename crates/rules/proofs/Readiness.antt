-- What is ready, what is spoiled.
use Rattle.std.proofs.Common.{◌≡◌, ℕ, ◌&&◌, T, sym, refl, ap, ◌∙◌, subst}
use mathlib.Core.Option.{some}
use Rattle.rules.specs.Programs.{Table, awaits}
use Rattle.rules.specs.Readiness.{counts_child, KnowingChild, Waits, Ready, waits, parts, Spoiled, itself, no_child_knows, child_spoiled, Counted}
use Rattle.rules.specs.States.{State, Local, running, parted, live, busy, is_parted}
use Rattle.rules.specs.Trees.{here, more, nonzero}
use Rattle.lemmas.proofs.Tests.{T_and, and_T, T_at, differ, pair_eq}
use Rattle.rules.proofs.Locals.{is_parted_lem}

-- a place stands before one next
pub same_next : (t : Table) (s : State) (q x y c d h g : ℕ)
    → s.at q ≡ running x
    → s.at q ≡ running y
    → awaits (t.stm x) ≡ some (c, h)
    → awaits (t.stm y) ≡ some (d, g)
    → (c ≡ d) × (h ≡ g)
same_next t s q x y c d h g e f i j =
    let z : x ≡ y = cc (e, f) in
    pair_eq c d h g (sym i ∙ ap (λ v. awaits (t.stm v)) z ∙ j)

module _ (t : Table) (s : State) (h : ℕ) where
  -- the parts of `joins`
  pub counts_out : (q : ℕ) → T (counts_child t s h q) → (x : ℕ) × (s.at (t.parent q) ≡ parted x) × KnowingChild t s h (t.parent q) q
  counts_out q j =
      let a : T (nonzero q) × T (is_parted (s.at (t.parent q)) && (live (s.at q) && t.knows q h)) = T_and _ _ j in
      let b : T (is_parted (s.at (t.parent q))) × T (live (s.at q) && t.knows q h) = T_and _ _ a.1 in
      let c : T (live (s.at q)) × T (t.knows q h) = T_and _ _ b.1 in
      let d : (x : ℕ) × (s.at (t.parent q) ≡ parted x) = is_parted_lem _ b.0 in
      (d.0, d.1, (a.0, refl, c.0, c.1))

  pub counts_in : (q p x : ℕ) → s.at p ≡ parted x → KnowingChild t s h p q → T (counts_child t s h q)
  counts_in q p x e a =
      and_T _ _ a.0
      (and_T _ _ (subst (λ (v : ℕ). T (is_parted (s.at v))) (sym a.1) (subst (λ (l : Local). T (is_parted l)) (sym e) tt))
      (and_T _ _ a.2 a.3))

  -- one more place is counted
  pub counted_child : (p r c x : ℕ) → Counted t s h p r → s.at r ≡ parted x → KnowingChild t s h r c → Counted t s h p c
  counted_child p r c x w e a = more (counts_in c r x e a) (subst (λ (v : ℕ). Counted t s h p v) (sym a.1) w)

  pub ready_busy : {p : ℕ} → Ready t s h p → T (busy (s.at p))
  ready_busy (waits w) = subst (λ (l : Local). T (busy l)) (sym w.2) tt
  ready_busy (parts x e c a f) = subst (λ (l : Local). T (busy l)) (sym e) tt

  -- of a parted place that is ready
  pub ready_parted : {p : ℕ} (x : ℕ) → s.at p ≡ parted x → Ready t s h p
      → ((c : ℕ) × KnowingChild t s h p c) × ((c : ℕ) → KnowingChild t s h p c → Ready t s h c)
  ready_parted x e (waits w) = differ is_parted e w.2 tt tt
  ready_parted x e (parts y e' c a f) = ((c, a), f)

  pub ready_running : {p : ℕ} (x : ℕ) → s.at p ≡ running x → Ready t s h p → Waits t s h p
  ready_running x e (waits w) = w
  ready_running x e (parts y e' c a f) = differ is_parted e' e tt tt

  pub ready_down : {p q : ℕ} → Ready t s h p → Counted t s h p q → Ready t s h q
  ready_down r (here e) = subst (λ (v : ℕ). Ready t s h v) (sym e) r
  ready_down r (more {q} j w) =
      let a = counts_out q j in
      (ready_parted a.0 a.1 (ready_down r w)).1 q a.2

  pub spoiled_knows : {q : ℕ} → Spoiled t s h q → T (t.knows q h)
  spoiled_knows (itself n e) = n
  spoiled_knows (no_child_knows x n e m f) = n
  spoiled_knows (child_spoiled x n e m c d l p) = n

  pub spoiled_ready : {q : ℕ} → Spoiled t s h q → Ready t s h q → ⊥
  spoiled_ready (itself n e) r = T_at (ap busy e) (ready_busy r)
  spoiled_ready (no_child_knows x n e m f) r = let a = (ready_parted x e r).0 in f a.0 a.1
  spoiled_ready (child_spoiled x n e m c d l p) r = spoiled_ready p ((ready_parted x e r).1 c (d.0, d.1, l, spoiled_knows p))
