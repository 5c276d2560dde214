-- The tree of places in a well formed state: what stands above a place, and beside it.
use Rattle.std.proofs.Common.{◌≡◌, ℕ, zero, suc, ◌≤◌, not, T, ◌≢◌, ◌⊎◌, sym, refl, ap, ◌∙◌, subst, inl, inr, arith}
use Rattle.rules.specs.Invariants.{Wf}
use Rattle.rules.specs.Programs.{Table}
use Rattle.rules.specs.Readiness.{Counted}
use Rattle.rules.specs.Soundness.{Sound, Beside}
use Rattle.rules.specs.States.{State, Local, running, parted, live, busy, is_parted, is_idle}
use Rattle.rules.specs.Trees.{here, more, nonzero, Child, Within}
use Rattle.lemmas.proofs.Tests.{differ}
use Rattle.rules.proofs.Locals.{parted_inj, busy_live, live_some}
use Rattle.rules.proofs.Tree.{part_ways}
use Rattle.rules.proofs.Readiness.{counts_in}
use Rattle.rules.proofs.Places.{run_place}

module _ (t : Table) (sd : Sound t) (s : State) (wf : Wf t s) where
  -- above a place that is not idle stand parted places
  pub above : (p : ℕ) {q : ℕ} → Within t p q → T (not (is_idle (s.at q))) → (q ≡ p) ⊎ ((x : ℕ) × (s.at p ≡ parted x))
  above p (here e) n = inl e
  above p (more {q} z w) n =
      let b = wf.branches q z n in
      elim (above p w (subst (λ (l : Local). T (not (is_idle l))) (sym b) tt)) [
        | inl e ↦ inr (t.under q, sym (ap s.at e) ∙ b)
        | inr o ↦ inr o
      ]

  -- and on the way down to a running or parted place each one is
  above_at : (p : ℕ) {v : ℕ} → Within t p v → (q : ℕ) → t.parent q ≡ v → T (nonzero q) → T (busy (s.at q))
      → (c : ℕ) × Child t p c × T (busy (s.at c)) × Within t c q
  above_at p (here e) q i z b = (q, (z, i ∙ e), b, here refl)
  above_at p (more {q = v} y w) q i z b =
      let e : s.at v ≡ parted (t.under q) = sym (ap s.at i) ∙ wf.branches q z (live_some _ (busy_live _ b)) in
      let r = above_at p w v refl y (subst (λ (l : Local). T (busy l)) (sym e) tt) in
      (r.0, r.1, r.2, more z (subst (λ (u : ℕ). Within t r.0 u) (sym i) r.3))

  pub above_busy : (p q : ℕ) → T (nonzero q) → Within t p (t.parent q) → T (busy (s.at q))
      → (c : ℕ) × Child t p c × T (busy (s.at c)) × Within t c q
  above_busy p q z w b = above_at p w q refl z b

  pub apart_from : (p q x y : ℕ) → s.at p ≡ running x → s.at q ≡ running y → p ≢ q → Within t p q → ⊥
  apart_from p q x y e f ne w =
      elim (above p w (subst (λ (l : Local). T (not (is_idle l))) (sym f) tt)) [
        | inl d ↦ ne (sym d)
        | inr o ↦ differ is_parted o.1 e tt tt
      ]

  -- a place above one that is not idle is not idle
  pub above_some : (c q : ℕ) → Within t c q → T (not (is_idle (s.at q))) → T (not (is_idle (s.at c)))
  above_some c q w n =
      elim (above c w n) [
        | inl e ↦ subst (λ (v : ℕ). T (not (is_idle (s.at v)))) e n
        | inr o ↦ subst (λ (l : Local). T (not (is_idle l))) (sym o.1) tt
      ]

  -- two running places stand in two branches of one par
  pub beside : (p q x y : ℕ) → s.at p ≡ running x → s.at q ≡ running y → p ≢ q → Beside t (t.place x) (t.place y)
  beside p q x y e f ne =
      let a = part_ways t sd p p p q (omega arith) (here refl) (apart_from p q x y e f ne) (apart_from q p y x f e (λ i. ne (sym i))) in
      let b : s.at (t.parent a.0) ≡ parted (t.under a.0) =
      wf.branches a.0 a.3 (above_some a.0 p a.6 (subst (λ (l : Local). T (not (is_idle l))) (sym e) tt))
      in
      let c : s.at (t.parent a.1) ≡ parted (t.under a.1) =
      wf.branches a.1 a.4 (above_some a.1 q a.7 (subst (λ (l : Local). T (not (is_idle l))) (sym f) tt))
      in
      let g : parted (t.under a.0) ≡ parted (t.under a.1) = sym b ∙ ap s.at a.5 ∙ c in (
        a.0,
        a.1,
        a.2,
        a.3,
        a.4,
        parted_inj _ _ g,
        subst (λ (v : ℕ). Within t a.0 v) (sym (run_place t s wf p x e)) a.6,
        subst (λ (v : ℕ). Within t a.1 v) (sym (run_place t s wf q y f)) a.7,
      )

  -- a live place that knows h is counted from where h is declared
  pub knows_counted : (f q h : ℕ) → q ≤ f → T (live (s.at q)) → T (t.knows q h) → Counted t s h (t.declarer h) q
  knows_counted zero q h le l n = let z = sd.lower q (sd.known q h n).0 in absurd (omega arith)
  knows_counted (suc f) q h le l n =
      let a = sd.known q h n in
      let z = sd.lower q a.0 in
      let e = wf.branches q a.0 (live_some _ l) in
      let j = counts_in t s h q (t.parent q) (t.under q) e (a.0, refl, l, n) in
      elim a.1 [
        | inl b ↦ more j (knows_counted f (t.parent q) h (omega arith) (subst (λ (v : Local). T (live v)) (sym e) tt) b)
        | inr b ↦ more j (here b)
      ]
