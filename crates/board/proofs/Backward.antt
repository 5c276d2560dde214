-- A test by fuel over a table whose children stand after their parents, as a loop from the last place to the first.
use Rattle.std.proofs.Common.{◌≡◌, ℕ, zero, suc, ◌+◌, ◌-◌, ◌<◌, ◌≤◌, Bool, true, false, not, ◌&&◌, ◌||◌, eqb, List, length, set, sym, refl, ap, ◌∙◌, subst, inl, inr, arith, get_or-set_other, get_or-set_same}
use Rattle.std.proofs.lemmas.Bool.{and_parts, eqb-true, not-true, eqb-false}
use Rattle.rules.specs.Programs.{Table}
use Rattle.rules.specs.Trees.{nonzero}
use Rattle.rules.specs.States.{State, Local, idle, running, parted, finished, poisoned, live}
use Rattle.rules.specs.Moves.{any_below}
use Rattle.rules.specs.Tests.{child, knowing_child, ready_at, ready, spoiled_at, spoiled, is_zero}
use Rattle.board.specs.Views.{flags}
use Rattle.board.specs.Loops.{AnsweredFrom}
use Rattle.lemmas.proofs.Tests.{same?}
use Rattle.tables.proofs.Counts.{all_same, any_same}

module _ (n : ℕ) (G : ℕ → (ℕ → Bool) → Bool) (F : ℕ → ℕ → Bool)
    (step : (f p : ℕ) → F (suc f) p ≡ G p (F f))
    (dep : (p : ℕ) (r u : ℕ → Bool) → ((c : ℕ) → p < c → c < n → r c ≡ u c) → G p r ≡ G p u) where
  pub fuel : (f g p : ℕ) → p < n → n ≤ f + p → n ≤ g + p → F f p ≡ F g p
  fuel zero g p l a b = absurd (omega arith)
  fuel (suc f) zero p l a b = absurd (omega arith)
  fuel (suc f) (suc g) p l a b =
      step f p ∙ dep p (F f) (F g) (λ c i j. fuel f g c j (omega arith) (omega arith)) ∙ sym (step g p)

  pub settled : (out : List Bool) → AnsweredFrom G n out 0 → (m p : ℕ) → n ≤ m + p → p < n → flags out p ≡ F n p
  settled out told zero p a l = absurd (omega arith)
  settled out told (suc m) p a l =
      let h = told p (omega arith) l in
      let k : ℕ = n - 1 in
      let up : n ≡ suc k = omega arith in
      h.2 ∙ dep p h.0 (F k) (λ c i j. h.1 c i ∙ settled out told m c (omega arith) j ∙ fuel n k c j (omega arith) (omega arith))
      ∙ sym (ap (λ f. F f p) up ∙ step k p)

-- one turn of the loop that writes the answers
pub answered_more : (g : ℕ → (ℕ → Bool) → Bool) (n : ℕ) (out : List Bool) (i p : ℕ) (v : Bool) → i ≡ p + 1 → p < length out
    → AnsweredFrom g n out i → v ≡ g p (flags out) → AnsweredFrom g n (set out p v) p
answered_more g n out i p v e l told new q a b =
    elim (same? q p) [
      | inl s ↦ subst (λ k. (u : ℕ → Bool) × ((c : ℕ) → k < c → u c ≡ flags (set out p v) c) × (flags (set out p v) k ≡ g k u)) (sym s)
          (flags out, (λ c h. let ne : c ≡ p → ⊥ = omega arith in sym (get_or-set_other out p c v false ne)), get_or-set_same out p v false l ∙ new)
      | inr ne ↦
          let w = told q (omega arith) b in
          (w.0, (λ c h. let other : c ≡ p → ⊥ = omega arith in w.1 c h ∙ sym (get_or-set_other out p c v false other)), get_or-set_other out p q v false ne ∙ w.2)
    ]

module _ (t : Table) (s : State) (h : ℕ) (low : (q : ℕ) → 0 < q → t.parent q < q) where
  child_lower : (p c : ℕ) → child t p c ≡ true → p < c
  child_lower p c e =
      let a = and_parts (nonzero c) (eqb (t.parent c) p) e in
      let z = eqb-false c 0 (not-true (eqb c 0) a.0) in
      let w = eqb-true (t.parent c) p a.1 in
      let k : 0 < c = omega arith in
      let l = low c k in
      omega arith

  knowing_child_lower : (p c : ℕ) → knowing_child t s h p c ≡ true → p < c
  knowing_child_lower p c e = child_lower p c (and_parts (child t p c) (live (s.at c) && t.knows c h) e).0

  imp_same : (a b c : Bool) → (a ≡ true → b ≡ c) → (not a || b) ≡ (not a || c)
  imp_same true b c e = e refl
  imp_same false b c e = refl

  and_same : (a b c : Bool) → (a ≡ true → b ≡ c) → (a && b) ≡ (a && c)
  and_same true b c e = e refl
  and_same false b c e = refl

  ready_dep : (p : ℕ) (r u : ℕ → Bool) → ((c : ℕ) → p < c → c < t.places → r c ≡ u c) → (l : Local) → ready_at t s h p r l ≡ ready_at t s h p u l
  ready_dep p r u e idle = refl
  ready_dep p r u e (running x) = refl
  ready_dep p r u e (parted x) =
      ap (λ b. any_below t.places (knowing_child t s h p) && b)
      (all_same t.places _ _ (λ c l. imp_same (knowing_child t s h p c) (r c) (u c) (λ i. e c (knowing_child_lower p c i) l)))
  ready_dep p r u e finished = refl
  ready_dep p r u e poisoned = refl

  spoiled_dep : (p : ℕ) (r u : ℕ → Bool) → ((c : ℕ) → p < c → c < t.places → r c ≡ u c) → (l : Local) → spoiled_at t s h p r l ≡ spoiled_at t s h p u l
  spoiled_dep p r u e idle = refl
  spoiled_dep p r u e (running x) = refl
  spoiled_dep p r u e (parted x) =
      ap (λ b. is_zero (s.mark p) && (not (any_below t.places (knowing_child t s h p)) || b))
      (any_same t.places _ _ (λ c l.
      and_same (child t p c) _ _ (λ i. ap (λ b. live (s.at c) && b) (e c (child_lower p c i) l))))
  spoiled_dep p r u e finished = refl
  spoiled_dep p r u e poisoned = refl

  pub ready_settled : (out : List Bool) → AnsweredFrom (λ p r. ready_at t s h p r (s.at p)) t.places out 0
      → (q : ℕ) → q < t.places → flags out q ≡ ready t s h t.places q
  ready_settled out told q l =
      settled t.places (λ p r. ready_at t s h p r (s.at p)) (ready t s h) (λ f p. refl) (λ p r u e. ready_dep p r u e (s.at p))
      out told t.places q (omega arith) l

  pub spoiled_settled : (out : List Bool) → AnsweredFrom (λ p r. t.knows p h && spoiled_at t s h p r (s.at p)) t.places out 0
      → (q : ℕ) → q < t.places → flags out q ≡ spoiled t s h t.places q
  spoiled_settled out told q l =
      settled t.places (λ p r. t.knows p h && spoiled_at t s h p r (s.at p)) (spoiled t s h) (λ f p. refl)
      (λ p r u e. ap (λ b. t.knows p h && b) (spoiled_dep p r u e (s.at p))) out told t.places q (omega arith) l
