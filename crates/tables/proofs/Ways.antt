-- The way up from a place to its parent, and on to the main block, one step at a time.
use Rattle.std.proofs.Common.{◌≡◌, ℕ, zero, suc, ◌<◌, ◌≤◌, Bool, true, false, not, ◌&&◌, ◌||◌, eqb, sym, refl, ap, ◌∙◌, inl, inr, arith}
use Rattle.std.proofs.lemmas.Bool.{not-true, eqb-false, cases_Bool, eq-eqb, ne_eqb}
use Rattle.rules.specs.Programs.{Table}
use Rattle.rules.specs.Trees.{climbs, nonzero, within}

module _ (up : ℕ → ℕ) (ok : ℕ → Bool) (low : (q : ℕ) → ok q ≡ true → up q < q) (p : ℕ) where
  none : (b c : Bool) → (b ≡ true → ⊥) → (b && c) ≡ false
  none true c n = absurd (n refl)
  none false c n = refl

  or_nothing : (a b : Bool) → b ≡ false → (a || b) ≡ a
  or_nothing true b e = refl
  or_nothing false b e = e

  and_same : (a b c : Bool) → (a ≡ true → b ≡ c) → (a && b) ≡ (a && c)
  and_same true b c e = e refl
  and_same false b c e = refl

  pub climbs_fuel : (f g q : ℕ) → q ≤ f → q ≤ g → climbs up ok p f q ≡ climbs up ok p g q
  climbs_fuel zero zero q a b = refl
  climbs_fuel zero (suc g) q a b =
      sym (or_nothing (eqb q p) _ (none (ok q) (climbs up ok p g (up q)) (λ e. let l = low q e in absurd (omega arith))))
  climbs_fuel (suc f) zero q a b =
      or_nothing (eqb q p) _ (none (ok q) (climbs up ok p f (up q)) (λ e. let l = low q e in absurd (omega arith)))
  climbs_fuel (suc f) (suc g) q a b =
      ap (λ v. eqb q p || v)
      (and_same (ok q) (climbs up ok p f (up q)) (climbs up ok p g (up q)) (λ e. let l = low q e in climbs_fuel f g (up q) (omega arith) (omega arith)))

  -- one way up
  pub climbs_one : (q : ℕ) → climbs up ok p q q ≡ (eqb q p || (ok q && climbs up ok p (up q) (up q)))
  climbs_one q =
      climbs_fuel q (suc q) q (omega arith) (omega arith)
      ∙ ap (λ v. eqb q p || v) (and_same (ok q) _ _ (λ e. let l = low q e in climbs_fuel q (up q) (up q) (omega arith) (omega arith)))

module _ (t : Table) (lower : (q : ℕ) → 0 < q → t.parent q < q) where
  positive : (q : ℕ) → nonzero q ≡ true → 0 < q
  positive q e = let z = eqb-false q 0 (not-true (eqb q 0) e) in omega arith

  pub nonzero_low : (q : ℕ) → nonzero q ≡ true → t.parent q < q
  nonzero_low q e = lower q (positive q e)

  pub within_here : (p q : ℕ) → q ≡ p → within t p q ≡ true
  within_here p q e = climbs_one t.parent nonzero nonzero_low p q ∙ ap (λ b. b || (nonzero q && within t p (t.parent q))) (eq-eqb q p e)

  pub within_up : (p q : ℕ) → (q ≡ p → ⊥) → (q ≡ 0 → ⊥) → within t p q ≡ within t p (t.parent q)
  within_up p q ne nz =
      climbs_one t.parent nonzero nonzero_low p q
      ∙ ap (λ b. b || (nonzero q && within t p (t.parent q))) (ne_eqb q p ne)
      ∙ ap (λ b. not b && within t p (t.parent q)) (ne_eqb q 0 nz)

  pub within_none : (p q : ℕ) → (q ≡ p → ⊥) → q ≡ 0 → within t p q ≡ false
  within_none p q ne z =
      climbs_one t.parent nonzero nonzero_low p q
      ∙ ap (λ b. b || (nonzero q && within t p (t.parent q))) (ne_eqb q p ne)
      ∙ ap (λ b. not b && within t p (t.parent q)) (eq-eqb q 0 z)

  -- nothing below a number comes up to it
  within_root : (p q : ℕ) → q < p → nonzero q ≡ false → within t p q ≡ false
  within_root p q h z =
      climbs_one t.parent nonzero nonzero_low p q
      ∙ ap (λ b. b || (nonzero q && within t p (t.parent q))) (ne_eqb q p (omega arith))
      ∙ ap (λ b. b && within t p (t.parent q)) z

  pub within_below : (f p q : ℕ) → q ≤ f → q < p → within t p q ≡ false
  within_below zero p q l h =
      elim (cases_Bool (nonzero q)) [
        | inl z ↦ let y = positive q z in absurd (omega arith)
        | inr z ↦ within_root p q h z
      ]
  within_below (suc f) p q l h =
      elim (cases_Bool (nonzero q)) [
        | inl z ↦
            let y = nonzero_low q z in
            let w = positive q z in
            within_up p q (omega arith) (omega arith) ∙ within_below f p (t.parent q) (omega arith) (omega arith)
        | inr z ↦ within_root p q h z
      ]
