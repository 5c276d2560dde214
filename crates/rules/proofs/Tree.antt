-- Ways up the tree of places: the relation and its test.
use Rattle.std.proofs.Common.{◌≡◌, ℕ, zero, suc, ◌<◌, ◌≤◌, Bool, ◌&&◌, T, eqb, ◌≢◌, ◌⊎◌, sym, refl, ap, subst, inl, inr, arith, eqb→eq}
use lib.Dec.{not_T}
use Rattle.rules.specs.Programs.{Table}
use Rattle.rules.specs.Soundness.{Sound}
use Rattle.rules.specs.Trees.{Climb, here, more, climbs, nonzero, Within, within, Child}
use Rattle.lemmas.proofs.Tests.{T_and, and_T, T_or, or_l, or_r, eq_eqb, T_dec, same?}

module _ (up : ℕ → ℕ) (ok : ℕ → Bool) (p : ℕ) where
  pub climbs→ : (f q : ℕ) → T (climbs up ok p f q) → Climb up ok p q
  climbs→ zero q h = here (eqb→eq q p h)
  climbs→ (suc f) q h =
      elim (T_or (eqb q p) (ok q && climbs up ok p f (up q)) h) [
        | inl e ↦ here (eqb→eq q p e)
        | inr r ↦
            let a : T (ok q) × T (climbs up ok p f (up q)) = T_and (ok q) (climbs up ok p f (up q)) r in
            more a.0 (climbs→ f (up q) a.1)
      ]

  pub →climbs : ((q : ℕ) → T (ok q) → up q < q) → {q : ℕ} → Climb up ok p q → (f : ℕ) → q ≤ f → T (climbs up ok p f q)
  →climbs lower_to {q} (here e) zero le = eq_eqb q p e
  →climbs lower_to {q} (here e) (suc f) le = or_l (eqb q p) (ok q && climbs up ok p f (up q)) (eq_eqb q p e)
  →climbs lower_to {q} (more t c) zero le = let z = lower_to q t in absurd (omega arith)
  →climbs lower_to {q} (more t c) (suc f) le =
      let z = lower_to q t in
      or_r (eqb q p) (ok q && climbs up ok p f (up q)) (and_T (ok q) (climbs up ok p f (up q)) t (→climbs lower_to c f (omega arith)))

pub compare_ways : {up : ℕ → ℕ} {ok : ℕ → Bool} {p r q : ℕ} → Climb up ok p q → Climb up ok r q → Climb up ok p r ⊎ Climb up ok r p
compare_ways {up} {ok} {p} {r} (here e) d = inr (subst (λ (v : ℕ). Climb up ok r v) e d)
compare_ways {up} {ok} {p} {r} (more t c) (here e) = inl (subst (λ (v : ℕ). Climb up ok p v) e (more t c))
compare_ways (more t c) (more u d) = compare_ways c d

pub weaken : {up : ℕ → ℕ} {ok ok' : ℕ → Bool} {p q : ℕ} → ((v : ℕ) → T (ok v) → T (ok' v)) → Climb up ok p q → Climb up ok' p q
weaken f (here e) = here e
weaken f (more {q} t c) = more (f q t) (weaken f c)

-- ---- the places of a table

zero_place : (q : ℕ) → (T (nonzero q) → ⊥) → q ≡ 0
zero_place q h = elim (same? q 0) [ inl e ↦ e | inr ne ↦ absurd (h (not_T (eqb q 0) (λ b. ne (eqb→eq q 0 b)))) ]

module _ (t : Table) (sd : Sound t) where
  pub root : (f q : ℕ) → q ≤ f → Within t 0 q
  root zero q le = here (omega arith)
  root (suc f) q le =
      elim (T_dec (nonzero q)) [
        | inl z ↦ let l = sd.lower q z in more z (root f (t.parent q) (omega arith))
        | inr n ↦ here (zero_place q n)
      ]

  above_more : {c p : ℕ} → Within t c p → T (nonzero c) → Within t (t.parent c) p
  above_more {c} {p} (here e) z = more (subst (λ (v : ℕ). T (nonzero v)) (sym e) z) (here (ap t.parent e))
  above_more (more y w) z = more y (above_more w z)

  last_step : {r q : ℕ} → Within t r q → q ≢ r → (d : ℕ) × Child t r d × Within t d q
  last_step (here e) ne = absurd (ne e)
  last_step {r} (more {q} z w) ne =
      elim (same? (t.parent q) r) [
        | inl e ↦ (q, (z, e), here refl)
        | inr n ↦ let i = last_step w n in (i.0, i.1, more z i.2)
      ]

  -- where the ways up from two places part
  abbrev Parting : ℕ → ℕ → Type 0
  Parting p q =
      (d : ℕ) × (e : ℕ) × (d ≢ e) × T (nonzero d) × T (nonzero e) × (t.parent d ≡ t.parent e) × Within t d p × Within t e q

  -- at c, or further up
  part_at : (c p q : ℕ) → Within t c p → (Within t c q → ⊥) → (Within t q p → ⊥)
      → Parting p q ⊎ (T (nonzero c) × (Within t (t.parent c) q → ⊥))
  part_at c p q w n m =
      elim (T_dec (nonzero c)) [
        | inr z ↦ absurd (n (subst (λ (v : ℕ). Within t v q) (sym (zero_place c z)) (root q q (omega arith))))
        | inl z ↦
            elim (T_dec (within t (t.parent c) q)) [
              | inl h ↦
                  let v = climbs→ t.parent nonzero (t.parent c) q q h in
                  let i = last_step v (λ e. m (subst (λ (u : ℕ). Within t u p) (sym e) (above_more w z))) in
                  inl (c, i.0, λ e. n (subst (λ (u : ℕ). Within t u q) (sym e) i.2), z, i.1.0, sym i.1.1, w, i.2)
              | inr h ↦ inr (z, λ v. h (→climbs t.parent nonzero (t.parent c) sd.lower v q (omega arith)))
            ]
      ]

  pub part_ways : (f c p q : ℕ) → c ≤ f → Within t c p → (Within t c q → ⊥) → (Within t q p → ⊥)
      → (d : ℕ) × (e : ℕ) × (d ≢ e) × T (nonzero d) × T (nonzero e) × (t.parent d ≡ t.parent e) × Within t d p × Within t e q
  part_ways zero c p q le w n m =
      elim (part_at c p q w n m) [ inl a ↦ a | inr b ↦ let l = sd.lower c b.0 in absurd (omega arith) ]
  part_ways (suc f) c p q le w n m =
      elim (part_at c p q w n m) [
        | inl a ↦ a
        | inr b ↦ let l = sd.lower c b.0 in part_ways f (t.parent c) p q (omega arith) (above_more w b.0) b.1 m
      ]
