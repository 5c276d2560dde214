-- Loops over the children of a place: some are f and each of those is r; none is f, or some are r.
use Rattle.std.proofs.Common.{◌≡◌, ℕ, zero, suc, ◌+◌, ◌<◌, Bool, true, false, not, ◌&&◌, ◌||◌, sym, refl, ap, ◌∙◌, subst, inl, inr, add-one, arith}
use Rattle.std.proofs.lemmas.Bool.{or_left, or_right, and_left, and_right, or_from, and_from, true≢false, false≢true}
use Rattle.lemmas.proofs.Tests.{same?}
use Rattle.rules.specs.Moves.{any_below}
use Rattle.rules.specs.Tests.{all_below}
use Rattle.tables.proofs.Counts.{any_step}

all_step : (f : ℕ → Bool) (i : ℕ) → all_below (i + 1) f ≡ (f i && all_below i f)
all_step f i = ap (λ n. all_below n f) (add-one i)

pub any_found : (f : ℕ → Bool) (n i : ℕ) → i < n → f i ≡ true → any_below n f ≡ true
any_found f zero i l e = absurd (omega arith)
any_found f (suc n) i l e =
    elim (same? i n) [
      | inl s ↦ or_left (f n) (any_below n f) (ap f (sym s) ∙ e)
      | inr ne ↦ or_right (f n) (any_below n f) (any_found f n i (omega arith) e)
    ]

all_missed : (f : ℕ → Bool) (n i : ℕ) → i < n → f i ≡ false → all_below n f ≡ false
all_missed f zero i l e = absurd (omega arith)
all_missed f (suc n) i l e =
    elim (same? i n) [
      | inl s ↦ and_left (f n) (all_below n f) (ap f (sym s) ∙ e)
      | inr ne ↦ and_right (f n) (all_below n f) (all_missed f n i (omega arith) e)
    ]

-- what is false of all below i, and of i
pub any_more : (f : ℕ → Bool) (i : ℕ) → any_below i f ≡ false → f i ≡ false → any_below (i + 1) f ≡ false
any_more f i h e = any_step f i ∙ or_from (f i) (any_below i f) e h

all_more : (f : ℕ → Bool) (i : ℕ) → all_below i f ≡ true → f i ≡ true → all_below (i + 1) f ≡ true
all_more f i h e = all_step f i ∙ and_from (f i) (all_below i f) e h

-- some below n are f, and each of those is r
module _ (f r : ℕ → Bool) where
  abbrev pub each : ℕ → Bool
  each c = not (f c) || r c

  abbrev pub Both : ℕ → Bool → Type 0
  Both i some = (some ≡ any_below i f) × (all_below i each ≡ true)

  each_ready : (a b : Bool) → b ≡ true → (not a || b) ≡ true
  each_ready true b e = e
  each_ready false b e = refl

  each_not : (a b : Bool) → a ≡ false → (not a || b) ≡ true
  each_not true b e = absurd (true≢false e)
  each_not false b e = refl

  each_miss : (a b : Bool) → a ≡ true → b ≡ false → (not a || b) ≡ false
  each_miss true b e h = h
  each_miss false b e h = absurd (false≢true e)

  pub both_took : (i : ℕ) (some : Bool) → Both i some → f i ≡ true → r i ≡ true → Both (i + 1) true
  both_took i some b e h =
      (sym (any_step f i ∙ or_left (f i) (any_below i f) e), all_more each i b.1 (each_ready (f i) (r i) h))

  pub both_left : (i : ℕ) (some : Bool) → Both i some → f i ≡ false → Both (i + 1) some
  both_left i some b e =
      (b.0 ∙ sym (any_step f i ∙ ap (λ v. v || any_below i f) e), all_more each i b.1 (each_not (f i) (r i) e))

  pub both_missed : (n i : ℕ) → i < n → f i ≡ true → r i ≡ false → false ≡ (any_below n f && all_below n each)
  both_missed n i l e h = sym (and_right (any_below n f) (all_below n each) (all_missed each n i l (each_miss (f i) (r i) e h)))

  pub both_end : (i n : ℕ) (some : Bool) → i ≡ n → Both i some → some ≡ (any_below n f && all_below n each)
  both_end i n some e b =
      subst (λ (v : ℕ). some ≡ (any_below v f && all_below v each)) e
      (b.0 ∙ sym (ap (λ v. any_below i f && v) b.1 ∙ and_true (any_below i f)))
    where
      and_true : (b : Bool) → (b && true) ≡ b
      and_true true = refl
      and_true false = refl

pub any_took : (f : ℕ → Bool) (i : ℕ) → f i ≡ true → true ≡ any_below (i + 1) f
any_took f i e = sym (any_step f i ∙ or_left (f i) (any_below i f) e)

pub any_left : (f : ℕ → Bool) (i : ℕ) (some : Bool) → some ≡ any_below i f → f i ≡ false → some ≡ any_below (i + 1) f
any_left f i some b e = b ∙ sym (any_step f i ∙ ap (λ v. v || any_below i f) e)

pub through_end : (f r : ℕ → Bool) (i n : ℕ) (some : Bool) → i ≡ n → some ≡ any_below i f → any_below i r ≡ false
    → not some ≡ (not (any_below n f) || any_below n r)
through_end f r i n some e a b =
    subst (λ (v : ℕ). not some ≡ (not (any_below v f) || any_below v r)) e
    (ap not a ∙ sym (ap (λ v. not (any_below i f) || v) b ∙ or_false (not (any_below i f))))
  where
    or_false : (b : Bool) → (b || false) ≡ b
    or_false true = refl
    or_false false = refl
