-- Tests of all numbers, or of some number, below a bound.
use Rattle.std.proofs.Common.{ℕ, zero, suc, ◌<◌, Bool, true, false, not, ◌||◌, T, sym, subst, inl, inr, arith}
use Rattle.rules.specs.Moves.{any_below}
use Rattle.rules.specs.Tests.{all_below}
use Rattle.lemmas.proofs.Tests.{T_and, and_T, T_or, or_l, or_r, same?}

pub any_out : (n : ℕ) (f : ℕ → Bool) → T (any_below n f) → (q : ℕ) × (q < n) × T (f q)
any_out zero f h = absurd h
any_out (suc n) f h =
    elim (T_or (f n) (any_below n f) h) [
      | inl a ↦ (n, omega arith, a)
      | inr b ↦ let i = any_out n f b in let l = i.1 in (i.0, omega arith, i.2)
    ]

pub any_in : (n : ℕ) (f : ℕ → Bool) (q : ℕ) → q < n → T (f q) → T (any_below n f)
any_in zero f q l h = absurd (omega arith)
any_in (suc n) f q l h =
    elim (same? q n) [
      | inl e ↦ or_l (f n) (any_below n f) (subst (λ (v : ℕ). T (f v)) e h)
      | inr ne ↦ or_r (f n) (any_below n f) (any_in n f q (omega arith) h)
    ]

pub all_out : (n : ℕ) (f : ℕ → Bool) → T (all_below n f) → (q : ℕ) → q < n → T (f q)
all_out zero f h q l = absurd (omega arith)
all_out (suc n) f h q l =
    elim (same? q n) [
      | inl e ↦ subst (λ (v : ℕ). T (f v)) (sym e) (T_and (f n) (all_below n f) h).0
      | inr ne ↦ all_out n f (T_and (f n) (all_below n f) h).1 q (omega arith)
    ]

pub all_in : (n : ℕ) (f : ℕ → Bool) → ((q : ℕ) → q < n → T (f q)) → T (all_below n f)
all_in zero f h = tt
all_in (suc n) f h = and_T (f n) (all_below n f) (h n (omega arith)) (all_in n f (λ q l. h q (omega arith)))

pub imp_out : (a b : Bool) → T (not a || b) → T a → T b
imp_out true b h i = h
imp_out false b h i = absurd i

pub imp_in : (a b : Bool) → (T a → T b) → T (not a || b)
imp_in true b h = h tt
imp_in false b h = tt
