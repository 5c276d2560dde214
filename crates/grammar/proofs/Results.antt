-- Answers that are bound, and spellings that are the same.
use Rattle.std.proofs.Common.{◌≡◌, ℕ, T, eqb, List, [], ◌∷◌, Ok, Err, refl, ap₂, arith, eqb→eq}
use Rattle.lemmas.proofs.Tests.{T_and}
use Rattle.reader.specs.Faults.{Answer, ◌>>=◌}
use Rattle.reader.specs.Tokens.{same}

pub bound : {A B : Type 0} (r : Answer A) (f : A → Answer B) (b : B) → (r >>= f) ≡ Ok b → (a : A) × (r ≡ Ok a) × (f a ≡ Ok b)
bound (Ok a) f b e = (a, refl, e)
bound (Err x) f b e = absurd (let z : ◌≡◌ {A = ℕ} 0 1 = cc in omega arith)

pub same_eq : (a b : List ℕ) → T (same a b) → a ≡ b
same_eq [] [] h = refl
same_eq [] (b ∷ bs) h = absurd h
same_eq (a ∷ as') [] h = absurd h
same_eq (a ∷ as') (b ∷ bs) h =
    let i = T_and (eqb a b) (same as' bs) h in
    ap₂ {B = List ℕ} (λ x y. x ∷ y) (eqb→eq a b i.0) (same_eq as' bs i.1)
