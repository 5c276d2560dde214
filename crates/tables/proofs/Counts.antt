-- A loop that looks for something below a number, one step at a time.
use Rattle.std.proofs.Common.{◌≡◌, ℕ, zero, suc, ◌+◌, ◌<◌, Bool, true, false, ◌&&◌, ◌||◌, List, [], ◌∷◌, length, get_or, sym, refl, ap, ◌∙◌, ap₂, add-one, arith}
use Rattle.std.specs.List.{list_any, list_all}
use Rattle.rules.specs.Moves.{any_below}
use Rattle.rules.specs.Tests.{all_below}

pub any_step : (f : ℕ → Bool) (i : ℕ) → any_below (i + 1) f ≡ (f i || any_below i f)
any_step f i = ap (λ n. any_below n f) (add-one i)

pub all_same : (n : ℕ) (f g : ℕ → Bool) → ((c : ℕ) → c < n → f c ≡ g c) → all_below n f ≡ all_below n g
all_same zero f g e = refl
all_same (suc n) f g e = ap₂ ◌&&◌ (e n (omega arith)) (all_same n f g (λ c l. e c (omega arith)))

pub any_same : (n : ℕ) (f g : ℕ → Bool) → ((c : ℕ) → c < n → f c ≡ g c) → any_below n f ≡ any_below n g
any_same zero f g e = refl
any_same (suc n) f g e = ap₂ ◌||◌ (e n (omega arith)) (any_same n f g (λ c l. e c (omega arith)))

-- from the first to the last, as a list is searched
or_swap : (a b c : Bool) → (a || (b || c)) ≡ (b || (a || c))
or_swap true true c = refl
or_swap true false c = refl
or_swap false b c = refl

pub any_first : (n : ℕ) (f : ℕ → Bool) → any_below (suc n) f ≡ (f 0 || any_below n (λ i. f (suc i)))
any_first zero f = refl
any_first (suc n) f = ap (λ b. f (suc n) || b) (any_first n f) ∙ or_swap (f (suc n)) (f 0) (any_below n (λ i. f (suc i)))

pub any_listed : {X : Type 0} (p : X → Bool) (xs : List X) (d : X) → list_any p xs ≡ any_below (length xs) (λ i. p (get_or xs i d))
any_listed p [] d = refl
any_listed p (x ∷ xs) d = ap (λ b. p x || b) (any_listed p xs d) ∙ sym (any_first (length xs) (λ i. p (get_or (x ∷ xs) i d)))

and_swap : (a b c : Bool) → (a && (b && c)) ≡ (b && (a && c))
and_swap true b c = refl
and_swap false true c = refl
and_swap false false c = refl

pub all_first : (n : ℕ) (f : ℕ → Bool) → all_below (suc n) f ≡ (f 0 && all_below n (λ i. f (suc i)))
all_first zero f = refl
all_first (suc n) f = ap (λ b. f (suc n) && b) (all_first n f) ∙ and_swap (f (suc n)) (f 0) (all_below n (λ i. f (suc i)))

pub all_listed : {X : Type 0} (p : X → Bool) (xs : List X) (d : X) → list_all p xs ≡ all_below (length xs) (λ i. p (get_or xs i d))
all_listed p [] d = refl
all_listed p (x ∷ xs) d = ap (λ b. p x && b) (all_listed p xs d) ∙ sym (all_first (length xs) (λ i. p (get_or (x ∷ xs) i d)))
