-- Small facts on tests and options.
use mathlib.Core.Path.{◌≡◌, refl, sym, ap, subst, ◌∙◌}
use mathlib.Core.Bool.{Bool, true, false, cond, not, ◌&&◌, ◌||◌}
use mathlib.Core.Logic.{◌⊎◌, inl, inr, ◌≢◌}
use mathlib.Core.Option.{Option, some, none, get_or}
use Prim.Native.Nat.{ℕ}
use lib.Dec.{T, eqb, eqb→eq, eqb_refl, T_not}

pub T_and : (a b : Bool) → T (a && b) → T a × T b
T_and true b h = (tt, h)
T_and false b h = absurd h

pub and_T : (a b : Bool) → T a → T b → T (a && b)
and_T true b h k = k
and_T false b h k = absurd h

pub T_or : (a b : Bool) → T (a || b) → T a ⊎ T b
T_or true b h = inl tt
T_or false b h = inr h

pub or_l : (a b : Bool) → T a → T (a || b)
or_l true b h = tt
or_l false b h = absurd h

pub or_r : (a b : Bool) → T b → T (a || b)
or_r true b h = tt
or_r false b h = h

pub T_same : (a b : Bool) → (T a → T b) → (T b → T a) → a ≡ b
T_same true true f g = refl
T_same true false f g = absurd (f tt)
T_same false true f g = absurd (g tt)
T_same false false f g = refl

pub T_true : (a : Bool) → T a → a ≡ true
T_true true h = refl
T_true false h = absurd h

pub T_false : (a : Bool) → (T a → ⊥) → a ≡ false
T_false true h = absurd (h tt)
T_false false h = refl

pub T_dec : (a : Bool) → T a ⊎ (T a → ⊥)
T_dec true = inl tt
T_dec false = inr (λ h. h)

pub T_at : {a b : Bool} → a ≡ b → T a → T b
T_at e h = subst T e h

pub same? : (m n : ℕ) → (m ≡ n) ⊎ (m ≢ n)
same? m n = elim (T_dec (eqb m n)) [ inl h ↦ inl (eqb→eq m n h) | inr h ↦ inr (λ e. h (subst (λ (x : ℕ). T (eqb m x)) e (eqb_refl m))) ]

pub eq_eqb : (m n : ℕ) → m ≡ n → T (eqb m n)
eq_eqb m n e = subst (λ (x : ℕ). T (eqb m x)) e (eqb_refl m)

-- an option that a test gives
pub cond_some : {A : Type 0} (b : Bool) (x y : A) → cond b (some x) none ≡ some y → T b × (x ≡ y)
cond_some true x y e = (tt, cc)
cond_some false x y e = absurd (let z : ◌≡◌ {A = ℕ} 0 1 = cc in omega native.Mathlib.Omega.arith)

pub cond_else : {A : Type 0} (b : Bool) (x y : A) (o : Option A) → cond b (some x) o ≡ some y → (T b × (x ≡ y)) ⊎ ((T b → ⊥) × (o ≡ some y))
cond_else true x y o e = inl (tt, cc)
cond_else false x y o e = inr (λ h. h, e)

pub some_none : {A B : Type 0} (x : A) (o : Option A) → o ≡ some x → o ≡ none → B
some_none x o e f = absurd (let z : ◌≡◌ {A = ℕ} 0 1 = cc in omega native.Mathlib.Omega.arith)

-- an option is nothing, or something
pub look : {A : Type 0} (o : Option A) → (o ≡ none) ⊎ ((a : A) × (o ≡ some a))
look none = inl refl
look (some a) = inr (a, refl)

-- nothing, where something is absurd
pub is_none : {A : Type 0} (o : Option A) → ((a : A) → o ≡ some a → ⊥) → o ≡ none
is_none none h = refl
is_none (some a) h = absurd (h a refl)

-- two different values of one thing, told apart by a test
pub differ : {A B : Type 0} (f : A → Bool) {x y z : A} → x ≡ y → x ≡ z → T (f y) → T (not (f z)) → B
differ {A} f {x} {y} {z} e e' a b = absurd (T_not (f z) b (subst (λ (v : A). T (f v)) (sym e ∙ e') a))

pub pair_eq : {A B : Type 0} (a c : A) (b d : B) → ◌≡◌ {A = Option (A × B)} (some (a, b)) (some (c, d)) → (a ≡ c) × (b ≡ d)
pair_eq {A} {B} a c b d e = (ap (λ o. (get_or {A = A × B} o (a, b)).0) e, ap (λ o. (get_or {A = A × B} o (a, b)).1) e)
