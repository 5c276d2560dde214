-- Lists of moves: membership, and the order of names.
use Rattle.std.proofs.Common.{◌≡◌, ℕ, zero, suc, ◌<◌, Bool, true, false, cond, T, ◌⊎◌, List, [], ◌∷◌, ◌++◌, length, sym, refl, ap, subst, inl, inr, arith}
use mathlib.Core.Option.{some, none}
use Rattle.rules.specs.States.{Move}
use Rattle.rules.specs.Names.{name_of, Precedes}
use Rattle.rules.specs.Listings.{nth, each}
use Rattle.lemmas.proofs.Tests.{some_none, same?}

abbrev pub In : Move → List Move → Type 0
In m [] = ⊥
In m (x ∷ xs) = (m ≡ x) ⊎ In m xs

pub in_nth : (m : Move) (xs : List Move) → In m xs → (i : ℕ) × (nth xs i ≡ some m)
in_nth m [] h = absurd h
in_nth m (x ∷ xs) (inl e) = (0, ap some (sym e))
in_nth m (x ∷ xs) (inr h) = let a = in_nth m xs h in (suc a.0, a.1)

pub nth_in : (m : Move) (xs : List Move) (i : ℕ) → nth xs i ≡ some m → In m xs
nth_in m [] i e = some_none m none e refl
nth_in m (x ∷ xs) zero e = inl cc
nth_in m (x ∷ xs) (suc i) e = inr (nth_in m xs i e)

pub in_l : (m : Move) (xs ys : List Move) → In m xs → In m (xs ++ ys)
in_l m [] ys h = absurd h
in_l m (x ∷ xs) ys (inl e) = inl e
in_l m (x ∷ xs) ys (inr h) = inr (in_l m xs ys h)

pub in_r : (m : Move) (xs ys : List Move) → In m ys → In m (xs ++ ys)
in_r m [] ys h = h
in_r m (x ∷ xs) ys h = inr (in_r m xs ys h)

pub in_append : (m : Move) (xs ys : List Move) → In m (xs ++ ys) → In m xs ⊎ In m ys
in_append m [] ys h = inr h
in_append m (x ∷ xs) ys (inl e) = inl (inl e)
in_append m (x ∷ xs) ys (inr h) = elim (in_append m xs ys h) [ inl a ↦ inl (inr a) | inr b ↦ inr b ]

pub in_each : (m : Move) (f : ℕ → List Move) (n i : ℕ) → i < n → In m (f i) → In m (each f n)
in_each m f zero i l h = absurd (omega arith)
in_each m f (suc n) i l h =
    elim (same? i n) [
      | inl e ↦ in_r m (each f n) (f n) (subst (λ (v : ℕ). In m (f v)) e h)
      | inr ne ↦ in_l m (each f n) (f n) (in_each m f n i (omega arith) h)
    ]

pub each_in : (m : Move) (f : ℕ → List Move) (n : ℕ) → In m (each f n) → (i : ℕ) × (i < n) × In m (f i)
each_in m f zero h = absurd h
each_in m f (suc n) h =
    elim (in_append m (each f n) (f n) h) [
      | inl a ↦ let b = each_in m f n a in let l = b.1 in (b.0, omega arith, b.2)
      | inr a ↦ (n, omega arith, a)
    ]

pub one_in : (m x : Move) (b : Bool) → In m (cond b (x ∷ []) []) → T b × (m ≡ x)
one_in m x true (inl e) = (tt, e)
one_in m x true (inr h) = absurd h
one_in m x false h = absurd h

pub in_one : (m : Move) (b : Bool) → T b → In m (cond b (m ∷ []) [])
in_one m true h = inl refl
in_one m false h = absurd h

-- ---- order

abbrev pub Sorted : List Move → Type 0
Sorted [] = Unit {0}
Sorted (x ∷ xs) = ((y : Move) → In y xs → Precedes (name_of x) (name_of y)) × Sorted xs

pub sorted_append : (xs ys : List Move) → Sorted xs → Sorted ys → ((x y : Move) → In x xs → In y ys → Precedes (name_of x) (name_of y)) → Sorted (xs ++ ys)
sorted_append [] ys a b h = b
sorted_append (x ∷ xs) ys a b h = (
  λ y i. elim (in_append y xs ys i) [ inl j ↦ a.0 y j | inr j ↦ h x y (inl refl) j ],
  sorted_append xs ys a.1 b (λ u v i j. h u v (inr i) j),
)

pub sorted_each : (f : ℕ → List Move) (n : ℕ) → ((i : ℕ) → Sorted (f i))
    → ((i j : ℕ) (x y : Move) → i < j → In x (f i) → In y (f j) → Precedes (name_of x) (name_of y)) → Sorted (each f n)
sorted_each f zero a h = tt
sorted_each f (suc n) a h =
    sorted_append (each f n) (f n) (sorted_each f n a h) (a n)
    (λ x y i j. let b = each_in x f n i in h b.0 n x y b.1 b.2 j)

pub sorted_one : (x : Move) (b : Bool) → Sorted (cond b (x ∷ []) [])
sorted_one x true = (λ y h. absurd h, tt)
sorted_one x false = tt

pub sorted_nth : (xs : List Move) → Sorted xs → (i j : ℕ) (m l : Move) → i < j → nth xs i ≡ some m → nth xs j ≡ some l → Precedes (name_of m) (name_of l)
sorted_nth [] a i j m l lt e f = some_none m none e refl
sorted_nth (x ∷ xs) a i zero m l lt e f = absurd (omega arith)
sorted_nth (x ∷ xs) a zero (suc j) m l lt e f =
    let y : x ≡ m = cc in
    subst (λ (v : Move). Precedes (name_of v) (name_of l)) y (a.0 l (nth_in l xs j f))
sorted_nth (x ∷ xs) a (suc i) (suc j) m l lt e f = sorted_nth xs a.1 i j m l (omega arith) e f

pub length_zero : (xs : List Move) → length xs ≡ 0 → (m : Move) → In m xs → ⊥
length_zero [] e m h = h
length_zero (x ∷ xs) e m h = absurd (omega arith)

pub no_members : (xs : List Move) → ((m : Move) → In m xs → ⊥) → length xs ≡ 0
no_members [] h = refl
no_members (x ∷ xs) h = absurd (h x (inl refl))
