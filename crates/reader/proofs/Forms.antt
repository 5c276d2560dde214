-- How a beginning of a text is made, by its first byte.
use Rattle.std.proofs.Common.{◌≡◌, ℕ, ◌<◌, ◌≤◌, Bool, true, false, ◌&&◌, eqb, leb, ◌⊎◌, List, [], ◌∷◌, ◌++◌, length, get_or, sym, refl, ap, subst, inl, inr, arith}
use Rattle.std.specs.List.{AllByRecursion as All}
use Rattle.std.proofs.ByRecursion.{All-weaker}
use Rattle.std.proofs.lemmas.Bool.{and_parts, and_from, or_cases, or_left, or_right, leb-true, le-leb, eq-eqb, eqb-true, false≢true}
use Rattle.reader.specs.Tokens.{Class, same, among, blank, letter, digit, letter_or_digit, run, signs, reserved}
use Rattle.reader.specs.Language.{Separates, Letter, Digit, Among, Form, a_name, a_number, a_word, a_sign}
use Rattle.reader.proofs.Runs.{run_on}
use Rattle.reader.proofs.Firsts.{same_true}

-- ---- tests and what they tell

pub letter_is : (b : ℕ) → letter b ≡ true → Letter b
letter_is b e =
    elim (or_cases (leb 65 b && leb b 90) (leb 97 b && leb b 122) e) [
      | inl h ↦ let p = and_parts (leb 65 b) (leb b 90) h in inl (leb-true 65 b p.0, leb-true b 90 p.1)
      | inr h ↦ let p = and_parts (leb 97 b) (leb b 122) h in inr (leb-true 97 b p.0, leb-true b 122 p.1)
    ]

pub is_letter : (b : ℕ) → Letter b → letter b ≡ true
is_letter b (inl h) = or_left (leb 65 b && leb b 90) (leb 97 b && leb b 122) (and_from (leb 65 b) (leb b 90) (le-leb 65 b h.0) (le-leb b 90 h.1))
is_letter b (inr h) = or_right (leb 65 b && leb b 90) (leb 97 b && leb b 122) (and_from (leb 97 b) (leb b 122) (le-leb 97 b h.0) (le-leb b 122 h.1))

pub digit_is : (b : ℕ) → digit b ≡ true → Digit b
digit_is b e = let p = and_parts (leb 48 b) (leb b 57) e in (leb-true 48 b p.0, leb-true b 57 p.1)

pub is_digit : (b : ℕ) → Digit b → digit b ≡ true
is_digit b h = and_from (leb 48 b) (leb b 57) (le-leb 48 b h.0) (le-leb b 57 h.1)

pub either_is : (b : ℕ) → letter_or_digit b ≡ true → Letter b ⊎ Digit b
either_is b e = elim (or_cases (letter b) (digit b) e) [ inl h ↦ inl (letter_is b h) | inr h ↦ inr (digit_is b h) ]

is_either : (b : ℕ) → Letter b ⊎ Digit b → letter_or_digit b ≡ true
is_either b (inl h) = or_left (letter b) (digit b) (is_letter b h)
is_either b (inr h) = or_right (letter b) (digit b) (is_digit b h)

pub not_both : (b : ℕ) → letter b ≡ true → digit b ≡ true → ⊥
not_both b l d = let k = digit_is b d in let m = k.0 in let n = k.1 in elim (letter_is b l) [ inl h ↦ let x = h.0 in omega arith | inr h ↦ let x = h.0 in omega arith ]

pub separates : (b : ℕ) → blank b ≡ true → Separates b
separates b e = elim (or_cases (eqb b 32) (eqb b 10) e) [ inl h ↦ inl (eqb-true b 32 h) | inr h ↦ inr (eqb-true b 10 h) ]

pub is_blank : (b : ℕ) → Separates b → blank b ≡ true
is_blank b (inl h) = or_left (eqb b 32) (eqb b 10) (eq-eqb b 32 h)
is_blank b (inr h) = or_right (eqb b 32) (eqb b 10) (eq-eqb b 10 h)

same_refl : (v : List ℕ) → same v v ≡ true
same_refl [] = refl
same_refl (x ∷ xs) = and_from (eqb x x) (same xs xs) (eq-eqb x x refl) (same_refl xs)

pub among_is : (w : List ℕ) (vs : List (List ℕ)) → among w vs ≡ true → Among w vs
among_is w [] e = false≢true e
among_is w (v ∷ vs) e = elim (or_cases (same w v) (among w vs) e) [ inl h ↦ inl (same_true w v h) | inr h ↦ inr (among_is w vs h) ]

pub is_among : (w : List ℕ) (vs : List (List ℕ)) → Among w vs → among w vs ≡ true
is_among w [] h = absurd h
is_among w (v ∷ vs) (inl e) = or_left (same w v) (among w vs) (subst (λ (u : List ℕ). same w u ≡ true) e (same_refl w))
is_among w (v ∷ vs) (inr h) = or_right (same w v) (among w vs) (is_among w vs h)

pub listed : (P : List ℕ → Type 0) (w : List ℕ) (vs : List (List ℕ)) → All P vs → Among w vs → P w
listed P w [] a h = absurd h
listed P w (v ∷ vs) a (inl e) = subst P (sym e) a.0
listed P w (v ∷ vs) a (inr h) = listed P w vs a.1 h

-- ---- the listed spellings

abbrev pub WordLike : List ℕ → Type 0
WordLike w = (letter (get_or w 0 0) ≡ true) × All (λ x. letter_or_digit x ≡ true) w × (length w ≤ 16)

pub word_like : (w : List ℕ) → Among w reserved → WordLike w
word_like w = listed WordLike w reserved ((refl, (refl, (refl, (refl, tt))), omega arith), ((refl, (refl, (refl, (refl, (refl, tt)))), omega arith), ((refl, (refl, (refl, (refl, (refl, tt)))), omega arith), ((refl, (refl, (refl, (refl, (refl, tt)))), omega arith), ((refl, (refl, (refl, tt)), omega arith), ((refl, (refl, (refl, (refl, (refl, tt)))), omega arith), ((refl, (refl, (refl, (refl, (refl, (refl, tt))))), omega arith), ((refl, (refl, (refl, (refl, tt))), omega arith), ((refl, (refl, (refl, (refl, tt))), omega arith), ((refl, (refl, (refl, (refl, (refl, (refl, tt))))), omega arith), ((refl, (refl, (refl, (refl, (refl, (refl, tt))))), omega arith), ((refl, (refl, (refl, (refl, (refl, tt)))), omega arith), ((refl, (refl, (refl, (refl, (refl, tt)))), omega arith), tt)))))))))))))

abbrev pub OneOrEqual : List ℕ → Type 0
OneOrEqual w = (length w ≡ 1) ⊎ (w ≡ 61 ∷ 61 ∷ [])

abbrev pub SignLike : List ℕ → Type 0
SignLike w = (letter (get_or w 0 0) ≡ false) × (digit (get_or w 0 0) ≡ false) × OneOrEqual w

pub sign_like : (w : List ℕ) → Among w signs → SignLike w
sign_like w = listed SignLike w signs ((refl, refl, inl refl), ((refl, refl, inl refl), ((refl, refl, inl refl), ((refl, refl, inl refl), ((refl, refl, inl refl), ((refl, refl, inl refl), ((refl, refl, inl refl), ((refl, refl, inr refl), ((refl, refl, inl refl), ((refl, refl, inl refl), ((refl, refl, inl refl), ((refl, refl, inl refl), ((refl, refl, inl refl), tt)))))))))))))

-- ---- how a beginning is made, by the first byte

abbrev pub Kind : ℕ → List ℕ → Type 0
Kind b v =
    ((letter b ≡ true) × All (λ x. letter_or_digit x ≡ true) v)
    ⊎ (((digit b ≡ true) × All (λ x. digit x ≡ true) v) ⊎ ((letter b ≡ false) × (digit b ≡ false) × Among v signs × OneOrEqual v))

first_byte : (v t : List ℕ) (b : ℕ) (bs : List ℕ) → v ++ t ≡ b ∷ bs → 0 < length v → get_or v 0 0 ≡ b
first_byte [] t b bs e h = absurd (omega arith)
first_byte (x ∷ v) t b bs e h = cc

letter_some : (v : List ℕ) → letter (get_or v 0 0) ≡ true → 0 < length v
letter_some [] e = absurd (false≢true e)
letter_some (x ∷ v) e = omega arith

one_some : (v : List ℕ) → OneOrEqual v → 0 < length v
one_some v (inl e) = omega arith
one_some v (inr e) = let l : length v ≡ 2 = ap length e in omega arith

pub form_kind : (c : Class) (v t : List ℕ) (b : ℕ) (bs : List ℕ) → v ++ t ≡ b ∷ bs → Form c v → Kind b v
form_kind c v t b bs e (a_name x xs l a n) =
    let q : x ≡ b = cc in
    inl (subst (λ (y : ℕ). letter y ≡ true) q (is_letter x l), (is_either x (inl l), All-weaker (λ y. Letter y ⊎ Digit y) (λ y. letter_or_digit y ≡ true) is_either xs a))
form_kind c v t b bs e (a_number x xs d a) =
    let q : x ≡ b = cc in
    inr (inl (subst (λ (y : ℕ). digit y ≡ true) q (is_digit x d), (is_digit x d, All-weaker Digit (λ y. digit y ≡ true) is_digit xs a)))
form_kind c v t b bs e (a_word w h) =
    let k = word_like v h in
    let q = first_byte v t b bs e (letter_some v k.0) in
    inl (subst (λ (y : ℕ). letter y ≡ true) q k.0, k.1)
form_kind c v t b bs e (a_sign w h) =
    let k = sign_like v h in
    let q = first_byte v t b bs e (one_some v k.2) in
    inr (inr (subst (λ (y : ℕ). letter y ≡ false) q k.0, subst (λ (y : ℕ). digit y ≡ false) q k.1, h, k.2))

pub run_longest : (f : ℕ → Bool) (v t : List ℕ) → All (λ x. f x ≡ true) v → length v ≤ length (run f (v ++ t))
run_longest f [] t a = omega arith
run_longest f (x ∷ v) t a = let h = run_longest f v t a.1 in subst (λ (l : List ℕ). length (x ∷ v) ≤ length l) (sym (run_on f x (v ++ t) a.0)) (omega arith)
