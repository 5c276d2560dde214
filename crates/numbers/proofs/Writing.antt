-- Decimal digits at the end of an array, from the last one on.
use Rattle.std.proofs.Common.{◌≡◌, ℕ, zero, suc, ◌+◌, ◌-◌, ◌/◌, ◌%◌, ◌^◌, ◌<◌, ◌≤◌, Bool, true, false, cond, ltb, List, [], ◌∷◌, ◌++◌, length, take, drop, set, decimal, refl, ap, ◌∙◌, append_assoc, append-nil, pow-suc, add-one, sub-one, arith, length-drop}
use borrow.Rule.Slice.PartMut.{put_mid}
use Rattle.std.proofs.lemmas.List.{drop-set, drop_at, drop_all, length-take-le}
use Rattle.std.proofs.lemmas.Fmt.{decimal_digit, decimal_step}
use Rattle.std.proofs.lemmas.Bool.{cond-false, le-ltb, ltb-true, ltb-false}

-- the digits before the last one
abbrev pub before : ℕ → List ℕ
before n = cond (ltb n 10) [] (decimal (n / 10))

pub decimal_last : (n : ℕ) → n < 2 ^ 32 → decimal n ≡ before n ++ ((48 + n % 10) ∷ [])
decimal_last n h = by_ltb (ltb n 10) refl
  where
    by_ltb : (b : Bool) → ltb n 10 ≡ b → decimal n ≡ cond b [] (decimal (n / 10)) ++ ((48 + n % 10) ∷ [])
    by_ltb true e =
        let lt : n < 10 = ltb-true n 10 e in
        decimal_digit n lt ∙ ap (λ m. (48 + m) ∷ []) (omega arith)
    by_ltb false e = decimal_step n (ltb-false n 10 e) (omega arith)

pub tenth : (n k : ℕ) → 10 ≤ n → n < 10 ^ k → n / 10 < 10 ^ (k - 1)
tenth n zero ten h = absurd (omega (arith, h))
tenth n (suc k) ten h = rw sub-one (omega (arith, pow-suc 10 k))

pub some_left : (n k : ℕ) → 1 ≤ n → n < 10 ^ k → 1 ≤ k
some_left n zero some h = absurd (omega (arith, h))
some_left n (suc k) some h = omega arith

pub digit_more : (n rest from : ℕ) (bs : List ℕ) → n < 2 ^ 32 → rest ≤ n → 10 ≤ rest → 0 < from → from ≤ length bs
    → decimal n ≡ before rest ++ drop from bs
    → decimal n ≡ before (rest / 10) ++ drop (from - 1) (set bs (from - 1) (48 + rest / 10 % 10))
digit_more n rest zero bs h le ten pos in_bs e = absurd (omega arith)
digit_more n rest (suc from) bs h le ten pos in_bs e =
    let small : rest / 10 < 2 ^ 32 = omega arith in
    e ∙ ap (λ ds. ds ++ drop (suc from) bs) (cond-false _ _ _ (le-ltb rest 10 ten) ∙ decimal_last (rest / 10) small)
    ∙ append_assoc (before (rest / 10)) ((48 + rest / 10 % 10) ∷ []) (drop (suc from) bs)
    ∙ ap (λ ds. before (rest / 10) ++ ds) (rw (sub-one, drop-set bs from (48 + rest / 10 % 10) (omega arith), add-one) refl)

-- a byte put before the written ones
pub put_before : (b from : ℕ) (bs : List ℕ) → 1 ≤ from → from ≤ length bs → drop (from - 1) (set bs (from - 1) b) ≡ b ∷ drop from bs
put_before b from bs some in_bs =
    let next : from - 1 + 1 ≡ from = omega arith in
    drop-set bs (from - 1) b (omega arith) ∙ ap (λ n. b ∷ drop n bs) next

-- bytes put at the end of an array stand there
pub put_at_end : (a k : ℕ) (xs ys zs : List ℕ) → a ≤ length xs → length xs ≤ a + k → ys ≡ zs → drop a (put_mid a k xs ys) ≡ zs
put_at_end a k xs ys zs le end e =
    let after : List ℕ = drop k (drop a xs) in
    drop_at (take a xs) (ys ++ after) a (length-take-le a xs le)
    ∙ ap (λ l. ys ++ l) (drop_all k (drop a xs) (omega (arith, length-drop a xs)))
    ∙ append-nil ys ∙ e
