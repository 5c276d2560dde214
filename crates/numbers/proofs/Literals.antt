-- Literals: the value of the digits, one byte at a time.
use Rattle.std.proofs.Common.{◌≡◌, ℕ, ◌+◌, ◌-◌, ◌*◌, ◌%◌, ◌^◌, ◌<◌, ◌≤◌, true, false, cond, Bor, List, [], ◌∷◌, length, get_or, drop, Some, None, Option, refl, sym, subst, ap, ◌∙◌, add-one, pow-suc, arith, rules, drop-cons}
use native.Mathlib.Nat.{pow-le-pow_right}
use Rattle.std.specs.Fn.{Mut, Called}
use Rattle.std.specs.List.{FoldsTo}
use Rattle.std.specs.Option.{MatchOption}
use Rattle.std.specs.Iterator.{Yields, YieldsThen, AlwaysYields}
use Rattle.std.proofs.lemmas.Iterator.{YieldsList}
use Rattle.std.proofs.lemmas.List.{drop_all}
use Rattle.std.proofs.lemmas.Str.Parse.{IsNumeralModel, numerals_by_fold}
use Rattle.std.proofs.lemmas.Bool.Decides.{nat_tests}
use Rattle.numbers.specs.Literals.{value_of, is_digit, all_digits, digits_value}

pub own : IsNumeralModel (λ ds. all_digits ds ≡ true) (value_of 0)
own = numerals_by_fold _ (search rules) value_of (search rules)

-- what digits write after those that wrote n, if they are digits
abbrev pub read_on : ℕ → List ℕ → Option ℕ
read_on n bs = cond (all_digits bs) (Some (value_of n bs)) None

pub read_digit : (n i : ℕ) (bs : List ℕ) → i < length bs → 48 ≤ get_or bs i 0 → get_or bs i 0 ≤ 57
    → read_on n (drop i bs) ≡ read_on (n * 10 + (get_or bs i 0 - 48)) (drop (i + 1) bs)
read_digit n i bs h lo hi = rw (add-one, drop-cons bs i 0) (grind (arith, nat_tests))

pub read_other : (n i : ℕ) (bs : List ℕ) → i < length bs → is_digit (get_or bs i 0) ≡ false → read_on n (drop i bs) ≡ None
read_other n i bs h e = rw (drop-cons bs i 0, e) refl

pub read_done : (n i : ℕ) (bs : List ℕ) → length bs ≤ i → read_on n (drop i bs) ≡ Some n
read_done n i bs h = rw (drop_all i bs h) refl

-- one byte more, modulo 2^64
abbrev pub read_byte : ℕ → ℕ → Option ℕ
read_byte n b = cond (is_digit b) (Some ((n * 10 % 2 ^ 64 + (b - 48)) % 2 ^ 64)) None

pub read_whole : (bs : List ℕ) → 1 ≤ length bs → length bs ≤ 10 → all_digits bs ≡ true → digits_value bs ≡ Some (value_of 0 bs)
read_whole bs lo hi h = grind (arith, nat_tests)

pub read_short : (bs : List ℕ) → 1 ≤ length bs → length bs ≤ 10 → digits_value bs ≡ read_on 0 bs
read_short bs lo hi = grind (arith, nat_tests)

-- a value below ten to the number of digits read stays so
pub value_grows : (n d i : ℕ) → n < 10 ^ i → d ≤ 9 → n * 10 + d < 10 ^ (i + 1)
value_grows n d i h small = rw add-one (omega (arith, pow-suc 10 i))

stops : (n b : ℕ) (bs : List ℕ) → read_byte n b ≡ None → read_on n (b ∷ bs) ≡ None
stops n b bs e = grind (arith, nat_tests)

goes_on : (n m i b : ℕ) (bs : List ℕ) → n < 10 ^ i → i < 10 → read_byte n b ≡ Some m → (m < 10 ^ (i + 1)) × (read_on n (b ∷ bs) ≡ read_on m bs)
goes_on n m i b bs small short e =
    let p : 10 ^ i ≤ 10 ^ 9 = pow-le-pow_right (omega arith) {i = i} {j = 9} (omega arith) in
    let digit : is_digit b ≡ true = grind (arith, nat_tests) in
    let low : b - 48 ≤ 9 = grind (arith, nat_tests) in
    let same : m ≡ n * 10 + (b - 48) = grind (arith, nat_tests) in
    (rw same (value_grows n (b - 48) i small low), rw (same, digit) refl)

-- a turn of the fold that goes on, and how the fold ends
abbrev pub Turn : {F : Type 0} → Mut F (ℕ × (Bor ℕ × Unit {0})) (Option ℕ) → F × ℕ → Bor ℕ → F × ℕ → Type 0
Turn g p x q = (v : Option ℕ) × Called g p.0 (p.1, (x, tt)) v q.0 × (v ≡ Some q.1)

abbrev pub Ends : {F : Type 0} → Type 0 → Mut F (ℕ × (Bor ℕ × Unit {0})) (Option ℕ) → Option ℕ → F × ℕ → Option (Bor ℕ) → Type 0
Ends {F} E g r q o = MatchOption o (r ≡ Some q.1) (λ x. (v : Option ℕ) × (h : F) × E × Called g q.0 (q.1, (x, tt)) v h × (v ≡ None) × (r ≡ None))

module _ {S F : Type 0} (E : Type 0) (steps : S → Option (Bor ℕ) → S → Type 0) (g : Mut F (ℕ × (Bor ℕ × Unit {0})) (Option ℕ)) (f : F) (u : S) (r : Option ℕ)
    (reads : (n : ℕ) (x : Bor ℕ) (v : Option ℕ) (q : F) → Called g f (n, (x, tt)) v q → (q ≡ f) × (v ≡ read_byte n x.now)) where
  read_rest : (xs : List (Bor ℕ)) (s t : S) (bs : List ℕ) (i : ℕ) (p q : F × ℕ) (o : Option (Bor ℕ)) → AlwaysYields steps (λ y. y.now) s bs → Yields steps s xs t → steps t o u
      → FoldsTo {P = F × ℕ} (Turn g) p xs q → Ends E g r q o → p.0 ≡ f → p.1 < 10 ^ i → i + length bs ≤ 10 → r ≡ read_on p.1 bs
  read_rest [] s t [] i p q None from y step c e a small short = e ∙ ap (λ (w : F × ℕ). Some w.1) (sym c)
  read_rest [] s t (b ∷ bs) i p q None from y step c e a small short = absurd (from.0 u (subst (λ w. steps w None u) (sym y) step))
  read_rest [] s t [] i p q (Some x) from y step c e a small short = absurd (from x u (subst (λ w. steps w (Some x) u) (sym y) step))
  read_rest [] s t (b ∷ bs) i p q (Some x) from y step c e a small short =
      let first = from.1 x u (subst (λ w. steps w (Some x) u) (sym y) step) in
      let same : q.0 ≡ f = ap (λ (w : F × ℕ). w.0) (sym c) ∙ a in
      let told = reads q.1 x e.0 e.1 (subst (λ w. Called g w (q.1, (x, tt)) e.0 e.1) same e.3) in
      e.5 ∙ sym (stops p.1 b bs (ap (λ (w : F × ℕ). read_byte w.1 b) c ∙ ap (read_byte q.1) (sym first.0) ∙ sym told.1 ∙ e.4))
  read_rest (x ∷ xs) s t [] i p q o from y step c e a small short = absurd (from x y.0 y.1)
  read_rest (x ∷ xs) s t (b ∷ bs) i p q o from y step c e a small short =
      let first = from.1 x y.0 y.1 in
      let told = reads p.1 x c.1.0 c.0.0 (subst (λ w. Called g w (p.1, (x, tt)) c.1.0 c.0.0) a c.1.1) in
      let on = goes_on p.1 c.0.1 i b bs small (omega arith) (ap (read_byte p.1) (sym first.0) ∙ sym told.1 ∙ c.1.2) in
      read_rest xs y.0 t bs (i + 1) c.0 q o first.1 y.2 step c.2 e told.0 on.0 (omega arith) ∙ sym on.1

  pub read_by_fold : (s : S) (bs : List ℕ) → (xs : List (Bor ℕ)) × (o : Option (Bor ℕ)) × (q : F) × (m : ℕ) × YieldsThen steps s xs o u × FoldsTo {P = F × ℕ} (Turn g) (f, 0) xs (q, m) × Ends E g r (q, m) o
      → YieldsList steps (λ y. y.now) s bs → 1 ≤ length bs → length bs ≤ 10 → r ≡ digits_value bs
  read_by_fold s bs d list lo hi = read_rest d.0 s d.4.0 bs 0 (f, 0) (d.2, d.3) d.1 list.runs d.4.1 d.4.2 d.5 d.6 refl (omega arith) (omega arith) ∙ sym (read_short bs lo hi)
