-- What stands first is the longest token, and where nothing does no token can be read.
use Rattle.std.proofs.Common.{◌≡◌, ℕ, ◌<◌, ◌≤◌, Bool, true, false, cond, eqb, leb, ◌⊎◌, List, [], ◌∷◌, ◌++◌, length, get_or, drop, sym, refl, ap, ◌∙◌, subst, inl, inr, arith}
use Rattle.std.specs.List.{AllByRecursion as All}
use Rattle.std.proofs.ByRecursion.{All-weaker}
use Rattle.std.proofs.lemmas.Bool.{and_from, or_left, leb-true, leb-false, eq-eqb, eqb-false, both_ways}
use Rattle.reader.specs.declared.classes.Start.{Start}
use Rattle.reader.specs.declared.classes.Start.TheVariants as starts
use Rattle.reader.specs.Tokens.{First, space, nothing, lexeme, Class, name, number, fixed, among, blank, letter, digit, letter_or_digit, run, begins, first, up_to, signs, reserved, word_class}
use Rattle.reader.specs.Reads.{start_of}
use Rattle.reader.specs.Language.{Letter, Digit, Among, Form, a_name, a_number, a_word, a_sign, IsToken, Longest, Unreadable}
use Rattle.reader.proofs.Runs.{run_on, run_all, run_split}
use Rattle.reader.proofs.Firsts.{Fits, fits, equal_first}
use Rattle.reader.proofs.Nexts.{no_lexeme, not_space, lexeme_parts, up_to_is, equal_parts}
use Rattle.reader.proofs.Forms.{letter_is, digit_is, either_is, not_both, among_is, is_among, listed, word_like, Kind, form_kind, run_longest}

-- ---- the bounds, by the first byte

module _ (b : ℕ) (bs v t : List ℕ) (e : v ++ t ≡ b ∷ bs) where
  word_bound : letter b ≡ true → Kind b v → length v ≤ length (run letter_or_digit (b ∷ bs))
  word_bound l (inl k) = subst (λ (xs : List ℕ). length v ≤ length (run letter_or_digit xs)) e (run_longest letter_or_digit v t k.1)
  word_bound l (inr (inl k)) = absurd (not_both b l k.0)
  word_bound l (inr (inr k)) = absurd (both_ways (letter b) k.0 l)

  number_bound : letter b ≡ false → digit b ≡ true → Kind b v → length v ≤ length (run digit (b ∷ bs))
  number_bound l d (inl k) = absurd (both_ways (letter b) l k.0)
  number_bound l d (inr (inl k)) = subst (λ (xs : List ℕ). length v ≤ length (run digit xs)) e (run_longest digit v t k.1)
  number_bound l d (inr (inr k)) = absurd (both_ways (digit b) k.1 d)

  sign_bound : letter b ≡ false → digit b ≡ false → ((xs : List ℕ) → b ≡ 61 → bs ≡ 61 ∷ xs → ⊥) → Kind b v → length v ≤ 1
  sign_bound l d ne (inl k) = absurd (both_ways (letter b) l k.0)
  sign_bound l d ne (inr (inl k)) = absurd (both_ways (digit b) d k.0)
  sign_bound l d ne (inr (inr k)) =
      elim k.3 [
        | inl h ↦ omega arith
        | inr h ↦
            let q : 61 ∷ 61 ∷ t ≡ b ∷ bs = ap (λ (l : List ℕ). l ++ t) (sym h) ∙ e in
            absurd (ne t (let r : b ≡ 61 = cc in r) (let r : bs ≡ 61 ∷ t = cc in r))
      ]

  two_bound : letter b ≡ false → digit b ≡ false → Kind b v → length v ≤ 2
  two_bound l d (inl k) = absurd (both_ways (letter b) l k.0)
  two_bound l d (inr (inl k)) = absurd (both_ways (digit b) d k.0)
  two_bound l d (inr (inr k)) = elim k.3 [ inl h ↦ omega arith | inr h ↦ let n : length v ≡ 2 = ap length h in omega arith ]

longest_by : (b : ℕ) (bs w rest : List ℕ) → b ∷ bs ≡ w ++ rest → ((v t : List ℕ) → v ++ t ≡ b ∷ bs → Kind b v → length v ≤ length w) → Longest w rest
longest_by b bs w rest s bound = λ c v t e f. let q : v ++ t ≡ b ∷ bs = e ∙ sym s in bound v t q (form_kind c v t b bs q f)

-- ---- what stands first is the longest token

abbrev pub Taken : Class → List ℕ → List ℕ → Type 0
Taken c w rest = IsToken c w × Longest w rest

word_token : (b : ℕ) (bs w : List ℕ) → letter b ≡ true → w ≡ b ∷ run letter_or_digit bs → length w ≤ 16 → IsToken (word_class w) w
word_token b bs w l e n = go (among w reserved) refl
  where
    go : (t : Bool) → among w reserved ≡ t → IsToken (cond t fixed name) w
    go true h = (a_word w (among_is w reserved h), tt)
    go false h = (
      subst (Form name) (sym e)
          (a_name b (run letter_or_digit bs) (letter_is b l) (All-weaker (λ y. letter_or_digit y ≡ true) (λ y. Letter y ⊎ Digit y) either_is (run letter_or_digit bs) (run_all letter_or_digit bs))
          (λ a. both_ways (among w reserved) h (is_among w reserved (subst (λ (u : List ℕ). Among u reserved) (sym e) a)))),
      n,
    )

number_form : (b : ℕ) (bs w : List ℕ) → digit b ≡ true → w ≡ b ∷ run digit bs → Form number w
number_form b bs w d e = subst (Form number) (sym e) (a_number b (run digit bs) (digit_is b d) (All-weaker (λ y. digit y ≡ true) Digit digit_is (run digit bs) (run_all digit bs)))

taken_by : (b : ℕ) (bs : List ℕ) (c : Class) (w rest : List ℕ) (s : Start) → Fits b bs s → first b bs ≡ lexeme c w → b ∷ bs ≡ w ++ rest → Taken c w rest
taken_by b bs c w rest starts.Separator f e s = not_space (sym f.1 ∙ e)
taken_by b bs c w rest starts.Word f e s =
    let v = run letter_or_digit (b ∷ bs) in
    let p = up_to_is 16 (word_class v) c v w (sym f.1 ∙ e) in
    let on = run_on letter_or_digit b bs (or_left (letter b) (digit b) f.0) in
    let k = word_token b bs v f.0 on (leb-true (length v) 16 p.0) in (
      subst (λ (d : Class). IsToken d w) p.1 (subst (IsToken (word_class v)) p.2 k),
      longest_by b bs w rest s (λ u t q h. subst (λ (x : List ℕ). length u ≤ length x) p.2 (word_bound b bs u t q f.0 h)),
    )
taken_by b bs c w rest starts.Number f e s =
    let v = run digit (b ∷ bs) in
    let p = up_to_is 10 number c v w (sym f.2 ∙ e) in
    let k : IsToken number v = (number_form b bs v f.1 (run_on digit b bs f.1), leb-true (length v) 10 p.0) in (
      subst (λ (d : Class). IsToken d w) p.1 (subst (IsToken number) p.2 k),
      longest_by b bs w rest s (λ u t q h. subst (λ (x : List ℕ). length u ≤ length x) p.2 (number_bound b bs u t q f.0 f.1 h)),
    )
taken_by b bs c w rest (starts.Sign t) f e s =
    let p = lexeme_parts (sym f.2 ∙ e) in
    let k : IsToken fixed (b ∷ []) = (a_sign (b ∷ []) (among_is (b ∷ []) signs (subst (λ (u : List ℕ). among u signs ≡ true) f.1 f.0.listed)), tt) in
    let byte : f.0.byte ≡ b = (let x = f.0.spells in let y = f.1 in cc) in
    let ne : (b ≡ 61 → ⊥) = λ z. eqb-false f.0.byte 61 f.0.no_equal (byte ∙ z) in (
      subst (λ (d : Class). IsToken d w) p.0 (subst (IsToken fixed) p.1 k),
      longest_by b bs w rest s (λ u t q h. subst (λ (x : List ℕ). length u ≤ length x) p.1 (sign_bound b bs u t q f.3 f.4 (λ xs z y. ne z) h)),
    )
taken_by b bs c w rest starts.Equal f e s =
    let p = equal_parts bs w c (ap (λ (x : ℕ). first x bs) (sym f) ∙ e) in
    let l : letter b ≡ false = ap letter f in
    let d : digit b ≡ false = ap digit f in
    elim p.1 [
      | inl h ↦ (
        subst (λ (d : Class). IsToken d w) p.0 (subst (IsToken fixed) (sym h.0) (a_sign (61 ∷ 61 ∷ []) (among_is (61 ∷ 61 ∷ []) signs refl), tt)),
        longest_by b bs w rest s (λ u t q k. subst (λ (x : List ℕ). length u ≤ length x) (sym h.0) (two_bound b bs u t q l d k)),
      )
      | inr h ↦ (
        subst (λ (d : Class). IsToken d w) p.0 (subst (IsToken fixed) (sym h.0) (a_sign (61 ∷ []) (among_is (61 ∷ []) signs refl), tt)),
        longest_by b bs w rest s (λ u t q k. subst (λ (x : List ℕ). length u ≤ length x) (sym h.0) (sign_bound b bs u t q l d (λ xs z y. eqb-false (get_or bs 0 0) 61 h.1 (ap (λ (x : List ℕ). get_or x 0 0) y)) k)),
      )
    ]
taken_by b bs c w rest starts.Nothing f e s = no_lexeme (sym f.3 ∙ e)

pub taken : (b : ℕ) (bs : List ℕ) (c : Class) (w rest : List ℕ) → first b bs ≡ lexeme c w → b ∷ bs ≡ w ++ rest → Taken c w rest
taken b bs c w rest e s = taken_by b bs c w rest (start_of b) (fits b bs) e s

-- ---- where nothing stands first

no_nothing : {B : Type 0} {c : Class} {w : List ℕ} → lexeme c w ≡ nothing → B
no_nothing e = no_lexeme (sym e)

too_long : (n : ℕ) (c : Class) (v : List ℕ) → up_to n c v ≡ nothing → n < length v
too_long n c v = go (leb (length v) n) refl
  where
    go : (t : Bool) → leb (length v) n ≡ t → cond t (lexeme c v) nothing ≡ nothing → n < length v
    go true h e = no_nothing e
    go false h e = leb-false (length v) n h

begins_true : (v t xs : List ℕ) → v ++ t ≡ xs → begins v xs ≡ true
begins_true [] t xs e = refl
begins_true (x ∷ v) t [] e = absurd (let z : ◌≡◌ {A = ℕ} 0 1 = cc in omega arith)
begins_true (x ∷ v) t (y ∷ xs) e = and_from (eqb x y) (begins v xs) (eq-eqb x y (let r : x ≡ y = cc in r)) (begins_true v t xs (let r : v ++ t ≡ xs = cc in r))

word_unreadable : (b : ℕ) (bs : List ℕ) → letter b ≡ true → 16 < length (run letter_or_digit (b ∷ bs)) → Unreadable (b ∷ bs)
word_unreadable b bs l n =
    let v = run letter_or_digit (b ∷ bs) in
    let rest = drop (length v) (b ∷ bs) in
    let on = run_on letter_or_digit b bs (or_left (letter b) (digit b) l) in
    let s = run_split letter_or_digit (b ∷ bs) in
    let no : (Among v reserved → ⊥) = λ a. let k = (word_like v a).2 in omega arith in
    inr (
      name,
      v,
      rest,
      s,
      subst (Form name) (sym on)
          (a_name b (run letter_or_digit bs) (letter_is b l) (All-weaker (λ y. letter_or_digit y ≡ true) (λ y. Letter y ⊎ Digit y) either_is (run letter_or_digit bs) (run_all letter_or_digit bs))
          (λ a. no (subst (λ (u : List ℕ). Among u reserved) (sym on) a))),
      longest_by b bs v rest s (λ u t q h. word_bound b bs u t q l h),
      λ k. omega arith,
    )

number_unreadable : (b : ℕ) (bs : List ℕ) → letter b ≡ false → digit b ≡ true → 10 < length (run digit (b ∷ bs)) → Unreadable (b ∷ bs)
number_unreadable b bs l d n =
    let v = run digit (b ∷ bs) in
    let rest = drop (length v) (b ∷ bs) in
    let s = run_split digit (b ∷ bs) in
    inr (number, v, rest, s, number_form b bs v d (run_on digit b bs d), longest_by b bs v rest s (λ u t q h. number_bound b bs u t q l d h), λ k. omega arith)

no_form : (b : ℕ) (bs : List ℕ) → letter b ≡ false → digit b ≡ false → All (λ s. begins s (b ∷ bs) ≡ false) signs → (v t : List ℕ) → v ++ t ≡ b ∷ bs → Kind b v → ⊥
no_form b bs l d a v t e (inl k) = both_ways (letter b) l k.0
no_form b bs l d a v t e (inr (inl k)) = both_ways (digit b) d k.0
no_form b bs l d a v t e (inr (inr k)) = both_ways (begins v (b ∷ bs)) (listed (λ s. begins s (b ∷ bs) ≡ false) v signs a k.2) (begins_true v t (b ∷ bs) e)

unreadable_by : (b : ℕ) (bs : List ℕ) (s : Start) → Fits b bs s → first b bs ≡ nothing → Unreadable (b ∷ bs)
unreadable_by b bs starts.Separator f e = absurd (let z : ◌≡◌ {A = First} space nothing = sym f.1 ∙ e in let k : ◌≡◌ {A = ℕ} 0 1 = cc in omega arith)
unreadable_by b bs starts.Word f e = word_unreadable b bs f.0 (too_long 16 (word_class (run letter_or_digit (b ∷ bs))) (run letter_or_digit (b ∷ bs)) (sym f.1 ∙ e))
unreadable_by b bs starts.Number f e = number_unreadable b bs f.0 f.1 (too_long 10 number (run digit (b ∷ bs)) (sym f.2 ∙ e))
unreadable_by b bs (starts.Sign t) f e = no_nothing (sym f.2 ∙ e)
unreadable_by b bs starts.Equal f e = go (eqb (get_or bs 0 0) 61) (sym (equal_first bs) ∙ ap (λ (x : ℕ). first x bs) (sym f) ∙ e)
  where
    go : (t : Bool) → cond t (lexeme fixed (61 ∷ 61 ∷ [])) (lexeme fixed (61 ∷ [])) ≡ nothing → Unreadable (b ∷ bs)
    go true z = no_nothing z
    go false z = no_nothing z
unreadable_by b bs starts.Nothing f e = inl (λ c v t q h. no_form b bs f.0 f.1 f.2 v t q (form_kind c v t b bs q h))

pub unreadable : (b : ℕ) (bs : List ℕ) → first b bs ≡ nothing → Unreadable (b ∷ bs)
unreadable b bs e = unreadable_by b bs (start_of b) (fits b bs) e

-- ---- what is no separator does not stand first as one

up_to_space : (n : ℕ) (c : Class) (v : List ℕ) → up_to n c v ≡ space → ⊥
up_to_space n c v = go (leb (length v) n)
  where
    go : (t : Bool) → cond t (lexeme c v) nothing ≡ space → ⊥
    go true e = let z : ◌≡◌ {A = ℕ} 0 1 = cc in omega arith
    go false e = let z : ◌≡◌ {A = ℕ} 0 1 = cc in omega arith

space_by : (b : ℕ) (bs : List ℕ) (s : Start) → Fits b bs s → first b bs ≡ space → blank b ≡ true
space_by b bs starts.Separator f e = f.0
space_by b bs starts.Word f e = absurd (up_to_space 16 (word_class (run letter_or_digit (b ∷ bs))) (run letter_or_digit (b ∷ bs)) (sym f.1 ∙ e))
space_by b bs starts.Number f e = absurd (up_to_space 10 number (run digit (b ∷ bs)) (sym f.2 ∙ e))
space_by b bs (starts.Sign t) f e = not_space (sym e ∙ f.2)
space_by b bs starts.Equal f e = go (eqb (get_or bs 0 0) 61) (sym (equal_first bs) ∙ ap (λ (x : ℕ). first x bs) (sym f) ∙ e)
  where
    go : (t : Bool) → cond t (lexeme fixed (61 ∷ 61 ∷ [])) (lexeme fixed (61 ∷ [])) ≡ space → blank b ≡ true
    go true z = not_space (sym z)
    go false z = not_space (sym z)
space_by b bs starts.Nothing f e = absurd (let z : ◌≡◌ {A = First} nothing space = sym f.3 ∙ e in let k : ◌≡◌ {A = ℕ} 0 1 = cc in omega arith)

pub only_blank : (b : ℕ) (bs : List ℕ) → first b bs ≡ space → blank b ≡ true
only_blank b bs e = space_by b bs (start_of b) (fits b bs) e
