-- What stands first, by the byte that it begins with.
use Rattle.std.proofs.Common.{◌≡◌, ℕ, ◌+◌, ◌<◌, ◌≤◌, Bool, true, false, cond, ◌&&◌, ◌||◌, eqb, ◌⊎◌, List, [], ◌∷◌, map, length, get_or, take, drop, Ok, Err, Result, sym, refl, ap, ◌∙◌, subst, inl, inr, arith}
use Rattle.std.specs.List.{AllByRecursion as All}
use Rattle.std.proofs.lemmas.List.{drop_more, get_or-drop}
use Rattle.std.proofs.lemmas.Bool.{cases_lt, lt-leb, cond_both, cond-false, eqb-true, eqb-false, le-leb, and_parts, cases_eq, or_left, ne_eqb, both_ways}
use Rattle.std.proofs.lemmas.Bool.Decides.{nat_tests}
use Rattle.reader.specs.declared.classes.Start.{Start}
use Rattle.reader.specs.declared.classes.Start.TheVariants.{Separator, Word, Number, Sign, Equal, Nothing}
use Rattle.reader.specs.declared.fault.Fault.{Fault}
use Rattle.reader.specs.declared.fault.Cause.TheVariants.{NoToken}
use Rattle.reader.specs.declared.token.Token.{Token}
use Rattle.reader.specs.declared.token.Tag.{Tag}
use Rattle.reader.specs.declared.token.Tag.TheVariants as tags
use Rattle.reader.specs.Tokens.{Lexeme, First, space, nothing, lexeme, Class, name, number, fixed, same, among, blank, letter, digit, letter_or_digit, run, begins, first, up_to, signs, sign_of, word_class}
use Rattle.reader.specs.Views.{spelled, class_of, part, lexeme_of}
use Rattle.reader.specs.Reads.{sign_tags, sign_in, start_of, word_tags, tag_in, word_tag, word_first, equal_token, first_of, Shows}
use Rattle.reader.proofs.Runs.{run_on, run_take}

pub same_true : (v w : List ℕ) → same v w ≡ true → v ≡ w
same_true [] [] e = refl
same_true [] (y ∷ ys) e = absurd (let z : ◌≡◌ {A = Bool} true false = cc in let k : ◌≡◌ {A = ℕ} 0 1 = cc in omega arith)
same_true (x ∷ xs) [] e = absurd (let z : ◌≡◌ {A = Bool} true false = cc in let k : ◌≡◌ {A = ℕ} 0 1 = cc in omega arith)
same_true (x ∷ xs) (y ∷ ys) e =
    let p = and_parts (eqb x y) (same xs ys) e in
    let h = eqb-true x y p.0 in
    let t = same_true xs ys p.1 in
    cc

pub lexeme_eq : {c d : Class} {v w : List ℕ} {o : ℕ} → c ≡ d → v ≡ w → ◌≡◌ {A = Lexeme} (record { class = c; text = v; at = o }) (record { class = d; text = w; at = o })
lexeme_eq p q = cc

-- a tag with one spelling
pub record Spelt (t : Tag) : Type 0 where
  pub is_fixed : class_of t ≡ fixed
  pub always : (w : List ℕ) → spelled w t ≡ spelled [] t

abbrev spelt_words : All Spelt word_tags
spelt_words = (record { is_fixed = refl; always = λ w. refl }, (record { is_fixed = refl; always = λ w. refl }, (record { is_fixed = refl; always = λ w. refl }, (record { is_fixed = refl; always = λ w. refl }, (record { is_fixed = refl; always = λ w. refl }, (record { is_fixed = refl; always = λ w. refl }, (record { is_fixed = refl; always = λ w. refl }, (record { is_fixed = refl; always = λ w. refl }, (record { is_fixed = refl; always = λ w. refl }, (record { is_fixed = refl; always = λ w. refl }, (record { is_fixed = refl; always = λ w. refl }, (record { is_fixed = refl; always = λ w. refl }, (record { is_fixed = refl; always = λ w. refl }, tt)))))))))))))

class_in : (w : List ℕ) (ts : List Tag) → All Spelt ts → class_of (tag_in ts w) ≡ cond (among w (map (spelled []) ts)) fixed name
class_in w [] a = refl
class_in w (t ∷ ts) a = go (same w (spelled [] t)) a.0.is_fixed (class_in w ts a.1)
  where
    go : (b : Bool) → class_of t ≡ fixed → class_of (tag_in ts w) ≡ cond (among w (map (spelled []) ts)) fixed name → class_of (cond b t (tag_in ts w)) ≡ cond (b || among w (map (spelled []) ts)) fixed name
    go true p q = p
    go false p q = q

spelled_in : (w : List ℕ) (ts : List Tag) → All Spelt ts → spelled w (tag_in ts w) ≡ w
spelled_in w [] a = refl
spelled_in w (t ∷ ts) a =
    cond_both (same w (spelled [] t)) t (tag_in ts w) (λ (u : Tag). spelled w u ≡ w)
    (λ e. a.0.always w ∙ sym (same_true w (spelled [] t) e))
    (λ e. spelled_in w ts a.1)

pub word_class_is : (w : List ℕ) → class_of (word_tag w) ≡ word_class w
word_class_is w = class_in w word_tags spelt_words

pub word_spelled : (w : List ℕ) → spelled w (word_tag w) ≡ w
word_spelled w = spelled_in w word_tags spelt_words

-- ---- names, reserved words and numbers

-- a token of at most so many bytes, else none
pub record Limited (most at n : ℕ) (t : Tag) (r : Result Token Fault) : Type 0 where
  pub ok : n ≤ most → r ≡ Ok (record { tag = t; at = at; len = n })
  pub err : most < n → r ≡ Err (record { cause = NoToken; offset = at })

module _ (text : List ℕ) (at n : ℕ) where
  limited_shows : (most : ℕ) (c : Class) (w : List ℕ) (t : Tag) (r : Result Token Fault) → n ≡ length w → lexeme_of text (record { tag = t; at = at; len = n }) ≡ record { class = c; text = w; at = at } → Limited most at n t r → Shows text at (up_to most c w) r
  limited_shows most c w t r e s l =
      elim (cases_lt most n) [
        | inl h ↦ rw (l.err h, lt-leb (length w) most (omega arith)) refl
        | inr h ↦ rw (l.ok h, le-leb (length w) most (omega arith)) (s, e)
      ]

  pub word_shows : n ≡ length (run letter_or_digit (drop at text)) → (t : Tag) → t ≡ word_tag (part text at n) → (r : Result Token Fault) → Limited 16 at n t r → Shows text at (word_first (run letter_or_digit (drop at text))) r
  word_shows e t k r l =
      let w = run letter_or_digit (drop at text) in
      let p : part text at n ≡ w = ap (λ (m : ℕ). take m (drop at text)) e ∙ run_take letter_or_digit (drop at text) in
      let k' : t ≡ word_tag w = k ∙ ap word_tag p in
      limited_shows 16 (word_class w) w t r e (lexeme_eq (ap class_of k' ∙ word_class_is w) (ap (λ (v : List ℕ). spelled v t) p ∙ ap (spelled w) k' ∙ word_spelled w)) l

  pub number_shows : n ≡ length (run digit (drop at text)) → (r : Result Token Fault) → Limited 10 at n tags.Number r → Shows text at (up_to 10 number (run digit (drop at text))) r
  number_shows e r l =
      let w = run digit (drop at text) in
      let p : part text at n ≡ w = ap (λ (m : ℕ). take m (drop at text)) e ∙ run_take digit (drop at text) in
      limited_shows 10 number w tags.Number r e (lexeme_eq refl p) l

-- ---- by the first byte

-- a sign of one byte, which begins no longer one
pub record OneByte (t : Tag) : Type 0 where
  pub spelt : Spelt t
  pub byte : ℕ
  pub spells : spelled [] t ≡ byte ∷ []
  pub stands : (bs : List ℕ) → first byte bs ≡ lexeme fixed (byte ∷ [])
  pub no_equal : eqb byte 61 ≡ false
  pub listed : among (spelled [] t) signs ≡ true

abbrev one_byte_signs : All OneByte sign_tags
one_byte_signs = (record { spelt = record { is_fixed = refl; always = λ w. refl }; byte = 40; spells = refl; stands = λ bs. refl; no_equal = refl; listed = refl }, (record { spelt = record { is_fixed = refl; always = λ w. refl }; byte = 41; spells = refl; stands = λ bs. refl; no_equal = refl; listed = refl }, (record { spelt = record { is_fixed = refl; always = λ w. refl }; byte = 123; spells = refl; stands = λ bs. refl; no_equal = refl; listed = refl }, (record { spelt = record { is_fixed = refl; always = λ w. refl }; byte = 125; spells = refl; stands = λ bs. refl; no_equal = refl; listed = refl }, (record { spelt = record { is_fixed = refl; always = λ w. refl }; byte = 44; spells = refl; stands = λ bs. refl; no_equal = refl; listed = refl }, (record { spelt = record { is_fixed = refl; always = λ w. refl }; byte = 59; spells = refl; stands = λ bs. refl; no_equal = refl; listed = refl }, (record { spelt = record { is_fixed = refl; always = λ w. refl }; byte = 38; spells = refl; stands = λ bs. refl; no_equal = refl; listed = refl }, (record { spelt = record { is_fixed = refl; always = λ w. refl }; byte = 43; spells = refl; stands = λ bs. refl; no_equal = refl; listed = refl }, (record { spelt = record { is_fixed = refl; always = λ w. refl }; byte = 45; spells = refl; stands = λ bs. refl; no_equal = refl; listed = refl }, (record { spelt = record { is_fixed = refl; always = λ w. refl }; byte = 42; spells = refl; stands = λ bs. refl; no_equal = refl; listed = refl }, (record { spelt = record { is_fixed = refl; always = λ w. refl }; byte = 60; spells = refl; stands = λ bs. refl; no_equal = refl; listed = refl }, tt)))))))))))

-- what a byte's class says of what stands first
abbrev pub Fits : ℕ → List ℕ → Start → Type 0
Fits b bs Separator = (blank b ≡ true) × (first b bs ≡ space)
Fits b bs Word = (letter b ≡ true) × (first b bs ≡ word_first (run letter_or_digit (b ∷ bs)))
Fits b bs Number = (letter b ≡ false) × (digit b ≡ true) × (first b bs ≡ up_to 10 number (run digit (b ∷ bs)))
Fits b bs (Sign t) = OneByte t × (spelled [] t ≡ b ∷ []) × (first b bs ≡ lexeme fixed (b ∷ [])) × (letter b ≡ false) × (digit b ≡ false)
Fits b bs Equal = b ≡ 61
Fits b bs Nothing = (letter b ≡ false) × (digit b ≡ false) × All (λ s. begins s (b ∷ bs) ≡ false) signs × (first b bs ≡ nothing)

byte_is : (b c : ℕ) (w : List ℕ) → w ≡ c ∷ [] → b ∷ [] ≡ w → c ≡ b
byte_is b c w p q = cc

sign_fits : (b : ℕ) (bs : List ℕ) (ts : List Tag) → All OneByte ts → letter b ≡ false → digit b ≡ false → (All (λ t. same (b ∷ []) (spelled [] t) ≡ false) ts → (b ≡ 61 → ⊥) → Fits b bs Nothing) → Fits b bs (sign_in ts b)
sign_fits b bs [] a nl nd none = cond_both (eqb b 61) Equal Nothing (Fits b bs) (λ e. eqb-true b 61 e) (λ e. none tt (eqb-false b 61 e))
sign_fits b bs (t ∷ ts) a nl nd none =
    cond_both (same (b ∷ []) (spelled [] t)) (Sign t) (sign_in ts b) (Fits b bs)
    (λ e.
    let q = same_true (b ∷ []) (spelled [] t) e in
    (a.0, sym q, subst (λ (x : ℕ). first x bs ≡ lexeme fixed (x ∷ [])) (byte_is b a.0.byte (spelled [] t) a.0.spells q) (a.0.stands bs), nl, nd))
    (λ e. sign_fits b bs ts a.1 nl nd (λ l. none (e, l)))

no_sign : (b : ℕ) (bs : List ℕ) (ss : List (List ℕ)) → All (λ s. begins s (b ∷ bs) ≡ false) ss → sign_of ss (b ∷ bs) ≡ nothing
no_sign b bs [] a = refl
no_sign b bs (s ∷ ss) a = ap (λ (t : Bool). elim t [ true ↦ lexeme fixed s | false ↦ sign_of ss (b ∷ bs) ]) a.0 ∙ no_sign b bs ss a.1

other_byte : (b c : ℕ) (x : Bool) → (b ≡ c → ⊥) → (eqb c b && x) ≡ false
other_byte b c x ne = grind (arith, nat_tests)

apart : (b c : ℕ) → same (b ∷ []) (c ∷ []) ≡ false → b ≡ c → ⊥
apart b c h e = grind (arith, nat_tests)

none : (b : ℕ) (bs : List ℕ) → All (λ t. same (b ∷ []) (spelled [] t) ≡ false) sign_tags → (b ≡ 61 → ⊥) → All (λ s. begins s (b ∷ bs) ≡ false) signs
none b bs a ne =
    (other_byte b 40 true (apart b 40 a.0), (other_byte b 41 true (apart b 41 a.1.0), (other_byte b 123 true (apart b 123 a.1.1.0), (other_byte b 125 true (apart b 125 a.1.1.1.0), (other_byte b 44 true (apart b 44 a.1.1.1.1.0), (other_byte b 59 true (apart b 59 a.1.1.1.1.1.0), (other_byte b 38 true (apart b 38 a.1.1.1.1.1.1.0), (other_byte b 61 (begins (61 ∷ []) bs) ne, (other_byte b 61 true ne, (other_byte b 43 true (apart b 43 a.1.1.1.1.1.1.1.0), (other_byte b 45 true (apart b 45 a.1.1.1.1.1.1.1.1.0), (other_byte b 42 true (apart b 42 a.1.1.1.1.1.1.1.1.1.0), (other_byte b 60 true (apart b 60 a.1.1.1.1.1.1.1.1.1.1.0), tt)))))))))))))

abbrev by_tests : ℕ → List ℕ → Bool → Bool → Bool → First
by_tests b bs x y z =
    elim x [
      | true ↦ space
      | false ↦ elim y [ true ↦ word_first (b ∷ run letter_or_digit bs) | false ↦ elim z [ true ↦ up_to 10 number (b ∷ run digit bs) | false ↦ sign_of signs (b ∷ bs) ] ]
    ]

module _ (b : ℕ) (bs : List ℕ) where
  pub first_space : blank b ≡ true → first b bs ≡ space
  first_space e = ap (λ (x : Bool). by_tests b bs x (letter b) (digit b)) e

  first_word : blank b ≡ false → letter b ≡ true → first b bs ≡ word_first (run letter_or_digit (b ∷ bs))
  first_word nb l =
      ap (λ (x : Bool). by_tests b bs x (letter b) (digit b)) nb ∙ ap (λ (y : Bool). by_tests b bs false y (digit b)) l
      ∙ ap word_first (sym (run_on letter_or_digit b bs (or_left (letter b) (digit b) l)))

  first_number : blank b ≡ false → letter b ≡ false → digit b ≡ true → first b bs ≡ up_to 10 number (run digit (b ∷ bs))
  first_number nb nl d =
      ap (λ (x : Bool). by_tests b bs x (letter b) (digit b)) nb ∙ ap (λ (y : Bool). by_tests b bs false y (digit b)) nl
      ∙ ap (λ (z : Bool). by_tests b bs false false z) d
      ∙ ap (up_to 10 number) (sym (run_on digit b bs d))

  first_sign : blank b ≡ false → letter b ≡ false → digit b ≡ false → first b bs ≡ sign_of signs (b ∷ bs)
  first_sign nb nl nd =
      ap (λ (x : Bool). by_tests b bs x (letter b) (digit b)) nb ∙ ap (λ (y : Bool). by_tests b bs false y (digit b)) nl
      ∙ ap (λ (z : Bool). by_tests b bs false false z) nd

  pub fits : Fits b bs (start_of b)
  fits =
      cond_both (blank b) Separator (cond (letter b) Word (cond (digit b) Number (sign_in sign_tags b))) (Fits b bs) (λ e. (e, first_space e)) (λ nb.
      cond_both (letter b) Word (cond (digit b) Number (sign_in sign_tags b)) (Fits b bs) (λ l. (l, first_word nb l)) (λ nl.
      cond_both (digit b) Number (sign_in sign_tags b) (Fits b bs) (λ d. (nl, d, first_number nb nl d)) (λ nd.
      sign_fits b bs sign_tags one_byte_signs nl nd (λ a ne. let l = none b bs a ne in (nl, nd, l, first_sign nb nl nd ∙ no_sign b bs signs l)))))

  pub fits_at : (s : Start) → s ≡ start_of b → Fits b bs s
  fits_at s e = subst (Fits b bs) (sym e) fits

-- = and ==
pub equal_first : (bs : List ℕ) → first 61 bs ≡ cond (eqb (get_or bs 0 0) 61) (lexeme fixed (61 ∷ 61 ∷ [])) (lexeme fixed (61 ∷ []))
equal_first [] = refl
equal_first (x ∷ xs) = go (cases_eq x 61)
  where
    go : (x ≡ 61) ⊎ (x ≡ 61 → ⊥) → first 61 (x ∷ xs) ≡ cond (eqb x 61) (lexeme fixed (61 ∷ 61 ∷ [])) (lexeme fixed (61 ∷ []))
    go (inl e) = subst (λ (y : ℕ). first 61 (y ∷ xs) ≡ cond (eqb y 61) (lexeme fixed (61 ∷ 61 ∷ [])) (lexeme fixed (61 ∷ []))) (sym e) refl
    go (inr ne) =
        ap (λ (t : Bool). elim t [ true ↦ lexeme fixed (61 ∷ 61 ∷ []) | false ↦ lexeme fixed (61 ∷ []) ]) (other_byte x 61 true ne)
        ∙ sym (cond-false (eqb x 61) (lexeme fixed (61 ∷ 61 ∷ [])) (lexeme fixed (61 ∷ [])) (ne_eqb x 61 ne))

-- ---- the answer at an offset

module _ (text : List ℕ) (at : ℕ) (h : at < length text) where
  here : (s : Start) → s ≡ start_of (get_or text at 0) → Fits (get_or text at 0) (drop (at + 1) text) s
  here s e = fits_at (get_or text at 0) (drop (at + 1) text) s e

  first_here : first_of (drop at text) ≡ first (get_or text at 0) (drop (at + 1) text)
  first_here = ap first_of (drop_more text at 0 h)

  whole : get_or text at 0 ∷ drop (at + 1) text ≡ drop at text
  whole = sym (drop_more text at 0 h)

  shown : (f : First) (r : Result Token Fault) → first (get_or text at 0) (drop (at + 1) text) ≡ f → Shows text at f r → Shows text at (first_of (drop at text)) r
  shown f r e s = subst (λ (g : First). Shows text at g r) (sym (first_here ∙ e)) s

  pub sign_here : (t : Tag) → Sign t ≡ start_of (get_or text at 0) → Shows text at (first_of (drop at text)) (Ok (record { tag = t; at = at; len = 1 }))
  sign_here t e =
      let k = here (Sign t) e in
      shown (lexeme fixed (get_or text at 0 ∷ [])) (Ok (record { tag = t; at = at; len = 1 })) k.2
      (lexeme_eq k.0.spelt.is_fixed (k.0.spelt.always (part text at 1) ∙ k.1), refl)

  pub equal_here : Equal ≡ start_of (get_or text at 0) → Shows text at (first_of (drop at text)) (Ok (equal_token text at))
  equal_here e =
      let k = here Equal e in
      let n : get_or (drop (at + 1) text) 0 0 ≡ get_or text (at + 1) 0 = get_or-drop (at + 1) text 0 0 ∙ ap (λ (i : ℕ). get_or text i 0) (let z : (at + 1) + 0 ≡ at + 1 = omega arith in z) in
      shown (cond (eqb (get_or text (at + 1) 0) 61) (lexeme fixed (61 ∷ 61 ∷ [])) (lexeme fixed (61 ∷ []))) (Ok (equal_token text at))
      (ap (λ (x : ℕ). first x (drop (at + 1) text)) k ∙ equal_first (drop (at + 1) text) ∙ ap (λ (x : ℕ). cond (eqb x 61) (lexeme fixed (61 ∷ 61 ∷ [])) (lexeme fixed (61 ∷ []))) n)
      (either (eqb (get_or text (at + 1) 0) 61))
    where
      either : (t : Bool) → Shows text at (cond t (lexeme fixed (61 ∷ 61 ∷ [])) (lexeme fixed (61 ∷ []))) (Ok (cond t (record { tag = tags.Equals; at = at; len = 2 }) (record { tag = tags.Assign; at = at; len = 1 })))
      either true = (refl, refl)
      either false = (refl, refl)

  pub word_here : (r : Result Token Fault) → Word ≡ start_of (get_or text at 0) → Shows text at (word_first (run letter_or_digit (drop at text))) r → Shows text at (first_of (drop at text)) r
  word_here r e s =
      let k = here Word e in
      shown (word_first (run letter_or_digit (drop at text))) r (k.1 ∙ ap (λ (l : List ℕ). word_first (run letter_or_digit l)) whole) s

  pub number_here : (r : Result Token Fault) → Number ≡ start_of (get_or text at 0) → Shows text at (up_to 10 number (run digit (drop at text))) r → Shows text at (first_of (drop at text)) r
  number_here r e s =
      let k = here Number e in
      shown (up_to 10 number (run digit (drop at text))) r (k.2 ∙ ap (λ (l : List ℕ). up_to 10 number (run digit l)) whole) s

  pub nothing_here : (f : Fault) → f ≡ record { cause = NoToken; offset = at } → Nothing ≡ start_of (get_or text at 0) → Shows text at (first_of (drop at text)) (Err f)
  nothing_here f q e = shown nothing (Err f) (here Nothing e).3 q

  pub separator_here : {B : Type 0} → blank (get_or text at 0) ≡ false → Separator ≡ start_of (get_or text at 0) → B
  separator_here nb e = absurd (both_ways (blank (get_or text at 0)) nb (here Separator e).0)
