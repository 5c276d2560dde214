-- The converses: a layout determines its tokens, and a stuck text its refusal.
use Rattle.std.proofs.Common.{◌≡◌, ℕ, ◌+◌, ◌<◌, Bool, true, false, cond, List, [], ◌∷◌, ◌++◌, length, get_or, take, drop, Ok, sym, refl, ap, ◌∙◌, subst, inl, inr, append-nil, le_antisymm, arith}
use Rattle.std.specs.List.{AllByRecursion as All}
use Rattle.std.proofs.lemmas.List.{take_at, drop_at}
use Rattle.std.proofs.lemmas.Bool.{both_ways, cond-true, cond-false, lt-leb, false≢true}
use Rattle.reader.specs.declared.fault.Cause.TheVariants.{TextTooLong, NoToken}
use Rattle.reader.specs.Faults.{refuse}
use Rattle.reader.specs.Tokens.{Lexeme, Class, name, number, fixed, finish, among, letter, digit, blank, signs, reserved, word_class, tokens}
use Rattle.reader.specs.Language.{Separates, Letter, Digit, Among, Form, a_name, a_number, a_word, a_sign, Short, IsToken, Longest, Laid, at_end, token, Unreadable, Stuck, here, after, LayoutsAreRead, CausesAreRefused}
use Rattle.reader.proofs.Forms.{letter_is, digit_is, is_letter, is_digit, among_is, is_among, not_both, listed, word_like, sign_like, is_blank, form_kind}
use Rattle.reader.proofs.Steps.{cons}
use Rattle.reader.proofs.Turns.{tokenized_is}
use Rattle.reader.proofs.Laying.{Step, ends, stops, takes, step}

-- ---- a token's bytes determine its class

abbrev decided : List ℕ → Class
decided w = cond (letter (get_or w 0 0)) (word_class w) (cond (digit (get_or w 0 0)) number fixed)

not_true : (b : Bool) → (b ≡ true → ⊥) → b ≡ false
not_true true h = absurd (h refl)
not_true false h = refl

class_is : (c : Class) (w : List ℕ) → Form c w → decided w ≡ c
class_is c w (a_name b bs l a n) =
    cond-true (letter b) (word_class (b ∷ bs)) (cond (digit b) number fixed) (is_letter b l)
    ∙ cond-false (among (b ∷ bs) reserved) fixed name (not_true (among (b ∷ bs) reserved) (λ h. n (among_is (b ∷ bs) reserved h)))
class_is c w (a_number b bs d a) =
    cond-false (letter b) (word_class (b ∷ bs)) (cond (digit b) number fixed) (not_true (letter b) (λ l. not_both b l (is_digit b d)))
    ∙ cond-true (digit b) number fixed (is_digit b d)
class_is c w (a_word v h) =
    cond-true (letter (get_or w 0 0)) (word_class w) (cond (digit (get_or w 0 0)) number fixed) (word_like w h).0
    ∙ cond-true (among w reserved) fixed name (is_among w reserved h)
class_is c w (a_sign v h) =
    cond-false (letter (get_or w 0 0)) (word_class w) (cond (digit (get_or w 0 0)) number fixed) (sign_like w h).0
    ∙ cond-false (digit (get_or w 0 0)) number fixed (sign_like w h).1

-- ---- the longest token is one

record Same (w rest : List ℕ) (c : Class) (w' rest' : List ℕ) (c' : Class) : Type 0 where
  pub bytes : w ≡ w'
  pub left : rest ≡ rest'
  pub class : c ≡ c'

same_token : (w rest : List ℕ) (c : Class) (w' rest' : List ℕ) (c' : Class) → w ++ rest ≡ w' ++ rest' → Form c w → Longest w rest → Form c' w' → Longest w' rest' → Same w rest c w' rest' c'
same_token w rest c w' rest' c' e f l f' l' =
    let n : length w ≡ length w' = (let x = l c' w' rest' (sym e) f' in let y = l' c w rest e f in le_antisymm y x) in
    let b : w ≡ w' = sym (take_at w rest (length w) refl) ∙ ap (take (length w)) e ∙ take_at w' rest' (length w) (sym n) in
    let r : rest ≡ rest' = sym (drop_at w rest (length w) refl) ∙ ap (drop (length w)) e ∙ drop_at w' rest' (length w) (sym n) in
    record { bytes = b; left = r; class = sym (class_is c w f) ∙ ap decided b ∙ class_is c' w' f' }

-- ---- separators end where a token begins

abbrev Begins : List ℕ → Type 0
Begins [] = Unit {0}
Begins (b ∷ bs) = Separates b → ⊥

gaps : (g h ys zs : List ℕ) → g ++ ys ≡ h ++ zs → All Separates g → All Separates h → Begins ys → Begins zs → (g ≡ h) × (ys ≡ zs)
gaps [] [] ys zs e a b p q = (refl, e)
gaps [] (x ∷ h) [] zs e a b p q = absurd (let z : ◌≡◌ {A = ℕ} 0 1 = cc in omega arith)
gaps [] (x ∷ h) (y ∷ ys) zs e a b p q = absurd (p (subst Separates (let r : x ≡ y = cc in r) b.0))
gaps (x ∷ g) [] ys [] e a b p q = absurd (let z : ◌≡◌ {A = ℕ} 0 1 = cc in omega arith)
gaps (x ∷ g) [] ys (z ∷ zs) e a b p q = absurd (q (subst Separates (let r : x ≡ z = cc in r) a.0))
gaps (x ∷ g) (y ∷ h) ys zs e a b p q =
    let r : x ≡ y = cc in
    let t : g ++ ys ≡ h ++ zs = cc in
    let k = gaps g h ys zs t a.1 b.1 p q in
    let l = k.0 in
    ((let s : x ∷ g ≡ y ∷ h = cc in s), k.1)

sign_byte : (w : List ℕ) → Among w signs → blank (get_or w 0 0) ≡ false
sign_byte w = listed (λ v. blank (get_or v 0 0) ≡ false) w signs (refl, (refl, (refl, (refl, (refl, (refl, (refl, (refl, (refl, (refl, (refl, (refl, (refl, tt)))))))))))))

no_letter : (b : ℕ) → Letter b → Separates b → ⊥
no_letter b (inl h) (inl e) = let x = h.0 in omega arith
no_letter b (inl h) (inr e) = let x = h.0 in omega arith
no_letter b (inr h) (inl e) = let x = h.0 in omega arith
no_letter b (inr h) (inr e) = let x = h.0 in omega arith

no_digit : (b : ℕ) → Digit b → Separates b → ⊥
no_digit b h (inl e) = let x = h.0 in omega arith
no_digit b h (inr e) = let x = h.0 in omega arith

form_none : (c : Class) → Form c [] → ⊥
form_none c (a_word w h) = false≢true (word_like [] h).0
form_none c (a_sign w h) = elim (sign_like [] h).2 [ inl e ↦ omega arith | inr e ↦ let z : ◌≡◌ {A = ℕ} 0 1 = cc in omega arith ]

-- what is made as a token has a byte, and begins with no separator
starts : (c : Class) (w rest : List ℕ) → Form c w → Begins (w ++ rest) × (0 < length w)
starts c [] rest f = absurd (form_none c f)
starts c (b ∷ bs) rest f = (
  elim (form_kind c (b ∷ bs) [] b (bs ++ []) refl f) [
    | inl k ↦ no_letter b (letter_is b k.0)
    | inr (inl k) ↦ no_digit b (digit_is b k.0)
    | inr (inr k) ↦ λ s. both_ways (blank b) (sign_byte (b ∷ bs) k.2) (is_blank b s)
  ],
  omega arith,
)

unlike : {A : Type 0} (w rest : List ℕ) → [] ≡ w ++ rest → 0 < length w → A
unlike [] rest e h = absurd (omega arith)
unlike (x ∷ w) rest e h = absurd (let z : ◌≡◌ {A = ℕ} 0 1 = cc in omega arith)

-- ---- the three ways on

readable : (w rest : List ℕ) (c : Class) → IsToken c w → Longest w rest → Unreadable (w ++ rest) → ⊥
readable w rest c t l (inl h) = h c w rest refl t.0
readable w rest c t l (inr h) =
    let k = same_token w rest c h.1 h.2 h.0 h.3 t.0 l h.4 h.5 in
    h.6 (subst (λ (x : Class). Short x h.1) k.class (subst (Short c) k.bytes t.1))

module _ (o : ℕ) (xs : List ℕ) where
  reads_end : All Separates xs → Step o xs → tokens 0 o xs ≡ Ok (record { class = finish; text = []; at = o + length xs } ∷ [])
  reads_end a (ends b q) = q
  reads_end a (stops gap b rest s g n u q) = absurd (let k = gaps xs gap [] (b ∷ rest) (append-nil xs ∙ s) a g tt n in let e = k.1 in let z : ◌≡◌ {A = ℕ} 0 1 = cc in omega arith)
  reads_end a (takes gap w rest c s g t l n q) = let b = starts c w rest t.0 in unlike w rest (gaps xs gap [] (w ++ rest) (append-nil xs ∙ s) a g tt b.0).1 b.1

  module _ (gap w rest : List ℕ) (c : Class) (s : xs ≡ gap ++ (w ++ rest)) (a : All Separates gap) (t : IsToken c w) (l : Longest w rest) where
    reads_token : Step o xs → tokens 0 o xs ≡ cons (record { class = c; text = w; at = o + length gap }) (tokens 0 (o + length gap + length w) rest)
    reads_token (ends b q) = let k = starts c w rest t.0 in unlike w rest (gaps xs gap [] (w ++ rest) (append-nil xs ∙ s) b a tt k.0).1 k.1
    reads_token (stops gap' b rest' s' a' n u q) =
        let k = gaps gap gap' (w ++ rest) (b ∷ rest') (sym s ∙ s') a a' (starts c w rest t.0).0 n in
        absurd (readable w rest c t l (subst Unreadable (sym k.1) u))
    reads_token (takes gap' w' rest' c' s' a' t' l' n q) =
        let k = gaps gap gap' (w ++ rest) (w' ++ rest') (sym s ∙ s') a a' (starts c w rest t.0).0 (starts c' w' rest' t'.0).0 in
        let m = same_token w rest c w' rest' c' k.1 t.0 l t'.0 l' in
        let x = k.0 in
        let y = m.bytes in
        let z = m.left in
        let v = m.class in
        let r : cons (record { class = c; text = w; at = o + length gap }) (tokens 0 (o + length gap + length w) rest) ≡ cons (record { class = c'; text = w'; at = o + length gap' }) (tokens 0 (o + length gap' + length w') rest') = cc in
        q ∙ sym r

  reads_stuck : (gap : List ℕ) (b : ℕ) (rest : List ℕ) → xs ≡ gap ++ (b ∷ rest) → All Separates gap → (Separates b → ⊥) → Unreadable (b ∷ rest) → Step o xs → tokens 0 o xs ≡ refuse NoToken (o + length gap)
  reads_stuck gap b rest s a n u (ends e q) = absurd (let k = gaps xs gap [] (b ∷ rest) (append-nil xs ∙ s) e a tt n in let e = k.1 in let z : ◌≡◌ {A = ℕ} 0 1 = cc in omega arith)
  reads_stuck gap b rest s a n u (stops gap' b' rest' s' a' n' u' q) =
      let k = gaps gap gap' (b ∷ rest) (b' ∷ rest') (sym s ∙ s') a a' n n' in
      q ∙ ap (λ (g : List ℕ). refuse NoToken (o + length g)) (sym k.0)
  reads_stuck gap b rest s a n u (takes gap' w' rest' c' s' a' t' l' m q) =
      let k = gaps gap gap' (b ∷ rest) (w' ++ rest') (sym s ∙ s') a a' n (starts c' w' rest' t'.0).0 in
      absurd (readable w' rest' c' t' l' (subst Unreadable k.1 u))

-- ---- whole texts

laid_read : (o : ℕ) (xs : List ℕ) (ls : List Lexeme) → Laid o xs ls → tokens 0 o xs ≡ Ok ls
laid_read o xs ls (at_end p bs a) = reads_end o xs a (step o xs)
laid_read o xs ls (token p bs gap w rest c ms s a t l k) =
    reads_token o xs gap w rest c s a t l (step o xs) ∙ ap (cons (record { class = c; text = w; at = o + length gap })) (laid_read (o + length gap + length w) rest ms k)

stuck_read : (o : ℕ) (xs : List ℕ) (p : ℕ) → Stuck o xs p → tokens 0 o xs ≡ refuse NoToken p
stuck_read o xs p (here q bs gap b rest s a n u) = reads_stuck o xs gap b rest s a n u (step o xs)
stuck_read o xs p (after q bs gap w rest c r s a t l k) =
    reads_token o xs gap w rest c s a t l (step o xs) ∙ ap (cons (record { class = c; text = w; at = o + length gap })) (stuck_read (o + length gap + length w) rest p k)

pub layouts_are_read_lem : LayoutsAreRead
layouts_are_read_lem text ls h k = tokenized_is text h ∙ laid_read 0 text ls k

pub causes_are_refused_lem : CausesAreRefused
causes_are_refused_lem = (
  λ text h. ap (λ (t : Bool). elim t [ true ↦ tokens 0 0 text | false ↦ refuse {A = List Lexeme} TextTooLong 16384 ]) (lt-leb (length text) 16384 h),
  λ text p h k. tokenized_is text h ∙ stuck_read 0 text p k,
)
