-- The definition of a text's tokens, taken token by token.
use Rattle.std.proofs.Common.{◌≡◌, ℕ, zero, suc, pred, ◌+◌, ◌≤◌, Bool, true, false, cond, ◌⊎◌, List, [], ◌∷◌, ◌++◌, length, drop, Ok, sym, refl, ap, ◌∙◌, subst, inl, inr, arith, length-append}
use Rattle.std.proofs.lemmas.Bool.{or_left}
use Rattle.std.proofs.lemmas.List.{drop_at}
use Rattle.reader.specs.declared.classes.Start.{Start}
use Rattle.reader.specs.declared.classes.Start.TheVariants.{Separator, Word, Number, Sign, Equal, Nothing}
use Rattle.reader.specs.declared.fault.Cause.TheVariants.{NoToken}
use Rattle.reader.specs.Faults.{Answer, ◌>>=◌, refuse}
use Rattle.reader.specs.Tokens.{Lexeme, First, space, nothing, lexeme, Class, name, number, fixed, finish, blank, digit, letter, letter_or_digit, run, first, word_class, among, reserved, tokens}
use Rattle.reader.specs.Reads.{start_of}
use Rattle.reader.proofs.Runs.{run_on, by_run}
use Rattle.reader.proofs.Firsts.{Fits, fits, first_space}
use Rattle.reader.proofs.Nexts.{no_lexeme, not_space, lexeme_parts, up_to_is, equal_parts}

-- ---- a token is never empty, and never the text's end

pub not_finish : (c : Class) → (c ≡ name) ⊎ ((c ≡ number) ⊎ (c ≡ fixed)) → c ≡ finish → ⊥
not_finish c (inl h) e = let z : ◌≡◌ {A = ℕ} 0 1 = cc in omega arith
not_finish c (inr (inl h)) e = let z : ◌≡◌ {A = ℕ} 0 1 = cc in omega arith
not_finish c (inr (inr h)) e = let z : ◌≡◌ {A = ℕ} 0 1 = cc in omega arith

word_class_case : (v : List ℕ) → (word_class v ≡ name) ⊎ ((word_class v ≡ number) ⊎ (word_class v ≡ fixed))
word_class_case v = go (among v reserved)
  where
    go : (t : Bool) → (cond t fixed name ≡ name) ⊎ ((cond t fixed name ≡ number) ⊎ (cond t fixed name ≡ fixed))
    go true = inr (inr refl)
    go false = inl refl

-- what stands first and is no separator
pub record Solid (b : ℕ) (c : Class) (w : List ℕ) : Type 0 where
  pub class : (c ≡ name) ⊎ ((c ≡ number) ⊎ (c ≡ fixed))
  pub more : List ℕ
  pub starts : w ≡ b ∷ more

abbrev Classed : Class → Type 0
Classed c = (c ≡ name) ⊎ ((c ≡ number) ⊎ (c ≡ fixed))

solid_by : (b : ℕ) (bs : List ℕ) (c : Class) (w : List ℕ) (s : Start) → Fits b bs s → first b bs ≡ lexeme c w → Solid b c w
solid_by b bs c w Separator f e = not_space (sym f.1 ∙ e)
solid_by b bs c w Word f e =
    let v = run letter_or_digit (b ∷ bs) in
    let p = up_to_is 16 (word_class v) c v w (sym f.1 ∙ e) in
    record { class = subst Classed p.1 (word_class_case v); more = run letter_or_digit bs; starts = sym p.2 ∙ run_on letter_or_digit b bs (or_left (letter b) (digit b) f.0) }
solid_by b bs c w Number f e =
    let v = run digit (b ∷ bs) in
    let p = up_to_is 10 number c v w (sym f.2 ∙ e) in
    record { class = inr (inl (sym p.1)); more = run digit bs; starts = sym p.2 ∙ run_on digit b bs f.1 }
solid_by b bs c w (Sign t) f e = let p = lexeme_parts (sym f.2 ∙ e) in record { class = inr (inr (sym p.0)); more = []; starts = sym p.1 }
solid_by b bs c w Equal f e =
    let p = equal_parts bs w c (ap (λ (x : ℕ). first x bs) (sym f) ∙ e) in
    elim p.1 [
      | inl h ↦ record { class = inr (inr (sym p.0)); more = 61 ∷ []; starts = h.0 ∙ ap (λ (x : ℕ). x ∷ 61 ∷ []) (sym f) }
      | inr h ↦ record { class = inr (inr (sym p.0)); more = []; starts = h.0 ∙ ap (λ (x : ℕ). x ∷ []) (sym f) }
    ]
solid_by b bs c w Nothing f e = no_lexeme (sym f.3 ∙ e)

pub solid : (b : ℕ) (bs : List ℕ) (c : Class) (w : List ℕ) → first b bs ≡ lexeme c w → Solid b c w
solid b bs c w e = solid_by b bs c w (start_of b) (fits b bs) e

-- ---- the definition, step by step

abbrev pub cons : Lexeme → Answer (List Lexeme) → Answer (List Lexeme)
cons l r = r >>= (λ ts. Ok (l ∷ ts))

abbrev after : ℕ → List ℕ → First → Answer (List Lexeme)
after o bs f =
    elim f [
      | space ↦ tokens zero (suc o) bs
      | nothing ↦ refuse NoToken o
      | lexeme c w ↦ tokens (pred (length w)) (suc o) bs >>= (λ ts. Ok (record { class = c; text = w; at = o } ∷ ts))
    ]

tokens_pass : (n o : ℕ) (bs : List ℕ) → n ≤ length bs → tokens n o bs ≡ tokens 0 (o + n) (drop n bs)
tokens_pass zero o bs h = ap (λ (k : ℕ). tokens 0 k bs) (let e : o ≡ o + 0 = omega arith in e)
tokens_pass (suc n) o [] h = absurd (omega arith)
tokens_pass (suc n) o (b ∷ bs) h = tokens_pass n (suc o) bs (omega arith) ∙ ap (λ (k : ℕ). tokens 0 k (drop n bs)) (let e : suc o + n ≡ o + suc n = omega arith in e)

pub tokens_skip : (xs : List ℕ) (o : ℕ) → tokens 0 o xs ≡ tokens 0 (o + length (run blank xs)) (drop (length (run blank xs)) xs)
tokens_skip =
    by_run blank (λ s r. (o : ℕ) → tokens 0 o s ≡ tokens 0 (o + length r) (drop (length r) s))
    (λ o. ap (λ (k : ℕ). tokens 0 k []) (let e : o ≡ o + 0 = omega arith in e))
    (λ b bs e p o. ap (after o bs) (first_space b bs e) ∙ p (suc o) ∙ ap (λ (k : ℕ). tokens 0 k (drop (length (run blank bs)) bs)) (let e : suc o + length (run blank bs) ≡ o + suc (length (run blank bs)) = omega arith in e))
    (λ b bs e o. ap (λ (k : ℕ). tokens 0 k (b ∷ bs)) (let e : o ≡ o + 0 = omega arith in e))

pub tokens_none : (o b : ℕ) (bs : List ℕ) → first b bs ≡ nothing → tokens 0 o (b ∷ bs) ≡ refuse NoToken o
tokens_none o b bs e = ap (after o bs) e

passed : (o b : ℕ) (bs w rest more : List ℕ) → b ∷ bs ≡ w ++ rest → w ≡ b ∷ more → tokens (pred (length w)) (suc o) bs ≡ tokens 0 (o + length w) rest
passed o b bs w rest more p q =
    let p' : b ∷ bs ≡ b ∷ (more ++ rest) = p ∙ ap (λ (l : List ℕ). l ++ rest) q in
    let r : bs ≡ more ++ rest = cc in
    let l : length w ≡ suc (length more) = ap length q in
    let m : length bs ≡ length more + length rest = ap length r ∙ length-append more rest in
    let d : drop (length more) bs ≡ rest = ap (drop (length more)) r ∙ drop_at more rest (length more) refl in
    let e : suc o + length more ≡ o + length w = omega arith in
    ap (λ (n : ℕ). tokens (pred n) (suc o) bs) l ∙ tokens_pass (length more) (suc o) bs (omega arith) ∙ ap (λ (k : ℕ). tokens 0 k (drop (length more) bs)) e ∙ ap (tokens 0 (o + length w)) d

pub tokens_more : (o b : ℕ) (bs : List ℕ) (c : Class) (w rest : List ℕ) → first b bs ≡ lexeme c w → b ∷ bs ≡ w ++ rest → tokens 0 o (b ∷ bs) ≡ cons (record { class = c; text = w; at = o }) (tokens 0 (o + length w) rest)
tokens_more o b bs c w rest e p =
    let s = solid b bs c w e in
    ap (after o bs) e ∙ ap (cons (record { class = c; text = w; at = o })) (passed o b bs w rest s.more p s.starts)
