-- What stands first is a beginning of the text, and where the next token begins.
use Rattle.std.proofs.Common.{◌≡◌, ℕ, ◌+◌, ◌<◌, ◌≤◌, Bool, true, false, cond, eqb, leb, ◌⊎◌, List, [], ◌∷◌, ◌++◌, length, get_or, drop, Ok, sym, refl, ap, ◌∙◌, subst, inl, inr, arith, length-append, length-drop}
use Rattle.std.proofs.lemmas.List.{get_or-drop, drop_all}
use Rattle.std.proofs.lemmas.Bool.{eqb-true}
use Rattle.reader.specs.declared.classes.Start.{Start}
use Rattle.reader.specs.declared.classes.Start.TheVariants.{Separator, Word, Number, Sign, Equal, Nothing}
use Rattle.reader.specs.declared.token.Token.{Token}
use Rattle.reader.specs.declared.token.Tag.TheVariants.{End}
use Rattle.reader.specs.Tokens.{First, space, nothing, lexeme, Class, number, fixed, finish, blank, digit, letter_or_digit, run, first, up_to, word_class}
use Rattle.reader.specs.Views.{lexeme_of}
use Rattle.reader.specs.Reads.{start_of, next_at, first_of, Shows}
use Rattle.reader.proofs.Runs.{run_split, run_short, run_stop}
use Rattle.reader.proofs.Firsts.{Fits, fits, equal_first}

pub no_lexeme : {B : Type 0} {c : Class} {w : List ℕ} → nothing ≡ lexeme c w → B
no_lexeme e = absurd (let z : ◌≡◌ {A = ℕ} 0 1 = cc in omega arith)

pub not_space : {B : Type 0} {c : Class} {w : List ℕ} → space ≡ lexeme c w → B
not_space e = absurd (let z : ◌≡◌ {A = ℕ} 0 1 = cc in omega arith)

pub lexeme_parts : {c d : Class} {v w : List ℕ} → lexeme c v ≡ lexeme d w → (c ≡ d) × (v ≡ w)
lexeme_parts e = (cc, cc)

pub up_to_is : (n : ℕ) (c d : Class) (v w : List ℕ) → up_to n c v ≡ lexeme d w → (leb (length v) n ≡ true) × (c ≡ d) × (v ≡ w)
up_to_is n c d v w = go (leb (length v) n)
  where
    go : (t : Bool) → cond t (lexeme c v) nothing ≡ lexeme d w → (t ≡ true) × (c ≡ d) × (v ≡ w)
    go true e = let p = lexeme_parts e in (refl, p.0, p.1)
    go false e = no_lexeme e

-- = with what stands after it
pub equal_parts : (bs w : List ℕ) (c : Class) → first 61 bs ≡ lexeme c w → (fixed ≡ c) × (((w ≡ 61 ∷ 61 ∷ []) × ((t : List ℕ) × (bs ≡ 61 ∷ t))) ⊎ ((w ≡ 61 ∷ []) × (eqb (get_or bs 0 0) 61 ≡ false)))
equal_parts bs w c e = go bs (eqb (get_or bs 0 0) 61) refl (sym (equal_first bs) ∙ e)
  where
    go : (bs : List ℕ) (t : Bool) → eqb (get_or bs 0 0) 61 ≡ t → cond t (lexeme fixed (61 ∷ 61 ∷ [])) (lexeme fixed (61 ∷ [])) ≡ lexeme c w → (fixed ≡ c) × (((w ≡ 61 ∷ 61 ∷ []) × ((t : List ℕ) × (bs ≡ 61 ∷ t))) ⊎ ((w ≡ 61 ∷ []) × (eqb (get_or bs 0 0) 61 ≡ false)))
    go [] true h e = absurd (let z = eqb-true 0 61 h in omega arith)
    go (x ∷ xs) true h e = let p = lexeme_parts e in (p.0, inl (sym p.1, (xs, ap (λ (y : ℕ). y ∷ xs) (eqb-true x 61 h))))
    go bs false h e = let p = lexeme_parts e in (p.0, inr (sym p.1, h))

prefix_by : (b : ℕ) (bs : List ℕ) (c : Class) (w : List ℕ) (s : Start) → Fits b bs s → first b bs ≡ lexeme c w → (t : List ℕ) × (b ∷ bs ≡ w ++ t)
prefix_by b bs c w Separator f e = not_space (sym f.1 ∙ e)
prefix_by b bs c w Word f e =
    let v = run letter_or_digit (b ∷ bs) in
    let p = up_to_is 16 (word_class v) c v w (sym f.1 ∙ e) in
    (drop (length v) (b ∷ bs), run_split letter_or_digit (b ∷ bs) ∙ ap (λ (l : List ℕ). l ++ drop (length v) (b ∷ bs)) p.2)
prefix_by b bs c w Number f e =
    let v = run digit (b ∷ bs) in
    let p = up_to_is 10 number c v w (sym f.2 ∙ e) in
    (drop (length v) (b ∷ bs), run_split digit (b ∷ bs) ∙ ap (λ (l : List ℕ). l ++ drop (length v) (b ∷ bs)) p.2)
prefix_by b bs c w (Sign t) f e = (bs, ap (λ (l : List ℕ). l ++ bs) (lexeme_parts (sym f.2 ∙ e)).1)
prefix_by b bs c w Equal f e =
    elim (equal_parts bs w c (ap (λ (x : ℕ). first x bs) (sym f) ∙ e)).1 [
      | inl h ↦ (h.1.0, subst (λ (l : List ℕ). b ∷ bs ≡ l ++ h.1.0) (sym h.0) (let k = h.1.1 in cc))
      | inr h ↦ (bs, subst (λ (l : List ℕ). b ∷ bs ≡ l ++ bs) (sym h.0) (ap (λ (x : ℕ). x ∷ bs) f))
    ]
prefix_by b bs c w Nothing f e = no_lexeme (sym f.3 ∙ e)

pub first_prefix : (xs : List ℕ) (c : Class) (w : List ℕ) → first_of xs ≡ lexeme c w → (t : List ℕ) × (xs ≡ w ++ t)
first_prefix [] c w e = ([], ap (λ (l : List ℕ). l ++ []) (lexeme_parts e).1)
first_prefix (b ∷ bs) c w e = prefix_by b bs c w (start_of b) (fits b bs) e

-- what an answered token says
pub record Told (text : List ℕ) (o : ℕ) (xs : List ℕ) (t : Token) : Type 0 where
  pub class : Class
  pub bytes : List ℕ
  pub rest : List ℕ
  pub is : first_of xs ≡ lexeme class bytes
  pub split : xs ≡ bytes ++ rest
  pub shows : lexeme_of text t ≡ record { class = class; text = bytes; at = o }
  pub long : t.len ≡ length bytes

pub told : (text : List ℕ) (o : ℕ) (xs : List ℕ) (t : Token) → Shows text o (first_of xs) (Ok t) → Told text o xs t
told text o xs t = go (first_of xs) refl
  where
    go : (f : First) → first_of xs ≡ f → Shows text o f (Ok t) → Told text o xs t
    go space e s = absurd s
    go nothing e s = absurd s
    go (lexeme c w) e s = let p = first_prefix xs c w e in record { class = c; bytes = w; rest = p.0; is = e; split = p.1; shows = s.0; long = s.1 }

module _ (text : List ℕ) (at : ℕ) (h : at ≤ length text) where
  pub next_within : next_at text at ≤ length text
  next_within = let s = run_short blank (drop at text) in let l = length-drop at text in omega arith

  pub next_byte : (o : ℕ) → o ≡ next_at text at → o < length text → blank (get_or text o 0) ≡ false
  next_byte o e k =
      let l = length-drop at text in
      ap (λ (i : ℕ). blank (get_or text i 0)) e
      ∙ ap blank (sym (get_or-drop at text (length (run blank (drop at text))) 0))
      ∙ run_stop blank (drop at text) (omega arith)

pub at_the_end : (text : List ℕ) (o : ℕ) → length text ≤ o → first_of (drop o text) ≡ lexeme finish []
at_the_end text o h = ap first_of (drop_all o text h)

pub end_shows : (text : List ℕ) (o p : ℕ) → o ≡ p → length text ≤ o → Shows text p (first_of (drop p text)) (Ok (record { tag = End; at = o; len = 0 }))
end_shows text o p e h = subst (λ (p : ℕ). Shows text p (first_of (drop p text)) (Ok (record { tag = End; at = o; len = 0 }))) e (subst (λ (f : First). Shows text o f (Ok (record { tag = End; at = o; len = 0 }))) (sym (at_the_end text o h)) (refl, refl))

pub token_within : (text : List ℕ) (o : ℕ) (t : Token) → o ≤ length text → Shows text o (first_of (drop o text)) (Ok t) → o + t.len ≤ length text
token_within text o t h s =
    let p = told text o (drop o text) t s in
    let l = length-drop o text in
    let e = ap length p.split ∙ length-append p.bytes p.rest in
    let k = p.long in
    omega arith
