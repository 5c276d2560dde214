-- What a tag says of the next token. Facts on all tags are computed over the table of tags.
use Rattle.std.proofs.Common.{Decides, ◌≡◌, ℕ, zero, suc, ◌<◌, Bool, true, false, not, ◌&&◌, ◌||◌, T, eqb, List, [], ◌∷◌, length, get_or, sym, refl, ap, ◌∙◌, subst, inl, inr, arith}
use denote.Enum.Bare.{tag_one}
use denote.Enum.Declared.{tag_of}
use Rattle.reader.specs.contracts.token.Tag.{the_type}
use Rattle.std.proofs.lemmas.Bool.{cases_lt, both_ways, eq-eqb, ne_eqb}
use Rattle.lemmas.proofs.Tests.{T_and}
use Rattle.reader.specs.declared.token.Token.{Token}
use Rattle.reader.specs.declared.token.Tag.{Tag}
use Rattle.reader.specs.declared.token.Tag.TheVariants.{
  Name,
  Number,
  OpenParen,
  CloseParen,
  OpenBrace,
  CloseBrace,
  Comma,
  Semicolon,
  Ampersand,
  Assign,
  Plus,
  Minus,
  Star,
  Less,
  Equals,
  Var,
  Next,
  Know,
  Take,
  If,
  Else,
  While,
  Par,
  Try,
  Catch,
  Throw,
  Proc,
  Main,
  End,
}
use Rattle.reader.specs.Tokens.{Lexeme, Class, fixed, same}
use Rattle.reader.specs.Views.{class_of, spelled, part, lexeme_of, lexemes}
use Rattle.grammar.specs.Parsers.{here, rest, is, is_fixed, is_name, is_number, is_finish}
use Rattle.grammar.specs.Reading.{next_token, after_next}

-- the number of a tag
abbrev pub code : Tag → ℕ
code = tag_of the_type

all_tags : List Tag
all_tags =
    Name ∷ Number ∷ OpenParen ∷ CloseParen ∷ OpenBrace ∷ CloseBrace ∷ Comma ∷ Semicolon ∷ Ampersand ∷ Assign ∷ Plus ∷ Minus ∷ Star ∷ Less ∷ Equals ∷ Var ∷ Next ∷ Know ∷ Take ∷ If ∷ Else ∷ While ∷ Par ∷ Try ∷ Catch ∷ Throw ∷ Proc ∷ Main ∷ End ∷ []

listed : (t : Tag) → (code t < 29) × (get_or all_tags (code t) End ≡ t)
unfolding all_tags
listed Name = (omega arith, refl)
listed Number = (omega arith, refl)
listed OpenParen = (omega arith, refl)
listed CloseParen = (omega arith, refl)
listed OpenBrace = (omega arith, refl)
listed CloseBrace = (omega arith, refl)
listed Comma = (omega arith, refl)
listed Semicolon = (omega arith, refl)
listed Ampersand = (omega arith, refl)
listed Assign = (omega arith, refl)
listed Plus = (omega arith, refl)
listed Minus = (omega arith, refl)
listed Star = (omega arith, refl)
listed Less = (omega arith, refl)
listed Equals = (omega arith, refl)
listed Var = (omega arith, refl)
listed Next = (omega arith, refl)
listed Know = (omega arith, refl)
listed Take = (omega arith, refl)
listed If = (omega arith, refl)
listed Else = (omega arith, refl)
listed While = (omega arith, refl)
listed Par = (omega arith, refl)
listed Try = (omega arith, refl)
listed Catch = (omega arith, refl)
listed Throw = (omega arith, refl)
listed Proc = (omega arith, refl)
listed Main = (omega arith, refl)
listed End = (omega arith, refl)

pub tag_is : (t u : Tag) → code t ≡ code u → t ≡ u
tag_is t u e = tag_one the_type tt t u e

abbrev all_below : ℕ → (ℕ → Bool) → Bool
all_below zero P = true
all_below (suc n) P = P n && all_below n P

below : (n : ℕ) (P : ℕ → Bool) → T (all_below n P) → (i : ℕ) → i < n → T (P i)
below zero P h i l = absurd (omega arith)
below (suc n) P h i l =
    let k = T_and (P n) (all_below n P) h in
    elim (cases_lt i n) [ inl m ↦ below n P k.1 i m | inr m ↦ let e : n ≡ i = omega arith in subst (λ (j : ℕ). T (P j)) e k.0 ]

-- a test that passes at each tag
abbrev Everywhere : (Tag → Bool) → Type 0
Everywhere P = T (all_below 29 (λ i. P (get_or all_tags i End)))

by_table : (P : Tag → Bool) → Everywhere P → (t : Tag) → T (P t)
by_table P h t =
    let e = listed t in subst (λ (u : Tag). T (P u)) e.1 (below 29 (λ i. P (get_or all_tags i End)) h (code t) e.0)

abbrev agree : Bool → Bool → Bool
agree true b = b
agree false b = not b

agreed : (a b : Bool) → T (agree a b) → a ≡ b
agreed true true h = refl
agreed true false h = absurd h
agreed false true h = absurd h
agreed false false h = refl

pub name_tag : (t : Tag) → is_name (class_of t) ≡ eqb (code t) 0
unfolding all_tags
name_tag t = agreed (is_name (class_of t)) (eqb (code t) 0) (by_table (λ u. agree (is_name (class_of u)) (eqb (code u) 0)) tt t)

pub number_tag : (t : Tag) → is_number (class_of t) ≡ eqb (code t) 1
unfolding all_tags
number_tag t = agreed (is_number (class_of t)) (eqb (code t) 1) (by_table (λ u. agree (is_number (class_of u)) (eqb (code u) 1)) tt t)

pub finish_tag : (t : Tag) → is_finish (class_of t) ≡ eqb (code t) 28
unfolding all_tags
finish_tag t = agreed (is_finish (class_of t)) (eqb (code t) 28) (by_table (λ u. agree (is_finish (class_of u)) (eqb (code u) 28)) tt t)

-- different signs and words are spelled differently, and no name, number or end as one of them
spelled_apart : (t u : Tag) → T (not (is_fixed (class_of t)) || agree (is_fixed (class_of u) && same (spelled [] t) (spelled [] u)) (eqb (code u) (code t)))
unfolding all_tags
spelled_apart t =
    by_table (λ u. not (is_fixed (class_of t)) || agree (is_fixed (class_of u) && same (spelled [] t) (spelled [] u)) (eqb (code u) (code t)))
    (by_table
    (λ t. all_below 29 (λ i. let u = get_or all_tags i End in not (is_fixed (class_of t)) || agree (is_fixed (class_of u) && same (spelled [] t) (spelled [] u)) (eqb (code u) (code t))))
    tt t)

-- only names and numbers are spelled by their part of the text
spelled_fixed : (s w : List ℕ) (u : Tag) → (is_fixed (class_of u) && same s (spelled w u)) ≡ (is_fixed (class_of u) && same s (spelled [] u))
spelled_fixed s w Name = refl
spelled_fixed s w Number = refl
spelled_fixed s w OpenParen = refl
spelled_fixed s w CloseParen = refl
spelled_fixed s w OpenBrace = refl
spelled_fixed s w CloseBrace = refl
spelled_fixed s w Comma = refl
spelled_fixed s w Semicolon = refl
spelled_fixed s w Ampersand = refl
spelled_fixed s w Assign = refl
spelled_fixed s w Plus = refl
spelled_fixed s w Minus = refl
spelled_fixed s w Star = refl
spelled_fixed s w Less = refl
spelled_fixed s w Equals = refl
spelled_fixed s w Var = refl
spelled_fixed s w Next = refl
spelled_fixed s w Know = refl
spelled_fixed s w Take = refl
spelled_fixed s w If = refl
spelled_fixed s w Else = refl
spelled_fixed s w While = refl
spelled_fixed s w Par = refl
spelled_fixed s w Try = refl
spelled_fixed s w Catch = refl
spelled_fixed s w Throw = refl
spelled_fixed s w Proc = refl
spelled_fixed s w Main = refl
spelled_fixed s w End = refl

-- a sign or word against a token, by their tags
pub sign_tag : (w : List ℕ) (t u : Tag) → class_of t ≡ fixed → (is_fixed (class_of u) && same (spelled [] t) (spelled w u)) ≡ eqb (code u) (code t)
sign_tag w t u f =
    spelled_fixed (spelled [] t) w u
    ∙ agreed (is_fixed (class_of u) && same (spelled [] t) (spelled [] u)) (eqb (code u) (code t))
    (subst (λ (c : Class). T (not (is_fixed c) || agree (is_fixed (class_of u) && same (spelled [] t) (spelled [] u)) (eqb (code u) (code t)))) f (spelled_apart t u))

end_apart : (t : Tag) → class_of t ≡ fixed → eqb 28 (code t) ≡ false
end_apart t f = sym (sign_tag [] t End f)

-- ---- the next token

-- whether it has a tag
abbrev pub test : List Token → Tag → Bool
test ts t = eqb (code (next_token ts).tag) (code t)

pub seen : (ts : List Token) (t : Tag) → (next_token ts).tag ≡ t → test ts t ≡ true
seen ts t h = eq-eqb (code (next_token ts).tag) (code t) (ap code h)

pub unseen : (ts : List Token) (t : Tag) → ((next_token ts).tag ≡ t → ⊥) → test ts t ≡ false
unseen ts t n = ne_eqb (code (next_token ts).tag) (code t) (λ q. n (tag_is (next_token ts).tag t q))

-- a token that was looked at
pub is_next : {w x : Token} {t : Tag} → w ≡ x → w.tag ≡ t → x.tag ≡ t
is_next e h = ap (λ (x : Token). x.tag) (sym e) ∙ h

pub is_not_next : {w x : Token} {t : Tag} → w ≡ x → (w.tag ≡ t → ⊥) → x.tag ≡ t → ⊥
is_not_next e n h = n (ap (λ (x : Token). x.tag) e ∙ h)

pub not_seen : {P : Type 0} {b : Bool} → Decides b P → b ≡ false → P → ⊥
not_seen {b = b} d e p = both_ways b e (d.1 p)

-- a token other than the end is left
pub left : (ts : List Token) (t : Tag) → (next_token ts).tag ≡ t → eqb 28 (code t) ≡ false → length (after_next ts) < length ts
left [] t h e = absurd (both_ways (eqb 28 (code t)) e (eq-eqb 28 (code t) (ap code h)))
left (x ∷ ts) t h e = omega arith

pub sign_left : (ts : List Token) (t : Tag) → class_of t ≡ fixed → (next_token ts).tag ≡ t → length (after_next ts) < length ts
sign_left ts t f h = left ts t h (end_apart t f)

module _ (text : List ℕ) where
  pub lexemes_length : (ts : List Token) → length (lexemes text ts) ≡ length ts
  lexemes_length [] = refl
  lexemes_length (t ∷ ts) = ap suc (lexemes_length ts)

  pub here_from : (ts : List Token) → here (lexemes text ts) ≡ lexeme_of text (next_token ts)
  here_from [] = refl
  here_from (t ∷ ts) = refl

  pub rest_from : (ts : List Token) → rest (lexemes text ts) ≡ lexemes text (after_next ts)
  rest_from [] = refl
  rest_from (t ∷ ts) = refl

  pub is_from : (t : Tag) → class_of t ≡ fixed → (ts : List Token) → is (spelled [] t) (lexemes text ts) ≡ test ts t
  is_from t f ts =
      ap (λ (l : Lexeme). is_fixed l.class && same (spelled [] t) l.text) (here_from ts)
      ∙ sign_tag (part text (next_token ts).at (next_token ts).len) t (next_token ts).tag f

  pub name_from : (ts : List Token) → is_name (here (lexemes text ts)).class ≡ test ts Name
  name_from ts = ap (λ (l : Lexeme). is_name l.class) (here_from ts) ∙ name_tag (next_token ts).tag

  pub number_from : (ts : List Token) → is_number (here (lexemes text ts)).class ≡ test ts Number
  number_from ts = ap (λ (l : Lexeme). is_number l.class) (here_from ts) ∙ number_tag (next_token ts).tag

  pub finish_from : (ts : List Token) → is_finish (here (lexemes text ts)).class ≡ test ts End
  finish_from ts = ap (λ (l : Lexeme). is_finish l.class) (here_from ts) ∙ finish_tag (next_token ts).tag
