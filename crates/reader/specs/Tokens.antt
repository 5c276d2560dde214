-- The first stage of clearing: bytes to tokens.
use Rattle.std.specs.Prelude.{ℕ, zero, suc, pred, Bool, true, false, cond, ◌&&◌, ◌||◌, List, [], ◌∷◌, length, Ok, codes, ◌==◌, nat_le}
use Rattle.reader.specs.declared.fault.Cause.TheVariants.{TextTooLong, NoToken}
use Rattle.reader.specs.Faults.{Answer, ◌>>=◌, refuse}

abbrev pub same : List ℕ → List ℕ → Bool
same [] [] = true
same [] (b ∷ bs) = false
same (a ∷ as') [] = false
same (a ∷ as') (b ∷ bs) = a == b && same as' bs

abbrev pub among : List ℕ → List (List ℕ) → Bool
among w [] = false
among w (v ∷ vs) = same w v || among w vs

-- a name, a number, a sign or reserved word, the text's end
pub data Class : Type 0 where
  name : Class
  number : Class
  fixed : Class
  finish : Class

pub record Lexeme : Type 0 where
  pub class : Class
  pub text : List ℕ
  pub at : ℕ

abbrev pub blank : ℕ → Bool
blank b = b == 32 || b == 10

abbrev pub letter : ℕ → Bool
letter b = (nat_le 65 b && nat_le b 90) || (nat_le 97 b && nat_le b 122)

abbrev pub digit : ℕ → Bool
digit b = nat_le 48 b && nat_le b 57

abbrev pub letter_or_digit : ℕ → Bool
letter_or_digit b = letter b || digit b

-- in front of = the sign == is read, the longer one
abbrev pub signs : List (List ℕ)
signs =
    codes "(" ∷ codes ")" ∷ codes "{" ∷ codes "}" ∷ codes "," ∷ codes ";" ∷ codes "&" ∷ codes "==" ∷ codes "=" ∷ codes "+" ∷ codes "-" ∷ codes "*" ∷ codes "<" ∷ []

abbrev pub reserved : List (List ℕ)
reserved =
    codes "var" ∷ codes "next" ∷ codes "know" ∷ codes "take" ∷ codes "if" ∷ codes "else" ∷ codes "while" ∷ codes "par" ∷ codes "try" ∷ codes "catch" ∷ codes "throw" ∷ codes "proc" ∷ codes "main" ∷ []

-- the longest beginning whose bytes all pass
abbrev pub run : (ℕ → Bool) → List ℕ → List ℕ
run f [] = []
run f (b ∷ bs) = elim (f b) [ true ↦ b ∷ run f bs | false ↦ [] ]

abbrev pub begins : List ℕ → List ℕ → Bool
begins [] bs = true
begins (a ∷ as') [] = false
begins (a ∷ as') (b ∷ bs) = a == b && begins as' bs

-- what stands first in a text
pub data First : Type 0 where
  space : First
  nothing : First
  lexeme : Class → List ℕ → First

abbrev pub up_to : ℕ → Class → List ℕ → First
up_to n c w = cond (nat_le (length w) n) (lexeme c w) nothing

abbrev pub sign_of : List (List ℕ) → List ℕ → First
sign_of [] bs = nothing
sign_of (s ∷ ss) bs = elim (begins s bs) [ true ↦ lexeme fixed s | false ↦ sign_of ss bs ]

abbrev pub word_class : List ℕ → Class
word_class w = cond (among w reserved) fixed name

abbrev pub first : ℕ → List ℕ → First
first b bs =
    elim (blank b) [
      | true ↦ space
      | false ↦
          elim (letter b) [
            | true ↦ let w = b ∷ run letter_or_digit bs in up_to 16 (word_class w) w
            | false ↦ elim (digit b) [ true ↦ up_to 10 number (b ∷ run digit bs) | false ↦ sign_of signs (b ∷ bs) ]
          ]
    ]

-- the tokens of a text, of which so many bytes belong to the token before, at an offset
abbrev pub tokens : ℕ → ℕ → List ℕ → Answer (List Lexeme)
tokens n o [] = Ok (record { class = finish; text = []; at = o } ∷ [])
tokens (suc n) o (b ∷ bs) = tokens n (suc o) bs
tokens zero o (b ∷ bs) =
    elim (first b bs) [
      | space ↦ tokens zero (suc o) bs
      | nothing ↦ refuse NoToken o
      | lexeme c w ↦ tokens (pred (length w)) (suc o) bs >>= (λ ts. Ok (record { class = c; text = w; at = o } ∷ ts))
    ]

abbrev pub tokenized : List ℕ → Answer (List Lexeme)
tokenized bs = elim (nat_le (length bs) 16384) [ true ↦ tokens 0 0 bs | false ↦ refuse TextTooLong 16384 ]
