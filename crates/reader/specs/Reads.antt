-- What one call of the reader answers: what a byte can begin, a word's tag, and the token that stands next.
use Rattle.std.specs.Prelude.{◌≡◌, ℕ, ◌+◌, cond, List, [], ◌∷◌, length, drop, Ok, Err, Result, ◌==◌, slice_index}
use Rattle.reader.specs.declared.classes.Start.{Start}
use Rattle.reader.specs.declared.classes.Start.TheVariants.{Separator, Word, Number, Sign, Equal, Nothing}
use Rattle.reader.specs.declared.fault.Fault.{Fault}
use Rattle.reader.specs.declared.fault.Cause.TheVariants.{NoToken}
use Rattle.reader.specs.declared.token.Token.{Token}
use Rattle.reader.specs.declared.token.Tag.{Tag}
use Rattle.reader.specs.declared.token.Tag.TheVariants.{
  Name,
  OpenParen,
  CloseParen,
  OpenBrace,
  CloseBrace,
  Comma,
  Semicolon,
  Ampersand,
  Assign,
  Equals,
  Plus,
  Minus,
  Star,
  Less,
  Var,
  Next,
  Know,
  Take,
  If,
  Else,
  While,
  Par,
  Try,
  Catch,
  Throw,
  Proc,
  Main,
}
use Rattle.reader.specs.Tokens.{First, space, nothing, lexeme, finish, same, blank, letter, digit, run, first, up_to, word_class}
use Rattle.reader.specs.Views.{spelled, lexeme_of}

-- the signs of one byte that begin no longer one
abbrev pub sign_tags : List Tag
sign_tags = OpenParen ∷ CloseParen ∷ OpenBrace ∷ CloseBrace ∷ Comma ∷ Semicolon ∷ Ampersand ∷ Plus ∷ Minus ∷ Star ∷ Less ∷ []

abbrev pub sign_in : List Tag → ℕ → Start
sign_in [] b = cond (b == 61) Equal Nothing
sign_in (t ∷ ts) b = cond (same (b ∷ []) (spelled [] t)) (Sign t) (sign_in ts b)

abbrev pub start_of : ℕ → Start
start_of b = cond (blank b) Separator (cond (letter b) Word (cond (digit b) Number (sign_in sign_tags b)))

abbrev pub word_tags : List Tag
word_tags = Var ∷ Next ∷ Know ∷ Take ∷ If ∷ Else ∷ While ∷ Par ∷ Try ∷ Catch ∷ Throw ∷ Proc ∷ Main ∷ []

-- the tag that is spelled so, else a name's
abbrev pub tag_in : List Tag → List ℕ → Tag
tag_in [] w = Name
tag_in (t ∷ ts) w = cond (same w (spelled [] t)) t (tag_in ts w)

abbrev pub word_tag : List ℕ → Tag
word_tag w = tag_in word_tags w

-- a word of letters and digits as a token
abbrev pub word_first : List ℕ → First
word_first w = up_to 16 (word_class w) w

-- = or ==, by the byte after it
abbrev pub equal_token : List ℕ → ℕ → Token
equal_token text at = cond (slice_index text (at + 1) == 61) (record { tag = Equals; at = at; len = 2 }) (record { tag = Assign; at = at; len = 1 })

-- where the next token begins: past the separators
abbrev pub next_at : List ℕ → ℕ → ℕ
next_at text at = at + length (run blank (drop at text))

-- what stands first in what is left of a text; at its end the token of none
abbrev pub first_of : List ℕ → First
first_of [] = lexeme finish []
first_of (b ∷ bs) = first b bs

-- an answer for what stands first at an offset: that token with its length, or the fault there
abbrev pub Shows : List ℕ → ℕ → First → Result Token Fault → Type 0
Shows text o space r = ⊥
Shows text o nothing (Ok t) = ⊥
Shows text o nothing (Err f) = f ≡ record { cause = NoToken; offset = o }
Shows text o (lexeme c w) (Ok t) = (lexeme_of text t ≡ record { class = c; text = w; at = o }) × (t.len ≡ length w)
Shows text o (lexeme c w) (Err f) = ⊥

-- where the reader then stands: after the token, or at the fault
abbrev pub stands : ℕ → Result Token Fault → ℕ
stands o (Ok t) = o + t.len
stands o (Err f) = o
