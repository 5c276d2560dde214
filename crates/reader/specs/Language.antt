-- The tokens of the language, and how they lie in a text: what the definition of reading comes to, said without it.
use Rattle.std.specs.Prelude.{◌≡◌, ℕ, ◌+◌, ◌<◌, ◌≤◌, ◌⊎◌, List, [], ◌∷◌, ◌++◌, length, Ok, Err}
use Rattle.std.specs.List.{AllByRecursion}
use Rattle.reader.specs.declared.fault.Fault.{Fault}
use Rattle.reader.specs.declared.fault.Cause.TheVariants.{TextTooLong, NoToken}
use Rattle.reader.specs.Tokens.{Lexeme, Class, name, number, fixed, finish, signs, reserved, tokenized}

-- space and newline separate tokens, and nothing else does
abbrev pub Separates : ℕ → Type 0
Separates b = (b ≡ 32) ⊎ (b ≡ 10)

-- the letters are those of ASCII
abbrev pub Letter : ℕ → Type 0
Letter b = ((65 ≤ b) × (b ≤ 90)) ⊎ ((97 ≤ b) × (b ≤ 122))

abbrev pub Digit : ℕ → Type 0
Digit b = (48 ≤ b) × (b ≤ 57)

abbrev pub Among : List ℕ → List (List ℕ) → Type 0
Among w [] = ⊥
Among w (v ∷ vs) = (w ≡ v) ⊎ Among w vs

-- how a token is made, whatever its length
pub data Form : Class → List ℕ → Type 0 where
  -- a name is a letter and then letters and digits, and no reserved word
  a_name : (b : ℕ) (bs : List ℕ) → Letter b → AllByRecursion (λ x. Letter x ⊎ Digit x) bs → (Among (b ∷ bs) reserved → ⊥) → Form name (b ∷ bs)
  -- a number is decimal digits, one at least
  a_number : (b : ℕ) (bs : List ℕ) → Digit b → AllByRecursion Digit bs → Form number (b ∷ bs)
  -- the reserved words and the signs are those listed
  a_word : (w : List ℕ) → Among w reserved → Form fixed w
  a_sign : (w : List ℕ) → Among w signs → Form fixed w

-- a name has at most 16 bytes, a number at most ten
abbrev pub Short : Class → List ℕ → Type 0
Short name w = length w ≤ 16
Short number w = length w ≤ 10
Short fixed w = Unit {0}
Short finish w = Unit {0}

abbrev pub IsToken : Class → List ℕ → Type 0
IsToken c w = Form c w × Short c w

-- no longer beginning of what stands there is made as a token is; so none is a token
abbrev pub Longest : List ℕ → List ℕ → Type 0
Longest w rest = (c : Class) (v t : List ℕ) → v ++ t ≡ w ++ rest → Form c v → length v ≤ length w

-- The tokens of a text, of which a part that begins at an offset is given: separators, the longest token,
-- and the tokens of the rest; after the last separators the text's end counts as one. Each offset is the length of what stands before.
pub data Laid : ℕ → List ℕ → List Lexeme → Type 0 where
  at_end : (o : ℕ) (bs : List ℕ) → AllByRecursion Separates bs → Laid o bs (record { class = finish; text = []; at = o + length bs } ∷ [])
  token : (o : ℕ) (bs gap w rest : List ℕ) (c : Class) (ls : List Lexeme) → bs ≡ gap ++ (w ++ rest) → AllByRecursion Separates gap → IsToken c w → Longest w rest
      → Laid (o + length gap + length w) rest ls
      → Laid o bs (record { class = c; text = w; at = o + length gap } ∷ ls)

-- no token can be read here: nothing that stands here is made as one, or the longest that is so made is too long
abbrev pub Unreadable : List ℕ → Type 0
Unreadable bs =
    ((c : Class) (v t : List ℕ) → v ++ t ≡ bs → Form c v → ⊥)
    ⊎ ((c : Class) × (w : List ℕ) × (rest : List ℕ) × (bs ≡ w ++ rest) × Form c w × Longest w rest × (Short c w → ⊥))

-- Reading comes to an offset where no token can be read: what stands before it is separators and longest tokens.
pub data Stuck : ℕ → List ℕ → ℕ → Type 0 where
  here : (o : ℕ) (bs gap : List ℕ) (b : ℕ) (rest : List ℕ) → bs ≡ gap ++ (b ∷ rest) → AllByRecursion Separates gap → (Separates b → ⊥) → Unreadable (b ∷ rest)
      → Stuck o bs (o + length gap)
  after : (o : ℕ) (bs gap w rest : List ℕ) (c : Class) (p : ℕ) → bs ≡ gap ++ (w ++ rest) → AllByRecursion Separates gap → IsToken c w → Longest w rest
      → Stuck (o + length gap + length w) rest p
      → Stuck o bs p

-- a text that is read is no longer than allowed, and is laid out as its tokens say
abbrev pub TokensAreLongest : Type 0
TokensAreLongest = (text : List ℕ) (ls : List Lexeme) → tokenized text ≡ Ok ls → (length text ≤ 16384) × Laid 0 text ls

-- a text that is refused is too long, or has a byte where no token can be read
abbrev pub RefusalsHaveCauses : Type 0
RefusalsHaveCauses =
    (text : List ℕ) (f : Fault) → tokenized text ≡ Err f
    → ((16384 < length text) × (f ≡ record { cause = TextTooLong; offset = 16384 })) ⊎ ((length text ≤ 16384) × (f.cause ≡ NoToken) × Stuck 0 text f.offset)

-- a text that is laid out so, and no longer than allowed, is read as those tokens
abbrev pub LayoutsAreRead : Type 0
LayoutsAreRead = (text : List ℕ) (ls : List Lexeme) → length text ≤ 16384 → Laid 0 text ls → tokenized text ≡ Ok ls

-- a text that is too long is refused for it, and any other that has a byte where no token can be read, there
abbrev pub CausesAreRefused : Type 0
CausesAreRefused =
    ((text : List ℕ) → 16384 < length text → tokenized text ≡ Err (record { cause = TextTooLong; offset = 16384 }))
    × ((text : List ℕ) (p : ℕ) → length text ≤ 16384 → Stuck 0 text p → tokenized text ≡ Err (record { cause = NoToken; offset = p }))
