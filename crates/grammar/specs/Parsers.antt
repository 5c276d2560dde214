-- The second stage of clearing reads tokens. A parser answers what it read and the tokens left.
use Rattle.std.specs.Prelude.{ℕ, zero, suc, Bool, true, false, ◌&&◌, List, [], ◌∷◌, Ok}
use Rattle.reader.specs.Faults.{Answer, ◌>>=◌, refuse}
use Rattle.reader.specs.declared.fault.Cause.TheVariants.{NotAllowed, TooDeep}
use Rattle.reader.specs.Tokens.{same, Lexeme, Class, name, number, fixed, finish}
use Rattle.grammar.specs.Trees.{Name}

abbrev pub Tokens : Type 0
Tokens = List Lexeme

abbrev pub Parser : Type 0 → Type 0
Parser A = Tokens → Answer (A × Tokens)

-- a choice that computes only the way taken
abbrev pub if_so : {A : Type 0} → Bool → (Unit {0} → A) → (Unit {0} → A) → A
if_so true f g = f tt
if_so false f g = g tt

-- the next token; where none is left, the text's end
abbrev pub here : Tokens → Lexeme
here [] = record { class = finish; text = []; at = 0 }
here (t ∷ ts) = t

abbrev pub rest : Tokens → Tokens
rest [] = []
rest (t ∷ ts) = ts

abbrev pub is_fixed : Class → Bool
is_fixed name = false
is_fixed number = false
is_fixed fixed = true
is_fixed finish = false

abbrev pub is_name : Class → Bool
is_name name = true
is_name number = false
is_name fixed = false
is_name finish = false

abbrev pub is_number : Class → Bool
is_number name = false
is_number number = true
is_number fixed = false
is_number finish = false

abbrev pub is_finish : Class → Bool
is_finish name = false
is_finish number = false
is_finish fixed = false
is_finish finish = true

-- this sign or word is next
abbrev pub is : List ℕ → Tokens → Bool
is s ts = is_fixed (here ts).class && same s (here ts).text

-- the refusal of a token that the grammar does not allow
abbrev pub bad : {A : Type 0} → Tokens → Answer A
bad ts = refuse NotAllowed (here ts).at

-- this sign or word must be next
abbrev pub eat : List ℕ → Tokens → Answer Tokens
eat s ts = if_so (is s ts) (λ u. Ok (rest ts)) (λ u. bad ts)

-- an opening bracket; `room` is how many brackets may still be opened
abbrev pub opening : {A : Type 0} → ℕ → List ℕ → Tokens → (ℕ → Tokens → Answer A) → Answer A
opening zero s ts f = eat s ts >>= (λ r. refuse TooDeep (here ts).at)
opening (suc n) s ts f = eat s ts >>= (λ r. f n r)

abbrev pub as_name : Lexeme → Name
as_name t = record { text = t.text; at = t.at }

abbrev pub a_name : Parser Name
a_name ts = if_so (is_name (here ts).class) (λ u. Ok (as_name (here ts), rest ts)) (λ u. bad ts)

abbrev pub a_number : Parser Name
a_number ts = if_so (is_number (here ts).class) (λ u. Ok (as_name (here ts), rest ts)) (λ u. bad ts)
