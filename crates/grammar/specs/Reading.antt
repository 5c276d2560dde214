-- What code answers that reads tokens from the front, against the parsers.
use Rattle.std.specs.Prelude.{◌≡◌, ℕ, ◌<◌, ◌≤◌, List, [], ◌∷◌, ◌++◌, length, IfOk, Ok, Err, Result}
use Rattle.std.proofs.Math.Option.{Option, some, none}
use Rattle.std.specs.declared.option.Option as std-option
use Rattle.std.specs.declared.option.Option.TheVariants as std-options
use Rattle.reader.specs.declared.token.Token.{Token}
use Rattle.reader.specs.declared.token.Tag.{Tag}
use Rattle.reader.specs.declared.token.Tag.TheVariants.{End}
use Rattle.reader.specs.declared.fault.Fault.{Fault}
use Rattle.reader.specs.declared.fault.Error.{Error}
use Rattle.reader.specs.declared.fault.Error.TheVariants.{Refused, OutOfMemory}
use Rattle.reader.specs.Faults.{Answer, ◌>>=◌}
use Rattle.reader.specs.Views.{lexemes}
use Rattle.grammar.specs.declared.tree.Operator.{Operator}
use Rattle.grammar.specs.Trees.{Op}
use Rattle.grammar.specs.Views.{operator}
use Rattle.grammar.specs.Parsers.{Tokens, Parser}

-- the next token; where none is left, the text's end
abbrev pub next_token : List Token → Token
next_token [] = record { tag = End; at = 0; len = 0 }
next_token (t ∷ ts) = t

-- the tokens after it
abbrev pub after_next : List Token → List Token
after_next [] = []
after_next (t ∷ ts) = ts

-- the next token has a tag, and was taken
abbrev pub Taken : Tag → List Token → List Token → Type 0
Taken t ts us = ((next_token ts).tag ≡ t) × (us ≡ after_next ts)

-- it has another, and is still there
abbrev pub NotTaken : Tag → List Token → List Token → Type 0
NotTaken t ts us = ((next_token ts).tag ≡ t → ⊥) × (us ≡ ts)

-- Code that allocates may run out of memory; otherwise it answers what a parser does, a value v of the code standing for f v.
pub data Tells {V A : Type 0} (f : V → A) : Result V Error → Answer A → Type 0 where
  value : (v : V) → Tells f (Ok v) (Ok (f v))
  fault : (g : Fault) → Tells f (Err (Refused g)) (Err g)
  no_memory : (a : Answer A) → Tells f (Err OutOfMemory) a

-- What code reads from some tokens on, when others are left: a value stands for what a parser answers, and its names are parts of a text.
abbrev pub ReadsIn : {V A : Type 0} → (List ℕ → V → A) → (List ℕ → Parser A) → List Token → List Token → Result V Error → Type 0
ReadsIn {V} view p ts us r = (text : List ℕ) → Tells (λ (v : V). (view text v, lexemes text us)) r (p text (lexemes text ts))

abbrev pub Reads : {V A : Type 0} → (List ℕ → V → A) → Parser A → List Token → List Token → Result V Error → Type 0
Reads view p ts us r = ReadsIn view (λ text. p) ts us r

-- the same of a parser that takes a number above that of the tokens
abbrev pub ReadsSome : {V A : Type 0} → (List ℕ → V → A) → (ℕ → Parser A) → List Token → List Token → Result V Error → Type 0
ReadsSome {V} view p ts us r = (text : List ℕ) (n : ℕ) → length ts < n → Tells (λ (v : V). (view text v, lexemes text us)) r (p n (lexemes text ts))

-- only the tokens after what was read
abbrev pub Passes : (Tokens → Answer Tokens) → List Token → List Token → Result (Unit {0}) Error → Type 0
Passes p ts us r = (text : List ℕ) → Tells (λ (v : Unit {0}). lexemes text us) r (p (lexemes text ts))

-- a value that is made of others, which nothing refuses
abbrev pub Makes : {V A : Type 0} → (List ℕ → V → A) → (List ℕ → A) → Result V Error → Type 0
Makes view a r = (text : List ℕ) → Tells (view text) r (Ok (a text))

-- what was gathered already stands in front of what is read
abbrev pub in_front : {X : Type 0} → List X → Answer (List X × Tokens) → Answer (List X × Tokens)
in_front xs m = m >>= (λ s. Ok (xs ++ s.0, s.1))

-- an operator that was found, or none
abbrev pub Chosen : std-option.Option Operator → Option Op → Type 0
Chosen std-options.None o = o ≡ none
Chosen (std-options.Some x) o = o ≡ some (operator x)

-- something was read
abbrev pub Shorter : {V : Type 0} → List Token → List Token → Result V Error → Type 0
Shorter ts us r = IfOk r (λ v. length us < length ts)

-- perhaps something was read
abbrev pub NoLonger : {V : Type 0} → List Token → List Token → Result V Error → Type 0
NoLonger ts us r = IfOk r (λ v. length us ≤ length ts)
