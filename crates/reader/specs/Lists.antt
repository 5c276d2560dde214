-- What a list of tokens of a text always is.
use Rattle.std.specs.Prelude.{◌≡◌, ℕ, ◌+◌, ◌≤◌, List, [], ◌∷◌, ◌++◌, length}
use Rattle.std.specs.List.{AllByRecursion}
use Rattle.reader.specs.declared.token.Token.{Token}
use Rattle.reader.specs.declared.token.Tag.TheVariants.{End}

abbrev pub Within : List ℕ → Token → Type 0
Within text t = t.at + t.len ≤ length text

-- the text's end stands last, each token lies in the text, and there are at most as many as bytes and one more
pub record Ended (text : List ℕ) (ts : List Token) : Type 0 where
  pub before : List Token
  pub last : Token
  pub split : ts ≡ before ++ (last ∷ [])
  pub ends : last.tag ≡ End
  pub within : AllByRecursion (Within text) ts
  pub few : length ts ≤ length text + 1
  pub short : length text ≤ 16384
