-- The calls of a board: one relation for each, over actual boards.
use Rattle.std.specs.Prelude.{◌≡◌, ℕ, ◌<◌, ◌≤◌, cond, Some, None, List, Ok, Err, Result, nat_lt}
use Rattle.std.proofs.Math.Option.{Option, some, none, map}
use Rattle.std.specs.declared.option.Option as std
use Rattle.banks.specs.Banks.{Words}
use Rattle.numbers.specs.Kinds.{Meaning}
use Rattle.rules.specs.declared.answers.Refusal.{Refusal}
use Rattle.rules.specs.declared.answers.Refusal.TheVariants.{NoSuch}
use Rattle.rules.specs.declared.answers.Stop.{Stop}
use Rattle.rules.specs.declared.answers.Stop.TheVariants.{Rest, Limit, End}
use Rattle.rules.specs.Programs.{Table}
use Rattle.rules.specs.States.{State, Move}
use Rattle.rules.specs.Names.{name_of, named_move}
use Rattle.rules.specs.Answers.{limit, answer, granted}
use Rattle.rules.specs.Choices.{run}
use Rattle.rules.specs.Listings.{at_rest}
use Rattle.tables.specs.declared.moves.MoveName.{MoveName}
use Rattle.tables.specs.Views.{table, cells_of, name}
use Rattle.board.specs.Views.{view}
use Rattle.calls.specs.declared.powered.Board.{Board}

-- The state of a board, with the words to come at its bank; `words` is the meaning of the bank's type.
abbrev pub state_of : {K B : Type 0} → (B → Words) → Board K B → State
state_of words b = view b.state (words b.bank)

-- The move at an index is told by its name; past the last one there is no such.
abbrev pub Told : Result MoveName Refusal → Option Move → Type 0
Told (Ok n) o = map name_of o ≡ some (name n)
Told (Err e) o = (e ≡ NoSuch) × (o ≡ none)

-- Why a board at this total grants none of n permitted moves, if it grants none.
abbrev pub Stops : ℕ → ℕ → std.Option Stop → Type 0
Stops n total None = (n ≡ 0 → ⊥) × (total < limit)
Stops n total (Some Rest) = n ≡ 0
Stops n total (Some Limit) = (n ≡ 0 → ⊥) × (limit ≤ total)
Stops n total (Some End) = ⊥

-- Why a run stops whose choices are used up.
abbrev pub last_stop : Table → ℕ → State → Stop
last_stop t n s = cond (at_rest t n s) Rest (cond (nat_lt s.total limit) End Limit)

-- A named move: the answer, the state that it leaves, and that program and kind stay.
pub record Moved {K B : Type 0} (k : Meaning) (words : B → Words) (x : Board K B) (kind a b : ℕ) (r : Result (Unit {0}) Refusal) (y : Board K B) : Type 0 where
  pub answers : r ≡ answer (table x.tables) (state_of words x) (named_move (table x.tables) (cells_of x.tables) kind a b)
  pub leaves : state_of words y ≡ granted k (table x.tables) (state_of words x) (named_move (table x.tables) (cells_of x.tables) kind a b)
  pub tables : y.tables ≡ x.tables
  pub same_kind : y.kind ≡ x.kind

-- A run over choices: how many moves it granted, why it stopped, the state that it leaves, and that program and kind stay.
pub record RunTells {K B : Type 0} (k : Meaning) (words : B → Words) (x : Board K B) (choices : List ℕ) (r : ℕ × Stop) (y : Board K B) : Type 0 where
  pub number : r.0 ≡ (run k (table x.tables) (cells_of x.tables) (state_of words x) choices).number
  pub stop : r.1 ≡ (run k (table x.tables) (cells_of x.tables) (state_of words x) choices).stop
  pub leaves : state_of words y ≡ (run k (table x.tables) (cells_of x.tables) (state_of words x) choices).left
  pub tables : y.tables ≡ x.tables
  pub same_kind : y.kind ≡ x.kind
