-- A run over choices: for each choice c the permitted move at index c modulo their number.
use Rattle.std.specs.Prelude.{ℕ, ◌+◌, ◌%◌, cond, List, [], ◌∷◌, length, nat_lt}
use Rattle.std.proofs.Math.Option.{Option, some, none}
use Rattle.numbers.specs.Kinds.{Meaning}
use Rattle.rules.specs.declared.answers.Stop.{Stop}
use Rattle.rules.specs.declared.answers.Stop.TheVariants.{Rest, Limit, End}
use Rattle.rules.specs.Programs.{Table}
use Rattle.rules.specs.States.{State, Move}
use Rattle.rules.specs.Moves.{made}
use Rattle.rules.specs.Listings.{listing, nth, at_rest}
use Rattle.rules.specs.Answers.{limit}

-- How many moves a run granted, why it stopped, and the state that it left.
pub record Ran : Type 0 where
  pub number : ℕ
  pub stop : Stop
  pub left : State

abbrev pub one_more : Ran → Ran
one_more r = record { number = r.number + 1; stop = r.stop; left = r.left }

abbrev pub stopped : State → Stop → Ran
stopped s e = record { number = 0; stop = e; left = s }

abbrev pub chosen : Table → ℕ → State → ℕ → Option Move
chosen t n s c = nth (listing t s n) (c % length (listing t s n))

abbrev pub made_if : Meaning → Table → State → Option Move → State
made_if k t s none = s
made_if k t s (some m) = made k t s m

-- A run stops at rest, at the limit, or at the list's end, named in that order.
unfoldable pub run : Meaning → Table → ℕ → State → List ℕ → Ran
run k t n s [] = stopped s (cond (at_rest t n s) Rest (cond (nat_lt s.total limit) End Limit))
run k t n s (c ∷ cs) =
    let rest = run k t n (made_if k t s (chosen t n s c)) cs in
    cond (at_rest t n s) (stopped s Rest) (cond (nat_lt s.total limit) (one_more rest) (stopped s Limit))
