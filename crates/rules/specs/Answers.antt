-- What a board answers, over the code's own enums: the verdict, and a named move granted or refused.
use Rattle.std.specs.Prelude.{ℕ, Bool, true, false, cond, Ok, Err, Result, nat_lt}
use Rattle.std.proofs.Math.Option.{Option, some, none}
use Rattle.numbers.specs.Kinds.{Meaning}
use Rattle.rules.specs.declared.answers.Refusal.{Refusal}
use Rattle.rules.specs.declared.answers.Refusal.TheVariants.{NoSuch, Limit, NotPermitted}
use Rattle.rules.specs.declared.answers.Verdict.{Verdict}
use Rattle.rules.specs.declared.answers.Verdict.TheVariants.{Finished, Deadlock, Moving}
use Rattle.rules.specs.Programs.{Table}
use Rattle.rules.specs.States.{Local, idle, running, parted, finished, poisoned, State, Move}
use Rattle.rules.specs.Moves.{made}
use Rattle.rules.specs.Tests.{permitted}
use Rattle.rules.specs.Listings.{at_rest}

-- The number of a refusal.
abbrev pub refusal_number : Refusal → ℕ
refusal_number NoSuch = 31
refusal_number Limit = 32
refusal_number NotPermitted = 33

abbrev pub is_finished : Local → Bool
is_finished idle = false
is_finished (running x) = false
is_finished (parted x) = false
is_finished finished = true
is_finished poisoned = false

-- The verdict is finished if place 0 is, else deadlock at rest, else moving; n is the number of cells.
abbrev pub verdict : Table → ℕ → State → Verdict
verdict t n s = cond (is_finished (s.at 0)) Finished (cond (at_rest t n s) Deadlock Moving)

-- A board grants at most so many moves.
abbrev pub limit : ℕ
limit = 1000000000

-- What a name is answered at a state, if it is of the move given: no such name, then limit reached, then not permitted.
abbrev pub answer : Table → State → Option Move → Result (Unit {0}) Refusal
answer t s none = Err NoSuch
answer t s (some m) = cond (nat_lt s.total limit) (cond (permitted t s m) (Ok tt) (Err NotPermitted)) (Err Limit)

-- And what it leaves: a granted move is made, a refused one changes nothing.
abbrev pub granted : Meaning → Table → State → Option Move → State
granted k t s none = s
granted k t s (some m) = cond (nat_lt s.total limit) (cond (permitted t s m) (made k t s m) s) s
