-- What a clear answers, and the program that it leaves.
use Rattle.std.specs.Prelude.{◌≡◌, ℕ, ◌-◌, List, length, Ok, Err, Result}
use Rattle.numbers.specs.Kinds.{Meaning}
use Rattle.numbers.specs.Literals.{literal_reading}
use Rattle.reader.specs.declared.fault.Error.{Error}
use Rattle.reader.specs.Faults.{Answer, Meets}
use Rattle.program.specs.Layout as laid
use Rattle.program.specs.Clearing.{cleared, fresh, left}
use Rattle.layout.specs.Shown.{Shows}
use Rattle.clearing.specs.declared.programs.Program.{Program}

-- The points are those of the statements and the ends of the places.
abbrev pub statements_of : laid.Program → ℕ
statements_of p = length p.points - length p.places

-- A program of the code stands for a laid-out program: its tables show it, and its count is that of its statements.
pub record Holds {K : Type 0} (x : Program K) (p : laid.Program) : Type 0 where
  pub shows : Shows x.tables p
  pub counts : x.statements ≡ statements_of p

-- What a call of `clear` leaves: the cleared program if it answers so, and otherwise `main { }`.
abbrev pub left_by : Result (Unit {0}) Error → Answer laid.Program → laid.Program
left_by (Ok u) a = left a
left_by (Err e) a = fresh

-- A clear of a text under a kind: its answer is that of the definition, unless memory ran out, and so is what it leaves.
pub record Cleared {K : Type 0} (k : Meaning) (x : Program K) (text : List ℕ) (r : Result (Unit {0}) Error) (y : Program K) : Type 0 where
  pub answers : Meets (λ _ _. Unit {0}) r (cleared (literal_reading k) text)
  pub leaves : Holds y (left_by r (cleared (literal_reading k) text))
  pub same_kind : y.kind ≡ x.kind
