-- What becomes of a text: it is cleared, and the board is run from power by the first permitted move each time,
-- under binary numbers and with no words to come.
use Rattle.std.specs.Prelude.{ℕ, zero, suc, List, [], ◌∷◌, ◌++◌, length, replicate, Ok, Err}
use Rattle.reader.specs.declared.fault.Cause.{Cause}
use Rattle.reader.specs.Faults.{Answer}
use Rattle.numbers.specs.Binary.{binary}
use Rattle.numbers.specs.Literals.{literal_reading}
use Rattle.rules.specs.declared.answers.Verdict.{Verdict}
use Rattle.rules.specs.declared.answers.Stop as stop
use Rattle.rules.specs.declared.answers.Stop.TheVariants as stops
use Rattle.rules.specs.Programs.{Table}
use Rattle.rules.specs.States.{powered}
use Rattle.rules.specs.Answers.{verdict}
use Rattle.rules.specs.Choices.{Ran, run}
use Rattle.program.specs.Layout.{Program, table_of}
use Rattle.program.specs.Clearing.{cleared}

pub data Outcome : Type 0 where
  -- the text is refused for a cause, at an offset
  refused : Cause → ℕ → Outcome
  -- its board rests after so many moves, with a verdict and the words of its cells
  rests : ℕ → Verdict → List ℕ → Outcome
  -- its board does not rest within the moves tried
  goes_on : Outcome

-- the words of the first n cells
abbrev pub words : (ℕ → ℕ) → ℕ → List ℕ
words f zero = []
words f (suc n) = words f n ++ (f n ∷ [])

abbrev ended : Table → ℕ → Ran → stop.Stop → Outcome
ended t n r stops.Rest = rests r.number (verdict t n r.left) (words r.left.cell n)
ended t n r stops.Limit = goes_on
ended t n r stops.End = goes_on

abbrev ran : Table → ℕ → Outcome
ran t n = let r = run binary t n (powered t (λ i. [])) (replicate 16 0) in ended t n r r.stop

abbrev of_answer : Answer Program → Outcome
of_answer (Ok p) = ran (table_of p) (length p.cells)
of_answer (Err f) = refused f.cause f.offset

abbrev pub outcome : List ℕ → Outcome
outcome bs = of_answer (cleared (literal_reading binary) bs)
