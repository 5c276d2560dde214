-- What a case says of a board: after how many moves it rests, with which verdict, and the words of its cells.
use Rattle.std.specs.Prelude.{ℕ, zero, suc, Bool, true, false, ◌&&◌, List, [], ◌∷◌, ◌==◌, slice_index_or}
use Rattle.numbers.specs.Kinds.{Meaning}
use Rattle.rules.specs.declared.answers.Verdict.{Verdict}
use Rattle.rules.specs.declared.answers.Verdict.TheVariants.{Finished, Deadlock, Moving}
use Rattle.rules.specs.declared.answers.Stop as stop
use Rattle.rules.specs.declared.answers.Stop.TheVariants as stops
use Rattle.rules.specs.Programs.{
  Stm,
  end,
  Table,
  elem,
}
use Rattle.rules.specs.States.{powered}
use Rattle.rules.specs.Answers.{verdict}
use Rattle.rules.specs.Choices.{Ran, run}

-- A place: its parent, the par that it is a branch of, its first point, and the homes that it knows.
abbrev pub Place : Type 0
Place = ℕ × ℕ × ℕ × List ℕ

-- A point: its place, its statement, the point after it, and the catch blocks of the tries open there.
abbrev pub Point : Type 0
Point = ℕ × Stm × ℕ × List ℕ

abbrev no_place : Place
no_place = (0, 0, 0, [])

abbrev no_point : Point
no_point = (0, end, 0, [])

abbrev size : {A : Type 0} → List A → ℕ
size [] = zero
size (x ∷ xs) = suc (size xs)

-- The program of places, cells (the home of each and, if it is a home, who declared it) and points.
abbrev pub program : List Place → List (ℕ × ℕ) → List Point → Table
program ps cs xs =
    record {
      places = size ps;
      parent = λ q. (slice_index_or ps q no_place).0;
      under = λ q. (slice_index_or ps q no_place).1;
      start = λ q. (slice_index_or ps q no_place).2;
      knows = λ q h. elem h (slice_index_or ps q no_place).3;
      declarer = λ h. (slice_index_or cs h (0, 0)).1;
      home = λ c. (slice_index_or cs c (0, 0)).0;
      place = λ x. (slice_index_or xs x no_point).0;
      stm = λ x. (slice_index_or xs x no_point).1;
      after = λ x. (slice_index_or xs x no_point).2;
      catches = λ x. (slice_index_or xs x no_point).3;
    }

pub record Case : Type 0 where
  pub board : Table
  pub cells : ℕ
  pub moves : ℕ
  pub ends : Verdict
  pub words : List ℕ

abbrev same_verdict : Verdict → Verdict → Bool
same_verdict Finished Finished = true
same_verdict Finished Deadlock = false
same_verdict Finished Moving = false
same_verdict Deadlock Finished = false
same_verdict Deadlock Deadlock = true
same_verdict Deadlock Moving = false
same_verdict Moving Finished = false
same_verdict Moving Deadlock = false
same_verdict Moving Moving = true

abbrev at_rest : stop.Stop → Bool
at_rest stops.Rest = true
at_rest stops.Limit = false
at_rest stops.End = false

-- The cells from i on hold these words.
abbrev holds_from : (ℕ → ℕ) → ℕ → List ℕ → Bool
holds_from f i [] = true
holds_from f i (w ∷ ws) = f i == w && holds_from f (suc i) ws

abbrev as_said : Case → Ran → Bool
as_said c r =
    at_rest r.stop
    && (r.number == c.moves
    && (r.left.total == c.moves
    && (same_verdict (verdict c.board c.cells r.left) c.ends && holds_from r.left.cell 0 c.words)))

-- A case holds for a kind, words to come and choices.
abbrev pub holds : Meaning → (ℕ → List ℕ) → List ℕ → Case → Bool
holds k w cs c = as_said c (run k c.board c.cells (powered c.board w) cs)

abbrev pub all_hold : Meaning → (ℕ → List ℕ) → List ℕ → List Case → Bool
all_hold k w cs [] = true
all_hold k w cs (x ∷ xs) = holds k w cs x && all_hold k w cs xs

-- So many choices alike: always the first permitted move, or always the second if there are two.
abbrev repeated : ℕ → ℕ → List ℕ
repeated zero c = []
repeated (suc n) c = c ∷ repeated n c

abbrev pub first_choices : List ℕ
first_choices = repeated 16 0

abbrev pub other_choices : List ℕ
other_choices = repeated 16 1
