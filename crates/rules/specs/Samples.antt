-- Boards that compute and take: over a small kind, the digits with answers modulo 10, and given words.
use Rattle.std.specs.Prelude.{◌≡◌, ℕ, ◌+◌, ◌-◌, ◌*◌, ◌%◌, true, List, [], ◌∷◌, None, nat_lt, slice_index_or}
use Rattle.numbers.specs.Kinds.{Meaning}
use Rattle.rules.specs.declared.answers.Verdict.TheVariants.{Finished}
use Rattle.rules.specs.Programs.{own, word, plus, minus, times, below, end, var, set, call, test, try, take, goto}
use Rattle.rules.specs.Cases.{Case, program, all_hold, first_choices}

abbrev digits : Meaning
digits =
    record {
      number = λ x. nat_lt x 10;
      sum = λ x y. (x + y) % 10;
      difference = λ x y. ((x + 10) - y) % 10;
      product = λ x y. (x * y) % 10;
      less = λ x y. nat_lt x y;
      literal = λ n. None;
      written = λ x. [];
    }

-- Port 0 has the number 7 and then a word that is no digit; the others are dry.
abbrev words : ℕ → List ℕ
words i = slice_index_or ((7 ∷ 12 ∷ []) ∷ []) i []

-- main { var a; var b; take 0 a else { b = 1; } take 0 a else { b = b + 2; } take 1 a else { b = b + 4; }
-- if (a < b) { b = b * 2; } else { b = -b; } }
abbrev taking : Case
taking =
    record {
      board =
          program ((0, 0, 1, []) ∷ [])
          ((0, 0) ∷ (1, 0) ∷ [])
          ((0, end, 0, [])
          ∷ (0, var 0, 2, [])
          ∷ (0, var 1, 3, [])
          ∷ (0, take 0 0 4, 5, [])
          ∷ (0, set 1 (word 1), 5, [])
          ∷ (0, take 0 0 6, 7, [])
          ∷ (0, set 1 (plus (own 1) (word 2)), 7, [])
          ∷ (0, take 1 0 8, 9, [])
          ∷ (0, set 1 (plus (own 1) (word 4)), 9, [])
          ∷ (0, test (below (own 0) (own 1)) 10 11, 0, [])
          ∷ (0, set 1 (times (own 1) (word 2)), 0, [])
          ∷ (0, set 1 (minus (word 0) (own 1)), 0, [])
          ∷ []);
      cells = 2;
      moves = 10;
      ends = Finished;
      words = 7 ∷ 4 ∷ [];
    }

-- proc p(x, &y) { y = x + y; x = 0; } main { var a; var b; a = 2; while (a) { p(a, b); a = a - 1; } }
abbrev calling : Case
calling =
    record {
      board =
          program ((0, 0, 1, []) ∷ [])
          ((0, 0) ∷ (1, 0) ∷ (0, 0) ∷ [])
          ((0, end, 0, [])
          ∷ (0, var 0, 2, [])
          ∷ (0, var 1, 3, [])
          ∷ (0, set 0 (word 2), 4, [])
          ∷ (0, test (own 0) 5 0, 0, [])
          ∷ (0, call ((2, 0) ∷ []) 6, 8, [])
          ∷ (0, set 1 (plus (own 2) (own 1)), 7, [])
          ∷ (0, set 2 (word 0), 8, [])
          ∷ (0, set 0 (minus (own 0) (word 1)), 4, [])
          ∷ []);
      cells = 3;
      moves = 15;
      ends = Finished;
      words = 0 ∷ 3 ∷ 0 ∷ [];
    }

-- main { var a; try { throw T; a = 1; } catch (T) { a = 5; } }
abbrev caught : Case
caught =
    record {
      board =
          program ((0, 0, 1, []) ∷ [])
          ((0, 0) ∷ [])
          ((0, end, 0, [])
          ∷ (0, var 0, 2, [])
          ∷ (0, try 3, 0, [])
          ∷ (0, goto 5, 4, 5 ∷ [])
          ∷ (0, set 0 (word 1), 0, 5 ∷ [])
          ∷ (0, set 0 (word 5), 0, [])
          ∷ []);
      cells = 1;
      moves = 5;
      ends = Finished;
      words = 5 ∷ [];
    }

abbrev pub samples : List Case
samples = taking ∷ calling ∷ caught ∷ []

abbrev pub SamplesHold : Type 0
SamplesHold = all_hold digits words first_choices samples ≡ true
