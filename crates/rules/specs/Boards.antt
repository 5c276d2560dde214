-- Boards to try, as one list. The tables are the unfolded programs; points 0, 1, .. are the ends of the places 0, 1, ..
use Rattle.std.specs.Prelude.{◌≡◌, ℕ, true, List, [], ◌∷◌}
use Rattle.numbers.specs.Kinds.{Meaning}
use Rattle.rules.specs.declared.answers.Verdict.TheVariants.{Finished, Deadlock}
use Rattle.rules.specs.Programs.{own, word, plus, end, var, set, know, next, try, par, throw}
use Rattle.rules.specs.Contrasts.{waits_for_nothing, inside_its_try, poisoned_through, zero_over_try, ready_though_marked}
use Rattle.rules.specs.Cases.{Case, program, all_hold, first_choices, other_choices}

-- main { }
abbrev empty : Case
empty =
    record {
      board = program ((0, 0, 0, []) ∷ []) [] ((0, end, 0, []) ∷ []);
      cells = 0;
      moves = 1;
      ends = Finished;
      words = [];
    }

-- main { var a; var b; par { next a; next b; } { next b; next a; }; }
abbrev crossed : Case
crossed =
    record {
      board =
          program ((0, 0, 3, []) ∷ (0, 5, 6, 0 ∷ 1 ∷ []) ∷ (0, 5, 8, 1 ∷ 0 ∷ []) ∷ [])
          ((0, 0) ∷ (1, 0) ∷ (0, 0) ∷ (1, 0) ∷ (1, 0) ∷ (0, 0) ∷ [])
          ((0, end, 0, [])
          ∷ (1, end, 1, [])
          ∷ (2, end, 2, [])
          ∷ (0, var 0, 4, [])
          ∷ (0, var 1, 5, [])
          ∷ (0, par (1 ∷ 2 ∷ []) ((2, 0) ∷ (3, 1) ∷ (4, 1) ∷ (5, 0) ∷ []), 0, [])
          ∷ (1, next 2 0, 7, [])
          ∷ (1, next 3 1, 1, [])
          ∷ (2, next 4 1, 9, [])
          ∷ (2, next 5 0, 2, [])
          ∷ []);
      cells = 6;
      moves = 3;
      ends = Deadlock;
      words = 0 ∷ 0 ∷ 0 ∷ 0 ∷ 0 ∷ 0 ∷ [];
    }

-- main { var a; par { next a; next a; } { next a; }; }
abbrev uneven : Case
uneven =
    record {
      board =
          program ((0, 0, 3, []) ∷ (0, 4, 5, 0 ∷ []) ∷ (0, 4, 7, 0 ∷ []) ∷ [])
          ((0, 0) ∷ (0, 0) ∷ (0, 0) ∷ [])
          ((0, end, 0, [])
          ∷ (1, end, 1, [])
          ∷ (2, end, 2, [])
          ∷ (0, var 0, 4, [])
          ∷ (0, par (1 ∷ 2 ∷ []) ((1, 0) ∷ (2, 0) ∷ []), 0, [])
          ∷ (1, next 1 0, 6, [])
          ∷ (1, next 1 0, 1, [])
          ∷ (2, next 2 0, 2, [])
          ∷ []);
      cells = 3;
      moves = 8;
      ends = Finished;
      words = 0 ∷ 0 ∷ 0 ∷ [];
    }

-- main { var a; var b; par { par { next a; } { next b; }; } { next a; next a; know b; }; }
abbrev nested : Case
nested =
    record {
      board =
          program ((0, 0, 5, []) ∷ (0, 7, 8, 0 ∷ 1 ∷ []) ∷ (1, 8, 9, 0 ∷ []) ∷ (1, 8, 10, 1 ∷ []) ∷ (0, 7, 11, 0 ∷ 1 ∷ []) ∷ [])
          ((0, 0) ∷ (1, 0) ∷ (0, 0) ∷ (1, 0) ∷ (0, 0) ∷ (1, 0) ∷ (0, 0) ∷ (1, 0) ∷ [])
          ((0, end, 0, [])
          ∷ (1, end, 1, [])
          ∷ (2, end, 2, [])
          ∷ (3, end, 3, [])
          ∷ (4, end, 4, [])
          ∷ (0, var 0, 6, [])
          ∷ (0, var 1, 7, [])
          ∷ (0, par (1 ∷ 4 ∷ []) ((2, 0) ∷ (3, 1) ∷ (4, 0) ∷ (5, 1) ∷ []), 0, [])
          ∷ (1, par (2 ∷ 3 ∷ []) ((6, 2) ∷ (7, 3) ∷ []), 1, [])
          ∷ (2, next 6 0, 2, [])
          ∷ (3, next 7 1, 3, [])
          ∷ (4, next 4 0, 12, [])
          ∷ (4, next 4 0, 13, [])
          ∷ (4, know, 4, [])
          ∷ []);
      cells = 8;
      moves = 6;
      ends = Deadlock;
      words = 0 ∷ 0 ∷ 0 ∷ 0 ∷ 0 ∷ 0 ∷ 0 ∷ 0 ∷ [];
    }

-- main { var i; try { try { par { throw T; } { throw U; }; } catch (T) { } i = i + 1; } catch (U) { } }
-- The outer try wins, whichever throw comes first.
abbrev outer_wins : Case
outer_wins =
    record {
      board =
          program ((0, 0, 3, []) ∷ (0, 6, 7, []) ∷ (0, 6, 8, []) ∷ [])
          ((0, 0) ∷ [])
          ((0, end, 0, [])
          ∷ (1, end, 1, [])
          ∷ (2, end, 2, [])
          ∷ (0, var 0, 4, [])
          ∷ (0, try 5, 0, [])
          ∷ (0, try 6, 9, 0 ∷ [])
          ∷ (0, par (1 ∷ 2 ∷ []) [], 9, 0 ∷ 9 ∷ [])
          ∷ (1, throw 0 2, 1, [])
          ∷ (2, throw 0 1, 2, [])
          ∷ (0, set 0 (plus (own 0) (word 1)), 0, 0 ∷ [])
          ∷ []);
      cells = 1;
      moves = 8;
      ends = Finished;
      words = 0 ∷ [];
    }

-- main { var i; try { par { know i; throw T; } { i = 1; next i; i = 2; }; } catch (T) { } }
-- The second branch is poisoned where it waits, not before.
abbrev poisoned_waiting : Case
poisoned_waiting =
    record {
      board =
          program ((0, 0, 3, []) ∷ (0, 5, 6, 0 ∷ []) ∷ (0, 5, 8, 0 ∷ []) ∷ [])
          ((0, 0) ∷ (0, 0) ∷ [])
          ((0, end, 0, [])
          ∷ (1, end, 1, [])
          ∷ (2, end, 2, [])
          ∷ (0, var 0, 4, [])
          ∷ (0, try 5, 0, [])
          ∷ (0, par (1 ∷ 2 ∷ []) ((1, 0) ∷ []), 0, 0 ∷ [])
          ∷ (1, know, 7, [])
          ∷ (1, throw 0 1, 1, [])
          ∷ (2, set 0 (word 1), 9, [])
          ∷ (2, next 0 0, 10, [])
          ∷ (2, set 0 (word 2), 2, [])
          ∷ []);
      cells = 2;
      moves = 9;
      ends = Finished;
      words = 1 ∷ 0 ∷ [];
    }

-- main { var a; a = 1; par { a = 2; next a; } { next a; }; }
abbrev shared : Case
shared =
    record {
      board =
          program ((0, 0, 3, []) ∷ (0, 5, 6, 0 ∷ []) ∷ (0, 5, 8, 0 ∷ []) ∷ [])
          ((0, 0) ∷ (0, 0) ∷ [])
          ((0, end, 0, [])
          ∷ (1, end, 1, [])
          ∷ (2, end, 2, [])
          ∷ (0, var 0, 4, [])
          ∷ (0, set 0 (word 1), 5, [])
          ∷ (0, par (1 ∷ 2 ∷ []) ((1, 0) ∷ []), 0, [])
          ∷ (1, set 0 (word 2), 7, [])
          ∷ (1, next 0 0, 1, [])
          ∷ (2, next 1 0, 2, [])
          ∷ []);
      cells = 2;
      moves = 9;
      ends = Finished;
      words = 2 ∷ 2 ∷ [];
    }

abbrev pub cases : List Case
cases =
    empty
    ∷ crossed
    ∷ uneven
    ∷ nested
    ∷ outer_wins
    ∷ poisoned_waiting
    ∷ shared
    ∷ waits_for_nothing
    ∷ inside_its_try
    ∷ poisoned_through
    ∷ zero_over_try
    ∷ ready_though_marked
    ∷ []

-- Every case holds, for every kind and all words to come, by the first permitted moves and by others.
abbrev pub CasesHold : Type 0
CasesHold =
    (k : Meaning) (w : ℕ → List ℕ) → (all_hold k w first_choices cases ≡ true) × (all_hold k w other_choices cases ≡ true)
