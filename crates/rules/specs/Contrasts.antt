-- Boards that tell the rules from plausible other ones.
use Rattle.std.specs.Prelude.{[], ◌∷◌}
use Rattle.rules.specs.declared.answers.Verdict.TheVariants.{Finished}
use Rattle.rules.specs.Programs.{word, end, var, set, know, next, try, par, throw}
use Rattle.rules.specs.Cases.{Case, program}

-- main { var i; try { par { know i; throw T; } { i = 1; i = 2; }; } catch (T) { } }
-- A place that waits for nothing is not poisoned by a sibling.
abbrev pub waits_for_nothing : Case
waits_for_nothing =
    record {
      board =
          program ((0, 0, 3, []) ∷ (0, 5, 6, 0 ∷ []) ∷ (0, 5, 8, 0 ∷ []) ∷ [])
          ((0, 0) ∷ (0, 0) ∷ [])
          ((0, end, 0, [])
          ∷ (1, end, 1, [])
          ∷ (2, end, 2, [])
          ∷ (0, var 0, 4, [])
          ∷ (0, try 5, 0, [])
          ∷ (0, par (1 ∷ 2 ∷ []) ((1, 0) ∷ []), 0, 0 ∷ [])
          ∷ (1, know, 7, [])
          ∷ (1, throw 0 1, 1, [])
          ∷ (2, set 0 (word 1), 9, [])
          ∷ (2, set 0 (word 2), 2, [])
          ∷ []);
      cells = 2;
      moves = 10;
      ends = Finished;
      words = 2 ∷ 0 ∷ [];
    }

-- main { var a; par { try { par { know a; throw T; } { next a; }; } catch (T) { } next a; } { next a; }; }
-- The throw poisons inside its own try: the place outside waits on, and meets the one that caught it.
abbrev pub inside_its_try : Case
inside_its_try =
    record {
      board =
          program ((0, 0, 5, []) ∷ (0, 6, 7, 0 ∷ []) ∷ (1, 8, 9, 0 ∷ []) ∷ (1, 8, 12, 0 ∷ []) ∷ (0, 6, 13, 0 ∷ []) ∷ [])
          ((0, 0) ∷ (0, 0) ∷ (0, 0) ∷ (0, 0) ∷ (0, 0) ∷ [])
          ((0, end, 0, [])
          ∷ (1, end, 1, [])
          ∷ (2, end, 2, [])
          ∷ (3, end, 3, [])
          ∷ (4, end, 4, [])
          ∷ (0, var 0, 6, [])
          ∷ (0, par (1 ∷ 4 ∷ []) ((1, 0) ∷ (2, 0) ∷ []), 0, [])
          ∷ (1, try 8, 11, [])
          ∷ (1, par (2 ∷ 3 ∷ []) ((3, 1) ∷ (4, 1) ∷ []), 11, 11 ∷ [])
          ∷ (2, know, 10, [])
          ∷ (2, throw 1 1, 2, [])
          ∷ (1, next 1 0, 1, [])
          ∷ (3, next 4 0, 3, [])
          ∷ (4, next 2 0, 4, [])
          ∷ []);
      cells = 5;
      moves = 13;
      ends = Finished;
      words = 0 ∷ 0 ∷ 0 ∷ 0 ∷ 0 ∷ [];
    }

-- main { var a; var i; try { par { know a; throw T; } { par { par { next a; } { next a; }; i = 1; } { next a; }; }; }
-- catch (T) { } }
-- The poison marks every parted place that it counts, not only the one it names: the inner par does not go on to i = 1.
abbrev pub poisoned_through : Case
poisoned_through =
    record {
      board =
          program
          ((0, 0, 7, [])
          ∷ (0, 10, 11, 0 ∷ [])
          ∷ (0, 10, 13, 0 ∷ 1 ∷ [])
          ∷ (2, 13, 14, 0 ∷ 1 ∷ [])
          ∷ (3, 14, 16, 0 ∷ [])
          ∷ (3, 14, 17, 0 ∷ [])
          ∷ (2, 13, 18, 0 ∷ [])
          ∷ [])
          ((0, 0) ∷ (1, 0) ∷ (0, 0) ∷ (0, 0) ∷ (0, 0) ∷ (0, 0) ∷ (0, 0) ∷ (0, 0) ∷ [])
          ((0, end, 0, [])
          ∷ (1, end, 1, [])
          ∷ (2, end, 2, [])
          ∷ (3, end, 3, [])
          ∷ (4, end, 4, [])
          ∷ (5, end, 5, [])
          ∷ (6, end, 6, [])
          ∷ (0, var 0, 8, [])
          ∷ (0, var 1, 9, [])
          ∷ (0, try 10, 0, [])
          ∷ (0, par (1 ∷ 2 ∷ []) ((2, 0) ∷ (3, 0) ∷ []), 0, 0 ∷ [])
          ∷ (1, know, 12, [])
          ∷ (1, throw 0 1, 1, [])
          ∷ (2, par (3 ∷ 6 ∷ []) ((4, 3) ∷ (5, 3) ∷ []), 2, [])
          ∷ (3, par (4 ∷ 5 ∷ []) ((6, 4) ∷ (7, 4) ∷ []), 15, [])
          ∷ (3, set 1 (word 1), 3, [])
          ∷ (4, next 6 0, 4, [])
          ∷ (5, next 7 0, 5, [])
          ∷ (6, next 5 0, 6, [])
          ∷ []);
      cells = 8;
      moves = 13;
      ends = Finished;
      words = 0 ∷ 0 ∷ 0 ∷ 0 ∷ 0 ∷ 0 ∷ 0 ∷ 0 ∷ [];
    }

-- main { var i; try { par { try { par { throw U; } { throw T; }; } catch (U) { } i = 1; } { know i; }; } catch (T) { } }
-- A place between a throw and its try gets mark 0 whatever its mark was.
abbrev pub zero_over_try : Case
zero_over_try =
    record {
      board =
          program ((0, 0, 5, []) ∷ (0, 7, 8, 0 ∷ []) ∷ (1, 9, 11, []) ∷ (1, 9, 12, []) ∷ (0, 7, 13, 0 ∷ []) ∷ [])
          ((0, 0) ∷ (0, 0) ∷ [])
          ((0, end, 0, [])
          ∷ (1, end, 1, [])
          ∷ (2, end, 2, [])
          ∷ (3, end, 3, [])
          ∷ (4, end, 4, [])
          ∷ (0, var 0, 6, [])
          ∷ (0, try 7, 0, [])
          ∷ (0, par (1 ∷ 4 ∷ []) ((1, 0) ∷ []), 0, 0 ∷ [])
          ∷ (1, try 9, 10, [])
          ∷ (1, par (2 ∷ 3 ∷ []) [], 10, 10 ∷ [])
          ∷ (1, set 0 (word 1), 1, [])
          ∷ (2, throw 1 1, 2, [])
          ∷ (3, throw 0 1, 3, [])
          ∷ (4, know, 4, [])
          ∷ []);
      cells = 2;
      moves = 12;
      ends = Finished;
      words = 0 ∷ 0 ∷ [];
    }

-- main { var a; try { par { par { next a; } { throw T; }; } { next a; }; } catch (T) { } }
-- Readiness does not look at marks: the nexts meet although the throw has marked the places above.
abbrev pub ready_though_marked : Case
ready_though_marked =
    record {
      board =
          program ((0, 0, 5, []) ∷ (0, 7, 8, 0 ∷ []) ∷ (1, 8, 9, 0 ∷ []) ∷ (1, 8, 10, []) ∷ (0, 7, 11, 0 ∷ []) ∷ [])
          ((0, 0) ∷ (0, 0) ∷ (0, 0) ∷ (0, 0) ∷ [])
          ((0, end, 0, [])
          ∷ (1, end, 1, [])
          ∷ (2, end, 2, [])
          ∷ (3, end, 3, [])
          ∷ (4, end, 4, [])
          ∷ (0, var 0, 6, [])
          ∷ (0, try 7, 0, [])
          ∷ (0, par (1 ∷ 4 ∷ []) ((1, 0) ∷ (2, 0) ∷ []), 0, 0 ∷ [])
          ∷ (1, par (2 ∷ 3 ∷ []) ((3, 1) ∷ []), 1, [])
          ∷ (2, next 3 0, 2, [])
          ∷ (3, throw 0 1, 3, [])
          ∷ (4, next 2 0, 4, [])
          ∷ []);
      cells = 4;
      moves = 11;
      ends = Finished;
      words = 0 ∷ 0 ∷ 0 ∷ 0 ∷ [];
    }
