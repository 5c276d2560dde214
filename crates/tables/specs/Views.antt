-- The table and the moves of the rules that a program's tables and moves stand for.
use Rattle.std.proofs.Math.Option.{Option, some, none}
use Rattle.std.specs.Prelude.{◌≡◌, ℕ, ◌<◌, Result, MatchResult, Some, None, vec_items, vec_len, slice_index_or}
use Rattle.std.specs.declared.option.Option as std
use Rattle.rules.specs.Programs.{Table}
use Rattle.rules.specs.States.{Move, step, close, meet, poison}
use Rattle.tables.specs.declared.moves.Move as enum
use Rattle.tables.specs.declared.moves.Move.TheVariants.{Step, Close, Meet, Poison}
use Rattle.rules.specs.Names.{Name}
use Rattle.tables.specs.declared.moves.MoveKind as kinds
use Rattle.tables.specs.declared.moves.MoveName.{MoveName}
use Rattle.tables.specs.declared.moves.UnknownKind.{UnknownKind}
use Rattle.tables.specs.declared.tables.Tables.{Tables}
use Rattle.tables.specs.Fit.{no_place}
use Rattle.tables.specs.Stms.{stm_at, after_at, place_at, catches_at, has_got, no_cell}

abbrev pub table : Tables → Table
table t =
    record {
      places = vec_len t.places;
      parent = λ q. (slice_index_or (vec_items t.places) q no_place).parent;
      under = λ q. (slice_index_or (vec_items t.places) q no_place).under;
      start = λ q. (slice_index_or (vec_items t.places) q no_place).start;
      knows = has_got (vec_items t.got);
      declarer = λ c. (slice_index_or (vec_items t.cells) c no_cell).declarer;
      home = λ c. (slice_index_or (vec_items t.cells) c no_cell).home;
      place = place_at (vec_items t.points);
      stm = stm_at (vec_items t.points);
      after = after_at (vec_items t.points);
      catches = catches_at (vec_items t.points);
    }

-- an option of the code as one of the rules
abbrev pub awaited : std.Option (ℕ × ℕ) → Option (ℕ × ℕ)
awaited None = none
awaited (Some d) = some d

-- How many cells there are.
abbrev pub cells_of : Tables → ℕ
cells_of t = vec_len t.cells

abbrev pub move : enum.Move → Move
move (Step p) = step p
move (Close p) = close p
move (Meet h) = meet h
move (Poison p h) = poison p h

abbrev pub moved : std.Option enum.Move → Option Move
moved None = none
moved (Some m) = some (move m)

-- Kind 0 is step, 1 close, 2 meet, 3 poison.
abbrev pub kind_number : kinds.MoveKind → ℕ
kind_number kinds.TheVariants.Step = 0
kind_number kinds.TheVariants.Close = 1
kind_number kinds.TheVariants.Meet = 2
kind_number kinds.TheVariants.Poison = 3

-- The kind with this number, or the number, which no kind has.
abbrev pub KindOf : ℕ → Result kinds.MoveKind UnknownKind → Type 0
KindOf n r = MatchResult r (λ k. kind_number k ≡ n) (λ e. (e.0 ≡ n) × (3 < n))

abbrev pub name : MoveName → Name
name n = record { kind = kind_number n.kind; first = n.first; second = n.second }
