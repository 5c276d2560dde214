-- What of a program's tables makes every index safe.
use Rattle.std.specs.Prelude.{◌≡◌, ℕ, ◌<◌, ◌≤◌, Bool, true, ◌&&◌, List, [], ◌∷◌, vec_items, vec_len, Vec, nat_lt, slice_index_or}
use Rattle.std.specs.declared.alloc.Global.{Global}
use Rattle.rules.specs.Programs.{Expr, own, word, plus, minus, times, below, same, Stm, end, var, set, know, next, call, test, try, take, par, goto, throw, Copies}
use Rattle.tables.specs.declared.rows.Point.{Point}
use Rattle.tables.specs.declared.rows.Place.{Place}
use Rattle.tables.specs.declared.rows.Cell.{Cell}
use Rattle.tables.specs.Stms.{stm_at, no_cell}

-- An expression names cells of the array.
abbrev pub in_cells : Expr → Bool
in_cells (own c) = nat_lt c 128
in_cells (word w) = true
in_cells (plus a b) = in_cells a && in_cells b
in_cells (minus a b) = in_cells a && in_cells b
in_cells (times a b) = in_cells a && in_cells b
in_cells (below a b) = in_cells a && in_cells b
in_cells (same a b) = in_cells a && in_cells b

abbrev pub copies_in : Copies → Bool
copies_in [] = true
copies_in (c ∷ cs) = (nat_lt c.0 128 && nat_lt c.1 128) && copies_in cs

abbrev pub places_in : List ℕ → Bool
places_in [] = true
places_in (b ∷ bs) = nat_lt b 64 && places_in bs

-- A statement names cells and places of the arrays.
abbrev pub named : Stm → Bool
named end = true
named (var c) = nat_lt c 128
named (set c e) = nat_lt c 128 && in_cells e
named know = true
named (next c h) = nat_lt c 128 && nat_lt h 128
named (call cs y) = copies_in cs
named (test e y z) = in_cells e
named (try y) = true
named (take i c z) = nat_lt c 128
named (par bs cs) = places_in bs && copies_in cs
named (goto y) = true
named (throw g j) = nat_lt g 64

-- the row that stands past the last place
abbrev pub no_place : Place
no_place = record { parent = 0; under = 0; start = 0 }

abbrev pub parents : List Place → ℕ → ℕ
parents xs q = (slice_index_or xs q no_place).parent

abbrev pub declarers : List Cell → ℕ → ℕ
declarers xs c = (slice_index_or xs c no_cell).declarer

-- There is a place, the first has no parent but itself, and there are at most 64 places and 128 cells.
abbrev pub Sized : Vec Place Global → Vec Cell Global → Type 0
Sized ps cs = (0 < vec_len ps) × (vec_len ps ≤ 64) × (vec_len cs ≤ 128) × (parents (vec_items ps) 0 < 1)

-- Every statement names cells and places of the arrays.
abbrev pub AllNamed : Vec Point Global → Type 0
AllNamed ps = (x : ℕ) → named (stm_at (vec_items ps) x) ≡ true

-- Children stand after their parents.
abbrev pub Lower : Vec Place Global → Type 0
Lower ps = (q : ℕ) → 0 < q → parents (vec_items ps) q < q

-- Each cell was declared by a place that there is.
abbrev pub Declared : Vec Place Global → Vec Cell Global → Type 0
Declared ps cs = (c : ℕ) → declarers (vec_items cs) c < vec_len ps
