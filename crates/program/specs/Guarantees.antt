-- What a clear owes the board and the moves, beside soundness.
use Rattle.std.specs.Prelude.{◌≡◌, ℕ, ◌<◌, ◌≤◌, List, length, Ok}
use Rattle.numbers.specs.Kinds.{Meaning, Laws}
use Rattle.numbers.specs.Literals.{literal_reading}
use Rattle.grammar.specs.Trees.{Block, Proc}
use Rattle.names.specs.Naming.{Reading}
use Rattle.rules.specs.Soundness.{HomesInside}
use Rattle.rules.specs.Numbers.{Literals}
use Rattle.unfold.specs.Unfolded.{Nodes}
use Rattle.unfold.specs.Unfolding.{unfolded}
use Rattle.program.specs.Sizes.{size, how_many}
use Rattle.program.specs.Layout.{Program, cells, table_of}
use Rattle.program.specs.Clearing.{cleared, left}
use Rattle.program.specs.Bounds.{Within, StmWithin}

-- Every home that a next names is a cell of the program that a clear leaves.
abbrev pub HomesAreInside : Type 0
HomesAreInside =
    (l : Reading) (bs : List ℕ) → HomesInside (table_of (left (cleared l bs))) (length (left (cleared l bs)).cells)

-- Where literals are read by a kind, every word that a statement of the program names is a number of the kind.
abbrev pub LiteralsAreNumbers : Type 0
LiteralsAreNumbers = (k : Meaning) → Laws k → (bs : List ℕ) → Literals k (table_of (left (cleared (literal_reading k) bs)))

-- A program has a place, at most 64 places and at most 128 cells. Its statements name only cells and places that there are,
-- each point belongs to a place that there is, and each cell was brought in such a place and has a home that there is.
-- The main block has itself as parent; soundness says that any other parent is below its child.
abbrev pub Bounded : Program → Type 0
Bounded p =
    (0 < length p.places) × (length p.places ≤ 64) × (length p.cells ≤ 128)
    × ((x : ℕ) → StmWithin (length p.cells) (length p.places) ((table_of p).stm x))
    × ((x : ℕ) → (table_of p).place x < length p.places)
    × ((table_of p).parent 0 ≡ 0)
    × ((c : ℕ) → (table_of p).declarer c < length p.places)
    × ((c : ℕ) → c < length p.cells → (table_of p).home c < length p.cells)

-- Of an unfolded text every cell number is below the number of cells that it brings, which is at most 128;
-- it has at most 1,024 statements and at most 63 branches, the places beside the main block.
abbrev pub UnfoldedWithin : Nodes → Type 0
UnfoldedWithin us =
    Within (length (cells 0 us 1)) us × (length (cells 0 us 1) ≤ 128) × (size us ≤ 1024) × (how_many us ≤ 63)

-- The program that a clear leaves is within its bounds, and so is every unfolded text.
abbrev pub NumbersAreWithin : Type 0
NumbersAreWithin =
    ((l : Reading) (bs : List ℕ) → Bounded (left (cleared l bs)))
    × ((l : Reading) (ps : List Proc) (b : Block) (us : Nodes) → unfolded l ps b ≡ Ok us → UnfoldedWithin us)
