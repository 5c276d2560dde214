-- The unfolded text: a tree of statements over cells, in which each call is followed by its procedure's block.
-- Points and places are not in it: they follow from its shape.
use Rattle.std.specs.Prelude.{ℕ, List, Option}
use Rattle.rules.specs.Programs as rules
use Rattle.rules.specs.Programs.{Expr}
use Rattle.grammar.specs.Trees.{Name}

-- a cell that a statement brings: its home, and the name recorded there
pub record New : Type 0 where
  pub home : ℕ
  pub name : Name

-- a variable that a branch of a par got: its cells there, and, if the own cell is new, the parent's own cell that it copies
pub record Got : Type 0 where
  pub name : Name
  pub own : ℕ
  pub home : ℕ
  pub from : Option ℕ

-- what stands before the blocks of a statement; a call has its copies and the names of its by-reference arguments
pub data Part : Type 0 where
  plain : Part
  calls : rules.Copies → List (List ℕ) → Part
  tests : Expr → Part
  loops : Expr → Part
  tries : List ℕ → Part
  takes : ℕ → ℕ → Part

-- Each statement has its offset and the cells that it brings. A throw has only the name of its exception:
-- which try is its nearest follows from the tree. A call has its procedure's block as the first of two.
mutual
  pub data Node : Type 0 where
    one : ℕ → List New → rules.Stm → Node
    throws : ℕ → List ℕ → Node
    two : ℕ → List New → Part → Nodes → Nodes → Node
    par : ℕ → List New → Branches → Node

  pub data Nodes : Type 0 where
    nil : Nodes
    seq : Node → Nodes → Nodes

  -- each branch has the variables that it got
  pub data Branches : Type 0 where
    last : Branches
    also : List Got → Nodes → Branches → Branches
