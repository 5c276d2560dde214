-- The code's own tree: whether a port stands in a block, whether two blocks have none in common, and a test of every two branches.
-- It says again, without lists, what the stage says of a par.
use Rattle.std.specs.Prelude.{◌≡◌, ℕ, Bool, true, false, not, ◌&&◌, ◌||◌, List, ◌==◌, vec_items}
use denote.Ref.{Bor}
use Rattle.unfold.specs.declared.nodes.Part as code-part
use Rattle.unfold.specs.declared.nodes.Part.TheVariants as parts
use Rattle.unfold.specs.declared.nodes.Got as code_got
use Rattle.unfold.specs.declared.nodes.Node as code-node
use Rattle.unfold.specs.declared.nodes.Nodes as code-nodes
use Rattle.unfold.specs.declared.nodes.Branches as code-branches
use Rattle.unfold.specs.declared.nodes.Branches.TheVariants as tree

-- what answers as t does
abbrev pub Tells : (ℕ → Bool → Type 0) → (ℕ → Bool) → Type 0
Tells P t = (i : ℕ) (r : Bool) → P i r → r ≡ t i

-- whether a port that stands in a block passes a test
abbrev pub part_any : (ℕ → Bool) → code-part.Part → Bool
part_any t parts.Plain = false
part_any t (parts.Calls cs rs) = false
part_any t (parts.Tests e) = false
part_any t (parts.Loops e) = false
part_any t (parts.Tries n) = false
part_any t (parts.Takes i c) = t i

abbrev mutual
  pub node_any : (ℕ → Bool) → code-node.Node → Bool
  node_any t (tree.One at ns s) = false
  node_any t (tree.Throws at n) = false
  node_any t (tree.Two' at ns h p a q b) = part_any t h || (nodes_any t a || nodes_any t b)
  node_any t (tree.Par' at ns p bs) = branches_any t bs

  pub nodes_any : (ℕ → Bool) → code-nodes.Nodes → Bool
  nodes_any t tree.Nil = false
  nodes_any t (tree.Seq' p u q us) = node_any t u || nodes_any t us

  pub branches_any : (ℕ → Bool) → code-branches.Branches → Bool
  branches_any t tree.Last = false
  branches_any t (tree.Also' gs p us q bs) = nodes_any t us || branches_any t bs

-- whether a port stands in a block
abbrev pub nodes_have : ℕ → code-nodes.Nodes → Bool
nodes_have i us = nodes_any (λ j. i == j) us

-- whether no port of a block stands in another
abbrev pub nodes_clear : code-nodes.Nodes → code-nodes.Nodes → Bool
nodes_clear us vs = not (nodes_any (λ i. nodes_have i vs) us)

-- a test of two branches, each with the variables that it got and its block
abbrev pub Test : Type 0
Test = List code_got.Got → code-nodes.Nodes → List code_got.Got → code-nodes.Nodes → Bool

-- what answers as t does
abbrev pub TellsApart : (Bor (List code_got.Got) → Bor code-nodes.Nodes → Bor (List code_got.Got) → Bor code-nodes.Nodes → Bool → Type 0) → Test → Type 0
TellsApart P t =
    (g h : Bor (List code_got.Got)) (us vs : Bor code-nodes.Nodes) (r : Bool) → P g us h vs r → r ≡ t g.now us.now h.now vs.now

abbrev pub with_later : Test → List code_got.Got → code-nodes.Nodes → code-branches.Branches → Bool
with_later t g us tree.Last = true
with_later t g us (tree.Also' h p vs q bs) = t g us (vec_items h) vs && with_later t g us bs

-- every two branches pass it
abbrev pub pairwise : Test → code-branches.Branches → Bool
pairwise t tree.Last = true
pairwise t (tree.Also' g p us q bs) = with_later t (vec_items g) us bs && pairwise t bs
