-- The five stages up to the unfolded text, as far as the code runs them before the layout.
use Rattle.std.specs.Prelude.{ℕ, List, [], Ok}
use Rattle.reader.specs.Faults.{Answer, ◌>>=◌}
use Rattle.reader.specs.Tokens.{tokenized}
use Rattle.grammar.specs.Trees.{Tree}
use Rattle.grammar.specs.Parsing.{parsed}
use Rattle.names.specs.Naming.{Reading, named}
use Rattle.unfold.specs.Unfolded.{Nodes}
use Rattle.unfold.specs.Unfolding.{unfolded}
use Rattle.unfold.specs.Sharing.{sharing}

-- tokens and a tree
abbrev pub tree_of : List ℕ → Answer Tree
tree_of bs = tokenized bs >>= (λ ts. parsed ts)

-- names, unfolding and sharing of a tree
abbrev pub nodes_of : Reading → Tree → Answer Nodes
nodes_of l t = named l t >>= (λ ps. unfolded l ps t.main >>= (λ us. sharing [] us >>= (λ u. Ok us)))

-- all five
abbrev pub nodes_in : Reading → List ℕ → Answer Nodes
nodes_in l bs = tree_of bs >>= (λ t. nodes_of l t)
