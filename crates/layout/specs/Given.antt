-- What the places got at their starts: a row with the place and the home for each variable, in the order of the places.
use Rattle.std.specs.Prelude.{◌≡◌, ℕ, suc, ◌+◌, List, [], ◌∷◌, ◌++◌}
use Rattle.tables.specs.declared.rows.Got as code_got
use Rattle.unfold.specs.Unfolded.{Got, Node, one, throws, two, par, Nodes, nil, seq, Branches, last, also}
use Rattle.program.specs.Sizes.{node_places, how_many}
use Rattle.program.specs.Layout.{Place, placing}

abbrev pub given : ℕ → List Got → List code_got.Got
given q [] = []
given q (g ∷ gs) = record { place = q; home = g.home } ∷ given q gs

-- of a list of places from q on
abbrev pub given_from : ℕ → List Place → List code_got.Got
given_from q [] = []
given_from q (x ∷ xs) = given q x.got ++ given_from (suc q) xs

-- the same, read off the unfolded text
abbrev mutual
  pub node_given : Node → ℕ → List code_got.Got
  node_given (one at ns s) q = []
  node_given (throws at n) q = []
  node_given (two at ns h a b) q = nodes_given a q ++ nodes_given b (q + how_many a)
  node_given (par at ns bs) q = branches_given bs q

  pub nodes_given : Nodes → ℕ → List code_got.Got
  nodes_given nil q = []
  nodes_given (seq u us) q = node_given u q ++ nodes_given us (q + node_places u)

  pub branches_given : Branches → ℕ → List code_got.Got
  branches_given last q = []
  branches_given (also g us bs) q = given q g ++ (nodes_given us (suc q) ++ branches_given bs (suc q + how_many us))

-- The places of a block are numbered from the next place on, so both lists are one.
abbrev pub ReadOff : Type 0
ReadOff = (e p : ℕ) (us : Nodes) (q o : ℕ) → given_from q (placing e p us q o) ≡ nodes_given us q
