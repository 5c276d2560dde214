-- What of an unfolded text makes its numbers fit the tables: its cells are below 128 and its ports below 8.
use Rattle.std.specs.Prelude.{ℕ, Bool, true, ◌&&◌, List, [], ◌∷◌, Some, None, Option, nat_lt}
use Rattle.unfold.specs.Unfolded.{New, Got, Part, plain, calls, tests, loops, tries, takes, Node, one, throws, two, par, Nodes, nil, seq, Branches, last, also}
use Rattle.tables.specs.Fit.{named, in_cells, copies_in}

abbrev pub news_fit : List New → Bool
news_fit [] = true
news_fit (n ∷ ns) = nat_lt n.home 128 && news_fit ns

-- the cell that a new own cell copies
abbrev pub from_fits : Option ℕ → Bool
from_fits None = true
from_fits (Some c) = nat_lt c 128

abbrev pub gots_fit : List Got → Bool
gots_fit [] = true
gots_fit (g ∷ gs) = (nat_lt g.own 128 && (nat_lt g.home 128 && from_fits g.from)) && gots_fit gs

abbrev pub part_fits : Part → Bool
part_fits plain = true
part_fits (calls cs rs) = copies_in cs
part_fits (tests e) = in_cells e
part_fits (loops e) = in_cells e
part_fits (tries n) = true
part_fits (takes i c) = nat_lt i 8 && nat_lt c 128

abbrev mutual
  pub node_fits : Node → Bool
  node_fits (one at ns s) = news_fit ns && named s
  node_fits (throws at n) = true
  node_fits (two at ns h a b) = (news_fit ns && part_fits h) && (fits a && fits b)
  node_fits (par at ns bs) = news_fit ns && branches_fit bs

  pub fits : Nodes → Bool
  fits nil = true
  fits (seq u us) = node_fits u && fits us

  pub branches_fit : Branches → Bool
  branches_fit last = true
  branches_fit (also g us bs) = gots_fit g && (fits us && branches_fit bs)
