-- What a branch gets at one occurrence of a variable.
use Rattle.std.specs.Prelude.{ℕ, suc, Bool, true, false, List, Some, None, Option}
use Rattle.reader.specs.Tokens.{among}
use Rattle.grammar.specs.Trees.{Name}
use Rattle.unfold.specs.Unfolded.{Got}
use Rattle.unfold.specs.Scopes.{Binding, Env, lookup}
use Rattle.unfold.specs.Variables.{Uses, written}

-- the variable that the parent's binding stands for in the branch
abbrev pub got_as : Bool → Name → Binding → ℕ → Got
got_as true n b c = record { name = n; own = b.own; home = b.home; from = None }
got_as false n b c = record { name = n; own = c; home = b.home; from = Some b.own }

-- none at a later occurrence, or where the parent has no such variable
abbrev pub got_one : Env → Uses → List (List ℕ) → Name → ℕ → Option Got
got_one v all had n c =
    elim (among n.text had) [
      | true ↦ None
      | false ↦ elim (lookup v n.text) [ None ↦ None | Some b ↦ Some (got_as (written all n.text) n b c) ]
    ]

-- the number of the next new cell
abbrev pub next_cell : ℕ → Option ℕ → ℕ
next_cell c None = c
next_cell c (Some a) = suc c
