-- The stage of names in the words of the rules.
use Rattle.std.specs.Prelude.{◌≡◌, List, [], Ok, Err}
use Rattle.reader.specs.declared.fault.Fault.{Fault}
use Rattle.grammar.specs.Trees.{Proc, Tree}
use Rattle.names.specs.Naming.{Reading, named}
use Rattle.names.specs.Sites.{sites, with_procs, AllRight, FirstWrong}

-- a text passes exactly where every site is right
abbrev pub PassesWhenRight : Type 0
PassesWhenRight =
    (l : Reading) (t : Tree)
    → ((ps : List Proc) → named l t ≡ Ok ps → AllRight l (sites t)) × (AllRight l (sites t) → named l t ≡ Ok (with_procs [] t.procs))

-- a text is refused exactly for the first site that is wrong
abbrev pub RefusesFirstWrong : Type 0
RefusesFirstWrong =
    (l : Reading) (t : Tree) (f : Fault) → (named l t ≡ Err f → FirstWrong l (sites t) f) × (FirstWrong l (sites t) f → named l t ≡ Err f)
