use Rattle.std.proofs.Common.{◌≡◌, drop}
use Rattle.unfold.specs.Sharing.{names_distinct}
use Rattle.unfold.specs.Views.{spellings}
use Rattle.sharing.proofs.references.are_distinct.Given as goal

abbrev pub invariant-loop-i : goal.invariant-loop-i
invariant-loop-i l = names_distinct (spellings l.text l.list) ≡ names_distinct (spellings l.text (drop l.i l.list))
