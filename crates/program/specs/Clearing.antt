-- The clearing of a text: five stages in turn, each over the whole text.
use Rattle.std.specs.Prelude.{◌≡◌, ℕ, ◌+◌, ◌≤◌, List, [], length, Ok, Err}
use Rattle.reader.specs.declared.fault.Fault.{Fault}
use Rattle.reader.specs.declared.fault.Cause.TheVariants.{OverLimit}
use Rattle.reader.specs.Faults.{Answer, ◌>>=◌}
use Rattle.reader.specs.Tokens.{tokenized}
use Rattle.grammar.specs.Trees.{Tree, Proc}
use Rattle.grammar.specs.Parsing.{parsed}
use Rattle.names.specs.Naming.{Reading, named}
use Rattle.rules.specs.Soundness.{Sound}
use Rattle.unfold.specs.Unfolded.{nil}
use Rattle.unfold.specs.Unfolding.{unfolded}
use Rattle.unfold.specs.Sharing.{sharing}
use Rattle.program.specs.Layout.{Program, laid_out, table_of}

-- the stages that look at a tree: names, unfolding, sharing
abbrev pub program_of : Reading → Tree → Answer Program
program_of l t =
    named l t >>= (λ ps. unfolded l ps t.main >>= (λ us. sharing [] us >>= (λ u. Ok (laid_out us))))

-- tokens, a tree, and then those
abbrev pub cleared : Reading → List ℕ → Answer Program
cleared l bs = tokenized bs >>= (λ ts. parsed ts >>= (λ t. program_of l t))

-- a program fresh, or after a refused clear: `main { }`
abbrev pub fresh : Program
fresh = laid_out nil

abbrev pub left : Answer Program → Program
left (Ok p) = p
left (Err r) = fresh

-- ---- the theorems

-- the program that a clear leaves, whether it grants or refuses, is sound
abbrev pub AcceptedSound : Type 0
AcceptedSound = (l : Reading) (bs : List ℕ) → Sound (table_of (left (cleared l bs)))

-- after the stage of names every name stands for something: unfolding refuses only where a limit is passed
abbrev pub OnlyLimits : Type 0
OnlyLimits =
    (l : Reading) (t : Tree) (ps : List Proc) (r : Fault) → named l t ≡ Ok ps → unfolded l ps t.main ≡ Err r → r.cause ≡ OverLimit

-- a cleared program keeps the limits; its points are its statements and the ends of its places
abbrev pub WithinLimits : Type 0
WithinLimits =
    (l : Reading) (bs : List ℕ) (p : Program) → cleared l bs ≡ Ok p
    → (length p.places ≤ 64) × (length p.cells ≤ 128) × (length p.points ≤ 1024 + length p.places)
