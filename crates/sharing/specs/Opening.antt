-- The code's table of open tries.
use Rattle.std.specs.Prelude.{◌≡◌, ℕ, List, [], ◌∷◌, ◌++◌, Ok, Err, vec_items, Result}
use Rattle.reader.specs.declared.fault.Error.{Error}
use Rattle.reader.specs.declared.fault.Error.TheVariants.{OutOfMemory}
use Rattle.reader.specs.Faults.{Answer, Meets}
use Rattle.grammar.specs.declared.tree.Name as code-name
use Rattle.names.specs.Scopes.{scope}
use Rattle.unfold.specs.declared.nodes.Part as code-part
use Rattle.unfold.specs.declared.nodes.Part.TheVariants as parts
use Rattle.sharing.specs.declared.stage.Checker.{Checker}

-- the try that the first block of a statement stands in
abbrev pub opens : code-part.Part → List code-name.Name
opens parts.Plain = []
opens (parts.Calls cs rs) = []
opens (parts.Tests e) = []
opens (parts.Loops e) = []
opens (parts.Tries n) = n ∷ []
opens (parts.Takes i c) = []

-- the table before and after, which fails only for want of memory
abbrev pub Opened : List code-name.Name → code-part.Part → Result (Unit {0}) Error → List code-name.Name → Type 0
Opened ns h (Ok u) ms = ms ≡ ns ++ opens h
Opened ns h (Err e) ms = e ≡ OutOfMemory

-- the names of the tries that a checker has open, the innermost in front
abbrev pub tries_of : Checker → List (List ℕ)
tries_of c = scope c.text.now (vec_items c.tries)

-- the answer for a part of the text, behind which the same tries are open
abbrev pub Checks : Checker → Checker → Result (Unit {0}) Error → Answer (Unit {0}) → Type 0
Checks c d r a = Meets (λ u w. (d.text.now ≡ c.text.now) × (vec_items d.tries ≡ vec_items c.tries)) r a
