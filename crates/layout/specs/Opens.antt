-- The open tries of the code: those nearest first.
use Rattle.std.specs.Prelude.{ℕ, List, [], ◌∷◌}
use Rattle.grammar.specs.Views.{name}
use Rattle.program.specs.Layout.{Open}
use Rattle.layout.specs.declared.tries.Held as code-held

abbrev pub held : List ℕ → code-held.Held → Open
held text r = record { name = (name text r.name).text; place = r.place; number = r.number; catch = r.catch }

abbrev pub all_held : List ℕ → List code-held.Held → List Open
all_held text [] = []
all_held text (r ∷ rs) = held text r ∷ all_held text rs
