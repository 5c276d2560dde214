use Rattle.std.proofs.Common.{◌≡◌, ℕ, ◌-◌, ◌≤◌, List, length, vec_items}
use Rattle.reader.specs.Views.{lexemes}
use Rattle.grammar.specs.Views.{view_params}
use Rattle.grammar.specs.Readers.{parameters_at, more_params_at}
use Rattle.grammar.specs.Reading.{in_front}
use Rattle.grammar.proofs.parser.Parser.parameters.Given as goal

-- what was gathered and what is left give the whole
abbrev pub invariant-loop-self : goal.invariant-loop-self
invariant-loop-self l =
    (length l.self.rest.now ≤ length l.fn.self.rest.now)
    × ((text : List ℕ)
    → parameters_at (lexemes text l.fn.self.rest.now) ≡ in_front (view_params text l.params) (more_params_at (8 - length (vec_items l.params)) (lexemes text l.self.rest.now)))

abbrev pub decreases-loop-self : goal.decreases-loop-self
decreases-loop-self l = length l.self.rest.now
