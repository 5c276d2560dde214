use Rattle.std.proofs.Common.{◌≡◌, ℕ, ◌<◌, ◌≤◌, List, length}
use Rattle.reader.specs.Views.{lexemes}
use Rattle.grammar.specs.Views.{view_names}
use Rattle.grammar.specs.Parsing.{more_names}
use Rattle.grammar.specs.Readers.{arguments_at}
use Rattle.grammar.specs.Reading.{in_front}
use Rattle.grammar.proofs.parser.Parser.arguments.Given as goal

-- what was gathered and what is left give the whole
abbrev pub invariant-loop-names : goal.invariant-loop-names
invariant-loop-names l =
    (length l.self.rest.now ≤ length l.fn.self.rest.now)
    × ((text : List ℕ) → (k : ℕ) × (length l.self.rest.now < k)
    × (arguments_at (lexemes text l.fn.self.rest.now) ≡ in_front (view_names text l.names) (more_names k (lexemes text l.self.rest.now))))

abbrev pub decreases-loop-names : goal.decreases-loop-names
decreases-loop-names l = length l.self.rest.now
