use Rattle.std.proofs.Common.{◌≡◌, ℕ, ◌+◌, ◌-◌, ◌*◌, ◌<◌, List, length}
use Rattle.reader.specs.Views.{lexemes}
use Rattle.grammar.specs.Views.{exp}
use Rattle.grammar.specs.Parsing.{chain}
use Rattle.grammar.specs.Readers.{signs_of, level_at}
use Rattle.grammar.proofs.parser.Parser.+expressions.Given as goal

abbrev pub decreases-grouped : goal.decreases-grouped
decreases-grouped l = 16 * l.room

abbrev pub decreases-atom : goal.decreases-atom
decreases-atom l = 16 * l.room + 1

abbrev pub decreases-operand : goal.decreases-operand
decreases-operand l = 16 * l.room + 2

abbrev pub decreases-level : goal.decreases-level
decreases-level l = 16 * l.room + 3 + l.rank

-- what is left of the chain of operators gives the whole
abbrev pub invariant-level-loop-op : goal.invariant-level-loop-op
invariant-level-loop-op l =
    (length l.self.rest.now < length l.fn.self.rest.now) × (0 < l.rank)
    × ((text : List ℕ) → (k : ℕ) × (length l.self.rest.now < k)
    × (level_at l.room l.rank (lexemes text l.fn.self.rest.now) ≡ chain (signs_of l.rank) (level_at l.room (l.rank - 1)) k (exp text l.left) (lexemes text l.self.rest.now)))

abbrev pub decreases-level-loop-op : goal.decreases-level-loop-op
decreases-level-loop-op l = length l.self.rest.now
