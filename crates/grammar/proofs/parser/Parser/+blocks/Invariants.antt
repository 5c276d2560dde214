-- Every call reads on, or is of a lower rank.
use Rattle.std.proofs.Common.{◌+◌, ◌*◌, length}
use Rattle.grammar.proofs.parser.Parser.+blocks.Given as goal

abbrev pub decreases-block : goal.decreases-block
decreases-block l = 8 * length l.self.now.rest.now + 0

abbrev pub decreases-branches : goal.decreases-branches
decreases-branches l = 8 * length l.self.now.rest.now + 1

abbrev pub decreases-if_statement : goal.decreases-if_statement
decreases-if_statement l = 8 * length l.self.now.rest.now + 4

abbrev pub decreases-while_statement : goal.decreases-while_statement
decreases-while_statement l = 8 * length l.self.now.rest.now + 4

abbrev pub decreases-try_statement : goal.decreases-try_statement
decreases-try_statement l = 8 * length l.self.now.rest.now + 4

abbrev pub decreases-take_statement : goal.decreases-take_statement
decreases-take_statement l = 8 * length l.self.now.rest.now + 4

abbrev pub decreases-par_statement : goal.decreases-par_statement
decreases-par_statement l = 8 * length l.self.now.rest.now + 4

abbrev pub decreases-block_statement : goal.decreases-block_statement
decreases-block_statement l = 8 * length l.self.now.rest.now + 5

abbrev pub decreases-statement : goal.decreases-statement
decreases-statement l = 8 * length l.self.now.rest.now + 6

abbrev pub decreases-statements : goal.decreases-statements
decreases-statements l = 8 * length l.self.now.rest.now + 7
