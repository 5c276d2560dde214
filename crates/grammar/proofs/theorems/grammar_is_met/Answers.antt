use Rattle.grammar.proofs.ProgramGrammar.{parsed_exactly}
use Rattle.grammar.proofs.theorems.grammar_is_met.Goals as goal

pub returns : goal.returns
returns c = parsed_exactly
