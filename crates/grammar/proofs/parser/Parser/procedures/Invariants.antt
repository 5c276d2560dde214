use Rattle.std.proofs.Common.{◌≡◌, ℕ, suc, ◌<◌, ◌≤◌, List, length}
use Rattle.reader.specs.Views.{lexemes}
use Rattle.grammar.specs.Views.{view_procs}
use Rattle.grammar.specs.Readers.{procedures_at}
use Rattle.grammar.specs.Reading.{in_front}
use Rattle.grammar.proofs.parser.Parser.procedures.Given as goal

-- what was gathered and what is left give the whole
abbrev pub invariant-loop-procs : goal.invariant-loop-procs
invariant-loop-procs l =
    (length l.self.rest.now ≤ length l.fn.self.rest.now)
    × ((text : List ℕ) → (k : ℕ) × (length l.self.rest.now < k)
    × (procedures_at (suc (length (lexemes text l.fn.self.rest.now))) (lexemes text l.fn.self.rest.now) ≡ in_front (view_procs text l.procs) (procedures_at k (lexemes text l.self.rest.now))))

abbrev pub decreases-loop-procs : goal.decreases-loop-procs
decreases-loop-procs l = length l.self.rest.now
