use Rattle.std.proofs.Common.{MatchOption, rules}
use Rattle.grammar.specs.Views.{name}
use Rattle.names.proofs.Places.{NoneFrom, LastOf, last_place}
use Rattle.names.proofs.visible.find_proc.Goals as goal

pub returns-clause-answer : goal.returns-clause-answer
returns-clause-answer c =
    let text = c.args.text.now in
    let w = (name text c.args.n).text in
    let qs = c.args.procs.now in
    let h : MatchOption c.rposition.result (NoneFrom text w qs 0) (LastOf text w qs) = search rules in
    last_place text w qs c.rposition.result h
