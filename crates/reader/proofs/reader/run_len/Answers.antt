use Rattle.std.proofs.Common.{drop, length, ap, ◌∙◌, rules, tests}
use Rattle.std.proofs.lemmas.Iterator.{YieldsList-from_slice}
use Rattle.std.proofs.lemmas.Iterator.Consumers.{YieldsList-at, count_from_yields_List}
use Rattle.std.proofs.lemmas.Iterator.Search.{YieldsList-from_take_while}
use Rattle.reader.proofs.Runs.{run_taken}
use Rattle.reader.proofs.reader.run_len.Goals as goal

pub returns : goal.returns
returns g c test tells =
    let rest = drop c.args.from c.args.text.now in
    count_from_yields_List c.take_while.result _ c.count.ensures.ran
    (YieldsList-from_take_while _ test
    (YieldsList-at c.take_while.ensures.source (YieldsList-from_slice rest (cc)))
    c.take_while.ensures.closure c.take_while.ensures.done
    (λ x b q k. search (rules, tests)))
    ∙ ap length (run_taken test rest)
