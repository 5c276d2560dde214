use Rattle.std.proofs.Common.{vec_items, ◌∙◌, rules, tests}
use Rattle.std.proofs.lemmas.Iterator.{YieldsList-from_slice}
use Rattle.std.proofs.lemmas.Iterator.Search.{any_from_yields_List}
use Rattle.tables.specs.Stms.{got_is, no_got}
use Rattle.tables.proofs.Counts.{any_listed}
use Rattle.tables.proofs.tables.Tables.knows.Goals as goal

pub returns : goal.returns
returns c =
    let gs = vec_items c.args.self.now.got in
    any_from_yields_List (λ g. got_is g c.args.q c.args.h) _ _ _ c.any.ensures.ran (YieldsList-from_slice gs cc) (λ x b q k. search (rules, tests))
    ∙ any_listed (λ g. got_is g c.args.q c.args.h) gs no_got
