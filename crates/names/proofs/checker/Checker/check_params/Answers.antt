use Rattle.std.proofs.Common.{◌≡◌, false, [], ◌∷◌, ◌++◌, get_or, vec_items, refl, ◌∙◌}
use Rattle.std.proofs.lemmas.Slice.{pushed}
use Rattle.grammar.specs.declared.tree.Param as code-param
use Rattle.names.proofs.Tables.{params_next}
use Rattle.names.proofs.checker.Checker.check_params.Goals as goal

abbrev none_given : code-param.Param
none_given = record { reference = false; name = record { at = 0; len = 0 } }

pub loop-p-preserved : goal.loop-p-preserved
loop-p-preserved g c =
    let i = c.loop-p.invariant in
    let ns = vec_items c.loop-p.self.vars in
    let m = (get_or c.args.params.now c.loop-p.p-index none_given).name in
    let k : vec_items c.push.new.self ≡ ns ++ (m ∷ []) = pushed {was = ns} _ refl c.in_ok-push.was c.push.ensures.items in
    (i.0, i.1, i.2 ∙ params_next c.args.self.now.text.now c.loop-p.self.text.now ns (vec_items c.push.new.self) c.args.params.now c.loop-p.p-index none_given i.0 c.loop-p-test.true c.in_ok-check_undeclared.ensures k)
