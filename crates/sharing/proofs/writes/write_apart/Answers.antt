use Rattle.std.proofs.Common.{not, ◌||◌, is_some, rules, ◌∙◌}
use Rattle.std.proofs.lemmas.Iterator.{YieldsList-from_slice}
use Rattle.std.proofs.lemmas.Iterator.Search.{all_from_yields_List}
use Rattle.reader.specs.Tokens.{among}
use Rattle.grammar.specs.Views.{name}
use Rattle.unfold.specs.declared.nodes.Got as code_got
use Rattle.unfold.specs.Sharing.{writes}
use Rattle.unfold.specs.Views.{gots}
use Rattle.sharing.proofs.Listed.{all_unshared}
use Rattle.sharing.proofs.writes.write_apart.Goals as goal

pub returns : goal.returns
returns c =
    let text = c.args.text.now in
    let vs = writes (gots text c.args.others.now) in
    all_from_yields_List (λ (g : code_got.Got). is_some g.from || not (among (name text g.name).text vs)) _ _ _ c.all.ensures.ran (YieldsList-from_slice c.args.gots.now cc) (λ x b q k. search rules)
    ∙ all_unshared text vs c.args.gots.now
