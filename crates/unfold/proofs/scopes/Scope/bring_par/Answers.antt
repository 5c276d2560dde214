use Rattle.std.proofs.Common.{ℕ, length, sym, ap, ◌∙◌, subst}
use Rattle.reader.specs.Faults.{Answer}
use Rattle.grammar.specs.Views.{blocks}
use Rattle.unfold.specs.Unfolding.{Count, branch_count, brings}
use Rattle.unfold.specs.Views.{count, news, Says}
use Rattle.unfold.proofs.Entries.{news_length, brings_min}
use Rattle.unfold.proofs.scopes.Scope.bring_par.Goals as goal

pub returns : goal.returns
returns c =
    let text = c.args.self.now.text.now in
    let new = news text c.args.news.now in
    let n = count c.args.n in
    let at = c.args.at in
    subst (λ (z : Answer Count). Says count c.bring.result z)
    (ap (λ (k : ℕ). brings n c.count_branches.result k at) (sym (news_length text c.args.news.now))
    ∙ ap (λ (k : ℕ). brings n k (length new) at) (c.count_branches.ensures text)
    ∙ brings_min n (branch_count (blocks text c.args.bs.now)) (length new) at)
    c.bring.ensures
