use Rattle.std.proofs.Common.{◌≡◌, ℕ, List, ◌++◌, Some, take, sym, ap, ◌∙◌, arith, rules}
use native.Mathlib.Nat.{sub-zero}
use Rattle.numbers.specs.Literals.{literal_reading}
use Rattle.grammar.specs.declared.tree.Blocks as code-blocks
use Rattle.grammar.specs.declared.tree.Stmt as code-stmt
use Rattle.grammar.specs.Trees.{Par}
use Rattle.grammar.specs.Views.{name, stm, blocks}
use Rattle.unfold.specs.declared.nodes.New as code-new
use Rattle.unfold.specs.Variables.{all_get, all_new}
use Rattle.unfold.specs.Unfolding.{branch_count}
use Rattle.unfold.specs.Calls.{FoundAt}
use Rattle.unfold.specs.Occurrences.{visible_params}
use Rattle.unfold.specs.Views.{count, news, node_count, variables, visible}
use Rattle.unfold.proofs.Entries.{par_gives, par_fits}
use Rattle.unfold.proofs.Weights.{weights, lighter}
use Rattle.unfold.proofs.scopes.Scope.+unfolding.Goals as goal

pub unfold_call-enter-requires : goal.unfold_call-enter-requires
unfold_call-enter-requires g t c κs within =
    let s = c.args.self.now in
    let qs = s.procs.now in
    let i = c.in_ok-i.i in
    let f : c.find_proc.result ≡ Some i = search rules in
    let h : FoundAt s.text.now qs (name s.text.now c.args.x).text (Some i) = rw f at c.find_proc.ensures in
    let w = lighter qs i c.index-self-i.result h.0 in
    let e = ap (λ (n : ℕ). weights (take n qs)) (sub-zero i) in
    (omega arith, search rules)

pub unfold_call-returns : goal.unfold_call-returns
unfold_call-returns g t c =
    let s = c.args.self.now in
    let i = c.in_ok-i.i in
    let f : c.find_proc.result ≡ Some i = search rules in
    let h : FoundAt s.text.now s.procs.now (name s.text.now c.args.x).text (Some i) = rw f at c.find_proc.ensures in
    search rules

pub unfold_par-unfold_blocks-requires : goal.unfold_par-unfold_blocks-requires
unfold_par-unfold_blocks-requires g t c κs within =
    let s = c.args.self.now in
    let text = s.text.now in
    let f = visible_params (visible s) in
    let bs = blocks text c.args.bs.now in
    let A = all_new (all_get f (variables s) bs 0) in
    let all = c.as_slice.result.now in
    let e : news text all ≡ A =
    ap (λ (xs : List code-new.New). news text xs) c.as_slice.ensures.value ∙ c.in_ok-add_branch_news.ensures ∙ ap (λ (xs : List code-new.New). news text xs ++ A) c.new-news.ensures.items in (
      search rules,
      (
        search rules,
        par_fits (count c.args.n) (count c.in_ok-m.m) (branch_count bs) c.args.at f (variables s) bs (news text all) c.in_ok-m.ensures c.in_ok-m.m.few e,
      ),
    )

pub unfold_stmt-returns-in-Par : goal.unfold_stmt-returns-in-Par
unfold_stmt-returns-in-Par g t c =
    let s = c.args.self.now in
    let text = s.text.now in
    par_gives (node_count text) c.unfold_par.result (literal_reading g.K.NumberKind.meaning) (visible s) (variables s) (count c.args.n)
    c.in-Par.at (blocks text c.deref-in-Par.result.now) (stm text c.args.s.now)
    (ap (λ (z : code-stmt.Stmt). stm text z) c.in-Par.is ∙ ap (λ (z : code-blocks.Blocks). Par c.in-Par.at (blocks text z)) (sym c.deref-in-Par.ensures)) c.unfold_par.ensures
