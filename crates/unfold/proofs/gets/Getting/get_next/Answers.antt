use Rattle.std.proofs.Common.{◌≡◌, ℕ, ◌+◌, ◌≤◌, [], ◌∷◌, ◌++◌, cond, is_some, Some, vec_items, sym, ap, ◌∙◌, subst, rules}
use Rattle.grammar.specs.Views.{name}
use Rattle.unfold.specs.Steps.{got_one, next_cell}
use Rattle.unfold.specs.Occurrences.{uses}
use Rattle.unfold.specs.Getting.{had}
use Rattle.unfold.specs.Views.{variables, got}
use Rattle.unfold.proofs.Gains.{on_some, numbered_on, next_le, next_count}
use Rattle.unfold.proofs.gets.Getting.get_next.Goals as goal

pub returns-in_ok-push : goal.returns-in_ok-push
returns-in_ok-push c =
    let text = c.args.scope.now.text.now in
    let v = variables c.args.scope.now in
    let all = uses text c.args.found.now in
    let n = c.args.n in
    let s = c.args.self.now in
    let g = c.in-Some.g in
    let gs = vec_items s.got in
    let hs = vec_items c.push.new.self in
    let d = s.next + c.from.result in
    let e : Some (got text g) ≡ got_one v all (had text gs) (name text n) s.next = search rules in
    let f : hs ≡ gs ++ (g ∷ []) = search rules in
    let one : c.from.result ≡ cond (is_some g.from) 1 0 = search rules in
    let k : d ≡ next_cell s.next g.from = ap (λ (z : ℕ). s.next + z) one ∙ next_count s.next g.from in (
      on_some text v all n gs hs s.next d g e f k,
      λ first i. numbered_on text gs hs g first s.next d f k i,
      subst (λ (z : ℕ). z ≤ s.next + 1) (sym k) (next_le s.next g.from),
    )
