use Rattle.std.proofs.Common.{◌≡◌, ℕ, ◌<◌, ◌≤◌, List, [], ◌∷◌, ◌++◌, length, Err, vec_items, sym, ◌∙◌, subst, arith}
use Rattle.std.proofs.lemmas.Result.{err_from_is_err_and}
use denote.Enum.Bare.{same_true, same_false}
use Rattle.reader.specs.contracts.token.Tag.{the_type}
use Rattle.reader.specs.declared.token.Token.{Token}
use Rattle.reader.specs.declared.token.Tag.TheVariants.{End}
use Rattle.reader.specs.Language.{Laid}
use Rattle.reader.specs.Lists.{Ended}
use Rattle.reader.specs.Views.{lexemes}
use Rattle.reader.proofs.Laying.{tokens_are_longest_lem}
use Rattle.reader.proofs.Turns.{Going, Turn, turn, again, all_read, ended, faulty, of_same, exact_ok, exact_err, tokenized_is}
use Rattle.reader.proofs.reader.read.Goals as goal

pub returns-in_err-token : goal.returns-in_err-token
returns-in_err-token c =
    let text = c.args.text.now in
    let was = c.loop-found.reader.text.now in
    let at = c.loop-found.reader.at in
    let f = c.in_err-token.field-0.0 in
    let e = c.loop-found.invariant.0 in
    let s = of_same was text at (Err f) e c.in_err-token.ensures.token in
    let h : at ≤ length text = subst (λ (l : List ℕ). at ≤ length l) e c.loop-found.reader.within in
    let p = err_from_is_err_and c.from_residual-in_err-token.result c.from_residual-in_err-token.ensures.1 in
    rw (p.1, p.2) (record { exact = exact_err text f c.loop-found.invariant.1 (faulty text at (vec_items c.loop-found.found) h c.loop-found.invariant.2 f s); laid = tt; ended = tt })

last_turn : (c : goal.Then-eq) → Turn c.args.text.now c.loop-found.reader.at (vec_items c.loop-found.found) c.in_ok-token.token
last_turn c =
    turn c.loop-found.reader.text.now c.args.text.now c.loop-found.reader.at (vec_items c.loop-found.found) c.in_ok-token.token
    c.loop-found.invariant.0 c.loop-found.reader.within c.loop-found.invariant.2 c.in_ok-token.ensures.token

pub returns-then-eq : goal.returns-then-eq
returns-then-eq c =
    let text = c.args.text.now in
    let at = c.loop-found.reader.at in
    let ts = vec_items c.loop-found.found in
    let t = c.in_ok-token.token in
    let n = last_turn c in
    let is_end : t.tag ≡ End = same_true the_type tt _ _ (sym c.eq.ensures ∙ c.if-eq.true) in
    let p : vec_items c.push.new.self ≡ ts ++ (t ∷ []) = c.in_ok-push.ensures.items in
    let e = all_read text at ts n.inside n.going t n.shows is_end in
    record {
      exact = exact_ok text c.push.new.self (ts ++ (t ∷ [])) c.loop-found.invariant.1 p e;
      laid = subst (λ (l : List Token). Laid 0 text (lexemes text l)) (sym p) (tokens_are_longest_lem text (lexemes text (ts ++ (t ∷ []))) (tokenized_is text c.loop-found.invariant.1 ∙ e)).1;
      ended = subst (λ (l : List Token). Ended text l) (sym p) (ended text at ts n.inside n.going t n.shows c.loop-found.invariant.1 is_end);
    }

next_turn : (c : goal.Else-eq) → (c.loop-found.reader.at < c.next.new.self.at) × Going c.args.text.now c.next.new.self.at (vec_items c.push.new.self)
next_turn c =
    again c.loop-found.reader.text.now c.args.text.now c.loop-found.reader.at c.next.new.self.at (vec_items c.loop-found.found) (vec_items c.push.new.self) c.in_ok-token.token
    (turn c.loop-found.reader.text.now c.args.text.now c.loop-found.reader.at (vec_items c.loop-found.found) c.in_ok-token.token
    c.loop-found.invariant.0 c.loop-found.reader.within c.loop-found.invariant.2 c.in_ok-token.ensures.token)
    (same_false the_type _ _ (sym c.eq.ensures ∙ c.if-eq.false)) c.loop-found.invariant.0 c.in_ok-token.ensures.stands c.in_ok-push.ensures.items

pub loop-found-smaller : goal.loop-found-smaller
loop-found-smaller c =
    let n = next_turn c in
    let l = n.0 in
    let w : c.next.new.self.at ≤ length c.args.text.now = subst (λ (l : List ℕ). c.next.new.self.at ≤ length l) (c.in_ok-token.ensures.text ∙ c.loop-found.invariant.0) c.next.new.self.within in
    omega arith

pub loop-found-preserved : goal.loop-found-preserved
loop-found-preserved c = (c.in_ok-token.ensures.text ∙ c.loop-found.invariant.0, c.loop-found.invariant.1, (next_turn c).1)
