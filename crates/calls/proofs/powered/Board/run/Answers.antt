use Rattle.std.proofs.Common.{◌≡◌, ℕ, ◌+◌, ◌%◌, ◌<◌, [], length, get_or, drop, sym, refl, ap, ◌∙◌, mod-lt, zero-add, arith}
use Rattle.std.proofs.lemmas.List.{drop_all}
use Rattle.rules.specs.States.{State}
use Rattle.rules.specs.Moves.{made}
use Rattle.rules.specs.Listings.{listing}
use Rattle.tables.specs.declared.tables.Tables.{Tables}
use Rattle.calls.specs.Boards.{state_of}
use Rattle.tables.specs.Views.{cells_of}
use Rattle.tables.specs.Views.{table, move}
use Rattle.board.specs.Views.{portless}
use Rattle.calls.proofs.Choosing.{plus, plus_one, plus_none, stops, run_stopped, run_end, run_next, nth_within, all_granted, same_length, same_chosen, same_last}
use Rattle.calls.proofs.powered.Board.run.Goals as goal

pub loop-choice-init : goal.loop-choice-init
loop-choice-init g c = (plus_none _, refl, refl, zero-add _)

pub returns-in-Some : goal.returns-in-Some
returns-in-Some g c =
    let k = g.K.NumberKind.meaning in
    let words = g.B.Bank.words in
    let x = c.args.self.now in
    let y = c.loop-choice.self in
    let t = table x.tables in
    let m = cells_of x.tables in
    let i = c.loop-choice.invariant in
    let len : c.permitted-n.result ≡ length (listing t (state_of words y) m) = same_length words x y i.1 _ c.permitted-n.ensures in
    let cs = drop c.loop-choice.choice-index c.args.choices.now in
    stops k words x y c.args.choices.now c.loop-choice.granted c.in-Some.stop cs i.0 (run_stopped k t m (state_of words y) c.in-Some.stop _ len c.in-Some.ensures cs) i.1 i.2

pub returns-in_default-permitted_at : goal.returns-in_default-permitted_at
returns-in_default-permitted_at g c =
    let y = c.loop-choice.self in
    let xs = listing (table y.tables) (portless y.state) (cells_of y.tables) in
    let n = c.permitted-n.result in
    let ch : ℕ = get_or c.args.choices.now c.loop-choice.choice-index 0 in
    let some = c.in_default.ensures.0 in
    let pos : 0 < n = omega arith in
    let lt : ch % n < n = mod-lt ch {m = n} pos in
    let len = c.permitted-n.ensures in
    absurd (nth_within xs (ch % n) (omega (arith, lt, len)) (sym c.in_default-permitted_at.ensures))

pub grant-requires : goal.grant-requires
grant-requires g c =
    let y = c.loop-choice.self in
    let a = all_granted (table y.tables) (portless y.state) (cells_of y.tables) _ (move c.in-Some-permitted_at.m) (sym c.in-Some-permitted_at.ensures) in
    record { exists = a.0; under = c.in_default.ensures.1; permitted = a.1 }

pub loop-choice-preserved : goal.loop-choice-preserved
loop-choice-preserved g c =
    let k = g.K.NumberKind.meaning in
    let words = g.B.Bank.words in
    let x = c.args.self.now in
    let y = c.loop-choice.self in
    let t = table x.tables in
    let m = cells_of x.tables in
    let i = c.loop-choice.invariant in
    let len : c.permitted-n.result ≡ length (listing t (state_of words y) m) = same_length words x y i.1 _ c.permitted-n.ensures in
    let ch : ℕ = get_or c.args.choices.now c.loop-choice.choice-index 0 in
    let z = c.grant.new.self in
    let made_is = c.grant.ensures.view ∙ ap (λ (tb : Tables). made k (table tb) (state_of words y) (move c.in-Some-permitted_at.m)) i.1 in
    let more = run_next k t m (state_of words y) (state_of words z) c.args.choices.now c.loop-choice.choice-index (move c.in-Some-permitted_at.m) (omega arith) (λ e. c.in_default.ensures.0 (len ∙ e)) c.in_default.ensures.1
    (same_chosen words x y i.1 c.permitted-n.result ch (move c.in-Some-permitted_at.m) c.permitted-n.ensures c.in-Some-permitted_at.ensures) made_is in
    let total : z.state.total ≡ 1 + y.state.total = ap (λ (s : State). s.total) c.grant.ensures.view in
    (i.0 ∙ ap (plus c.loop-choice.granted) more ∙ plus_one _ _, c.grant.ensures.tables ∙ i.1, c.grant.ensures.kind ∙ i.2, omega (arith, total, i.3))

pub returns : goal.returns
returns g c =
    let k = g.K.NumberKind.meaning in
    let words = g.B.Bank.words in
    let x = c.args.self.now in
    let y = c.loop-choice.self in
    let t = table x.tables in
    let m = cells_of x.tables in
    let i = c.loop-choice.invariant in
    let e = c.last_stop.result in
    let none : drop c.loop-choice.choice-index c.args.choices.now ≡ [] = drop_all c.loop-choice.choice-index c.args.choices.now (omega arith) in
    stops k words x y c.args.choices.now c.loop-choice.granted e (drop c.loop-choice.choice-index c.args.choices.now) i.0
    (rw none (run_end k t m (state_of words y) e (same_last words x y i.1 e c.last_stop.ensures))) i.1 i.2
