use Rattle.std.proofs.Common.{ℕ, List, [], ◌++◌, refl, ap, ◌∙◌, subst, append_assoc, rules}
use Rattle.rules.specs.States.{Move}
use Rattle.rules.specs.Listings.{listing, each, steps_of, closes_of, meets_of, poisons_of}
use Rattle.tables.specs.Views.{table, cells_of}
use Rattle.board.specs.Views.{portless}
use Rattle.board.specs.Scans.{Scanned}
use Rattle.board.proofs.state.State.scan.Goals as goal

pub returns : goal.returns
unfolding listing
returns c =
    let t = table c.args.t.now in
    let s = portless c.args.self.now in
    let w = c.args.want in
    let a : ℕ → List Move = each (steps_of t s) in
    let b : ℕ → List Move = each (closes_of t s) in
    let d : ℕ → List Move = each (meets_of t s) in
    let e : List Move = each (poisons_of t s (cells_of c.args.t.now)) t.places in
    let n = c.place_count-places.result in
    let k = c.cell_count.result in
    let steps = c.offer_each.ensures.list (steps_of t s) (λ i m l k. search rules) w [] (refl, refl, refl) in
    let closes = c.offer_each-2.ensures.list (closes_of t s) (λ i m l k. search rules) w (a n) steps in
    let meets = c.offer_each-3.ensures.list (meets_of t s) (λ i m l k. search rules) w (a n ++ b n) closes in
    subst (λ (v : List Move). Scanned w v c.scan_poisons.new.scan)
    (append_assoc (a n ++ b n) (d k) e ∙ append_assoc (a n) (b n) (d k ++ e)
    ∙ ap (λ v. a v ++ (b v ++ (d k ++ e))) c.place_count-places.ensures.is
    ∙ ap (λ v. a t.places ++ (b t.places ++ (d v ++ e))) c.cell_count.ensures.is)
    (c.scan_poisons.ensures w ((a n ++ b n) ++ d k) meets)
