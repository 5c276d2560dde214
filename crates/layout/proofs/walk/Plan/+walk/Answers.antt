use Rattle.std.proofs.Common.{◌≡◌, ℕ, ◌+◌, [], length, vec_items, refl, ap, ◌∙◌, arith}
use Rattle.unfold.specs.Views.{news, gots, part, node, nodes, branches}
use Rattle.tables.specs.Stms.{stm}
use Rattle.program.specs.Sizes.{entry}
use Rattle.program.specs.Layout.{part_after}
use Rattle.layout.specs.Opens.{all_held}
use Rattle.layout.specs.Walked.{rows}
use Rattle.layout.proofs.Laying.{seq_laid, two_laid, also_laid, next_entry, two_entries, also_entry}
use Rattle.layout.proofs.walk.Plan.+walk.Goals as goal

pub put_block-returns-in_ok-put_node-in-Seq-clause-rows : goal.put_block-returns-in_ok-put_node-in-Seq-clause-rows
put_block-returns-in_ok-put_node-in-Seq-clause-rows t c =
    let text = c.args.self.now.text.now in
    let was = c.args.rows.now in
    let mid = c.put_node.new.rows in
    let q = length (vec_items was.places) in
    let o = length (vec_items was.points) in
    let k = c.args.k in
    let us = nodes text c.args.us.now in
    let u = node text c.in-Seq.u.value in
    let vs = nodes text c.in-Seq.rest.value in
    let is = ap (nodes text) c.in-Seq.is in
    let n = next_entry o k c.entry-next.result c.next_point-o.result c.node_extent.result.statements us u (node text c.deref-in-Seq.result.now) vs (nodes text c.deref.result.now)
    is (ap (node text) c.deref-in-Seq.ensures) (ap (nodes text) c.deref.ensures) c.requires.short (omega arith) (c.node_extent.ensures.statements text) (c.entry-next.ensures text) in
    seq_laid c.put_block.result c.args.self.now.ends c.args.inside.now.place c.args.inside.now.catches.now (all_held text c.args.inside.now.tries.now) q o k
    us u (node text c.deref-in-Seq-2.result.now) vs (nodes text c.deref-in-Seq-3.result.now) (length (vec_items mid.places)) (length (vec_items mid.points)) c.entry-next.result
    (rows was) (rows mid) (rows c.put_block.new.rows) is (ap (node text) c.deref-in-Seq-2.ensures) (ap (nodes text) c.deref-in-Seq-3.ensures)
    c.in_ok-put_node-in-Seq.ensures.places c.in_ok-put_node-in-Seq.ensures.points n c.in_ok-put_node-in-Seq.ensures.rows c.put_block.ensures.rows

pub put_branches-returns-in_ok-put_block-in-Also-clause-rows : goal.put_branches-returns-in_ok-put_block-in-Also-clause-rows
put_branches-returns-in_ok-put_block-in-Also-clause-rows t c =
    let text = c.args.self.now.text.now in
    let e = c.args.self.now.ends in
    let was = c.args.rows.now in
    let fst = c.put_place.new.self in
    let mid = c.put_block.new.rows in
    let q = length (vec_items was.places) in
    let o = length (vec_items was.points) in
    let bs = branches text c.args.branches.now in
    let g = gots text (vec_items c.in-Also.gots) in
    let us = nodes text c.in-Also.us.value in
    let vs = branches text c.in-Also.rest.value in
    let is = ap (branches text) c.in-Also.is in
    let n : c.entry-start.result ≡ entry us o (e + q) =
    also_entry o (e + q) c.entry-start.result c.next_point.result (e + c.next_place-q.result) bs g us (nodes text c.deref.result.now) vs is (ap (nodes text) c.deref.ensures) c.requires.short (omega arith) (omega arith) (c.entry-start.ensures text) in
    also_laid c.put_branches.result e c.args.inside.now.place c.args.x (all_held text c.args.inside.now.tries.now) q o bs g (gots text c.deref-in-Also.result.now) us (nodes text c.deref-in-Also-2.result.now) vs (branches text c.deref-in-Also-3.result.now)
    c.entry-start.result [] c.next_place-q.result (length (vec_items fst.places)) (length (vec_items fst.points)) (length (vec_items mid.places)) (length (vec_items mid.points))
    (rows was) (rows fst) (rows mid) (rows c.put_branches.new.rows)
    is (ap (gots text) c.deref-in-Also.ensures.value) (ap (nodes text) c.deref-in-Also-2.ensures) (ap (branches text) c.deref-in-Also-3.ensures) n refl
    (omega arith) c.in_ok-put_place-in-Also.ensures.places c.in_ok-put_place-in-Also.ensures.points c.in_ok-put_block-in-Also.ensures.places c.in_ok-put_block-in-Also.ensures.points
    (c.in_ok-put_place-in-Also.ensures.rows text) c.in_ok-put_block-in-Also.ensures.rows c.put_branches.ensures.rows

pub put_node-returns-in_ok-put_block-in-Two-clause-rows : goal.put_node-returns-in_ok-put_block-in-Two-clause-rows
put_node-returns-in_ok-put_block-in-Two-clause-rows t c =
    let text = c.args.self.now.text.now in
    let p = c.args.inside.now.place in
    let cs = c.args.inside.now.catches.now in
    let rs = all_held text c.args.inside.now.tries.now in
    let was = c.args.rows.now in
    let fst = c.put_statement-in-Two.new.rows in
    let mid = c.put_block.new.rows in
    let q = length (vec_items was.places) in
    let o = length (vec_items was.points) in
    let k = c.args.k in
    let u = node text c.args.u.now in
    let ns = news text (vec_items c.in-Two.news) in
    let h = part text c.in-Two.part in
    let a = nodes text c.in-Two.first.value in
    let b = nodes text c.in-Two.second.value in
    let is = ap (node text) c.in-Two.is in
    let after = c.leads_to-after.result in
    let n = two_entries o k after c.entry-i.result c.entry-j.result c.next_point-o.result c.block_extent.result.statements u c.in-Two.at ns h
    a (nodes text c.deref-in-Two.result.now) (nodes text c.deref-in-Two-3.result.now) b (nodes text c.deref-in-Two-2.result.now)
    is (ap (nodes text) c.deref-in-Two.ensures) (ap (nodes text) c.deref-in-Two-3.ensures) (ap (nodes text) c.deref-in-Two-2.ensures)
    c.requires.short (omega arith) (c.block_extent.ensures.statements text) (c.entry-i.ensures text) (c.entry-j.ensures text) in
    two_laid c.put_block-in-Two.result c.args.self.now.ends p cs rs q o k u c.in-Two.at ns (news text c.deref-in-Two-4.result.now) h
    a (nodes text c.deref-in-Two-7.result.now) b (nodes text c.deref-in-Two-8.result.now) (stm p c.in_ok-stmt-in-Two.stmt) after c.entry-i.result c.entry-j.result
    c.deref-in-Two-5.result.now (all_held text c.deref-in-Two-6.result.now)
    (length (vec_items fst.places)) (length (vec_items fst.points)) (length (vec_items mid.places)) (length (vec_items mid.points))
    (rows was) (rows fst) (rows mid) (rows c.put_block-in-Two.new.rows)
    is (ap (news text) c.deref-in-Two-4.ensures.value) (ap (nodes text) c.deref-in-Two-7.ensures) (ap (nodes text) c.deref-in-Two-8.ensures)
    (c.leads_to-after.ensures text ∙ ap (λ (m : ℕ). part_after h m k) (let e : c.next_point-o.result ≡ o = omega arith in e)) n.0 n.1 (c.in_ok-stmt-in-Two.ensures text p)
    (c.deref-in-Two-5.ensures.value ∙ c.in_ok-catches-in-Two.ensures text) (ap (all_held text) c.deref-in-Two-6.ensures.value ∙ c.in_ok-tries-in-Two.ensures text)
    c.in_ok-put_statement-in-Two.ensures.places c.in_ok-put_statement-in-Two.ensures.points c.in_ok-put_block-in-Two.ensures.places c.in_ok-put_block-in-Two.ensures.points
    c.in_ok-put_statement-in-Two.ensures.rows c.in_ok-put_block-in-Two.ensures.rows c.put_block-in-Two.ensures.rows
