use Rattle.std.proofs.Common.{◌≡◌, Err, vec_items, sym, refl, ap, ◌∙◌}
use Rattle.std.proofs.lemmas.Result.{err_from_is_err_and}
use Rattle.names.specs.Scopes.{scope}
use Rattle.names.proofs.Declaring.{met_by}
use Rattle.names.proofs.Tables.{met_stop}
use Rattle.unfold.specs.declared.nodes.Node as code-node
use Rattle.unfold.specs.Sharing.{node_sharing, sharing}
use Rattle.unfold.specs.Views.{node, nodes}
use Rattle.sharing.proofs.Held.{first_is, second_is, met_map}
use Rattle.sharing.proofs.stage.Checker.+check_branches_check_node_check_nodes.Goals as goal

pub check_node-returns-in_err-check_nodes-in-Two : goal.check_node-returns-in_err-check_nodes-in-Two
check_node-returns-in_err-check_nodes-in-Two t c =
    let text = c.args.self.now.text.now in
    let ns = vec_items c.args.self.now.tries in
    let ms = vec_items c.open.new.tries in
    let then = c.check_nodes.new.self in
    let b = c.in-Two.second.value in
    let p = err_from_is_err_and c.from_residual-in_err-check_nodes-in-Two.result c.from_residual-in_err-check_nodes-in-Two.ensures.1 in
    met_by (λ (u w : Unit {0}). (then.text.now ≡ text) × (vec_items then.tries ≡ ns)) (sym (p.1 ∙ ap Err p.2))
    (first_is text ns ms c.in-Two.at c.in-Two.part c.in-Two.first.value c.deref.result.now b c.deref.ensures c.in_ok-check_references-in-Two.ensures c.in_ok-open-in-Two.ensures
    ∙ sym (ap (λ (x : code-node.Node). node_sharing (scope text ns) (node text x)) c.in-Two.is))
    (met_stop (λ (u w : Unit {0}). (then.text.now ≡ text) × (vec_items then.tries ≡ ms)) (λ (u w : Unit {0}). (then.text.now ≡ text) × (vec_items then.tries ≡ ns))
    c.in_err-check_nodes-in-Two.field-0.0 (sharing (scope text ms) (nodes text c.deref.result.now)) (λ w. sharing (scope text ns) (nodes text b)) c.in_err-check_nodes-in-Two.ensures)

pub check_node-returns-in_ok-check_nodes-in-Two : goal.check_node-returns-in_ok-check_nodes-in-Two
check_node-returns-in_ok-check_nodes-in-Two t c =
    let text = c.args.self.now.text.now in
    let ns = vec_items c.args.self.now.tries in
    let then = c.check_nodes.new.self in
    let xs = vec_items c.truncate.new.self in
    let end = c.check_nodes-in-Two.new.self in
    let q = second_is text then.text.now ns (vec_items c.open.new.tries) (vec_items then.tries) xs
    c.len-count.result c.in-Two.at c.in-Two.part c.in-Two.first.value c.deref.result.now c.in-Two.second.value c.deref-in-Two.result.now
    (node_sharing (scope text ns) (node text c.args.u.now))
    (ap (λ (x : code-node.Node). node_sharing (scope text ns) (node text x)) c.in-Two.is) c.deref.ensures c.deref-in-Two.ensures c.in_ok-check_references-in-Two.ensures c.in_ok-open-in-Two.ensures
    c.in_ok-check_nodes-in-Two.ensures (c.len-count.ensures ∙ c.args.self.now.tries.ok.0) c.truncate.ensures.items in
    met_by (λ (u w : Unit {0}). (end.text.now ≡ text) × (vec_items end.tries ≡ ns)) {x = c.check_nodes-in-Two.result} refl q.0
    (met_map (λ (u w : Unit {0}). (end.text.now ≡ then.text.now) × (vec_items end.tries ≡ xs)) (λ (u w : Unit {0}). (end.text.now ≡ text) × (vec_items end.tries ≡ ns)) c.check_nodes-in-Two.result
    (sharing (scope then.text.now xs) (nodes then.text.now c.deref-in-Two.result.now)) (λ u w same. (same.0 ∙ q.1, same.1 ∙ q.2)) c.check_nodes-in-Two.ensures)
