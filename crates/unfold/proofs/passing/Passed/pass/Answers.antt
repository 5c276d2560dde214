use Rattle.std.proofs.Common.{◌≡◌, ◌+◌, [], ◌∷◌, ◌++◌, length, vec_items, rules}
use Rattle.unfold.specs.declared.nodes.New as code-new
use Rattle.unfold.proofs.Passes.{ref_on, value_on, count_same, count_more}
use Rattle.unfold.proofs.passing.Passed.pass.Goals as goal

pub returns-then-p : goal.returns-then-p
returns-then-p c text =
    let p = c.args.p in
    let b = c.args.b in
    let s = c.args.self.now in
    let E = vec_items s.env in
    let R = vec_items s.refs in
    let e : vec_items c.push.new.self ≡ E ++ (record { name = p.name; own = b.own; home = b.home } ∷ []) = search rules in
    let f : vec_items c.push-then-p.new.self ≡ R ++ (c.args.a ∷ []) = search rules in (
      ref_on text p c.args.a b (c.args.n.cells + length (vec_items s.news)) E (vec_items c.push.new.self) (vec_items s.copies) (vec_items s.copies) (vec_items s.news) (vec_items s.news) R (vec_items c.push-then-p.new.self)
          p.reference c.if-p.true e f,
      count_same (length (vec_items s.news)) p.reference c.if-p.true,
    )

pub returns : goal.returns
returns c text =
    let p = c.args.p in
    let b = c.args.b in
    let s = c.args.self.now in
    let E = vec_items s.env in
    let C = vec_items s.copies in
    let N = vec_items s.news in
    let ok = s.news.ok.0 in
    let k = c.args.n.cells + length N in
    let x : code-new.New = record { home = b.home; name = p.name } in
    let e : vec_items c.push-2.new.self ≡ E ++ (record { name = p.name; own = k; home = b.home } ∷ []) = search rules in
    let f : vec_items c.push-3.new.self ≡ C ++ (record { to = k; from = b.own } ∷ []) = search rules in
    let g : vec_items c.push-4.new.self ≡ N ++ (x ∷ []) = search rules in (
      value_on text p c.args.a b k E (vec_items c.push-2.new.self) C (vec_items c.push-3.new.self) N (vec_items c.push-4.new.self) (vec_items s.refs) (vec_items s.refs)
          p.reference c.if-p.false e f g,
      count_more N (vec_items c.push-4.new.self) x p.reference c.if-p.false g,
    )
