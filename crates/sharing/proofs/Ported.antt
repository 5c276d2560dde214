-- The ports of the code's own tree are those of what it stands for, whatever the text.
use Rattle.std.proofs.Common.{◌≡◌, ℕ, Bool, true, false, not, ◌&&◌, ◌||◌, List, [], ◌∷◌, ◌++◌, vec_items, refl, ap, ◌∙◌}
use Rattle.std.proofs.Math.Bool.{or-false}
use Rattle.std.proofs.lemmas.List.Folds.{list_any-append}
use Rattle.std.specs.List.{list_any}
use Rattle.std.specs.Prelude.{◌==◌}
use Rattle.rules.specs.Programs.{elem}
use Rattle.unfold.specs.declared.nodes.Got as code_got
use Rattle.unfold.specs.declared.nodes.Part as code-part
use Rattle.unfold.specs.declared.nodes.Part.TheVariants as parts
use Rattle.unfold.specs.declared.nodes.Node as code-node
use Rattle.unfold.specs.declared.nodes.Nodes as code-nodes
use Rattle.unfold.specs.declared.nodes.Branches as code-branches
use Rattle.unfold.specs.declared.nodes.Branches.TheVariants as tree
use Rattle.unfold.specs.Sharing.{part_ports, node_ports, ports, branch_ports, none_in, none_in_any, apart, all_ports, writes, none_among, none_among_any, names_apart, all_writes}
use Rattle.unfold.specs.Views.{part, node, gots, nodes, branches}
use Rattle.sharing.specs.Standing.{part_any, node_any, nodes_any, branches_any, nodes_have, nodes_clear, Test, with_later, pairwise}

pub and_both : {a b x y : Bool} → a ≡ x → b ≡ y → (a && b) ≡ (x && y)
and_both {a} {b} {x} {y} e f = cc

or_both : {a b x y : Bool} → a ≡ x → b ≡ y → (a || b) ≡ (x || y)
or_both {a} {b} {x} {y} e f = cc

not_or : (a b : Bool) → (not a && not b) ≡ not (a || b)
not_or true b = refl
not_or false b = refl

-- a test of some port of a block
part_is : (t : ℕ → Bool) (text : List ℕ) (h : code-part.Part) → list_any t (part_ports (part text h)) ≡ part_any t h
part_is t text parts.Plain = refl
part_is t text (parts.Calls cs rs) = refl
part_is t text (parts.Tests e) = refl
part_is t text (parts.Loops e) = refl
part_is t text (parts.Tries n) = refl
part_is t text (parts.Takes i c) = or-false (t i)

mutual
  node_is : (t : ℕ → Bool) (text : List ℕ) (u : code-node.Node) → list_any t (node_ports (node text u)) ≡ node_any t u
  node_is t text (tree.One at ns s) = refl
  node_is t text (tree.Throws at n) = refl
  node_is t text (tree.Two' at ns h p a q b) =
      list_any-append t (part_ports (part text h)) (ports (nodes text a) ++ ports (nodes text b))
      ∙ or_both (part_is t text h) (list_any-append t (ports (nodes text a)) (ports (nodes text b)) ∙ or_both (nodes_is t text a) (nodes_is t text b))
  node_is t text (tree.Par' at ns p bs) = branches_is t text bs

  nodes_is : (t : ℕ → Bool) (text : List ℕ) (us : code-nodes.Nodes) → list_any t (ports (nodes text us)) ≡ nodes_any t us
  nodes_is t text tree.Nil = refl
  nodes_is t text (tree.Seq' p u q us) = list_any-append t (node_ports (node text u)) (ports (nodes text us)) ∙ or_both (node_is t text u) (nodes_is t text us)

  branches_is : (t : ℕ → Bool) (text : List ℕ) (bs : code-branches.Branches) → list_any t (branch_ports (branches text bs)) ≡ branches_any t bs
  branches_is t text tree.Last = refl
  branches_is t text (tree.Also' gs p us q bs) =
      list_any-append t (ports (nodes text us)) (branch_ports (branches text bs)) ∙ or_both (nodes_is t text us) (branches_is t text bs)

elem_is : (i : ℕ) (xs : List ℕ) → elem i xs ≡ list_any (λ (j : ℕ). i == j) xs
elem_is i [] = refl
elem_is i (x ∷ xs) = ap (λ (b : Bool). (i == x) || b) (elem_is i xs)

none_is : (t : ℕ → Bool) (xs ys : List ℕ) → ((i : ℕ) → elem i ys ≡ t i) → none_in xs ys ≡ not (list_any t xs)
none_is t [] ys h = refl
none_is t (x ∷ xs) ys h = and_both (ap not (h x)) (none_is t xs ys h) ∙ not_or (t x) (list_any t xs)

clear_is : (text : List ℕ) (us vs : code-nodes.Nodes) → none_in (ports (nodes text us)) (ports (nodes text vs)) ≡ nodes_clear us vs
clear_is text us vs =
    none_is (λ (i : ℕ). nodes_have i vs) (ports (nodes text us)) (ports (nodes text vs)) (λ i. elem_is i (ports (nodes text vs)) ∙ nodes_is (λ (j : ℕ). i == j) text vs)
    ∙ ap not (nodes_is (λ (i : ℕ). nodes_have i vs) text us)

-- the two tests of every two branches
abbrev pub clear_test : Test
clear_test g us h vs = nodes_clear us vs

abbrev pub write_test : List ℕ → Test
write_test text g us h vs = none_among (writes (gots text g)) (writes (gots text h))

clear_later : (text : List ℕ) (g : List code_got.Got) (us : code-nodes.Nodes) (bs : code-branches.Branches) → none_in_any (ports (nodes text us)) (all_ports (branches text bs)) ≡ with_later clear_test g us bs
clear_later text g us tree.Last = refl
clear_later text g us (tree.Also' h p vs q bs) = and_both (clear_is text us vs) (clear_later text g us bs)

pub clear_pairs : (text : List ℕ) (bs : code-branches.Branches) → apart (all_ports (branches text bs)) ≡ pairwise clear_test bs
clear_pairs text tree.Last = refl
clear_pairs text (tree.Also' g p us q bs) = and_both (clear_later text (vec_items g) us bs) (clear_pairs text bs)

write_later : (text : List ℕ) (g : List code_got.Got) (us : code-nodes.Nodes) (bs : code-branches.Branches)
    → none_among_any (writes (gots text g)) (all_writes (branches text bs)) ≡ with_later (write_test text) g us bs
write_later text g us tree.Last = refl
write_later text g us (tree.Also' h p vs q bs) = ap (λ (b : Bool). write_test text g us (vec_items h) vs && b) (write_later text g us bs)

pub write_pairs : (text : List ℕ) (bs : code-branches.Branches) → names_apart (all_writes (branches text bs)) ≡ pairwise (write_test text) bs
write_pairs text tree.Last = refl
write_pairs text (tree.Also' g p us q bs) = and_both (write_later text (vec_items g) us bs) (write_pairs text bs)
