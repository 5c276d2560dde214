-- The places of a block are numbered from q on, so what they got is read off the unfolded text.
use Rattle.std.proofs.Common.{◌≡◌, ℕ, suc, ◌+◌, List, [], ◌∷◌, ◌++◌, length, sym, refl, ap, ◌∙◌, append_assoc, arith}
use Rattle.tables.specs.declared.rows.Got as row
use Rattle.unfold.specs.Unfolded.{Node, one, throws, two, par, Nodes, nil, seq, Branches, last, also}
use Rattle.program.specs.Sizes.{node_size, size, node_places, how_many}
use Rattle.program.specs.Layout.{Place, node_placing, placing, branch_placing, laid_out}
use Rattle.program.proofs.Agree.{node_placing_size, placing_size}
use Rattle.layout.specs.Given.{given, given_from, node_given, nodes_given, branches_given}

pub given_append : (q : ℕ) (xs ys : List Place) → given_from q (xs ++ ys) ≡ given_from q xs ++ given_from (q + length xs) ys
given_append q [] ys = ap (λ (m : ℕ). given_from m ys) (omega arith)
given_append q (x ∷ xs) ys =
    ap (λ (l : List row.Got). given q x.got ++ l) (given_append (suc q) xs ys ∙ ap (λ (m : ℕ). given_from (suc q) xs ++ given_from m ys) (omega arith))
    ∙ sym (append_assoc (given q x.got) (given_from (suc q) xs) (given_from (q + suc (length xs)) ys))

mutual
  pub node_given_is : (e p : ℕ) (u : Node) (q o : ℕ) → given_from q (node_placing e p u q o) ≡ node_given u q
  node_given_is e p (one at ns s) q o = refl
  node_given_is e p (throws at n) q o = refl
  node_given_is e p (two at ns h a b) q o =
      let as' = placing e p a q (suc o) in
      let bs' = placing e p b (q + how_many a) (suc o + size a) in
      given_append q as' bs'
      ∙ ap (λ (l : List row.Got). l ++ given_from (q + length as') bs') (given_is e p a q (suc o))
      ∙ ap (λ (m : ℕ). nodes_given a q ++ given_from (q + m) bs') (placing_size e p a q (suc o))
      ∙ ap (λ (l : List row.Got). nodes_given a q ++ l) (given_is e p b (q + how_many a) (suc o + size a))
  node_given_is e p (par at ns bs) q o = branch_given_is e p o bs q (suc o)

  pub given_is : (e p : ℕ) (us : Nodes) (q o : ℕ) → given_from q (placing e p us q o) ≡ nodes_given us q
  given_is e p nil q o = refl
  given_is e p (seq u us) q o =
      let as' = node_placing e p u q o in
      let bs' = placing e p us (q + node_places u) (o + node_size u) in
      given_append q as' bs'
      ∙ ap (λ (l : List row.Got). l ++ given_from (q + length as') bs') (node_given_is e p u q o)
      ∙ ap (λ (m : ℕ). node_given u q ++ given_from (q + m) bs') (node_placing_size e p u q o)
      ∙ ap (λ (l : List row.Got). node_given u q ++ l) (given_is e p us (q + node_places u) (o + node_size u))

  pub branch_given_is : (e p x : ℕ) (bs : Branches) (q o : ℕ) → given_from q (branch_placing e p x bs q o) ≡ branches_given bs q
  branch_given_is e p x last q o = refl
  branch_given_is e p x (also g us bs) q o =
      let as' = placing e q us (suc q) o in
      let bs' = branch_placing e p x bs (suc q + how_many us) (o + size us) in
      ap (λ (l : List row.Got). given q g ++ l)
      (given_append (suc q) as' bs'
      ∙ ap (λ (l : List row.Got). l ++ given_from (suc q + length as') bs') (given_is e q us (suc q) o)
      ∙ ap (λ (m : ℕ). nodes_given us (suc q) ++ given_from (suc q + m) bs') (placing_size e q us (suc q) o)
      ∙ ap (λ (l : List row.Got). nodes_given us (suc q) ++ l) (branch_given_is e p x bs (suc q + how_many us) (o + size us)))

-- of a whole unfolded text, whose main block got nothing
pub all_given : (us : Nodes) (end : List row.Got) → end ≡ nodes_given us 1 → end ≡ given_from 0 (laid_out us).places
all_given us end h = h ∙ sym (given_is (size us) 0 us 1 0)
