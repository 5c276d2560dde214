-- What an unfolded text names: cells that it brings, words that its literals have, and the eight ports.
use Rattle.std.proofs.Common.{◌≡◌, ℕ, ◌+◌, ◌<◌, ◌≤◌, Bool, true, false, List, [], ◌∷◌, length, Some, Ok, Option, ap, ◌∙◌, subst, arith}
use Rattle.reader.specs.Faults.{◌>>=◌}
use Rattle.reader.specs.Tokens.{same}
use Rattle.reader.specs.declared.fault.Cause.TheVariants.{NotVisible}
use Rattle.grammar.specs.Trees.{Simple, Var, Set, Call, Next, Know, Throw, Stm, One, Two, Par, Block, Nil, Seq, Blocks, Last, Also, Proc}
use Rattle.names.specs.Naming.{Reading}
use Rattle.rules.specs.Programs as rules
use Rattle.unfold.specs.Unfolded.{Got, calls, Node, one, throws, two, par, Nodes, nil, seq, Branches, last, also}
use Rattle.unfold.specs.Scopes.{Env, found, stands, resolved}
use Rattle.unfold.specs.Variables.{got_env, all_get, all_new}
use Rattle.unfold.specs.Unfolding.{branch_count, passes, Count, brings, Callee, Callees, params_of, head_part, unfold_simple, env_after, unfold_stm, unfold_block, unfold_blocks, callees}
use Rattle.program.specs.Bounds.{NamesNode, NamesNodes, NamesBranches}
use Rattle.program.proofs.Results.{bound, ok_eq, found_is}
use Rattle.program.proofs.Unfolds.{brought}
use Rattle.program.proofs.Named.{EnvIn, stood, AllIn, env_in, all_new_in, expr_in, part_in, all_in, passed}

-- C holds of the cells below N, W of the words that literals have
module _
    (l : Reading) (N : ℕ) (C W P : ℕ → Type 0)
    (new : (c : ℕ) → c < N → C c) (nought : W 0) (read : (ds : List ℕ) (w : ℕ) → l ds ≡ Some w → W w)
  where
    abbrev BlockIn : Env → Count → Nodes → Count → Type 0
    BlockIn v n us m = (n.cells ≤ m.cells) × (m.cells ≤ N → EnvIn C v → NamesNodes C W P us)

    abbrev NodeIn : Env → Count → Stm → Node × Count → Type 0
    NodeIn v n s r = (n.cells ≤ r.1.cells) × (r.1.cells ≤ N → EnvIn C v → NamesNode C W P r.0 × EnvIn C (env_after v n s))

    abbrev BranchesIn : List (List Got) → Count → Branches → Count → Type 0
    BranchesIn gs n bs m = (n.cells ≤ m.cells) × (m.cells ≤ N → AllIn C gs → NamesBranches C W P bs)

    abbrev pub CalleesIn : Callees → Type 0
    CalleesIn f = (x : List ℕ) (c : Callee) → f x ≡ Some c → (v : Env) (n : Count) (r : Nodes × Count) → c.body v n ≡ Ok r → BlockIn v n r.0 r.1

    simple_in : (f : Callees) (v : Env) (n : Count) (at : ℕ) (s : Simple) → CalleesIn f → (r : Node × Count) → unfold_simple l f v n at s ≡ Ok r → NodeIn v n (One at s) r
    simple_in f v n at (Var x) ck r e =
        let node = one at (record { home = n.cells; name = x } ∷ []) (rules.var n.cells) in
        let b = bound (brings n 0 1 at) (λ m. Ok (node, m)) r e in
        let i = brought n 0 1 at b.0 b.1 in
        subst (NodeIn v n (One at (Var x))) (ok_eq (node, b.0) r b.2)
        (omega arith, λ m h. let lo : n.cells < N = omega arith in let z = new n.cells lo in (((z, tt), z), ((z, z), h)))
    simple_in f v n at (Set x y) ck r e =
        let b = bound (brings n 0 0 at) (λ m. stands v x >>= (λ b. resolved l v y >>= (λ a. Ok (one at [] (rules.set b.own a), m)))) r e in
        let m = b.0 in
        let c = bound (stands v x) (λ b. resolved l v y >>= (λ a. Ok (one at [] (rules.set b.own a), m))) r b.2 in
        let d = bound (resolved l v y) (λ a. Ok (one at [] (rules.set c.0.own a), m)) r c.2 in
        let i = brought n 0 0 at m b.1 in
        subst (NodeIn v n (One at (Set x y))) (ok_eq (one at [] (rules.set c.0.own d.0), m) r d.2)
        (omega arith, λ j h. ((tt, ((stood C v x c.0 h c.1).0, expr_in C l W nought read v y d.0 h d.1)), h))
    simple_in f v n at (Next x) ck r e =
        let b = bound (brings n 0 0 at) (λ m. stands v x >>= (λ b. Ok (one at [] (rules.next b.own b.home), m))) r e in
        let m = b.0 in
        let c = bound (stands v x) (λ b. Ok (one at [] (rules.next b.own b.home), m)) r b.2 in
        let i = brought n 0 0 at m b.1 in
        subst (NodeIn v n (One at (Next x))) (ok_eq (one at [] (rules.next c.0.own c.0.home), m) r c.2)
        (omega arith, λ j h. ((tt, stood C v x c.0 h c.1), h))
    simple_in f v n at (Know x) ck r e =
        let b = bound (brings n 0 0 at) (λ m. stands v x >>= (λ b. Ok (one at [] rules.know, m))) r e in
        let m = b.0 in
        let c = bound (stands v x) (λ b. Ok (one at [] rules.know, m)) r b.2 in
        let i = brought n 0 0 at m b.1 in
        subst (NodeIn v n (One at (Know x))) (ok_eq (one at [] rules.know, m) r c.2) (omega arith, λ j h. ((tt, tt), h))
    simple_in f v n at (Throw x) ck r e =
        let b = bound (brings n 0 0 at) (λ m. Ok (throws at x.text, m)) r e in
        let i = brought n 0 0 at b.0 b.1 in
        subst (NodeIn v n (One at (Throw x))) (ok_eq (throws at x.text, b.0) r b.2) (omega arith, λ j h. (tt, h))
    simple_in f v n at (Call x as') ck r e =
        let b = bound (found NotVisible at (f x.text)) (λ c. passes v c.params as' n.cells >>= (λ p. brings n 0 (length p.news) at >>= (λ m.
        c.body p.env m >>= (λ r. Ok (two at p.news (calls p.copies p.refs) r.0 nil, r.1))))) r e in
        let callee = b.0 in
        let c = bound (passes v callee.params as' n.cells) (λ p. brings n 0 (length p.news) at >>= (λ m.
        callee.body p.env m >>= (λ r. Ok (two at p.news (calls p.copies p.refs) r.0 nil, r.1)))) r b.2 in
        let ps = c.0 in
        let d = bound (brings n 0 (length ps.news) at) (λ m. callee.body ps.env m >>= (λ r. Ok (two at ps.news (calls ps.copies ps.refs) r.0 nil, r.1))) r c.2 in
        let m = d.0 in
        let z = bound (callee.body ps.env m) (λ r. Ok (two at ps.news (calls ps.copies ps.refs) r.0 nil, r.1)) r d.2 in
        let k = ck x.text callee (found_is NotVisible at (f x.text) callee b.1) ps.env m z.0 z.1 in
        let up = k.0 in
        let i = brought n 0 (length ps.news) at m d.1 in
        subst (NodeIn v n (One at (Call x as'))) (ok_eq (two at ps.news (calls ps.copies ps.refs) z.0.0 nil, z.0.1) r z.2) (
          omega arith,
          λ j h.
              let lo : n.cells + length ps.news ≤ N = omega arith in
              let y = passed C N new v callee.params as' n.cells ps h c.1 lo in
              ((y.2, y.1, k.1 j y.0, tt), h),
        )

    mutual
      stm_in : (s : Stm) (f : Callees) (v : Env) (n : Count) → CalleesIn f → (r : Node × Count) → unfold_stm l f v n s ≡ Ok r → NodeIn v n s r
      stm_in (One at s) f v n ck r e = simple_in f v n at s ck r e
      stm_in (Two at h a b) f v n ck r e =
          let b0 = bound (brings n 0 0 at) (λ m. head_part l v h >>= (λ p. unfold_block l f a v m >>= (λ r. unfold_block l f b v r.1 >>= (λ s. Ok (two at [] p r.0 s.0, s.1))))) r e in
          let m = b0.0 in
          let b1 = bound (head_part l v h) (λ p. unfold_block l f a v m >>= (λ r. unfold_block l f b v r.1 >>= (λ s. Ok (two at [] p r.0 s.0, s.1)))) r b0.2 in
          let b2 = bound (unfold_block l f a v m) (λ r. unfold_block l f b v r.1 >>= (λ s. Ok (two at [] b1.0 r.0 s.0, s.1))) r b1.2 in
          let b3 = bound (unfold_block l f b v b2.0.1) (λ s. Ok (two at [] b1.0 b2.0.0 s.0, s.1)) r b2.2 in
          let x = block_in a f v m ck b2.0 b2.1 in
          let y = block_in b f v b2.0.1 ck b3.0 b3.1 in
          let x0 = x.0 in
          let y0 = y.0 in
          let i = brought n 0 0 at m b0.1 in
          subst (NodeIn v n (Two at h a b)) (ok_eq (two at [] b1.0 b2.0.0 b3.0.0, b3.0.1) r b3.2)
          (omega arith, λ j k. let lo : b2.0.1.cells ≤ N = omega arith in ((tt, part_in C l W nought read v h b1.0 k b1.1, x.1 lo k, y.1 j k), k))
      stm_in (Par at bs) f v n ck r e =
          let gs = all_get (λ x. params_of (f x)) v bs n.cells in
          let b0 = bound (brings n (branch_count bs) (length (all_new gs)) at) (λ m. unfold_blocks l f bs gs m >>= (λ r. Ok (par at (all_new gs) r.0, r.1))) r e in
          let m = b0.0 in
          let b1 = bound (unfold_blocks l f bs gs m) (λ r. Ok (par at (all_new gs) r.0, r.1)) r b0.2 in
          let x = blocks_in bs f gs m ck b1.0 b1.1 in
          let up = x.0 in
          let i = brought n (branch_count bs) (length (all_new gs)) at m b0.1 in
          subst (NodeIn v n (Par at bs)) (ok_eq (par at (all_new gs) b1.0.0, b1.0.1) r b1.2) (
            omega arith,
            λ j h.
                let lo : n.cells + length (all_new gs) ≤ N = omega arith in
                let g = all_in C N new (λ x. params_of (f x)) v bs n.cells h lo in
                ((all_new_in C gs g, x.1 j g), h),
          )

      pub block_in : (b : Block) (f : Callees) (v : Env) (n : Count) → CalleesIn f → (r : Nodes × Count) → unfold_block l f b v n ≡ Ok r → BlockIn v n r.0 r.1
      block_in Nil f v n ck r e = subst (λ (r : Nodes × Count). BlockIn v n r.0 r.1) (ok_eq (nil, n) r e) (omega arith, λ j h. tt)
      block_in (Seq s b) f v n ck r e =
          let b0 = bound (unfold_stm l f v n s) (λ r. unfold_block l f b (env_after v n s) r.1 >>= (λ t. Ok (seq r.0 t.0, t.1))) r e in
          let b1 = bound (unfold_block l f b (env_after v n s) b0.0.1) (λ t. Ok (seq b0.0.0 t.0, t.1)) r b0.2 in
          let x = stm_in s f v n ck b0.0 b0.1 in
          let y = block_in b f (env_after v n s) b0.0.1 ck b1.0 b1.1 in
          let x0 = x.0 in
          let y0 = y.0 in
          subst (λ (r : Nodes × Count). BlockIn v n r.0 r.1) (ok_eq (seq b0.0.0 b1.0.0, b1.0.1) r b1.2)
          (omega arith, λ j h. let lo : b0.0.1.cells ≤ N = omega arith in let z = x.1 lo h in (z.0, y.1 j z.1))

      blocks_in : (bs : Blocks) (f : Callees) (gs : List (List Got)) (n : Count) → CalleesIn f → (r : Branches × Count) → unfold_blocks l f bs gs n ≡ Ok r → BranchesIn gs n r.0 r.1
      blocks_in Last f gs n ck r e = subst (λ (r : Branches × Count). BranchesIn gs n r.0 r.1) (ok_eq (last, n) r e) (omega arith, λ j h. tt)
      blocks_in (Also b bs) f [] n ck r e = subst (λ (r : Branches × Count). BranchesIn [] n r.0 r.1) (ok_eq (last, n) r e) (omega arith, λ j h. tt)
      blocks_in (Also b bs) f (g ∷ gs) n ck r e =
          let b0 = bound (unfold_block l f b (got_env g) n) (λ r. unfold_blocks l f bs gs r.1 >>= (λ t. Ok (also g r.0 t.0, t.1))) r e in
          let b1 = bound (unfold_blocks l f bs gs b0.0.1) (λ t. Ok (also g b0.0.0 t.0, t.1)) r b0.2 in
          let x = block_in b f (got_env g) n ck b0.0 b0.1 in
          let y = blocks_in bs f gs b0.0.1 ck b1.0 b1.1 in
          let x0 = x.0 in
          let y0 = y.0 in
          subst (λ (r : Branches × Count). BranchesIn (g ∷ gs) n r.0 r.1) (ok_eq (also g b0.0.0 b1.0.0, b1.0.1) r b1.2)
          (omega arith, λ j h. let lo : b0.0.1.cells ≤ N = omega arith in (h.0, x.1 lo (env_in C g h.0), y.1 j h.1))

    pub callees_in : (ps : List Proc) → CalleesIn (callees l ps)
    callees_in [] x c e v n r i = absurd (let z : ◌≡◌ {A = ℕ} 0 1 = cc in omega arith)
    callees_in (p ∷ ps) x c e v n r i = go (same x p.name.text) (callees_in ps) e
      where
        go : (t : Bool) → CalleesIn (λ y. callees l ps y)
            → ◌≡◌ {A = Option Callee} (elim t [ true ↦ Some (record { params = p.params; body = λ v n. unfold_block l (λ y. callees l ps y) p.body v n }) | false ↦ callees l ps x ]) (Some c)
            → BlockIn v n r.0 r.1
        go true k j =
            let w : ◌≡◌ {A = Callee} (record { params = p.params; body = λ v n. unfold_block l (λ y. callees l ps y) p.body v n }) c = cc in
            block_in p.body (λ y. callees l ps y) v n k r (ap (λ (d : Callee). d.body v n) w ∙ i)
        go false k j = k x c j v n r i
