-- The counts of stage 4 are the sizes of the unfolded text, and keep the limits.
use Rattle.std.proofs.Common.{◌≡◌, ℕ, suc, ◌+◌, ◌≤◌, Bool, true, false, ◌&&◌, leb, List, [], ◌∷◌, length, Some, Ok, Option, refl, ap, ◌∙◌, subst, arith, leb→le, length-append}
use Rattle.lemmas.proofs.Tests.{T_and}
use Rattle.reader.specs.Faults.{◌>>=◌, must}
use Rattle.reader.specs.Tokens.{same, tokenized}
use Rattle.grammar.specs.Trees.{Simple, Var, Set, Call, Next, Know, Throw, Stm, One, Two, Par, Block, Nil, Seq, Blocks, Last, Also, Proc}
use Rattle.grammar.specs.Parsing.{parsed}
use Rattle.names.specs.Naming.{Reading, named}
use Rattle.unfold.specs.Unfolded.{calls, Node, one, throws, two, par, Nodes, nil, seq, Branches, last, also}
use Rattle.unfold.specs.Scopes.{Env, found, stands, resolved}
use Rattle.unfold.specs.Variables.{ParamsOf, uses_block, gets, got_new, got_env, all_get, all_new}
use Rattle.unfold.specs.Unfolding.{branch_count, passes, Count, brings, Callee, Callees, params_of, head_part, unfold_simple, env_after, unfold_stm, unfold_block, unfold_blocks, callees, unfolded}
use Rattle.unfold.specs.Sharing.{sharing}
use Rattle.program.specs.Layout.{Program, laid_out, cells, points, ends}
use Rattle.program.specs.Sizes.{node_size, size, branch_size, node_places, how_many, branch_places}
use Rattle.program.specs.Clearing.{WithinLimits}
use Rattle.program.proofs.Agree.{points_size, placing_size}
use Rattle.program.proofs.Unfolds.{block_ok, callees_ok}
use Rattle.program.proofs.Accept.{cell_in, ends_size}
use Rattle.reader.specs.declared.fault.Cause.TheVariants.{NotVisible, OverLimit}
use Rattle.rules.specs.Programs as rules
use Rattle.program.proofs.Results.{bound, must_be, ok_eq, found_is}

abbrev pub Fits : Count → Type 0
Fits n = (n.statements ≤ 1024) × (n.places ≤ 64) × (n.cells ≤ 128)

brought : (n : Count) (p c at : ℕ) (m : Count) → brings n p c at ≡ Ok m → (m.statements ≡ suc n.statements) × (m.places ≡ n.places + p) × Fits m
brought n p c at m e =
    let r : Count = record { statements = suc n.statements; places = n.places + p; cells = n.cells + c } in
    let b = bound (must (leb r.statements 1024 && (leb r.places 64 && leb r.cells 128)) OverLimit at) (λ u. Ok r) m e in
    let i = ok_eq r m b.2 in
    let h = must_be (leb r.statements 1024 && (leb r.places 64 && leb r.cells 128)) OverLimit at b.0 b.1 in
    let x = T_and (leb r.statements 1024) (leb r.places 64 && leb r.cells 128) h in
    let y = T_and (leb r.places 64) (leb r.cells 128) x.1 in
    subst (λ (m : Count). (m.statements ≡ suc n.statements) × (m.places ≡ n.places + p) × Fits m) i
    (refl, refl, (leb→le r.statements 1024 x.0, leb→le r.places 64 y.0, leb→le r.cells 128 y.1))

abbrev pub Counted : Count → ℕ → ℕ → Count → Type 0
Counted n s p m = (n.statements + s ≡ m.statements) × (n.places + p ≡ m.places) × (Fits n → Fits m)

abbrev pub CalleesCount : Callees → Type 0
CalleesCount f = (x : List ℕ) (c : Callee) → f x ≡ Some c → (v : Env) (n : Count) (r : Nodes × Count) → c.body v n ≡ Ok r → Counted n (size r.0) (how_many r.0) r.1

abbrev NodeR : Count → Node × Count → Type 0
NodeR n r = Counted n (node_size r.0) (node_places r.0) r.1

simple_count : (l : Reading) (f : Callees) (v : Env) (n : Count) (at : ℕ) (s : Simple) → CalleesCount f → (r : Node × Count) → unfold_simple l f v n at s ≡ Ok r → NodeR n r
simple_count l f v n at (Var x) ck r e =
    let node = one at (record { home = n.cells; name = x } ∷ []) (rules.var n.cells) in
    let b = bound (brings n 0 1 at) (λ m. Ok (node, m)) r e in
    let i = brought n 0 1 at b.0 b.1 in
    subst (NodeR n) (ok_eq (node, b.0) r b.2) (omega arith, omega arith, λ h. i.2)
simple_count l f v n at (Set x y) ck r e =
    let b = bound (brings n 0 0 at) (λ m. stands v x >>= (λ b. resolved l v y >>= (λ a. Ok (one at [] (rules.set b.own a), m)))) r e in
    let m = b.0 in
    let c = bound (stands v x) (λ b. resolved l v y >>= (λ a. Ok (one at [] (rules.set b.own a), m))) r b.2 in
    let d = bound (resolved l v y) (λ a. Ok (one at [] (rules.set c.0.own a), m)) r c.2 in
    let i = brought n 0 0 at m b.1 in
    subst (NodeR n) (ok_eq (one at [] (rules.set c.0.own d.0), m) r d.2) (omega arith, omega arith, λ h. i.2)
simple_count l f v n at (Next x) ck r e =
    let b = bound (brings n 0 0 at) (λ m. stands v x >>= (λ b. Ok (one at [] (rules.next b.own b.home), m))) r e in
    let m = b.0 in
    let c = bound (stands v x) (λ b. Ok (one at [] (rules.next b.own b.home), m)) r b.2 in
    let i = brought n 0 0 at m b.1 in
    subst (NodeR n) (ok_eq (one at [] (rules.next c.0.own c.0.home), m) r c.2) (omega arith, omega arith, λ h. i.2)
simple_count l f v n at (Know x) ck r e =
    let b = bound (brings n 0 0 at) (λ m. stands v x >>= (λ b. Ok (one at [] rules.know, m))) r e in
    let m = b.0 in
    let c = bound (stands v x) (λ b. Ok (one at [] rules.know, m)) r b.2 in
    let i = brought n 0 0 at m b.1 in
    subst (NodeR n) (ok_eq (one at [] rules.know, m) r c.2) (omega arith, omega arith, λ h. i.2)
simple_count l f v n at (Throw x) ck r e =
    let b = bound (brings n 0 0 at) (λ m. Ok (throws at x.text, m)) r e in
    let i = brought n 0 0 at b.0 b.1 in
    subst (NodeR n) (ok_eq (throws at x.text, b.0) r b.2) (omega arith, omega arith, λ h. i.2)
simple_count l f v n at (Call x as') ck r e =
    let b = bound (found NotVisible at (f x.text)) (λ c. passes v c.params as' n.cells >>= (λ p. brings n 0 (length p.news) at >>= (λ m.
    c.body p.env m >>= (λ r. Ok (two at p.news (calls p.copies p.refs) r.0 nil, r.1))))) r e in
    let callee = b.0 in
    let c = bound (passes v callee.params as' n.cells) (λ p. brings n 0 (length p.news) at >>= (λ m.
    callee.body p.env m >>= (λ r. Ok (two at p.news (calls p.copies p.refs) r.0 nil, r.1)))) r b.2 in
    let ps = c.0 in
    let d = bound (brings n 0 (length ps.news) at) (λ m. callee.body ps.env m >>= (λ r. Ok (two at ps.news (calls ps.copies ps.refs) r.0 nil, r.1))) r c.2 in
    let m = d.0 in
    let z = bound (callee.body ps.env m) (λ r. Ok (two at ps.news (calls ps.copies ps.refs) r.0 nil, r.1)) r d.2 in
    let k = ck x.text callee (found_is NotVisible at (f x.text) callee b.1) ps.env m z.0 z.1 in
    let i = brought n 0 (length ps.news) at m d.1 in
    subst (NodeR n) (ok_eq (two at ps.news (calls ps.copies ps.refs) z.0.0 nil, z.0.1) r z.2) (omega arith, omega arith, λ h. k.2 i.2)

mutual
  stm_count : (s : Stm) (l : Reading) (f : Callees) (v : Env) (n : Count) → CalleesCount f → (r : Node × Count) → unfold_stm l f v n s ≡ Ok r → NodeR n r
  stm_count (One at s) l f v n ck r e = simple_count l f v n at s ck r e
  stm_count (Two at h a b) l f v n ck r e =
      let b0 = bound (brings n 0 0 at) (λ m. head_part l v h >>= (λ p. unfold_block l f a v m >>= (λ r. unfold_block l f b v r.1 >>= (λ s. Ok (two at [] p r.0 s.0, s.1))))) r e in
      let m = b0.0 in
      let b1 = bound (head_part l v h) (λ p. unfold_block l f a v m >>= (λ r. unfold_block l f b v r.1 >>= (λ s. Ok (two at [] p r.0 s.0, s.1)))) r b0.2 in
      let b2 = bound (unfold_block l f a v m) (λ r. unfold_block l f b v r.1 >>= (λ s. Ok (two at [] b1.0 r.0 s.0, s.1))) r b1.2 in
      let b3 = bound (unfold_block l f b v b2.0.1) (λ s. Ok (two at [] b1.0 b2.0.0 s.0, s.1)) r b2.2 in
      let x = block_count a l f v m ck b2.0 b2.1 in
      let y = block_count b l f v b2.0.1 ck b3.0 b3.1 in
      let i = brought n 0 0 at m b0.1 in
      subst (NodeR n) (ok_eq (two at [] b1.0 b2.0.0 b3.0.0, b3.0.1) r b3.2) (omega arith, omega arith, λ h. y.2 (x.2 i.2))
  stm_count (Par at bs) l f v n ck r e =
      let g : ParamsOf = λ x. params_of (f x) in
      let gs = all_get g v bs n.cells in
      let b0 = bound (brings n (branch_count bs) (length (all_new gs)) at) (λ m. unfold_blocks l f bs gs m >>= (λ r. Ok (par at (all_new gs) r.0, r.1))) r e in
      let m = b0.0 in
      let b1 = bound (unfold_blocks l f bs gs m) (λ r. Ok (par at (all_new gs) r.0, r.1)) r b0.2 in
      let x = blocks_count bs l f g v n.cells m ck b1.0 b1.1 in
      let i = brought n (branch_count bs) (length (all_new gs)) at m b0.1 in
      subst (NodeR n) (ok_eq (par at (all_new gs) b1.0.0, b1.0.1) r b1.2) (omega arith, omega arith, λ h. x.2 i.2)

  pub block_count : (b : Block) (l : Reading) (f : Callees) (v : Env) (n : Count) → CalleesCount f → (r : Nodes × Count) → unfold_block l f b v n ≡ Ok r → Counted n (size r.0) (how_many r.0) r.1
  block_count Nil l f v n ck r e =
      subst (λ (r : Nodes × Count). Counted n (size r.0) (how_many r.0) r.1) (ok_eq (nil, n) r e) (omega arith, omega arith, λ h. h)
  block_count (Seq s b) l f v n ck r e =
      let b0 = bound (unfold_stm l f v n s) (λ r. unfold_block l f b (env_after v n s) r.1 >>= (λ t. Ok (seq r.0 t.0, t.1))) r e in
      let b1 = bound (unfold_block l f b (env_after v n s) b0.0.1) (λ t. Ok (seq b0.0.0 t.0, t.1)) r b0.2 in
      let x = stm_count s l f v n ck b0.0 b0.1 in
      let y = block_count b l f (env_after v n s) b0.0.1 ck b1.0 b1.1 in
      subst (λ (r : Nodes × Count). Counted n (size r.0) (how_many r.0) r.1) (ok_eq (seq b0.0.0 b1.0.0, b1.0.1) r b1.2) (omega arith, omega arith, λ h. y.2 (x.2 h))

  blocks_count : (bs : Blocks) (l : Reading) (f : Callees) (g : ParamsOf) (v : Env) (c : ℕ) (n : Count) → CalleesCount f → (r : Branches × Count) → unfold_blocks l f bs (all_get g v bs c) n ≡ Ok r
      → (n.statements + branch_size r.0 ≡ r.1.statements) × (n.places + branch_places r.0 ≡ r.1.places + branch_count bs) × (Fits n → Fits r.1)
  blocks_count Last l f g v c n ck r e =
      subst (λ (r : Branches × Count). (n.statements + branch_size r.0 ≡ r.1.statements) × (n.places + branch_places r.0 ≡ r.1.places + 0) × (Fits n → Fits r.1))
      (ok_eq (last, n) r e) (omega arith, omega arith, λ h. h)
  blocks_count (Also a bs) l f g v c n ck r e =
      let us = uses_block g a in
      let x = gets v us us [] c in
      let d = c + length (got_new x) in
      let b0 = bound (unfold_block l f a (got_env x) n) (λ r. unfold_blocks l f bs (all_get g v bs d) r.1 >>= (λ t. Ok (also x r.0 t.0, t.1))) r e in
      let b1 = bound (unfold_blocks l f bs (all_get g v bs d) b0.0.1) (λ t. Ok (also x b0.0.0 t.0, t.1)) r b0.2 in
      let y = block_count a l f (got_env x) n ck b0.0 b0.1 in
      let z = blocks_count bs l f g v d b0.0.1 ck b1.0 b1.1 in
      subst (λ (r : Branches × Count). (n.statements + branch_size r.0 ≡ r.1.statements) × (n.places + branch_places r.0 ≡ r.1.places + suc (branch_count bs)) × (Fits n → Fits r.1))
      (ok_eq (also x b0.0.0 b1.0.0, b1.0.1) r b1.2) (omega arith, omega arith, λ h. z.2 (y.2 h))

pub callees_count : (l : Reading) (ps : List Proc) → CalleesCount (callees l ps)
callees_count l [] x c e v n r i = absurd (let z : ◌≡◌ {A = ℕ} 0 1 = cc in omega arith)
callees_count l (p ∷ ps) x c e v n r i = go (same x p.name.text) (callees_count l ps) e
  where
    go : (t : Bool) → CalleesCount (λ y. callees l ps y)
        → ◌≡◌ {A = Option Callee} (elim t [ true ↦ Some (record { params = p.params; body = λ v n. unfold_block l (λ y. callees l ps y) p.body v n }) | false ↦ callees l ps x ]) (Some c)
        → Counted n (size r.0) (how_many r.0) r.1
    go true k j =
        let w : ◌≡◌ {A = Callee} (record { params = p.params; body = λ v n. unfold_block l (λ y. callees l ps y) p.body v n }) c = cc in
        block_count p.body l (λ y. callees l ps y) v n k r (ap (λ (d : Callee). d.body v n) w ∙ i)
    go false k j = k x c j v n r i

laid : (us : Nodes) (m : Count) → m.statements ≡ size us → m.places ≡ suc (how_many us) → m.cells ≡ length (cells 0 us 1) → Fits m
    → (length (laid_out us).places ≤ 64) × (length (laid_out us).cells ≤ 128) × (length (laid_out us).points ≤ 1024 + length (laid_out us).places)
laid us m a b c f =
    let e = size us in
    let i = placing_size e 0 us 1 0 in
    let j = points_size e 0 [] [] us 1 0 e in
    let k = ends_size e 0 (suc (how_many us)) in
    let w = length-append (points e 0 [] [] us 1 0 e) (ends e 0 (suc (how_many us))) in
    let x = f.0 in
    let y = f.1 in
    let z = f.2 in
    (omega arith, omega arith, omega arith)

pub within_limits : WithinLimits
within_limits l bs p i =
    let start : Count = record { statements = 0; places = 1; cells = 0 } in
    let a = bound (tokenized bs) (λ ts. parsed ts >>= (λ t. named l t >>= (λ ps. unfolded l ps t.main >>= (λ us. sharing [] us >>= (λ u. Ok (laid_out us)))))) p i in
    let b = bound (parsed a.0) (λ t. named l t >>= (λ ps. unfolded l ps t.main >>= (λ us. sharing [] us >>= (λ u. Ok (laid_out us))))) p a.2 in
    let c = bound (named l b.0) (λ ps. unfolded l ps b.0.main >>= (λ us. sharing [] us >>= (λ u. Ok (laid_out us)))) p b.2 in
    let d = bound (unfolded l c.0 b.0.main) (λ us. sharing [] us >>= (λ u. Ok (laid_out us))) p c.2 in
    let f = bound (sharing [] d.0) (λ u. Ok (laid_out d.0)) p d.2 in
    let k = bound (unfold_block l (callees l c.0) b.0.main [] start) (λ r. Ok r.0) d.0 d.1 in
    let same_us = ok_eq k.0.0 d.0 k.2 in
    let us = k.0.0 in
    let n = block_count b.0.main l (callees l c.0) [] start (callees_count l c.0) k.0 k.1 in
    let s = (block_ok (cell_in us) b.0.main l (callees l c.0) [] start (callees_ok (cell_in us) l c.0) k.0 k.1).0 0 1 in
    subst (λ (q : Program). (length q.places ≤ 64) × (length q.cells ≤ 128) × (length q.points ≤ 1024 + length q.places))
    (ap laid_out same_us ∙ ok_eq (laid_out d.0) p f.2)
    (laid us k.0.1 (omega arith) (omega arith) (omega arith) (n.2 (omega arith, omega arith, omega arith)))
