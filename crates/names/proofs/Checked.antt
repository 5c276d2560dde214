-- The stage as a walk over the sites.
use Rattle.std.proofs.Common.{◌≡◌, ℕ, Bool, true, not, eqb, List, [], ◌∷◌, ◌++◌, length, is_some, Some, None, Ok, Err, Option, sym, refl, ap, ◌∙◌}
use Rattle.reader.specs.Faults.{Answer, ◌>>=◌, must, refuse}
use Rattle.reader.specs.Tokens.{among}
use Rattle.reader.specs.declared.fault.Cause.{Cause}
use Rattle.reader.specs.declared.fault.Cause.TheVariants.{NotVisible, ArgumentCount}
use Rattle.grammar.specs.Trees.{
  Name,
  Exp,
  Use,
  Number,
  Negated,
  Both,
  Simple,
  Var,
  Set,
  Call,
  Next,
  Know,
  Throw,
  Head,
  Plain,
  If,
  While,
  Try,
  Take,
  Stm,
  One,
  Two,
  Par,
  Block,
  Nil,
  Seq,
  Blocks,
  Last,
  Also,
  Param,
  Proc,
  Tree,
}
use Rattle.names.specs.Naming.{
  Reading,
  Scope,
  is_port,
  find_proc,
  all_visible,
  declared,
  names_exp,
  names_call,
  names_simple,
  names_head,
  names_stm,
  names_block,
  names_blocks,
  names_params,
  names_proc,
  names_procs,
  named,
}
use Rattle.names.specs.Sites.{
  Site,
  uses,
  declares,
  calls,
  gives,
  defines,
  writes,
  takes,
  sites_exp,
  sites_arguments,
  sites_simple,
  sites_head,
  sites_stm,
  sites_block,
  sites_blocks,
  sites_params,
  with_params,
  with_procs,
  sites_proc,
  sites_procs,
  sites,
  fault_at,
}

-- as many parameters as arguments, where there is such a procedure
abbrev pub fits : ℕ → Option Proc → Bool
fits k None = true
fits k (Some p) = eqb (length p.params) k

abbrev pub test : Reading → Site → Bool
test l (uses v n) = among n.text v
test l (declares v n) = not (among n.text v)
test l (calls ps n) = is_some (find_proc ps n.text)
test l (gives ps n k) = fits k (find_proc ps n.text)
test l (defines ps n) = not (is_some (find_proc ps n.text))
test l (writes n) = is_some (l n.text)
test l (takes n) = is_port n.text

abbrev pub held : Reading → Site → Answer (Unit {0})
held l s = must (test l s) (fault_at s).cause (fault_at s).offset

abbrev pub checked : Reading → List Site → Answer (Unit {0})
checked l [] = Ok tt
checked l (s ∷ ss) = held l s >>= (λ u. checked l ss)

-- ---- results

then_ok : (r : Answer (Unit {0})) → r ≡ (r >>= (λ u. Ok tt))
then_ok (Ok u) = refl
then_ok (Err f) = refl

assoc : {A B C : Type 0} (r : Answer A) (f : A → Answer B) (g : B → Answer C) → ((r >>= f) >>= g) ≡ (r >>= (λ x. f x >>= g))
assoc (Ok a) f g = refl
assoc (Err e) f g = refl

under : {A B : Type 0} (r : Answer A) (f g : A → Answer B) → ((a : A) → f a ≡ g a) → (r >>= f) ≡ (r >>= g)
under (Ok a) f g h = h a
under (Err e) f g h = refl

pub both : (l : Reading) (xs ys : List Site) → checked l (xs ++ ys) ≡ (checked l xs >>= (λ u. checked l ys))
both l [] ys = refl
both l (x ∷ xs) ys = under (held l x) (λ u. checked l (xs ++ ys)) (λ u. checked l xs >>= (λ w. checked l ys)) (λ u. both l xs ys) ∙ sym (assoc (held l x) (λ u. checked l xs) (λ w. checked l ys))

-- two walks, one after the other
joined : (l : Reading) (xs ys : List Site) (r : Answer (Unit {0})) (s : Answer (Unit {0})) → r ≡ checked l xs → s ≡ checked l ys → (r >>= (λ u. s)) ≡ checked l (xs ++ ys)
joined l xs ys r s e i =
    ap (λ (z : Answer (Unit {0})). z >>= (λ u. s)) e ∙ ap (λ (z : Answer (Unit {0})). checked l xs >>= (λ u. z)) i ∙ sym (both l xs ys)

-- ---- the parts of a text

pub exp_is : (l : Reading) (v : Scope) (e : Exp) → names_exp l v e ≡ checked l (sites_exp v e)
exp_is l v (Use n) = then_ok (held l (uses v n))
exp_is l v (Number n) = then_ok (held l (writes n))
exp_is l v (Negated e) = exp_is l v e
exp_is l v (Both o e f) = joined l (sites_exp v e) (sites_exp v f) (names_exp l v e) (names_exp l v f) (exp_is l v e) (exp_is l v f)

pub arguments_is : (l : Reading) (v : Scope) (ns : List Name) → all_visible v ns ≡ checked l (sites_arguments v ns)
arguments_is l v [] = refl
arguments_is l v (n ∷ ns) = ap (λ (z : Answer (Unit {0})). held l (uses v n) >>= (λ u. z)) (arguments_is l v ns)

-- a call of what its name stands for
call_is : (l : Reading) (v : Scope) (o : Option Proc) (n : Name) (as' : List Name) (c : Cause) (r : Answer (Unit {0}))
    → all_visible v as' ≡ r → c ≡ NotVisible
    → names_call v o n as' ≡ (must (is_some o) c n.at >>= (λ u. must (fits (length as') o) ArgumentCount n.at >>= (λ w. r)))
call_is l v None n as' c r e i = ap (λ (d : Cause). refuse d n.at) (sym i)
call_is l v (Some p) n as' c r e i = ap (λ (z : Answer (Unit {0})). must (eqb (length p.params) (length as')) ArgumentCount n.at >>= (λ u. z)) e

pub simple_is : (l : Reading) (ps : List Proc) (v : Scope) (s : Simple) → names_simple l ps v s ≡ checked l (sites_simple ps v s)
simple_is l ps v (Var n) = then_ok (held l (declares v n))
simple_is l ps v (Set n e) = ap (λ (z : Answer (Unit {0})). held l (uses v n) >>= (λ u. z)) (exp_is l v e)
simple_is l ps v (Call n as') = call_is l v (find_proc ps n.text) n as' _ (checked l (sites_arguments v as')) (arguments_is l v as') refl
simple_is l ps v (Next n) = then_ok (held l (uses v n))
simple_is l ps v (Know n) = then_ok (held l (uses v n))
simple_is l ps v (Throw n) = refl

pub head_is : (l : Reading) (v : Scope) (h : Head) → names_head l v h ≡ checked l (sites_head v h)
head_is l v Plain = refl
head_is l v (If e) = exp_is l v e
head_is l v (While e) = exp_is l v e
head_is l v (Try n) = refl
head_is l v (Take i n) = ap (λ (z : Answer (Unit {0})). held l (takes i) >>= (λ u. z)) (then_ok (held l (uses v n)))

mutual
  pub stm_is : (l : Reading) (ps : List Proc) (v : Scope) (s : Stm) → names_stm l ps v s ≡ checked l (sites_stm ps v s)
  stm_is l ps v (One at s) = simple_is l ps v s
  stm_is l ps v (Two at h a b) =
      joined l (sites_head v h) (sites_block ps v a ++ sites_block ps v b) (names_head l v h) (names_block l ps v a >>= (λ w. names_block l ps v b)) (head_is l v h)
      (joined l (sites_block ps v a) (sites_block ps v b) (names_block l ps v a) (names_block l ps v b) (block_is l ps v a) (block_is l ps v b))
  stm_is l ps v (Par at bs) = blocks_is l ps v bs

  pub block_is : (l : Reading) (ps : List Proc) (v : Scope) (b : Block) → names_block l ps v b ≡ checked l (sites_block ps v b)
  block_is l ps v Nil = refl
  block_is l ps v (Seq s b) =
      joined l (sites_stm ps v s) (sites_block ps (declared v s) b) (names_stm l ps v s) (names_block l ps (declared v s) b) (stm_is l ps v s) (block_is l ps (declared v s) b)

  pub blocks_is : (l : Reading) (ps : List Proc) (v : Scope) (bs : Blocks) → names_blocks l ps v bs ≡ checked l (sites_blocks ps v bs)
  blocks_is l ps v Last = refl
  blocks_is l ps v (Also a bs) =
      joined l (sites_block ps v a) (sites_blocks ps v bs) (names_block l ps v a) (names_blocks l ps v bs) (block_is l ps v a) (blocks_is l ps v bs)

pub params_is : (l : Reading) (v : Scope) (ps : List Param) → names_params v ps ≡ (checked l (sites_params v ps) >>= (λ u. Ok (with_params v ps)))
params_is l v [] = refl
params_is l v (p ∷ ps) =
    ap (λ (z : Answer Scope). held l (declares v p.name) >>= (λ u. z)) (params_is l (p.name.text ∷ v) ps)
    ∙ sym (assoc (held l (declares v p.name)) (λ u. checked l (sites_params (p.name.text ∷ v) ps)) (λ u. Ok (with_params v (p ∷ ps))))

pub proc_is : (l : Reading) (ended : List Proc) (p : Proc) → names_proc l ended p ≡ checked l (sites_proc ended p)
proc_is l ended p =
    let v = with_params [] p.params in
    ap (λ (z : Answer (Unit {0})). held l (defines ended p.name) >>= (λ u. z))
    (ap (λ (z : Answer Scope). z >>= (λ w. names_block l ended w p.body)) (params_is l [] p.params)
    ∙ assoc (checked l (sites_params [] p.params)) (λ u. Ok v) (λ w. names_block l ended w p.body)
    ∙ joined l (sites_params [] p.params) (sites_block ended v p.body) (checked l (sites_params [] p.params)) (names_block l ended v p.body) refl (block_is l ended v p.body))

pub procs_is : (l : Reading) (ended ps : List Proc) → names_procs l ended ps ≡ (checked l (sites_procs ended ps) >>= (λ u. Ok (with_procs ended ps)))
procs_is l ended [] = refl
procs_is l ended (p ∷ ps) =
    ap (λ (z : Answer (Unit {0})). z >>= (λ u. names_procs l (p ∷ ended) ps)) (proc_is l ended p)
    ∙ ap (λ (z : Answer (List Proc)). checked l (sites_proc ended p) >>= (λ u. z)) (procs_is l (p ∷ ended) ps)
    ∙ sym (assoc (checked l (sites_proc ended p)) (λ u. checked l (sites_procs (p ∷ ended) ps)) (λ u. Ok (with_procs ended (p ∷ ps))))
    ∙ ap (λ (z : Answer (Unit {0})). z >>= (λ u. Ok (with_procs ended (p ∷ ps)))) (sym (both l (sites_proc ended p) (sites_procs (p ∷ ended) ps)))

pub named_is : (l : Reading) (t : Tree) → named l t ≡ (checked l (sites t) >>= (λ u. Ok (with_procs [] t.procs)))
named_is l t =
    let ps = with_procs [] t.procs in
    let c = checked l (sites_procs [] t.procs) in
    ap (λ (z : Answer (List Proc)). z >>= (λ qs. names_block l qs [] t.main >>= (λ u. Ok qs))) (procs_is l [] t.procs)
    ∙ assoc c (λ u. Ok ps) (λ qs. names_block l qs [] t.main >>= (λ u. Ok qs))
    ∙ ap (λ (z : Answer (Unit {0})). c >>= (λ u. z >>= (λ w. Ok ps))) (block_is l ps [] t.main)
    ∙ sym (assoc c (λ u. checked l (sites_block ps [] t.main)) (λ u. Ok ps))
    ∙ ap (λ (z : Answer (Unit {0})). z >>= (λ u. Ok ps)) (sym (both l (sites_procs [] t.procs) (sites_block ps [] t.main)))
