-- A text that is refused can be completed before the refused token.
use Rattle.std.proofs.Common.{◌≡◌, ℕ, zero, suc, ◌<◌, ◌≤◌, Bool, true, false, List, [], ◌∷◌, ◌++◌, length, Ok, Err, codes, sym, refl, ap, ◌∙◌, subst, append_assoc, arith, length-append}
use Rattle.lemmas.proofs.Tests.{T_at}
use Rattle.reader.specs.Tokens.{finish}
use Rattle.reader.specs.Faults.{Answer, ◌>>=◌}
use Rattle.grammar.specs.Trees.{Name, Block, Param, Proc, Tree}
use Rattle.grammar.specs.Parsers.{Tokens, here, rest, if_so, is, is_finish, bad, eat, a_name}
use Rattle.grammar.specs.Parsing as G
use Rattle.grammar.specs.Parsing.{in_parens, block, more_params, parameters, procedures, finished, parsed}
use Rattle.grammar.specs.Language as L
use Rattle.grammar.specs.Language.{
  sign,
  name_token,
  NameIs,
  name_is,
  BlockIs,
  ParamIs,
  p_value,
  p_reference,
  MoreParams,
  last_param,
  next_param,
  Parameters,
  no_param,
  ProcsWithin,
  no_proc,
  Ends,
  at_end,
  ProgramWithin,
  program,
  RefusedBegun,
}
use Rattle.grammar.proofs.Levels.{sign_is}
use Rattle.grammar.proofs.Fine.{Reading, Fine, Good, Some, after, weaken, ok_fine, Then, then_is, Mapped, mapped, then_some, mapped_some, then_fine, mapped_fine, any_name, name_fine}
use Rattle.grammar.proofs.Begun.{Within, parens_some, parens_fine}
use Rattle.grammar.proofs.Completion.{block_some, blocks_fine}

-- ---- parameters

abbrev by : Bool → Name → Param
by r n = record { reference = r; name = n }

param_some : Some (λ q. ParamIs q)
param_some = (name_token any_name ∷ [], by false any_name, λ k. p_value any_name)

param_fine : Good G.a_param (λ q. ParamIs q)
param_fine ts = go (is (codes "&") ts) refl
  where
    value_is : (q : Param) (t v : Tokens) → Mapped (by false) NameIs q t v → ParamIs q t v
    value_is q t v (mapped {a = n} name_is) = p_value n

    reference_is : (at : ℕ) (q : Param) (t v : Tokens) → Mapped (by true) NameIs q t v → ParamIs q (sign (codes "&") at ∷ t) v
    reference_is at q t v (mapped {a = n} name_is) = p_reference at n

    go : (b : Bool) → is (codes "&") ts ≡ b → Fine (λ q. ParamIs q) ts (if_so b (λ u. a_name (rest ts) >>= (λ r. Ok (by true r.0, r.1))) (λ u. a_name ts >>= (λ r. Ok (by false r.0, r.1))))
    go true e =
        after (Mapped (by true) NameIs) (λ q. ParamIs q) ts (sign (codes "&") (here ts).at ∷ []) (rest ts) (a_name (rest ts) >>= (λ r. Ok (by true r.0, r.1))) (sign_is (codes "&") ts (T_at (sym e) tt))
        (reference_is (here ts).at) (mapped_fine NameIs (by true) (a_name (rest ts)) (rest ts) (name_fine (rest ts)))
    go false e = weaken (Mapped (by false) NameIs) (λ q. ParamIs q) ts (a_name ts >>= (λ r. Ok (by false r.0, r.1))) value_is (mapped_fine NameIs (by false) (a_name ts) ts (name_fine ts))

abbrev More : ℕ → Reading (List Param)
More n = Then (λ q. ParamIs q) (λ q. Mapped (λ ps. q ∷ ps) (MoreParams n))

more_fine : (n : ℕ) (ts : Tokens) → Good (more_params n) (MoreParams n) → Fine (More n) ts (G.a_param ts >>= (λ r. more_params n r.1 >>= (λ s. Ok (r.0 ∷ s.0, s.1))))
more_fine n ts rec =
    then_fine (λ q. ParamIs q) (λ q. Mapped (λ ps. q ∷ ps) (MoreParams n)) (G.a_param ts) (λ q u. more_params n u >>= (λ s. Ok (q ∷ s.0, s.1))) ts
    (λ q. mapped_some (λ ps. q ∷ ps) (MoreParams n) ([], [], λ k. last_param n)) (param_fine ts) (λ x e. mapped_fine (MoreParams n) (λ ps. x.0 ∷ ps) (more_params n x.1) x.1 (rec x.1))

more_params_fine : (n : ℕ) → Good (more_params n) (MoreParams n)
more_params_fine zero ts = ok_fine [] (MoreParams zero) ts (λ k. last_param zero)
more_params_fine (suc n) ts = go (is (codes ",") ts) refl (more_params_fine n)
  where
    shut : (at : ℕ) (b : List Param) (t v : Tokens) → More n b t v → MoreParams (suc n) b (sign (codes ",") at ∷ t) v
    shut at b t v (then_is h (mapped i)) = next_param n at h i

    go : (b : Bool) → is (codes ",") ts ≡ b → Good (more_params n) (MoreParams n)
        → Fine (MoreParams (suc n)) ts (if_so b (λ u. G.a_param (rest ts) >>= (λ r. more_params n r.1 >>= (λ s. Ok (r.0 ∷ s.0, s.1)))) (λ u. Ok ([], ts)))
    go true e rec =
        after (More n) (MoreParams (suc n)) ts (sign (codes ",") (here ts).at ∷ []) (rest ts) (G.a_param (rest ts) >>= (λ r. more_params n r.1 >>= (λ s. Ok (r.0 ∷ s.0, s.1))))
        (sign_is (codes ",") ts (T_at (sym e) tt)) (shut (here ts).at) (more_fine n (rest ts) rec)
    go false e rec = ok_fine [] (MoreParams (suc n)) ts (λ k. last_param (suc n))

parameters_fine : Good parameters (λ ps. Parameters ps)
parameters_fine ts = go (is (codes ")") ts)
  where
    shut : (b : List Param) (t v : Tokens) → More 7 b t v → Parameters b t v
    shut b t v (then_is h (mapped i)) = L.a_param h i

    go : (b : Bool) → Fine (λ ps. Parameters ps) ts (if_so b (λ u. Ok ([], ts)) (λ u. G.a_param ts >>= (λ r. more_params 7 r.1 >>= (λ s. Ok (r.0 ∷ s.0, s.1)))))
    go true = ok_fine [] (λ ps. Parameters ps) ts (λ k. no_param)
    go false = weaken (More 7) (λ ps. Parameters ps) ts (G.a_param ts >>= (λ r. more_params 7 r.1 >>= (λ s. Ok (r.0 ∷ s.0, s.1)))) shut (more_fine 7 ts (more_params_fine 7))

-- ---- procedures

abbrev ListingOf : Reading (List Param)
ListingOf = Within 16 (λ n ps. Parameters ps)

listed_some : Some ListingOf
listed_some = parens_some 16 (λ n ps. Parameters ps) (λ n. ([], [], λ k. no_param))

listed_fine : Good (in_parens 16 (λ n. parameters)) ListingOf
listed_fine = parens_fine 16 (λ n. parameters) (λ n ps. Parameters ps) (λ n. ([], [], λ k. no_param)) (λ n. parameters_fine)

abbrev proc_of : Name → List Param → Block → Proc
proc_of n ps b = record { name = n; params = ps; body = b }

abbrev Listing : Name → Reading Proc
Listing n = Then ListingOf (λ ps. Mapped (proc_of n ps) (BlockIs 17))

abbrev ProcBody : Reading Proc
ProcBody = Then NameIs Listing

proc_fine : Good G.a_proc ProcBody
proc_fine ts =
    then_fine NameIs Listing (a_name ts) (λ n u. in_parens 16 (λ k. parameters) u >>= (λ ps. block 16 ps.1 >>= (λ b. Ok (proc_of n ps.0 b.0, b.1)))) ts
    (λ n. then_some ListingOf (λ ps. Mapped (proc_of n ps) (BlockIs 17)) listed_some (λ ps. mapped_some (proc_of n ps) (BlockIs 17) (block_some 16))) (name_fine ts)
    (λ x e.
    then_fine ListingOf (λ ps. Mapped (proc_of x.0 ps) (BlockIs 17)) (in_parens 16 (λ k. parameters) x.1) (λ ps u. block 16 u >>= (λ b. Ok (proc_of x.0 ps b.0, b.1))) x.1
    (λ ps. mapped_some (proc_of x.0 ps) (BlockIs 17) (block_some 16)) (listed_fine x.1) (λ y r. mapped_fine (BlockIs 17) (proc_of x.0 y.0) (block 16 y.1) y.1 ((blocks_fine 16).0 y.1)))

no_longer : {A : Type 0} (R : Reading A) (ts : Tokens) (m : Answer (A × Tokens)) → Fine R ts m → (x : A × Tokens) → m ≡ Ok x → length x.1 ≤ length ts
no_longer {A} R ts (Ok y) o x e =
    let q : x ≡ y = cc in
    let a = ap (λ (z : Tokens). length z) o.1 in
    let b = length-append o.0 y.1 in
    subst (λ (z : A × Tokens). length z.1 ≤ length ts) (sym q) (omega arith)
no_longer R ts (Err y) o x e = absurd (let z : ◌≡◌ {A = ℕ} 0 1 = cc in omega arith)

procedures_fine : (n : ℕ) (ts : Tokens) → length ts < n → Fine (ProcsWithin 17) ts (procedures n ts)
procedures_fine zero ts l = absurd (omega arith)
procedures_fine (suc n) ts l = go (is (codes "proc") ts) refl (procedures_fine n)
  where
    shut : (at : ℕ) (b : List Proc) (t v : Tokens) → Then ProcBody (λ q. Mapped (λ qs. q ∷ qs) (ProcsWithin 17)) b t v → ProcsWithin 17 b (sign (codes "proc") at ∷ t) v
    shut at b t v (then_is (then_is {a = n} name_is (then_is h (mapped i))) (mapped j)) = L.a_proc at n h i j

    go : (b : Bool) → is (codes "proc") ts ≡ b → ((u : Tokens) → length u < n → Fine (ProcsWithin 17) u (procedures n u))
        → Fine (ProcsWithin 17) ts (if_so b (λ u. G.a_proc (rest ts) >>= (λ p. procedures n p.1 >>= (λ ps. Ok (p.0 ∷ ps.0, ps.1)))) (λ u. Ok ([], ts)))
    go true e rec =
        let h = sign_is (codes "proc") ts (T_at (sym e) tt) in
        let la = ap (λ (z : Tokens). length z) h in
        after (Then ProcBody (λ q. Mapped (λ qs. q ∷ qs) (ProcsWithin 17))) (ProcsWithin 17) ts (sign (codes "proc") (here ts).at ∷ []) (rest ts)
        (G.a_proc (rest ts) >>= (λ p. procedures n p.1 >>= (λ ps. Ok (p.0 ∷ ps.0, ps.1)))) h (shut (here ts).at)
        (then_fine ProcBody (λ q. Mapped (λ qs. q ∷ qs) (ProcsWithin 17)) (G.a_proc (rest ts)) (λ q u. procedures n u >>= (λ ps. Ok (q ∷ ps.0, ps.1))) (rest ts)
        (λ q. mapped_some (λ qs. q ∷ qs) (ProcsWithin 17) ([], [], λ k. no_proc)) (proc_fine (rest ts))
        (λ x q. let k = no_longer ProcBody (rest ts) (G.a_proc (rest ts)) (proc_fine (rest ts)) x q in mapped_fine (ProcsWithin 17) (λ qs. x.0 ∷ qs) (procedures n x.1) x.1 (rec x.1 (omega arith))))
    go false e rec = ok_fine [] (ProcsWithin 17) ts (λ k. no_proc)

-- ---- whole texts

-- a text is refused where it can be completed
abbrev Begin : {C : Type 0} → (C → Tokens → Type 0) → Tokens → Answer C → Type 0
Begin {C} R ts (Ok c) = Unit {0}
Begin {C} R ts (Err x) = (pre : Tokens) × (s : Tokens) × (ts ≡ pre ++ s) × ((here s).at ≡ x.offset) × ((r : Tokens) × (c : C) × R c (pre ++ r))

begin_after : {C : Type 0} (Q R : C → Tokens → Type 0) (ts pre u : Tokens) (m : Answer C) → ts ≡ pre ++ u → ((c : C) (t : Tokens) → Q c t → R c (pre ++ t)) → Begin Q u m → Begin R ts m
begin_after Q R ts pre u (Ok c) e j o = tt
begin_after Q R ts pre u (Err x) e j o = (
  pre ++ o.0,
  o.1,
  e ∙ ap (λ v. pre ++ v) o.2 ∙ sym (append_assoc pre o.0 o.1),
  o.3,
  (o.4.0, o.4.1, subst (λ (w : Tokens). R o.4.1 w) (sym (append_assoc pre o.0 o.4.0)) (j o.4.1 (o.0 ++ o.4.0) o.4.2)),
)

begin_bind : {A C : Type 0} (P : Reading A) (Q : A → C → Tokens → Type 0) (R : C → Tokens → Type 0) → ((a : A) (c : C) (t u : Tokens) → P a t u → Q a c u → R c t) → ((a : A) → (r : Tokens) × (c : C) × Q a c r)
    → (m : Answer (A × Tokens)) (f : A → Tokens → Answer C) (ts : Tokens) → Fine P ts m → ((x : A × Tokens) → Begin (Q x.0) x.1 (f x.0 x.1)) → Begin R ts (m >>= (λ r. f r.0 r.1))
begin_bind P Q R j sm (Ok x) f ts o g = begin_after (Q x.0) R ts o.0 x.1 (f x.0 x.1) o.1 (λ c t q. j x.0 c (o.0 ++ t) t (o.2 t) q) (g x)
begin_bind P Q R j sm (Err x) f ts o g =
    let c = o.4 in
    let s = sm c.1 in
    (o.0, o.1, o.2, o.3, (c.0 ++ s.0, s.1, j c.1 s.1 (o.0 ++ (c.0 ++ s.0)) s.0 (c.2 s.0) s.2))

begin_eat : {C : Type 0} (w : List ℕ) (f : Tokens → Answer C) (Q R : C → Tokens → Type 0) → ((at : ℕ) (c : C) (t : Tokens) → Q c t → R c (sign w at ∷ t)) → (r : Tokens) (c : C) → Q c r
    → ((ts : Tokens) → Begin Q ts (f ts)) → (ts : Tokens) → Begin R ts (eat w ts >>= (λ t. f t))
begin_eat {C} w f Q R j r c q g ts = go (is w ts) refl
  where
    go : (b : Bool) → is w ts ≡ b → Begin R ts (if_so b (λ u. Ok (rest ts)) (λ u. bad ts) >>= (λ t. f t))
    go true e = begin_after Q R ts (sign w (here ts).at ∷ []) (rest ts) (f (rest ts)) (sign_is w ts (T_at (sym e) tt)) (λ c t q. j (here ts).at c t q) (g (rest ts))
    go false e = ([], ts, refl, refl, (sign w 0 ∷ r, c, j 0 c r q))

abbrev tree_of : List Proc → Block → Tree
tree_of ps b = record { procs = ps; main = b }

abbrev AtEnd : List Proc → Block → Tree → Tokens → Type 0
AtEnd ps b c t = (c ≡ tree_of ps b) × Ends t

abbrev AtBlock : List Proc → Tree → Tokens → Type 0
AtBlock ps c t = (b : Block) × (u : Tokens) × BlockIs 17 b t u × AtEnd ps b c u

abbrev AtMain : List Proc → Tree → Tokens → Type 0
AtMain ps c t = (at : ℕ) × (u : Tokens) × (t ≡ sign (codes "main") at ∷ u) × AtBlock ps c u

abbrev last_token : Tokens
last_token = record { class = finish; text = []; at = 0 } ∷ []

end_some : (ps : List Proc) (b : Block) → (r : Tokens) × (c : Tree) × AtEnd ps b c r
end_some ps b = (last_token, tree_of ps b, (refl, at_end [] 0 []))

block_end : (ps : List Proc) → (r : Tokens) × (c : Tree) × AtBlock ps c r
block_end ps =
    let b = block_some 16 in (b.0 ++ last_token, tree_of ps b.1, (b.1, last_token, b.2 last_token, (refl, at_end [] 0 [])))

main_end : (ps : List Proc) → (r : Tokens) × (c : Tree) × AtMain ps c r
main_end ps = let b = block_end ps in (sign (codes "main") 0 ∷ b.0, b.1, (0, b.0, refl, b.2))

finished_fine : (ps : List Proc) (b : Block) (ts : Tokens) → Begin (AtEnd ps b) ts (finished ts ps b)
finished_fine ps b ts = go (is_finish (here ts).class)
  where
    go : (x : Bool) → Begin (AtEnd ps b) ts (if_so x (λ u. Ok (tree_of ps b)) (λ u. bad ts))
    go true = tt
    go false = ([], ts, refl, refl, end_some ps b)

block_fine : (ps : List Proc) (ts : Tokens) → Begin (AtBlock ps) ts (block 16 ts >>= (λ b. finished b.1 ps b.0))
block_fine ps ts =
    begin_bind (BlockIs 17) (λ b. AtEnd ps b) (AtBlock ps) (λ b c t u d q. (b, u, d, q)) (λ b. end_some ps b) (block 16 ts) (λ b u. finished u ps b) ts ((blocks_fine 16).0 ts) (λ x. finished_fine ps x.0 x.1)

main_fine : (ps : List Proc) (ts : Tokens) → Begin (AtMain ps) ts (eat (codes "main") ts >>= (λ t. block 16 t >>= (λ b. finished b.1 ps b.0)))
main_fine ps ts =
    let e = block_end ps in
    begin_eat (codes "main") (λ t. block 16 t >>= (λ b. finished b.1 ps b.0)) (AtBlock ps) (AtMain ps) (λ at c t q. (at, t, refl, q)) e.0 e.1 e.2 (block_fine ps) ts

text_is : (ps : List Proc) (c : Tree) (t u : Tokens) → ProcsWithin 17 ps t u → AtMain ps c u → ProgramWithin 17 c t
text_is ps c t u d q =
    let b = q.3 in
    subst (λ (z : Tree). ProgramWithin 17 z t) (sym b.3.0) (program q.0 (subst (λ (z : Tokens). ProcsWithin 17 ps t z) q.2 d) b.2 b.3.1)

parsed_fine : (ts : Tokens) → Begin (ProgramWithin 17) ts (parsed ts)
parsed_fine ts =
    begin_bind (ProcsWithin 17) AtMain (ProgramWithin 17) text_is main_end (procedures (suc (length ts)) ts) (λ ps u. eat (codes "main") u >>= (λ t. block 16 t >>= (λ b. finished b.1 ps b.0))) ts
    (procedures_fine (suc (length ts)) ts (omega arith)) (λ x. main_fine x.0 x.1)

pub refused_begun : RefusedBegun
refused_begun ts x e = subst (λ (m : Answer Tree). Begin (ProgramWithin 17) ts m) e (parsed_fine ts)
