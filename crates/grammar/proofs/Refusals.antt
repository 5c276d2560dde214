-- The refused token is the first that goes wrong.
use Rattle.std.proofs.Common.{◌≡◌, ℕ, zero, suc, ◌<◌, Bool, true, false, not, List, [], ◌∷◌, ◌++◌, length, Ok, Err, codes, sym, refl, ap, ◌∙◌, subst, arith}
use Rattle.reader.specs.Faults.{Answer, ◌>>=◌}
use Rattle.reader.specs.declared.fault.Fault.{Fault}
use Rattle.grammar.specs.Parsers.{if_so}
use Rattle.grammar.specs.Trees.{Name, Block, Param, Proc, Tree}
use Rattle.grammar.specs.Parsing as G
use Rattle.grammar.specs.Parsers.{Tokens, Parser, here, rest, is_finish, is, bad, eat, a_name}
use Rattle.grammar.specs.Parsing.{in_parens, block, parsed, more_params, parameters, procedures}
use Rattle.grammar.specs.Language.{RefusedEarly}
use Rattle.grammar.proofs.Results.{bound}
use Rattle.grammar.proofs.Levels.{if_true, if_false}
use Rattle.grammar.proofs.ProgramGrammar.{parsed_exactly}
use Rattle.grammar.proofs.Locality.{Out, Local, bind_local, ok_local, bad_local, peek_local, take_local, tests, eat_local, FLocal, fuel_local, loop_local}
use Rattle.grammar.proofs.LocalExpressions.{shrinks, name_local, parens_local}
use Rattle.grammar.proofs.LocalStatements.{not_true, not_false, name_less, rest_out, block_local}

-- ---- programs

param_local : Local G.a_param
param_local =
    take_local (tests (codes "&")) (λ t ts. a_name ts >>= (λ r. Ok (record { reference = true; name = r.0 }, r.1))) (λ ts. a_name ts >>= (λ r. Ok (record { reference = false; name = r.0 }, r.1))) refl
    (λ t. bind_local a_name (λ v ts. Ok (record { reference = true; name = v }, ts)) name_local (λ v. ok_local (record { reference = true; name = v })))
    (bind_local a_name (λ v ts. Ok (record { reference = false; name = v }, ts)) name_local (λ v. ok_local (record { reference = false; name = v })))

more_params_local : (n : ℕ) → Local (more_params n)
more_params_local zero = ok_local []
more_params_local (suc n) =
    take_local (tests (codes ",")) (λ t ts. G.a_param ts >>= (λ r. more_params n r.1 >>= (λ s. Ok (r.0 ∷ s.0, s.1)))) (λ ts. Ok ([], ts)) refl
    (λ t. bind_local G.a_param (λ q ts. more_params n ts >>= (λ s. Ok (q ∷ s.0, s.1))) param_local (λ q. bind_local (more_params n) (λ qs ts. Ok (q ∷ qs, ts)) (more_params_local n) (λ qs. ok_local (q ∷ qs)))) (ok_local [])

parameters_local : Local parameters
parameters_local =
    peek_local (tests (codes ")")) (λ t ts. Ok ([], ts)) (λ ts. G.a_param ts >>= (λ r. more_params 7 r.1 >>= (λ s. Ok (r.0 ∷ s.0, s.1)))) (λ t. ok_local [])
    (bind_local G.a_param (λ q ts. more_params 7 ts >>= (λ s. Ok (q ∷ s.0, s.1))) param_local (λ q. bind_local (more_params 7) (λ qs ts. Ok (q ∷ qs, ts)) (more_params_local 7) (λ qs. ok_local (q ∷ qs))))

abbrev made : Name → List Param → Block → Proc
made n ps b = record { name = n; params = ps; body = b }

proc_local : Local G.a_proc
proc_local =
    bind_local a_name (λ v ts. in_parens 16 (λ n. parameters) ts >>= (λ ps. block 16 ps.1 >>= (λ b. Ok (made v ps.0 b.0, b.1)))) name_local (λ v.
    bind_local (in_parens 16 (λ n. parameters)) (λ ps ts. block 16 ts >>= (λ b. Ok (made v ps b.0, b.1))) (parens_local 16 (λ n. parameters) (λ n. parameters_local)) (λ ps.
    bind_local (λ u. block 16 u) (λ b ts. Ok (made v ps b, ts)) (block_local 16) (λ b. ok_local (made v ps b))))

proc_less : (ts : Tokens) (x : Proc × Tokens) → G.a_proc (rest ts) ≡ Ok x → length x.1 < length ts
proc_less ts x e =
    let v = bound (a_name (rest ts)) (λ v. in_parens 16 (λ n. parameters) v.1 >>= (λ ps. block 16 ps.1 >>= (λ b. Ok (made v.0 ps.0 b.0, b.1)))) x e in
    let i = name_less ts v.0 v.1 in
    let lq = bind_local (in_parens 16 (λ n. parameters)) (λ ps ts. block 16 ts >>= (λ b. Ok (made v.0.0 ps b.0, b.1))) (parens_local 16 (λ n. parameters) (λ n. parameters_local)) (λ ps.
    bind_local (λ u. block 16 u) (λ b ts. Ok (made v.0.0 ps b, ts)) (block_local 16) (λ b. ok_local (made v.0.0 ps b))) in
    let j = shrinks (λ ts. in_parens 16 (λ n. parameters) ts >>= (λ ps. block 16 ps.1 >>= (λ b. Ok (made v.0.0 ps.0 b.0, b.1)))) lq v.0.1 x v.2 in
    omega arith

procs_local : FLocal procedures
procs_local =
    loop_local procedures (λ t. not (tests (codes "proc") t)) (λ ts. G.a_proc (rest ts)) [] (λ x y. x ∷ y)
    (λ n ts e. if_false (is (codes "proc") ts) (λ u. G.a_proc (rest ts) >>= (λ p. procedures n p.1 >>= (λ ps. Ok (p.0 ∷ ps.0, ps.1)))) (λ u. Ok ([], ts)) (not_true (is (codes "proc") ts) e))
    (λ n ts e. if_true (is (codes "proc") ts) (λ u. G.a_proc (rest ts) >>= (λ p. procedures n p.1 >>= (λ ps. Ok (p.0 ∷ ps.0, ps.1)))) (λ u. Ok ([], ts)) (not_false (is (codes "proc") ts) e))
    (rest_out (codes "proc") G.a_proc proc_local) proc_less

-- a parser of whole texts, with the tokens left
abbrev whole : Parser Tree
whole ts =
    procedures (suc (length ts)) ts >>= (λ ps. eat (codes "main") ps.1 >>= (λ t. block 16 t >>= (λ b.
    if_so (is_finish (here b.1).class) (λ u. Ok (record { procs = ps.0; main = b.0 }, b.1)) (λ u. bad b.1))))

whole_local : Local whole
whole_local =
    bind_local (λ ts. procedures (suc (length ts)) ts) (λ ps ts. eat (codes "main") ts >>= (λ t. block 16 t >>= (λ b. if_so (is_finish (here b.1).class) (λ u. Ok (record { procs = ps; main = b.0 }, b.1)) (λ u. bad b.1)))) (fuel_local procedures procs_local) (λ ps.
    eat_local (codes "main") (λ t. block 16 t >>= (λ b. if_so (is_finish (here b.1).class) (λ u. Ok (record { procs = ps; main = b.0 }, b.1)) (λ u. bad b.1)))
    (bind_local (λ u. block 16 u) (λ b ts. if_so (is_finish (here ts).class) (λ u. Ok (record { procs = ps; main = b }, ts)) (λ u. bad ts)) (block_local 16) (λ b.
    peek_local (λ t. is_finish t.class) (λ t ts. Ok (record { procs = ps; main = b }, ts)) (λ ts. bad ts) (λ t. ok_local (record { procs = ps; main = b })) bad_local)))

-- it does what the parser does
abbrev dropped : Answer (Tree × Tokens) → Answer Tree
dropped (Ok x) = Ok x.0
dropped (Err r) = Err r

drop_bind : {A : Type 0} (m : Answer A) (f : A → Answer (Tree × Tokens)) (g : A → Answer Tree) → ((a : A) → dropped (f a) ≡ g a) → dropped (m >>= f) ≡ (m >>= g)
drop_bind (Ok a) f g h = h a
drop_bind (Err r) f g h = refl

whole_is : (ts : Tokens) → dropped (whole ts) ≡ parsed ts
whole_is ts =
    drop_bind (procedures (suc (length ts)) ts) _ _ (λ ps. drop_bind (eat (codes "main") ps.1) _ _ (λ t. drop_bind (block 16 t) _ _ (λ b. last (is_finish (here b.1).class) b.1 ps.0 b.0)))
  where
    last : (v : Bool) (r : Tokens) (ps : List Proc) (b : Block)
        → dropped (if_so v (λ u. Ok (record { procs = ps; main = b }, r)) (λ u. bad r)) ≡ if_so v (λ u. Ok (record { procs = ps; main = b })) (λ u. bad r)
    last true r ps b = refl
    last false r ps b = refl

refused_back : (m : Answer (Tree × Tokens)) (x : Fault) → dropped m ≡ Err x → m ≡ Err x
refused_back (Ok y) x e = absurd (let z : ◌≡◌ {A = ℕ} 0 1 = cc in omega arith)
refused_back (Err y) x e = let i : y ≡ x = cc in ap Err i

pub refused_early : RefusedEarly
refused_early ts x e =
    let i : whole ts ≡ Err x = refused_back (whole ts) x (whole_is ts ∙ e) in
    let o : Out whole ts (Err x) = subst (λ (m : Answer (Tree × Tokens)). Out whole ts m) i (whole_local ts) in (
      o.0,
      o.1,
      o.2,
      o.3,
      λ s t h d.
          let a : parsed (o.0 ++ s) ≡ Ok t = (parsed_exactly (o.0 ++ s) t).1 d in
          let b : parsed (o.0 ++ s) ≡ Err x = sym (whole_is (o.0 ++ s)) ∙ ap dropped (o.4 s h) in
          let z : ◌≡◌ {A = Answer Tree} (Ok t) (Err x) = sym a ∙ b in
          let y : ◌≡◌ {A = ℕ} 0 1 = cc in omega arith,
    )
