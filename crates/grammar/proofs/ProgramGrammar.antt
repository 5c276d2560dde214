-- Parameters, procedures and programs: the parser and the grammar.
use Rattle.std.proofs.Common.{◌≡◌, ℕ, zero, suc, ◌<◌, ◌≤◌, true, false, T, List, [], ◌∷◌, length, Ok, codes, sym, refl, ap, ◌∙◌, subst, inl, inr, arith}
use Rattle.reader.specs.Faults.{◌>>=◌}
use Rattle.reader.specs.declared.fault.Cause.TheVariants.{NotAllowed}
use Rattle.reader.specs.Tokens.{Lexeme, Class, name, number, fixed, finish}
use Rattle.grammar.specs.Trees.{Name, Block, Param, Proc, Tree}
use Rattle.grammar.specs.Parsing as G
use Rattle.grammar.specs.Parsers.{Tokens, here, rest, is_finish, is, bad, eat, a_name}
use Rattle.grammar.specs.Parsing.{in_parens, block, parsed, more_params, parameters, procedures, finished}
use Rattle.grammar.specs.Language as L
use Rattle.grammar.specs.Language.{sign, name_token, ParamIs, p_value, p_reference, MoreParams, last_param, next_param, Parameters, no_param, ProcsWithin, no_proc, Ends, all_read, at_end, ProgramIs, program, ParsedExactly}
use Rattle.grammar.proofs.Results.{bound}
use Rattle.grammar.proofs.Levels.{ok_eq, no_ok, if_inv, if_false, then, sign_is, eaten, a_name_is, Sounds}
use Rattle.grammar.proofs.ExpressionGrammar.{parens_sound, parens_reads, parens_shrinks}
use Rattle.grammar.proofs.BlockGrammar.{block_less, blocks_sound, blocks_read}

-- ---- parameters

param_sound : Sounds G.a_param ParamIs
param_sound ts x e =
    elim (if_inv (is (codes "&") ts) (λ u. a_name (rest ts) >>= (λ r. Ok (record { reference = true; name = r.0 }, r.1)))
    (λ u. a_name ts >>= (λ r. Ok (record { reference = false; name = r.0 }, r.1))) (Ok x) e) [
      | inl i ↦
          let a = bound (a_name (rest ts)) (λ r. Ok (record { reference = true; name = r.0 }, r.1)) x i.1 in
          let t : ts ≡ sign (codes "&") (here ts).at ∷ name_token a.0.0 ∷ a.0.1 = sign_is (codes "&") ts i.0 ∙ ap (λ z. sign (codes "&") (here ts).at ∷ z) (a_name_is (rest ts) a.0 a.1) in
          subst (λ (z : Param × Tokens). ParamIs z.0 ts z.1) (ok_eq (record { reference = true; name = a.0.0 }, a.0.1) x a.2)
          (subst (λ (z : Tokens). ParamIs (record { reference = true; name = a.0.0 }) z a.0.1) (sym t) (p_reference (here ts).at a.0.0))
      | inr i ↦
          let a = bound (a_name ts) (λ r. Ok (record { reference = false; name = r.0 }, r.1)) x i.1 in
          subst (λ (z : Param × Tokens). ParamIs z.0 ts z.1) (ok_eq (record { reference = false; name = a.0.0 }, a.0.1) x a.2)
          (subst (λ (z : Tokens). ParamIs (record { reference = false; name = a.0.0 }) z a.0.1) (sym (a_name_is ts a.0 a.1)) (p_value a.0.0))
    ]

param_read : (q : Param) (ts r : Tokens) → ParamIs q ts r → G.a_param ts ≡ Ok (q, r)
param_read q ts r (p_value n) = refl
param_read q ts r (p_reference at n) = refl

param_not : (q : Param) (ts r : Tokens) → ParamIs q ts r → (is (codes ")") ts ≡ false) × (length r ≤ length ts)
param_not q ts r (p_value n) = (refl, omega arith)
param_not q ts r (p_reference at n) = (refl, omega arith)

more_params_sound : (n : ℕ) → Sounds (more_params n) (MoreParams n)
more_params_sound zero ts x e = subst (λ (z : List Param × Tokens). MoreParams 0 z.0 ts z.1) (ok_eq ([], ts) x e) (last_param 0)
more_params_sound (suc n) ts x e =
    elim (if_inv (is (codes ",") ts) (λ u. G.a_param (rest ts) >>= (λ r. more_params n r.1 >>= (λ s. Ok (r.0 ∷ s.0, s.1)))) (λ u. Ok ([], ts)) (Ok x) e) [
      | inl i ↦
          let a = bound (G.a_param (rest ts)) (λ r. more_params n r.1 >>= (λ s. Ok (r.0 ∷ s.0, s.1))) x i.1 in
          let b = bound (more_params n a.0.1) (λ s. Ok (a.0.0 ∷ s.0, s.1)) x a.2 in
          subst (λ (z : List Param × Tokens). MoreParams (suc n) z.0 ts z.1) (ok_eq (a.0.0 ∷ b.0.0, b.0.1) x b.2)
          (subst (λ (z : Tokens). MoreParams (suc n) (a.0.0 ∷ b.0.0) z b.0.1) (sym (sign_is (codes ",") ts i.0))
          (next_param n (here ts).at (param_sound (rest ts) a.0 a.1) (more_params_sound n a.0.1 b.0 b.1)))
      | inr i ↦ subst (λ (z : List Param × Tokens). MoreParams (suc n) z.0 ts z.1) (ok_eq ([], ts) x i.1) (last_param (suc n))
    ]

more_params_read : (n : ℕ) (qs : List Param) (ts r : Tokens) (c : ℕ) → MoreParams n qs ts (sign (codes ")") c ∷ r) → more_params n ts ≡ Ok (qs, sign (codes ")") c ∷ r)
more_params_read zero qs ts r c (last_param m) = refl
more_params_read (suc n) qs ts r c (last_param m) = refl
more_params_read (suc n) qs ts r c (next_param m at {p = q} {ps = ps} {ts = t} {a = a} h k) =
    then (λ r. more_params n r.1 >>= (λ s. Ok (r.0 ∷ s.0, s.1))) (param_read q t a h) ∙ then (λ s. Ok (q ∷ s.0, s.1)) (more_params_read n ps a r c k)

more_params_shrink : (n : ℕ) (qs : List Param) (ts r : Tokens) → MoreParams n qs ts r → length r ≤ length ts
more_params_shrink n qs ts r (last_param m) = omega arith
more_params_shrink n qs ts r (next_param m at {p = q} {ps = ps} {ts = t} {a = a} h k) =
    let i = (param_not q t a h).1 in let j = more_params_shrink m ps a r k in omega arith

parameters_sound : Sounds parameters Parameters
parameters_sound ts x e =
    elim (if_inv (is (codes ")") ts) (λ u. Ok ([], ts)) (λ u. G.a_param ts >>= (λ r. more_params 7 r.1 >>= (λ s. Ok (r.0 ∷ s.0, s.1)))) (Ok x) e) [
      | inl i ↦ subst (λ (z : List Param × Tokens). Parameters z.0 ts z.1) (ok_eq ([], ts) x i.1) no_param
      | inr i ↦
          let a = bound (G.a_param ts) (λ r. more_params 7 r.1 >>= (λ s. Ok (r.0 ∷ s.0, s.1))) x i.1 in
          let b = bound (more_params 7 a.0.1) (λ s. Ok (a.0.0 ∷ s.0, s.1)) x a.2 in
          subst (λ (z : List Param × Tokens). Parameters z.0 ts z.1) (ok_eq (a.0.0 ∷ b.0.0, b.0.1) x b.2)
          (L.a_param (param_sound ts a.0 a.1) (more_params_sound 7 a.0.1 b.0 b.1))
    ]

parameters_read : (qs : List Param) (ts r : Tokens) (c : ℕ) → Parameters qs ts (sign (codes ")") c ∷ r) → parameters ts ≡ Ok (qs, sign (codes ")") c ∷ r)
parameters_read qs ts r c no_param = refl
parameters_read qs ts r c (L.a_param {p = q} {ps = ps} {a = a} h k) =
    if_false (is (codes ")") ts) (λ u. Ok ([], ts)) (λ u. G.a_param ts >>= (λ r. more_params 7 r.1 >>= (λ s. Ok (r.0 ∷ s.0, s.1)))) (param_not q ts a h).0
    ∙ then (λ r. more_params 7 r.1 >>= (λ s. Ok (r.0 ∷ s.0, s.1))) (param_read q ts a h)
    ∙ then (λ s. Ok (q ∷ s.0, s.1)) (more_params_read 7 ps a r c k)

parameters_shrink : (qs : List Param) (ts r : Tokens) → Parameters qs ts r → length r ≤ length ts
parameters_shrink qs ts r no_param = omega arith
parameters_shrink qs ts r (L.a_param {p = q} {ps = ps} {a = a} h k) =
    let i = (param_not q ts a h).1 in let j = more_params_shrink 7 ps a r k in omega arith

-- ---- procedures and programs

abbrev made : Name → List Param → Block → Proc
made n ps b = record { name = n; params = ps; body = b }

procs_sound : (n : ℕ) → Sounds (procedures n) (ProcsWithin 16)
procs_sound zero ts x e = no_ok NotAllowed (here ts).at x e
procs_sound (suc n) ts x e =
    elim (if_inv (is (codes "proc") ts) (λ u. G.a_proc (rest ts) >>= (λ p. procedures n p.1 >>= (λ ps. Ok (p.0 ∷ ps.0, ps.1)))) (λ u. Ok ([], ts)) (Ok x) e) [
      | inl i ↦
          let q = bound (G.a_proc (rest ts)) (λ p. procedures n p.1 >>= (λ ps. Ok (p.0 ∷ ps.0, ps.1))) x i.1 in
          let more = bound (procedures n q.0.1) (λ ps. Ok (q.0.0 ∷ ps.0, ps.1)) x q.2 in
          let v = bound (a_name (rest ts)) (λ v. in_parens 16 (λ n. parameters) v.1 >>= (λ ps. block 16 ps.1 >>= (λ b. Ok (made v.0 ps.0 b.0, b.1)))) q.0 q.1 in
          let ps = bound (in_parens 16 (λ n. parameters) v.0.1) (λ ps. block 16 ps.1 >>= (λ b. Ok (made v.0.0 ps.0 b.0, b.1))) q.0 v.2 in
          let b = bound (block 16 ps.0.1) (λ b. Ok (made v.0.0 ps.0.0 b.0, b.1)) q.0 ps.2 in
          let same_q = ok_eq (made v.0.0 ps.0.0 b.0.0, b.0.1) q.0 b.2 in
          let t : ts ≡ sign (codes "proc") (here ts).at ∷ name_token v.0.0 ∷ v.0.1 = sign_is (codes "proc") ts i.0 ∙ ap (λ z. sign (codes "proc") (here ts).at ∷ z) (a_name_is (rest ts) v.0 v.1) in
          let rest_is : ProcsWithin 16 more.0.0 b.0.1 more.0.1 = subst (λ (z : Proc × Tokens). ProcsWithin 16 more.0.0 z.1 more.0.1) (sym same_q) (procs_sound n q.0.1 more.0 more.1) in
          let all_is : ProcsWithin 16 (made v.0.0 ps.0.0 b.0.0 ∷ more.0.0) ts more.0.1 =
          subst (λ (z : Tokens). ProcsWithin 16 (made v.0.0 ps.0.0 b.0.0 ∷ more.0.0) z more.0.1) (sym t)
          (L.a_proc (here ts).at v.0.0 (parens_sound 16 (λ n. parameters) (λ n. Parameters) (λ n. parameters_sound) v.0.1 ps.0 ps.1) (blocks_sound 16 ps.0.1 b.0 b.1) rest_is) in
          subst (λ (z : List Proc × Tokens). ProcsWithin 16 z.0 ts z.1) (ok_eq (q.0.0 ∷ more.0.0, more.0.1) x more.2)
          (subst (λ (z : Proc × Tokens). ProcsWithin 16 (z.0 ∷ more.0.0) ts more.0.1) same_q all_is)
      | inr i ↦ subst (λ (z : List Proc × Tokens). ProcsWithin 16 z.0 ts z.1) (ok_eq ([], ts) x i.1) no_proc
    ]

procs_read : (qs : List Proc) (ts r : Tokens) (at n : ℕ) → ProcsWithin 16 qs ts (sign (codes "main") at ∷ r) → length ts < n → procedures n ts ≡ Ok (qs, sign (codes "main") at ∷ r)
procs_read qs ts r at zero h l = absurd (omega arith)
procs_read qs ts r at (suc n) no_proc l = refl
procs_read qs ts r at (suc n) (L.a_proc c v {ps = ps} {b = b} {qs = ks} {ts = t} {t = u} {u = w} h i j) l =
    let x = parens_shrinks 16 (λ n. Parameters ps) (λ n t u k. parameters_shrink ps t u k) t u h in
    let y = block_less 16 b u w i in
    let proc_is : G.a_proc (name_token v ∷ t) ≡ Ok (made v ps b, w) =
    then (λ ps. block 16 ps.1 >>= (λ b. Ok (made v ps.0 b.0, b.1)))
    (parens_reads 16 (λ n. parameters) (λ n. Parameters) ps t u (λ n d t k. parameters_read ps t u d k) h)
    ∙ then (λ b. Ok (made v ps b.0, b.1)) (blocks_read 16 b u w i tt) in
    then (λ p. procedures n p.1 >>= (λ ps. Ok (p.0 ∷ ps.0, ps.1))) proc_is
    ∙ then (λ z. Ok (made v ps b ∷ z.0, z.1)) (procs_read ks w r at n j (omega arith))

ended : (r : Tokens) → T (is_finish (here r).class) → Ends r
ended [] h = all_read
ended (t ∷ r) h = subst (λ (z : Lexeme). Ends (z ∷ r)) (λ j. record { class = sym (fin_is t.class h) j; text = t.text; at = t.at }) (at_end t.text t.at r)
  where
    fin_is : (c : Class) → T (is_finish c) → c ≡ finish
    fin_is name h = absurd h
    fin_is number h = absurd h
    fin_is fixed h = absurd h
    fin_is finish h = refl

ends_read : (r : Tokens) (ps : List Proc) (b : Block) → Ends r → finished r ps b ≡ Ok (record { procs = ps; main = b })
ends_read r ps b all_read = refl
ends_read r ps b (at_end w at s) = refl

parsed_sound : (ts : Tokens) (t : Tree) → parsed ts ≡ Ok t → ProgramIs t ts
parsed_sound ts t e =
    let ps = bound (procedures (suc (length ts)) ts) (λ ps. eat (codes "main") ps.1 >>= (λ t. block 16 t >>= (λ b. finished b.1 ps.0 b.0))) t e in
    let a = bound (eat (codes "main") ps.0.1) (λ t. block 16 t >>= (λ b. finished b.1 ps.0.0 b.0)) t ps.2 in
    let b = bound (block 16 a.0) (λ b. finished b.1 ps.0.0 b.0) t a.2 in
    elim (if_inv (is_finish (here b.0.1).class) (λ u. Ok (record { procs = ps.0.0; main = b.0.0 })) (λ u. bad b.0.1) (Ok t) b.2) [
      | inl i ↦
          subst (λ (z : Tree). ProgramIs z ts) (ok_eq (record { procs = ps.0.0; main = b.0.0 }) t i.1)
          (program (here ps.0.1).at
          (subst (λ (z : Tokens). ProcsWithin 16 ps.0.0 ts z) (eaten (codes "main") ps.0.1 a.0 a.1) (procs_sound (suc (length ts)) ts ps.0 ps.1))
          (blocks_sound 16 a.0 b.0 b.1) (ended b.0.1 i.0))
      | inr i ↦ no_ok NotAllowed (here b.0.1).at t i.1
    ]

parsed_reads : (ts : Tokens) (t : Tree) → ProgramIs t ts → parsed ts ≡ Ok t
parsed_reads ts t (program at {ps = ps} {b = b} {t = u} {r = r} h i j) =
    then (λ ps. eat (codes "main") ps.1 >>= (λ t. block 16 t >>= (λ b. finished b.1 ps.0 b.0))) (procs_read ps ts u at (suc (length ts)) h (omega arith))
    ∙ then (λ b. finished b.1 ps b.0) (blocks_read 16 b u r i tt)
    ∙ ends_read r ps b j

pub parsed_exactly : ParsedExactly
parsed_exactly ts t = (parsed_sound ts t, parsed_reads ts t)
