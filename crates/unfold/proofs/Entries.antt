-- Calls and pars, as the code makes them.
use Rattle.std.proofs.Common.{◌≡◌, ℕ, suc, ◌+◌, ◌-◌, ◌^◌, ◌≤◌, min, Bool, true, false, ◌&&◌, leb, List, [], ◌∷◌, length, Ok, Result, sym, refl, ap, ◌∙◌, subst, arith, leb→le, length-append}
use mathlib.Core.Path.{fun_ext}
use native.Mathlib.Decide.{dec_lt}
use Rattle.lemmas.proofs.Tests.{T_false}
use Rattle.reader.specs.declared.fault.Cause.TheVariants.{OverLimit}
use Rattle.reader.specs.declared.fault.Error.{Error}
use Rattle.reader.specs.Faults.{Answer, must, ◌>>=◌}
use Rattle.grammar.specs.Trees.{Stm, Par, Block, Blocks, Also, Proc}
use Rattle.names.specs.Naming.{Reading}
use Rattle.unfold.specs.declared.nodes.New as code-new
use Rattle.unfold.specs.Unfolded.{New, Got, Node, par}
use Rattle.unfold.specs.Scopes.{Env}
use Rattle.unfold.specs.Variables.{ParamsOf, uses_block, gets, got_new, all_get, all_new}
use Rattle.unfold.specs.Unfolding.{Count, brings, branch_count, callees, params_of, unfold_stm, unfold_blocks}
use Rattle.unfold.specs.Calls.{parted}
use Rattle.unfold.specs.Occurrences.{visible_params}
use Rattle.unfold.specs.Views.{news, Gives}
use Rattle.unfold.proofs.Adding.{visible_is}
use Rattle.unfold.proofs.Gains.{all_new_any}

over : (b : Bool) (a : Bool) → (a && (false && b)) ≡ false
over b true = refl
over b false = refl

pub brings_min : (n : Count) (k c at : ℕ) → brings n (min k (2 ^ 64 - 1)) c at ≡ brings n k c at
brings_min n k c at =
    elim (dec_lt k (2 ^ 64)) [
      | yes h ↦ let e : min k (2 ^ 64 - 1) ≡ k = omega arith in ap (λ (z : ℕ). brings n z c at) e
      | no h ↦
          let s = leb (suc n.statements) 1024 in
          let w = leb (n.cells + c) 128 in
          let a : leb (n.places + min k (2 ^ 64 - 1)) 64 ≡ false = T_false (leb (n.places + min k (2 ^ 64 - 1)) 64) (λ t. let z = leb→le (n.places + min k (2 ^ 64 - 1)) 64 t in omega arith) in
          let b : leb (n.places + k) 64 ≡ false = T_false (leb (n.places + k) 64) (λ t. let z = leb→le (n.places + k) 64 t in omega arith) in
          let m : ℕ → Count = λ p. record { statements = suc n.statements; places = p; cells = n.cells + c } in
          ap (λ (z : Bool). must (s && (z && w)) OverLimit at >>= (λ u. Ok (m (n.places + min k (2 ^ 64 - 1))))) a
          ∙ ap (λ (z : Bool). must z OverLimit at >>= (λ u. Ok (m (n.places + min k (2 ^ 64 - 1))))) (over w s)
          ∙ sym (ap (λ (z : Bool). must (s && (z && w)) OverLimit at >>= (λ u. Ok (m (n.places + k)))) b ∙ ap (λ (z : Bool). must z OverLimit at >>= (λ u. Ok (m (n.places + k)))) (over w s))
    ]

pub brings_cells : (n m : Count) (p c at : ℕ) → brings n p c at ≡ Ok m → m.cells ≡ n.cells + c
brings_cells n m p c at e = go (leb (suc n.statements) 1024 && (leb (n.places + p) 64 && leb (n.cells + c) 128)) e
  where
    go : (b : Bool) → ◌≡◌ {A = Answer Count} (must b OverLimit at >>= (λ u. Ok (record { statements = suc n.statements; places = n.places + p; cells = n.cells + c }))) (Ok m) → m.cells ≡ n.cells + c
    go true h = let i : record { statements = suc n.statements; places = n.places + p; cells = n.cells + c } ≡ m = cc in sym (ap (λ (z : Count). z.cells) i)
    go false h = absurd (let z : ◌≡◌ {A = ℕ} 0 1 = cc in omega arith)

pub news_length : (text : List ℕ) (ns : List code-new.New) → length (news text ns) ≡ length ns
news_length text [] = refl
news_length text (n ∷ ns) = ap suc (news_length text ns)

-- a par by the visible procedures' parameters, its new cells counted from any number
pub par_step : (l : Reading) (ps : List Proc) (v : Env) (n : Count) (at : ℕ) (bs : Blocks)
    → unfold_stm l (callees l ps) v n (Par at bs)
    ≡ (brings n (branch_count bs) (length (all_new (all_get (visible_params ps) v bs 0))) at >>= (λ m.
    unfold_blocks l (callees l ps) bs (all_get (visible_params ps) v bs n.cells) m >>= (λ r.
    Ok (par at (all_new (all_get (visible_params ps) v bs 0)) r.0, r.1))))
par_step l ps v n at bs =
    let F : List (List Got) → List New → Answer (Node × Count) = λ gs ns.
    brings n (branch_count bs) (length ns) at >>= (λ m. unfold_blocks l (callees l ps) bs gs m >>= (λ r. Ok (par at ns r.0, r.1))) in
    let f : ◌≡◌ {A = ParamsOf} (λ x. params_of (callees l ps x)) (visible_params ps) = fun_ext (λ x. visible_is l ps x) in
    ap (λ (g : ParamsOf). F (all_get g v bs n.cells) (all_new (all_get g v bs n.cells))) f
    ∙ ap (λ (ns : List New). F (all_get (visible_params ps) v bs n.cells) ns) (all_new_any (visible_params ps) v bs n.cells 0)

-- a par that fits: the new cells of the other branches are numbered after those of the first
pub blocks_fit : (f : ParamsOf) (v : Env) (a : Block) (bs : Blocks) (first next : ℕ) (gs : List Got)
    → first + length (all_new (all_get f v (Also a bs) first)) ≤ 128 → gs ≡ gets v (uses_block f a) (uses_block f a) [] first → next ≡ first + length (got_new gs)
    → next + length (all_new (all_get f v bs next)) ≤ 128
blocks_fit f v a bs first next gs h e k =
    let g = gets v (uses_block f a) (uses_block f a) [] first in
    let n = first + length (got_new g) in
    let i : next ≡ n = k ∙ ap (λ (z : List Got). first + length (got_new z)) e in
    let l = length-append (got_new g) (all_new (all_get f v bs n)) in
    let j = ap (λ (z : ℕ). length (all_new (all_get f v bs z))) i in
    omega arith

pub also_fits : (f : ParamsOf) (v : Env) (a : Block) (bs : Blocks) (first : ℕ) → first + length (all_new (all_get f v (Also a bs) first)) ≤ 128 → first ≤ 128
also_fits f v a bs first h = omega arith

pub par_gives : {V : Type 0} (f : V → Node × Count) (r : Result V Error) (l : Reading) (ps : List Proc) (v : Env) (n : Count) (at : ℕ) (bs : Blocks) (s : Stm) → s ≡ Par at bs
    → Gives f r (parted l ps v n at bs) → Gives f r (unfold_stm l (callees l ps) v n s)
par_gives {V} f r l ps v n at bs s e g =
    subst (λ (z : Answer (Node × Count)). Gives f r z) (sym (ap (λ (z : Stm). unfold_stm l (callees l ps) v n z) e ∙ par_step l ps v n at bs)) g

pub par_fits : (n m : Count) (k at : ℕ) (f : ParamsOf) (v : Env) (bs : Blocks) (ns : List New) → brings n k (length ns) at ≡ Ok m → m.cells ≤ 128 → ns ≡ all_new (all_get f v bs 0)
    → n.cells + length (all_new (all_get f v bs n.cells)) ≤ 128
par_fits n m k at f v bs ns b h e =
    let i = brings_cells n m k (length ns) at b in
    let j = ap length e in
    let l = ap length (all_new_any f v bs n.cells 0) in
    omega arith
