-- What a statement declares, in the table and in the scope.
use Rattle.std.proofs.Common.{◌≡◌, ℕ, List, [], ◌++◌, length, take, Ok, Err, Result, vec_items, sym, refl, ap, ◌∙◌, subst, append-nil}
use Rattle.std.proofs.lemmas.List.{take_at}
use Rattle.reader.specs.declared.fault.Error.{Error}
use Rattle.reader.specs.declared.fault.Error.TheVariants.{Refused, OutOfMemory}
use Rattle.reader.specs.Faults.{Answer, Meets, ◌>>=◌}
use Rattle.grammar.specs.declared.tree.Name as code-name
use Rattle.grammar.specs.declared.tree.Simple.TheVariants as simples
use Rattle.grammar.specs.declared.tree.Stmt as code-stmt
use Rattle.grammar.specs.declared.tree.Block as code-block
use Rattle.grammar.specs.declared.tree.Proc as code-proc
use Rattle.grammar.specs.declared.tree.Block.TheVariants as stmts
use Rattle.grammar.specs.Views.{stm, block}
use Rattle.names.specs.Naming.{Reading, declared, names_stm, names_block}
use Rattle.names.specs.Scopes.{scope, ended, declares}
use Rattle.names.specs.Checking.{vars_of, procs_of, SeesSame, Checks}
use Rattle.names.specs.declared.checker.Checker.{Checker}
use Rattle.names.proofs.Binds.{bind_ok}
use Rattle.names.proofs.Stacks.{stacked_push}

pub declared_scope : (text : List ℕ) (ns : List code-name.Name) (s : code-stmt.Stmt) → scope text (ns ++ declares s) ≡ declared (scope text ns) (stm text s)
declared_scope text ns (stmts.One at (simples.Var n)) = stacked_push text [] ns n
declared_scope text ns (stmts.One at (simples.Set n e)) = ap (scope text) (append-nil ns)
declared_scope text ns (stmts.One at (simples.Call n as')) = ap (scope text) (append-nil ns)
declared_scope text ns (stmts.One at (simples.Next n)) = ap (scope text) (append-nil ns)
declared_scope text ns (stmts.One at (simples.Know n)) = ap (scope text) (append-nil ns)
declared_scope text ns (stmts.One at (simples.Throw n)) = ap (scope text) (append-nil ns)
declared_scope text ns (stmts.Two' at h p a q b) = ap (scope text) (append-nil ns)
declared_scope text ns (stmts.Par' at p bs) = ap (scope text) (append-nil ns)

-- an answer that was met
pub met_ok : {V A : Type 0} (P : V → A → Type 0) (v : V) (r : Answer A) → Meets P (Ok v) r → (a : A) × (r ≡ Ok a) × P v a
met_ok P v (Ok a) h = (a, refl, h)
met_ok P v (Err f) h = absurd h

pub met_err : {V W A : Type 0} (P : V → A → Type 0) (Q : W → A → Type 0) (e : Error) (r : Answer A) → Meets P (Err e) r → Meets Q (Err e) r
met_err P Q (Refused f) (Ok a) h = absurd h
met_err P Q (Refused f) (Err i) h = h
met_err P Q OutOfMemory r h = tt

-- the rest of a block, after a statement that is in order and what it declares
rest_is : (l : Reading) (text text' : List ℕ) (qs qs' : List code-proc.Proc) (ns ms : List code-name.Name) (s : code-stmt.Stmt) (b : code-block.Block)
    → Ok tt ≡ names_stm l (ended text qs) (scope text ns) (stm text s) → text' ≡ text → qs' ≡ qs → ms ≡ ns ++ declares s
    → names_block l (ended text' qs') (scope text' ms) (block text' b)
    ≡ (names_stm l (ended text qs) (scope text ns) (stm text s) >>= (λ u. names_block l (ended text qs) (declared (scope text ns) (stm text s)) (block text b)))
rest_is l text text' qs qs' ns ms s b e t q d =
    let h = bind_ok tt (λ (u : Unit {0}). names_block l (ended text qs) (declared (scope text ns) (stm text s)) (block text b)) e in
    let k = declared_scope text ns s in
    cc

-- The rest of a block, after a statement that is in order and what it declares: c before the statement, d after it, ms with what it declares.
-- The statement and the rest of the block stand in boxes, which the code reads one by one.
pub seq_is : {K : Type 0} (l : Reading) (c d : Checker K) (ms : List code-name.Name) (whole : code-block.Block) (s s' s'' : code-stmt.Stmt) (b b' : code-block.Block)
    → names_block l (procs_of c) (vars_of c) (block c.text.now whole)
    ≡ (names_stm l (procs_of c) (vars_of c) (stm c.text.now s) >>= (λ u. names_block l (procs_of c) (declared (vars_of c) (stm c.text.now s)) (block c.text.now b)))
    → s' ≡ s → s'' ≡ s → b' ≡ b → Checks c d (Ok tt) (names_stm l (procs_of c) (vars_of c) (stm c.text.now s')) → ms ≡ vec_items d.vars ++ declares s''
    → (names_block l (procs_of d) (scope d.text.now ms) (block d.text.now b') ≡ names_block l (procs_of c) (vars_of c) (block c.text.now whole))
    × SeesSame c d × (ms ≡ vec_items c.vars ++ declares s)
seq_is {K} l c d ms whole s s' s'' b b' e i j k h m =
    let o = met_ok (λ (u w : Unit {0}). SeesSame c d) tt (names_stm l (procs_of c) (vars_of c) (stm c.text.now s')) h in
    let n = sym (sym (ap (λ (x : code-stmt.Stmt). names_stm l (procs_of c) (vars_of c) (stm c.text.now x)) i) ∙ o.1) in
    let m' : ms ≡ vec_items c.vars ++ declares s = m ∙ ap (λ (xs : List code-name.Name). xs ++ declares s'') o.2.2 ∙ ap (λ (x : code-stmt.Stmt). vec_items c.vars ++ declares x) j in (
      ap (λ (x : code-block.Block). names_block l (procs_of d) (scope d.text.now ms) (block d.text.now x)) k
          ∙ rest_is l c.text.now d.text.now c.procs.now d.procs.now (vec_items c.vars) ms s b n o.2.0 o.2.1 m' ∙ sym e,
      o.2,
      m',
    )

-- at the end of the block the table is cut to what it was
pub cut : {A : Type 0} (ns ns' ms ms' xs ds : List A) (n : ℕ) → ns' ≡ ns → ms ≡ ns ++ ds → ms' ≡ ms → n ≡ length ns' → xs ≡ take n ms' → xs ≡ ns
cut {A} ns ns' ms ms' xs ds n a b d e f =
    f ∙ ap (λ (k : ℕ). take k ms') (e ∙ ap length a) ∙ ap (take (length ns)) (d ∙ b) ∙ take_at ns ds (length ns) refl

-- another answer of the code that stands for the same
pub met_by : {V A : Type 0} (P : V → A → Type 0) {x y : Result V Error} {r s : Answer A} → x ≡ y → r ≡ s → Meets P x r → Meets P y s
met_by {V} {A} P {x} {y} {r} {s} e i h =
    subst (λ (z : Result V Error). Meets P z s) e (subst (λ (z : Answer A). Meets P x z) i h)

pub met_with : {V A : Type 0} (P Q : V → A → Type 0) (v : V) (r : Answer A) → ((a : A) → P v a → Q v a) → Meets P (Ok v) r → Meets Q (Ok v) r
met_with P Q v (Ok a) f h = f a h
met_with P Q v (Err e) f h = h
