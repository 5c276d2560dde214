-- After stage 3, stage 4 refuses only where a limit is passed.
use Rattle.std.proofs.Common.{◌≡◌, ℕ, suc, ◌+◌, Bool, true, false, cond, not, ◌&&◌, ◌||◌, T, eqb, leb, ◌⊎◌, List, [], ◌∷◌, ◌++◌, length, is_some, Some, None, Ok, Err, Option, sym, refl, ap, ◌∙◌, subst, inl, inr, arith, eqb→eq}
use Rattle.rules.specs.Programs.{Expr}
use Rattle.lemmas.proofs.Tests.{T_or, or_l, or_r, T_dec, T_true, T_false}
use Rattle.reader.specs.Faults.{Answer, ◌>>=◌, must}
use Rattle.reader.specs.declared.fault.Fault.{Fault}
use Rattle.reader.specs.Tokens.{same, among}
use Rattle.grammar.specs.Trees.{Name, Exp, Use, Number, Negated, Both, Simple, Var, Set, Call, Next, Know, Throw, Head, Plain, If, While, Try, Take, Stm, One, Two, Par, Block, Nil, Seq, Blocks, Last, Also, Param, Proc}
use Rattle.numbers.specs.Literals.{digits_value}
use Rattle.names.specs.Naming.{Reading, is_port, Scope, find_proc, visible, all_visible, undeclared, names_exp, names_call, names_simple, names_head, declared, names_stm, names_block, names_blocks, names_params, names_proc, names_procs}
use Rattle.unfold.specs.Unfolded.{Part, plain, calls, tests, loops, tries, takes, one, throws, two, par, nil, seq, last, also}
use Rattle.unfold.specs.Scopes.{Binding, Env, lookup, found, stands, joined, resolved}
use Rattle.unfold.specs.Variables.{Uses, ParamsOf, uses_exp, uses_args, uses_simple, uses_head, uses_stm, uses_block, uses_blocks, written, gets, got_new, got_env, all_get, all_new}
use Rattle.unfold.specs.Unfolding.{port_of, branch_count, Passed, by_reference, by_value, passes, Count, brings, Callee, Callees, params_of, head_part, unfold_simple, env_after, unfold_stm, unfold_block, unfold_blocks, callees}
use Rattle.program.specs.Clearing.{OnlyLimits}
use Rattle.program.proofs.Distinct.{same_eq, same_refl}
use Rattle.reader.specs.declared.fault.Cause.{Cause}
use Rattle.reader.specs.declared.fault.Cause.TheVariants.{ArgumentCount, NotVisible, OutOfRange, OverLimit, Redeclared}
use Rattle.rules.specs.Programs as rules
use Rattle.program.proofs.Results.{bound, must_be}

-- ---- results that are Err only by a limit

abbrev Limited : {A : Type 0} → Answer A → Type 0
Limited m = (r : Fault) → m ≡ Err r → r.cause ≡ OverLimit

fine : {A : Type 0} (a : A) → Limited (Ok a)
fine a r e = absurd (let z : ◌≡◌ {A = ℕ} 0 1 = cc in omega arith)

next_fine : {A B : Type 0} (m : Answer A) (f : A → Answer B) → Limited m → ((a : A) → m ≡ Ok a → Limited (f a)) → Limited (m >>= f)
next_fine (Ok a) f l k r e = k a refl r e
next_fine (Err x) f l k r e = l r (let i : x ≡ r = cc in ap Err i)

-- one that is granted
on : {A B : Type 0} (m : Answer A) (f : A → Answer B) (a : A) → m ≡ Ok a → Limited (f a) → Limited (m >>= f)
on {A} {B} m f a e h = subst (λ (z : Answer A). Limited (z >>= f)) (sym e) h

must_fine : (b : Bool) (at : ℕ) (m : Count) → Limited {A = Count} (must b OverLimit at >>= (λ u. Ok m))
must_fine true at m = fine m
must_fine false at m = λ r e.
    let i : ◌≡◌ {A = Fault} (record { cause = OverLimit; offset = at }) r = cc in
    sym (ap (λ (v : Fault). v.cause) i)

brings_fine : (n : Count) (p c at : ℕ) → Limited (brings n p c at)
brings_fine n p c at =
    must_fine (leb (suc n.statements) 1024 && (leb (n.places + p) 64 && leb (n.cells + c) 128)) at
    (record { statements = suc n.statements; places = n.places + p; cells = n.cells + c })

-- ---- names that stand for something

abbrev occurs : List ℕ → Uses → Bool
occurs n [] = false
occurs n (u ∷ us) = same n u.0.text || occurs n us

occurs_l : (n : List ℕ) (us ws : Uses) → T (occurs n us) → T (occurs n (us ++ ws))
occurs_l n [] ws h = absurd h
occurs_l n (u ∷ us) ws h =
    elim (T_or (same n u.0.text) (occurs n us) h) [
      | inl i ↦ or_l (same n u.0.text) (occurs n (us ++ ws)) i
      | inr i ↦ or_r (same n u.0.text) (occurs n (us ++ ws)) (occurs_l n us ws i)
    ]

occurs_r : (n : List ℕ) (us ws : Uses) → T (occurs n ws) → T (occurs n (us ++ ws))
occurs_r n [] ws h = h
occurs_r n (u ∷ us) ws h = or_r (same n u.0.text) (occurs n (us ++ ws)) (occurs_r n us ws h)

abbrev Stood : Env → List ℕ → Type 0
Stood v n = (b : Binding) × (lookup v n ≡ Some b)

-- what occurs and is in scope stands for something
abbrev Cov : Env → Uses → Scope → Type 0
Cov v us sc = (n : List ℕ) → T (occurs n us) → T (among n sc) → Stood v n

cov_l : (v : Env) (us ws : Uses) (sc : Scope) → Cov v (us ++ ws) sc → Cov v us sc
cov_l v us ws sc h n i = h n (occurs_l n us ws i)

cov_r : (v : Env) (us ws : Uses) (sc : Scope) → Cov v (us ++ ws) sc → Cov v ws sc
cov_r v us ws sc h n i = h n (occurs_r n us ws i)

cov_head : (v : Env) (x : Name) (w : Bool) (us : Uses) (sc : Scope) → Cov v ((x, w) ∷ us) sc → T (among x.text sc) → Stood v x.text
cov_head v x w us sc h i = h x.text (or_l (same x.text x.text) (occurs x.text us) (same_refl x.text)) i

cov_tail : (v : Env) (x : Name) (w : Bool) (us : Uses) (sc : Scope) → Cov v ((x, w) ∷ us) sc → Cov v us sc
cov_tail v x w us sc h n i = h n (or_r (same n x.text) (occurs n us) i)

in_scope : (sc : Scope) (x : Name) (u : Unit {0}) → visible sc x ≡ Ok u → T (among x.text sc)
in_scope sc x u e = must_be (among x.text sc) NotVisible x.at u e

stands_for : (v : Env) (x : Name) → Stood v x.text → (b : Binding) × (stands v x ≡ Ok b)
stands_for v x h = (h.0, ap (λ o. found NotVisible x.at o) h.1)

lookup_here : (b : Binding) (v : Env) (n : List ℕ) → T (same n b.name) → Stood (b ∷ v) n
lookup_here b v n h = (b, ap (λ (c : Bool). elim c [ true ↦ Some b | false ↦ lookup v n ]) (T_true (same n b.name) h))

lookup_there : (b : Binding) (v : Env) (n : List ℕ) → Stood v n → Stood (b ∷ v) n
lookup_there b v n h =
    elim (T_dec (same n b.name)) [
      | inl i ↦ lookup_here b v n i
      | inr i ↦ (h.0, ap (λ (c : Bool). elim c [ true ↦ Some b | false ↦ lookup v n ]) (T_false (same n b.name) i) ∙ h.1)
    ]

some_is : (k : Cause) (at : ℕ) (o : Option ℕ) → T (is_some o) → (w : ℕ) × (found k at o ≡ Ok w)
some_is k at None h = absurd h
some_is k at (Some w) h = (w, refl)

exp_ok : (l : Reading) (v : Env) (sc : Scope) (e : Exp) (u : Unit {0}) → names_exp l sc e ≡ Ok u → Cov v (uses_exp e) sc → (a : Expr) × (resolved l v e ≡ Ok a)
exp_ok l v sc (Use n) u h c =
    let s = stands_for v n (cov_head v n false [] sc c (in_scope sc n u h)) in
    (rules.own s.0.own, ap (λ z. z >>= (λ b. Ok (rules.own b.own))) s.1)
exp_ok l v sc (Number n) u h c =
    let s = some_is OutOfRange n.at (l n.text) (must_be (is_some (l n.text)) OutOfRange n.at u h) in
    (rules.word s.0, ap (λ z. z >>= (λ w. Ok (rules.word w))) s.1)
exp_ok l v sc (Negated e) u h c =
    let s = exp_ok l v sc e u h c in (rules.minus (rules.word 0) s.0, ap (λ z. z >>= (λ a. Ok (rules.minus (rules.word 0) a))) s.1)
exp_ok l v sc (Both o e f) u h c =
    let b = bound (names_exp l sc e) (λ u. names_exp l sc f) u h in
    let s = exp_ok l v sc e b.0 b.1 (cov_l v (uses_exp e) (uses_exp f) sc c) in
    let t = exp_ok l v sc f u b.2 (cov_r v (uses_exp e) (uses_exp f) sc c) in
    (joined o s.0 t.0, ap (λ z. z >>= (λ a. resolved l v f >>= (λ b. Ok (joined o a b)))) s.1 ∙ ap (λ z. z >>= (λ b. Ok (joined o s.0 b))) t.1)

port_there : (ds : List ℕ) → T (is_port ds) → T (is_some (port_of ds))
port_there ds h = go (digits_value ds) h
  where
    go : (o : Option ℕ) → T (elim o [ Some p ↦ leb p 7 | None ↦ false ]) → T (is_some (elim o [ Some p ↦ cond (leb p 7) (Some p) None | None ↦ None ]))
    go None k = k
    go (Some p) k = subst (λ (b : Bool). T (is_some (cond b (Some p) None))) (sym (T_true (leb p 7) k)) tt

head_ok : (l : Reading) (v : Env) (sc : Scope) (h : Head) (u : Unit {0}) → names_head l sc h ≡ Ok u → Cov v (uses_head h) sc → (p : Part) × (head_part l v h ≡ Ok p)
head_ok l v sc Plain u e c = (plain, refl)
head_ok l v sc (If f) u e c = let s = exp_ok l v sc f u e c in (tests s.0, ap (λ z. z >>= (λ a. Ok (tests a))) s.1)
head_ok l v sc (While f) u e c = let s = exp_ok l v sc f u e c in (loops s.0, ap (λ z. z >>= (λ a. Ok (loops a))) s.1)
head_ok l v sc (Try n) u e c = (tries n.text, refl)
head_ok l v sc (Take i n) u e c =
    let b = bound (must (is_port i.text) OutOfRange i.at) (λ u. visible sc n) u e in
    let p = some_is OutOfRange i.at (port_of i.text) (port_there i.text (must_be (is_port i.text) OutOfRange i.at b.0 b.1)) in
    let s = stands_for v n (cov_head v n true [] sc c (in_scope sc n u b.2)) in
    (takes p.0 s.0.own, ap (λ z. z >>= (λ q. stands v n >>= (λ b. Ok (takes q b.own)))) p.1 ∙ ap (λ z. z >>= (λ b. Ok (takes p.0 b.own))) s.1)

-- ---- calls

abbrev names_of : List Param → Scope
names_of [] = []
names_of (p ∷ ps) = p.name.text ∷ names_of ps

pass_ok : (v : Env) (sc : Scope) (ps : List Param) (as' : List Name) (c : ℕ) (u : Unit {0}) → all_visible sc as' ≡ Ok u → length ps ≡ length as' → Cov v (uses_args ps as') sc
    → (r : Passed) × (passes v ps as' c ≡ Ok r) × ((n : List ℕ) → T (among n (names_of ps)) → Stood r.env n)
pass_ok v sc [] as' c u e l k = (record { env = []; copies = []; news = []; refs = [] }, refl, λ n h. absurd h)
pass_ok v sc (p ∷ ps) [] c u e l k = absurd (omega arith)
pass_ok v sc (p ∷ ps) (a ∷ as') c u e l k =
    let b = bound (visible sc a) (λ w. all_visible sc as') u e in
    let s = stands_for v a (cov_head v a p.reference (uses_args ps as') sc k (in_scope sc a b.0 b.1)) in
    go s.0 s.1 p.reference (λ c. pass_ok v sc ps as' c u b.2 (omega arith) (cov_tail v a p.reference (uses_args ps as') sc k))
  where
    R : ℕ → Type 0
    R c = (r : Passed) × (passes v ps as' c ≡ Ok r) × ((n : List ℕ) → T (among n (names_of ps)) → Stood r.env n)

    env_has : (x : Binding) (w : Env) → x.name ≡ p.name.text → ((n : List ℕ) → T (among n (names_of ps)) → Stood w n) → (n : List ℕ) → T (among n (p.name.text ∷ names_of ps)) → Stood (x ∷ w) n
    env_has x w q f n h =
        elim (T_or (same n p.name.text) (among n (names_of ps)) h) [
          | inl i ↦ lookup_here x w n (subst (λ (z : List ℕ). T (same n z)) (sym q) i)
          | inr i ↦ lookup_there x w n (f n i)
        ]

    go : (b : Binding) → stands v a ≡ Ok b → (t : Bool) → ((c : ℕ) → R c)
        → (r : Passed) × (◌≡◌ {A = Answer Passed} (stands v a >>= (λ b. elim t [ true ↦ passes v ps as' c >>= (λ r. Ok (by_reference p a b r)) | false ↦ passes v ps as' (suc c) >>= (λ r. Ok (by_value p b c r)) ])) (Ok r))
        × ((n : List ℕ) → T (among n (p.name.text ∷ names_of ps)) → Stood r.env n)
    go b h true f =
        let z = f c in (
          by_reference p a b z.0,
          ap (λ m. m >>= (λ b. passes v ps as' c >>= (λ r. Ok (by_reference p a b r)))) h ∙ ap (λ m. m >>= (λ r. Ok (by_reference p a b r))) z.1,
          env_has (record { name = p.name.text; own = b.own; home = b.home }) z.0.env refl z.2,
        )
    go b h false f =
        let z = f (suc c) in (
          by_value p b c z.0,
          ap (λ m. m >>= (λ b. passes v ps as' (suc c) >>= (λ r. Ok (by_value p b c r)))) h ∙ ap (λ m. m >>= (λ r. Ok (by_value p b c r))) z.1,
          env_has (record { name = p.name.text; own = c; home = b.home }) z.0.env refl z.2,
        )

-- a visible procedure: its parameters, and its block where the parameters stand for something
abbrev CalleesFine : List Proc → Callees → Type 0
CalleesFine ps f =
    (x : List ℕ) (p : Proc) → find_proc ps x ≡ Some p
    → (c : Callee) × (f x ≡ Some c) × (c.params ≡ p.params) × ((v : Env) (n : Count) → ((m : List ℕ) → T (among m (names_of p.params)) → Stood v m) → Limited (c.body v n))

simple_fine : (l : Reading) (ps : List Proc) (f : Callees) (v : Env) (sc : Scope) (n : Count) (at : ℕ) (s : Simple) (u : Unit {0}) → CalleesFine ps f → names_simple l ps sc s ≡ Ok u
    → Cov v (uses_simple (λ x. params_of (f x)) s) sc → Limited (unfold_simple l f v n at s)
simple_fine l ps f v sc n at (Var x) u cf e c = next_fine (brings n 0 1 at) (λ m. Ok (one at (record { home = n.cells; name = x } ∷ []) (rules.var n.cells), m)) (brings_fine n 0 1 at) (λ m i. fine (one at (record { home = n.cells; name = x } ∷ []) (rules.var n.cells), m))
simple_fine l ps f v sc n at (Set x y) u cf e c =
    let b = bound (visible sc x) (λ u. names_exp l sc y) u e in
    let s = stands_for v x (cov_head v x true (uses_exp y) sc c (in_scope sc x b.0 b.1)) in
    let t = exp_ok l v sc y u b.2 (cov_tail v x true (uses_exp y) sc c) in
    next_fine (brings n 0 0 at) (λ m. stands v x >>= (λ b. resolved l v y >>= (λ a. Ok (one at [] (rules.set b.own a), m)))) (brings_fine n 0 0 at) (λ m i.
    on (stands v x) (λ b. resolved l v y >>= (λ a. Ok (one at [] (rules.set b.own a), m))) s.0 s.1
    (on (resolved l v y) (λ a. Ok (one at [] (rules.set s.0.own a), m)) t.0 t.1 (fine (one at [] (rules.set s.0.own t.0), m))))
simple_fine l ps f v sc n at (Next x) u cf e c =
    let s = stands_for v x (cov_head v x false [] sc c (in_scope sc x u e)) in
    next_fine (brings n 0 0 at) (λ m. stands v x >>= (λ b. Ok (one at [] (rules.next b.own b.home), m))) (brings_fine n 0 0 at) (λ m i.
    on (stands v x) (λ b. Ok (one at [] (rules.next b.own b.home), m)) s.0 s.1 (fine (one at [] (rules.next s.0.own s.0.home), m)))
simple_fine l ps f v sc n at (Know x) u cf e c =
    let s = stands_for v x (cov_head v x false [] sc c (in_scope sc x u e)) in
    next_fine (brings n 0 0 at) (λ m. stands v x >>= (λ b. Ok (one at [] rules.know, m))) (brings_fine n 0 0 at) (λ m i.
    on (stands v x) (λ b. Ok (one at [] rules.know, m)) s.0 s.1 (fine (one at [] rules.know, m)))
simple_fine l ps f v sc n at (Throw x) u cf e c = next_fine (brings n 0 0 at) (λ m. Ok (throws at x.text, m)) (brings_fine n 0 0 at) (λ m i. fine (throws at x.text, m))
simple_fine l ps f v sc n at (Call x as') u cf e c = go (find_proc ps x.text) refl e
  where
    go : (o : Option Proc) → find_proc ps x.text ≡ o → names_call sc o x as' ≡ Ok u → Limited (unfold_simple l f v n at (Call x as'))
    go None q h = absurd (let z : ◌≡◌ {A = ℕ} 0 1 = cc in omega arith)
    go (Some p) q h =
        let b = bound (must (eqb (length p.params) (length as')) ArgumentCount x.at) (λ u. all_visible sc as') u h in
        let d = cf x.text p q in
        let callee = d.0 in
        let same_length : length callee.params ≡ length as' =
        ap (λ z. length z) d.2 ∙ eqb→eq (length p.params) (length as') (must_be (eqb (length p.params) (length as')) ArgumentCount x.at b.0 b.1) in
        let cov : Cov v (uses_args callee.params as') sc = subst (λ (z : Option Callee). Cov v (uses_args (params_of z) as') sc) d.1 c in
        let r = pass_ok v sc callee.params as' n.cells u b.2 same_length cov in
        on (found NotVisible at (f x.text)) (λ c. passes v c.params as' n.cells >>= (λ p. brings n 0 (length p.news) at >>= (λ m.
        c.body p.env m >>= (λ r. Ok (two at p.news (calls p.copies p.refs) r.0 nil, r.1))))) callee (ap (λ o. found NotVisible at o) d.1)
        (on (passes v callee.params as' n.cells) (λ p. brings n 0 (length p.news) at >>= (λ m.
        callee.body p.env m >>= (λ r. Ok (two at p.news (calls p.copies p.refs) r.0 nil, r.1)))) r.0 r.1
        (next_fine (brings n 0 (length r.0.news) at) (λ m. callee.body r.0.env m >>= (λ z. Ok (two at r.0.news (calls r.0.copies r.0.refs) z.0 nil, z.1))) (brings_fine n 0 (length r.0.news) at) (λ m i.
        next_fine (callee.body r.0.env m) (λ z. Ok (two at r.0.news (calls r.0.copies r.0.refs) z.0 nil, z.1))
        (d.3 r.0.env m (λ k h. r.2 k (subst (λ (z : List Param). T (among k (names_of z))) (sym d.2) h)))
        (λ z j. fine (two at r.0.news (calls r.0.copies r.0.refs) z.0 nil, z.1)))))

-- ---- branches

gets_has : (v : Env) (all us : Uses) (had : List (List ℕ)) (c : ℕ) (n : List ℕ) → T (occurs n us) → Stood v n → (T (among n had) → ⊥) → Stood (got_env (gets v all us had c)) n
gets_has v all [] had c n h s k = absurd h
gets_has v all (u ∷ us) had c n h s k =
    go (among u.0.text had) refl (lookup v u.0.text) refl (written all u.0.text) (λ c i. gets_has v all us had c n i s k) (λ c i j. gets_has v all us (u.0.text ∷ had) c n i s j)
  where
    later : T (same n u.0.text) ⊎ T (occurs n us)
    later = T_or (same n u.0.text) (occurs n us) h

    step : (x : Binding) (w : Env) → x.name ≡ u.0.text → (T (occurs n us) → (T (among n (u.0.text ∷ had)) → ⊥) → Stood w n) → Stood (x ∷ w) n
    step x w q f =
        elim (T_dec (same n u.0.text)) [
          | inl i ↦ lookup_here x w n (subst (λ (z : List ℕ). T (same n z)) (sym q) i)
          | inr i ↦
              lookup_there x w n (f (elim later [ inl j ↦ absurd (i j) | inr j ↦ j ])
              (λ j. elim (T_or (same n u.0.text) (among n had) j) [ inl z ↦ i z | inr z ↦ k z ]))
        ]

    go : (s' : Bool) → among u.0.text had ≡ s' → (o : Option Binding) → lookup v u.0.text ≡ o → (w : Bool)
        → ((c : ℕ) → T (occurs n us) → Stood (got_env (gets v all us had c)) n)
        → ((c : ℕ) → T (occurs n us) → (T (among n (u.0.text ∷ had)) → ⊥) → Stood (got_env (gets v all us (u.0.text ∷ had) c)) n)
        → Stood (got_env (elim s' [
          | true ↦ gets v all us had c
          | false ↦ elim o [
            | None ↦ gets v all us had c
            | Some b ↦ elim w [
              | true ↦ record { name = u.0; own = b.own; home = b.home; from = None } ∷ gets v all us (u.0.text ∷ had) c
              | false ↦ record { name = u.0; own = c; home = b.home; from = Some b.own } ∷ gets v all us (u.0.text ∷ had) (suc c)
            ]
          ]
        ])) n
    go true e o q w f1 f2 =
        f1 c (elim later [ inl j ↦ absurd (k (subst (λ (z : List ℕ). T (among z had)) (sym (same_eq n u.0.text j)) (subst T (sym e) tt))) | inr j ↦ j ])
    go false e None q w f1 f2 =
        f1 c (elim later [
          | inl j ↦ absurd (let z : None ≡ Some s.0 = sym q ∙ ap (λ m. lookup v m) (sym (same_eq n u.0.text j)) ∙ s.1 in let y : ◌≡◌ {A = ℕ} 0 1 = cc in omega arith)
          | inr j ↦ j
        ])
    go false e (Some b) q true f1 f2 = step (record { name = u.0.text; own = b.own; home = b.home }) (got_env (gets v all us (u.0.text ∷ had) c)) refl (f2 c)
    go false e (Some b) q false f1 f2 = step (record { name = u.0.text; own = c; home = b.home }) (got_env (gets v all us (u.0.text ∷ had) (suc c))) refl (f2 (suc c))

-- ---- statements and blocks

grown_cov : (v : Env) (n : Count) (sc : Scope) (s : Stm) (us : Uses) → Cov v us sc → Cov (env_after v n s) us (declared sc s)
grown_cov v n sc (One at (Var x)) us c m h i =
    elim (T_or (same m x.text) (among m sc) i) [
      | inl j ↦ lookup_here (record { name = x.text; own = n.cells; home = n.cells }) v m j
      | inr j ↦ lookup_there (record { name = x.text; own = n.cells; home = n.cells }) v m (c m h j)
    ]
grown_cov v n sc (One at (Set x e)) us c m h i = c m h i
grown_cov v n sc (One at (Call x as')) us c m h i = c m h i
grown_cov v n sc (One at (Next x)) us c m h i = c m h i
grown_cov v n sc (One at (Know x)) us c m h i = c m h i
grown_cov v n sc (One at (Throw x)) us c m h i = c m h i
grown_cov v n sc (Two at h' a b) us c m h i = c m h i
grown_cov v n sc (Par at bs) us c m h i = c m h i

module _ (l : Reading) (ps : List Proc) (f : Callees) (cf : CalleesFine ps f) where
  abbrev g : ParamsOf
  g x = params_of (f x)

  mutual
    stm_fine : (s : Stm) (v : Env) (sc : Scope) (n : Count) (u : Unit {0}) → names_stm l ps sc s ≡ Ok u → Cov v (uses_stm g s) sc → Limited (unfold_stm l f v n s)
    stm_fine (One at s) v sc n u e c = simple_fine l ps f v sc n at s u cf e c
    stm_fine (Two at h a b) v sc n u e c =
        let b0 = bound (names_head l sc h) (λ u. names_block l ps sc a >>= (λ w. names_block l ps sc b)) u e in
        let b1 = bound (names_block l ps sc a) (λ w. names_block l ps sc b) u b0.2 in
        let t = head_ok l v sc h b0.0 b0.1 (cov_l v (uses_head h) (uses_block g a ++ uses_block g b) sc c) in
        let c2 = cov_r v (uses_head h) (uses_block g a ++ uses_block g b) sc c in
        next_fine (brings n 0 0 at) (λ m. head_part l v h >>= (λ p. unfold_block l f a v m >>= (λ r. unfold_block l f b v r.1 >>= (λ s. Ok (two at [] p r.0 s.0, s.1))))) (brings_fine n 0 0 at) (λ m i.
        on (head_part l v h) (λ p. unfold_block l f a v m >>= (λ r. unfold_block l f b v r.1 >>= (λ s. Ok (two at [] p r.0 s.0, s.1)))) t.0 t.1
        (next_fine (unfold_block l f a v m) (λ r. unfold_block l f b v r.1 >>= (λ s. Ok (two at [] t.0 r.0 s.0, s.1)))
        (block_fine a v sc m b1.0 b1.1 (cov_l v (uses_block g a) (uses_block g b) sc c2)) (λ r j.
        next_fine (unfold_block l f b v r.1) (λ s. Ok (two at [] t.0 r.0 s.0, s.1))
        (block_fine b v sc r.1 u b1.2 (cov_r v (uses_block g a) (uses_block g b) sc c2)) (λ s k. fine (two at [] t.0 r.0 s.0, s.1)))))
    stm_fine (Par at bs) v sc n u e c =
        let gs = all_get g v bs n.cells in
        next_fine (brings n (branch_count bs) (length (all_new gs)) at) (λ m. unfold_blocks l f bs gs m >>= (λ r. Ok (par at (all_new gs) r.0, r.1))) (brings_fine n (branch_count bs) (length (all_new gs)) at) (λ m i.
        next_fine (unfold_blocks l f bs gs m) (λ r. Ok (par at (all_new gs) r.0, r.1)) (blocks_fine bs v sc n.cells m u e c) (λ r j. fine (par at (all_new gs) r.0, r.1)))

    block_fine : (b : Block) (v : Env) (sc : Scope) (n : Count) (u : Unit {0}) → names_block l ps sc b ≡ Ok u → Cov v (uses_block g b) sc → Limited (unfold_block l f b v n)
    block_fine Nil v sc n u e c = fine (nil, n)
    block_fine (Seq s b) v sc n u e c =
        let b0 = bound (names_stm l ps sc s) (λ u. names_block l ps (declared sc s) b) u e in
        next_fine (unfold_stm l f v n s) (λ r. unfold_block l f b (env_after v n s) r.1 >>= (λ t. Ok (seq r.0 t.0, t.1)))
        (stm_fine s v sc n b0.0 b0.1 (cov_l v (uses_stm g s) (uses_block g b) sc c)) (λ r i.
        next_fine (unfold_block l f b (env_after v n s) r.1) (λ t. Ok (seq r.0 t.0, t.1))
        (block_fine b (env_after v n s) (declared sc s) r.1 u b0.2 (grown_cov v n sc s (uses_block g b) (cov_r v (uses_stm g s) (uses_block g b) sc c))) (λ t j. fine (seq r.0 t.0, t.1)))

    blocks_fine : (bs : Blocks) (v : Env) (sc : Scope) (c : ℕ) (n : Count) (u : Unit {0}) → names_blocks l ps sc bs ≡ Ok u → Cov v (uses_blocks g bs) sc → Limited (unfold_blocks l f bs (all_get g v bs c) n)
    blocks_fine Last v sc c n u e k = fine (last, n)
    blocks_fine (Also a bs) v sc c n u e k =
        let b0 = bound (names_block l ps sc a) (λ u. names_blocks l ps sc bs) u e in
        let us = uses_block g a in
        let x = gets v us us [] c in
        let d = c + length (got_new x) in
        let ka = cov_l v us (uses_blocks g bs) sc k in
        next_fine (unfold_block l f a (got_env x) n) (λ r. unfold_blocks l f bs (all_get g v bs d) r.1 >>= (λ t. Ok (also x r.0 t.0, t.1)))
        (block_fine a (got_env x) sc n b0.0 b0.1 (λ m h i. gets_has v us us [] c m h (ka m h i) (λ z. z))) (λ r i.
        next_fine (unfold_blocks l f bs (all_get g v bs d) r.1) (λ t. Ok (also x r.0 t.0, t.1))
        (blocks_fine bs v sc d r.1 u b0.2 (cov_r v us (uses_blocks g bs) sc k)) (λ t j. fine (also x r.0 t.0, t.1)))

-- ---- procedures

abbrev Checked : Reading → List Proc → Type 0
Checked l [] = Unit {0}
Checked l (p ∷ ps) = ((v : Scope) × (names_params [] p.params ≡ Ok v) × (names_block l ps v p.body ≡ Ok tt)) × Checked l ps

procs_checked : (l : Reading) (ps old new : List Proc) → names_procs l old ps ≡ Ok new → Checked l old → Checked l new
procs_checked l [] old new e h = let i : old ≡ new = cc in subst (Checked l) i h
procs_checked l (p ∷ ps) old new e h =
    let d = bound (names_proc l old p) (λ u. names_procs l (p ∷ old) ps) new e in
    let a = bound (must (not (is_some (find_proc old p.name.text))) Redeclared p.name.at) (λ u. names_params [] p.params >>= (λ v. names_block l old v p.body)) d.0 d.1 in
    let b = bound (names_params [] p.params) (λ v. names_block l old v p.body) d.0 a.2 in
    procs_checked l ps (p ∷ old) new d.2 ((b.0, b.1, b.2), h)

-- the scope of a procedure's block is its parameters
params_scope : (ps : List Param) (sc v : Scope) → names_params sc ps ≡ Ok v → (n : List ℕ) → T (among n v) → T (among n (names_of ps)) ⊎ T (among n sc)
params_scope [] sc v e n h = let i : sc ≡ v = cc in inr (subst (λ (z : Scope). T (among n z)) (sym i) h)
params_scope (p ∷ ps) sc v e n h =
    let a = bound (undeclared sc p.name) (λ u. names_params (p.name.text ∷ sc) ps) v e in
    elim (params_scope ps (p.name.text ∷ sc) v a.2 n h) [
      | inl i ↦ inl (or_r (same n p.name.text) (among n (names_of ps)) i)
      | inr i ↦
          elim (T_or (same n p.name.text) (among n sc) i) [ inl j ↦ inl (or_l (same n p.name.text) (among n (names_of ps)) j) | inr j ↦ inr j ]
    ]

callees_fine : (l : Reading) (ps : List Proc) → Checked l ps → CalleesFine ps (callees l ps)
callees_fine l [] h x p e = absurd (let z : ◌≡◌ {A = ℕ} 0 1 = cc in omega arith)
callees_fine l (q ∷ ps) h x p e = go (same x q.name.text) (callees_fine l ps h.1) e
  where
    mine : Callee
    mine = record { params = q.params; body = λ v n. unfold_block l (λ y. callees l ps y) q.body v n }

    go : (t : Bool) → CalleesFine ps (λ y. callees l ps y) → ◌≡◌ {A = Option Proc} (elim t [ true ↦ Some q | false ↦ find_proc ps x ]) (Some p)
        → (c : Callee)
        × (◌≡◌ {A = Option Callee} (elim t [ true ↦ Some (record { params = q.params; body = λ v n. unfold_block l (λ y. callees l ps y) q.body v n }) | false ↦ callees l ps x ]) (Some c))
        × (c.params ≡ p.params) × ((v : Env) (n : Count) → ((m : List ℕ) → T (among m (names_of p.params)) → Stood v m) → Limited (c.body v n))
    go true f i =
        let j : q ≡ p = cc in
        let k = h.0 in (
          record { params = q.params; body = λ v n. unfold_block l (λ y. callees l ps y) q.body v n },
          refl,
          ap (λ z. z.params) j,
          λ v n s. block_fine l ps (λ y. callees l ps y) f q.body v k.0 n tt k.2
              (λ m o w. elim (params_scope q.params [] k.0 k.1 m w) [
                | inl z ↦ s m (subst (λ (r : Proc). T (among m (names_of r.params))) j z)
                | inr z ↦ absurd z
              ]),
        )
    go false f i = f x p i

pub only_limits : OnlyLimits
only_limits l t ps r e =
    let a = bound (names_procs l [] t.procs) (λ ps. names_block l ps [] t.main >>= (λ u. Ok ps)) ps e in
    let b = bound (names_block l a.0 [] t.main) (λ u. Ok a.0) ps a.2 in
    let j : a.0 ≡ ps = cc in
    let s : Checked l ps = subst (Checked l) j (procs_checked l t.procs [] a.0 a.1 tt) in
    let m : names_block l ps [] t.main ≡ Ok b.0 = subst (λ (z : List Proc). names_block l z [] t.main ≡ Ok b.0) j b.1 in
    let start : Count = record { statements = 0; places = 1; cells = 0 } in
    next_fine (unfold_block l (callees l ps) t.main [] start) (λ r. Ok r.0)
    (block_fine l ps (callees l ps) (callees_fine l ps s) t.main [] [] start b.0 m (λ n h i. absurd i)) (λ z i. fine z.0) r
