-- What names, expressions, branches and calls bring into an unfolded text.
use Rattle.std.proofs.Common.{◌≡◌, ℕ, suc, ◌+◌, ◌<◌, ◌≤◌, Bool, true, false, cond, T, leb, List, [], ◌∷◌, ◌++◌, length, Some, None, Ok, Option, sym, refl, subst, arith, leb→le, length-append}
use Rattle.reader.specs.Faults.{Answer, ◌>>=◌}
use Rattle.reader.specs.Tokens.{same, among}
use Rattle.reader.specs.declared.fault.Cause.TheVariants.{NotVisible, OutOfRange}
use Rattle.grammar.specs.Trees.{Name, Op, Same, Less, Plus, Minus, Times, Exp, Use, Number, Negated, Both, Head, Plain, If, While, Try, Take, Blocks, Last, Also, Param}
use Rattle.numbers.specs.Literals.{digits_value}
use Rattle.names.specs.Naming.{Reading}
use Rattle.rules.specs.Programs.{Expr, own, word, minus}
use Rattle.unfold.specs.Unfolded.{New, Got, Part, plain, tests, loops, tries, takes}
use Rattle.unfold.specs.Scopes.{Binding, Env, lookup, found, stands, joined, resolved}
use Rattle.unfold.specs.Variables.{Uses, ParamsOf, uses_block, written, gets, got_new, got_env, all_get, all_new}
use Rattle.unfold.specs.Unfolding.{port_of, Passed, by_reference, by_value, passes, head_part}
use Rattle.program.specs.Bounds.{Each, NamesExpr, NamesCopies, NamesPart, NamesNew, NamesGot}
use Rattle.program.proofs.Results.{bound, ok_eq, found_is}

pub each_join : {A : Type 0} (R : A → Type 0) (as' bs : List A) → Each R as' → Each R bs → Each R (as' ++ bs)
each_join R [] bs h k = k
each_join R (a ∷ as') bs h k = (h.0, each_join R as' bs h.1 k)

some_eq : {A : Type 0} (a b : A) → ◌≡◌ {A = Option A} (Some a) (Some b) → a ≡ b
some_eq a b e = cc

port_small : (ds : List ℕ) (p : ℕ) → port_of ds ≡ Some p → p < 8
port_small ds p e = go (digits_value ds) e
  where
    low : (q : ℕ) (b : Bool) → leb q 7 ≡ b → ◌≡◌ {A = Option ℕ} (cond b (Some q) None) (Some p) → p < 8
    low q true j i = let k = some_eq q p i in let m = leb→le q 7 (subst T (sym j) tt) in omega arith
    low q false j i = absurd (let z : ◌≡◌ {A = ℕ} 0 1 = cc in omega arith)

    go : (o : Option ℕ) → ◌≡◌ {A = Option ℕ} (elim o [ Some q ↦ cond (leb q 7) (Some q) None | None ↦ None ]) (Some p) → p < 8
    go None i = absurd (let z : ◌≡◌ {A = ℕ} 0 1 = cc in omega arith)
    go (Some q) i = low q (leb q 7) refl i

-- C holds of the cells of each name
module _ (C : ℕ → Type 0) where
  abbrev BindIn : Binding → Type 0
  BindIn b = C b.own × C b.home

  abbrev pub EnvIn : Env → Type 0
  EnvIn v = Each BindIn v

  looked : (v : Env) (n : List ℕ) (b : Binding) → EnvIn v → lookup v n ≡ Some b → BindIn b
  looked [] n b h e = absurd (let z : ◌≡◌ {A = ℕ} 0 1 = cc in omega arith)
  looked (c ∷ v) n b h e = go (same n c.name) (λ i. looked v n b h.1 i) e
    where
      go : (t : Bool) → (lookup v n ≡ Some b → BindIn b) → ◌≡◌ {A = Option Binding} (elim t [ true ↦ Some c | false ↦ lookup v n ]) (Some b) → BindIn b
      go true f i = subst BindIn (some_eq c b i) h.0
      go false f i = f i

  pub stood : (v : Env) (n : Name) (b : Binding) → EnvIn v → stands v n ≡ Ok b → BindIn b
  stood v n b h e = looked v n.text b h (found_is NotVisible n.at (lookup v n.text) b e)

  abbrev pub GotIn : List Got → Type 0
  GotIn g = Each (NamesGot C) g

  pub env_in : (g : List Got) → GotIn g → EnvIn (got_env g)
  env_in [] h = tt
  env_in (x ∷ g) h = ((h.0.0, h.0.1), env_in g h.1)

  new_in : (g : List Got) → GotIn g → NamesNew C (got_new g)
  new_in [] h = tt
  new_in (x ∷ g) h = go x.from (new_in g h.1)
    where
      go : (o : Option ℕ) → NamesNew C (got_new g) → NamesNew C (elim o [ None ↦ got_new g | Some a ↦ record { home = x.home; name = x.name } ∷ got_new g ])
      go None r = r
      go (Some a) r = (h.0.1, r)

  abbrev pub AllIn : List (List Got) → Type 0
  AllIn gs = Each GotIn gs

  pub all_new_in : (gs : List (List Got)) → AllIn gs → NamesNew C (all_new gs)
  all_new_in [] h = tt
  all_new_in (g ∷ gs) h = each_join (λ (n : New). C n.home) (got_new g) (all_new gs) (new_in g h.0) (all_new_in gs h.1)

  -- W holds of 0 and of the words that literals have
  module _ (l : Reading) (W : ℕ → Type 0) (nought : W 0) (read : (ds : List ℕ) (w : ℕ) → l ds ≡ Some w → W w) where
    -- ---- expressions

    joined_in : (o : Op) (a b : Expr) → NamesExpr C W a → NamesExpr C W b → NamesExpr C W (joined o a b)
    joined_in Same a b h k = (h, k)
    joined_in Less a b h k = (h, k)
    joined_in Plus a b h k = (h, k)
    joined_in Minus a b h k = (h, k)
    joined_in Times a b h k = (h, k)

    pub expr_in : (v : Env) (e : Exp) (a : Expr) → EnvIn v → resolved l v e ≡ Ok a → NamesExpr C W a
    expr_in v (Use n) a h i =
        let b = bound (stands v n) (λ b. Ok (own b.own)) a i in
        subst (NamesExpr C W) (ok_eq (own b.0.own) a b.2) (stood v n b.0 h b.1).0
    expr_in v (Number n) a h i =
        let b = bound (found OutOfRange n.at (l n.text)) (λ w. Ok (word w)) a i in
        subst (NamesExpr C W) (ok_eq (word b.0) a b.2) (read n.text b.0 (found_is OutOfRange n.at (l n.text) b.0 b.1))
    expr_in v (Negated e) a h i =
        let b = bound (resolved l v e) (λ a. Ok (minus (word 0) a)) a i in
        subst (NamesExpr C W) (ok_eq (minus (word 0) b.0) a b.2) (nought, expr_in v e b.0 h b.1)
    expr_in v (Both o e f) a h i =
        let b = bound (resolved l v e) (λ a. resolved l v f >>= (λ b. Ok (joined o a b))) a i in
        let c = bound (resolved l v f) (λ d. Ok (joined o b.0 d)) a b.2 in
        subst (NamesExpr C W) (ok_eq (joined o b.0 c.0) a c.2) (joined_in o b.0 c.0 (expr_in v e b.0 h b.1) (expr_in v f c.0 h c.1))

    pub part_in : (v : Env) (h : Head) (t : Part) → EnvIn v → head_part l v h ≡ Ok t → NamesPart C W t
    part_in v Plain t k e = subst (NamesPart C W) (ok_eq plain t e) tt
    part_in v (If f) t k e =
        let b = bound (resolved l v f) (λ a. Ok (tests a)) t e in
        subst (NamesPart C W) (ok_eq (tests b.0) t b.2) (expr_in v f b.0 k b.1)
    part_in v (While f) t k e =
        let b = bound (resolved l v f) (λ a. Ok (loops a)) t e in
        subst (NamesPart C W) (ok_eq (loops b.0) t b.2) (expr_in v f b.0 k b.1)
    part_in v (Try n) t k e = subst (NamesPart C W) (ok_eq (tries n.text) t e) tt
    part_in v (Take i n) t k e =
        let a = bound (found OutOfRange i.at (port_of i.text)) (λ p. stands v n >>= (λ b. Ok (takes p b.own))) t e in
        let b = bound (stands v n) (λ b. Ok (takes a.0 b.own)) t a.2 in
        subst (NamesPart C W) (ok_eq (takes a.0 b.0.own) t b.2)
        (port_small i.text a.0 (found_is OutOfRange i.at (port_of i.text) a.0 a.1), (stood v n b.0 k b.1).0)

  -- C holds of the cells below N
  module _ (N : ℕ) (new : (c : ℕ) → c < N → C c) where
    -- ---- what a branch gets

    gets_in : (v : Env) (all us : Uses) (had : List (List ℕ)) (c : ℕ) → EnvIn v → c + length (got_new (gets v all us had c)) ≤ N → GotIn (gets v all us had c)
    gets_in v all [] had c h m = tt
    gets_in v all (u ∷ us) had c h m =
        go (among u.0.text had) (gets_in v all us had c h) (gets_in v all us (u.0.text ∷ had) c h) (gets_in v all us (u.0.text ∷ had) (suc c) h)
        (lookup v u.0.text) (λ b. looked v u.0.text b h) (written all u.0.text) m
      where
        go : (s : Bool)
            → (c + length (got_new (gets v all us had c)) ≤ N → GotIn (gets v all us had c))
            → (c + length (got_new (gets v all us (u.0.text ∷ had) c)) ≤ N → GotIn (gets v all us (u.0.text ∷ had) c))
            → (suc c + length (got_new (gets v all us (u.0.text ∷ had) (suc c))) ≤ N → GotIn (gets v all us (u.0.text ∷ had) (suc c)))
            → (o : Option Binding) → ((b : Binding) → o ≡ Some b → BindIn b) → (w : Bool)
            → c + length (got_new (elim s [
              | true ↦ gets v all us had c
              | false ↦ elim o [
                | None ↦ gets v all us had c
                | Some b ↦ elim w [
                  | true ↦ record { name = u.0; own = b.own; home = b.home; from = None } ∷ gets v all us (u.0.text ∷ had) c
                  | false ↦ record { name = u.0; own = c; home = b.home; from = Some b.own } ∷ gets v all us (u.0.text ∷ had) (suc c)
                ]
              ]
            ])) ≤ N
            → GotIn (elim s [
              | true ↦ gets v all us had c
              | false ↦ elim o [
                | None ↦ gets v all us had c
                | Some b ↦ elim w [
                  | true ↦ record { name = u.0; own = b.own; home = b.home; from = None } ∷ gets v all us (u.0.text ∷ had) c
                  | false ↦ record { name = u.0; own = c; home = b.home; from = Some b.own } ∷ gets v all us (u.0.text ∷ had) (suc c)
                ]
              ]
            ])
        go true f1 f2 f3 o k w i = f1 i
        go false f1 f2 f3 None k w i = f1 i
        go false f1 f2 f3 (Some b) k true i = let z = k b refl in ((z.0, z.1, tt), f2 i)
        go false f1 f2 f3 (Some b) k false i =
            let z = k b refl in
            let x = length (got_new (gets v all us (u.0.text ∷ had) (suc c))) in
            let j : c + suc x ≤ N = i in
            let lo : c < N = omega arith in
            let hi : suc c + x ≤ N = omega arith in
            ((new c lo, z.1, z.0), f3 hi)

    pub all_in : (f : ParamsOf) (v : Env) (bs : Blocks) (c : ℕ) → EnvIn v → c + length (all_new (all_get f v bs c)) ≤ N → AllIn (all_get f v bs c)
    all_in f v Last c h m = tt
    all_in f v (Also b bs) c h m =
        let us = uses_block f b in
        let g = gets v us us [] c in
        let d = c + length (got_new g) in
        let a = length-append (got_new g) (all_new (all_get f v bs d)) in
        let lo : c + length (got_new g) ≤ N = omega arith in
        let hi : d + length (all_new (all_get f v bs d)) ≤ N = omega arith in
        (gets_in v us us [] c h lo, all_in f v bs d h hi)

    -- ---- what a call passes

    abbrev PassedIn : Passed → Type 0
    PassedIn r = EnvIn r.env × NamesCopies C r.copies × NamesNew C r.news

    pub passed : (v : Env) (ps : List Param) (as' : List Name) (c : ℕ) (r : Passed) → EnvIn v → passes v ps as' c ≡ Ok r → c + length r.news ≤ N → PassedIn r
    passed v [] as' c r h e m = subst PassedIn (ok_eq (record { env = []; copies = []; news = []; refs = [] }) r e) (tt, tt, tt)
    passed v (x ∷ ps) [] c r h e m = subst PassedIn (ok_eq (record { env = []; copies = []; news = []; refs = [] }) r e) (tt, tt, tt)
    passed v (x ∷ ps) (y ∷ as') c r h e m =
        let b = bound (stands v y) (λ b. elim x.reference [
          | true ↦ passes v ps as' c >>= (λ r. Ok (by_reference x y b r))
          | false ↦ passes v ps as' (suc c) >>= (λ r. Ok (by_value x b c r))
        ]) r e in
        go b.0 (stood v y b.0 h b.1) x.reference (λ s. passed v ps as' c s h) (λ s. passed v ps as' (suc c) s h) b.2
      where
        go : (b : Binding) → BindIn b → (t : Bool)
            → ((s : Passed) → passes v ps as' c ≡ Ok s → c + length s.news ≤ N → PassedIn s)
            → ((s : Passed) → passes v ps as' (suc c) ≡ Ok s → suc c + length s.news ≤ N → PassedIn s)
            → ◌≡◌ {A = Answer Passed} (elim t [ true ↦ passes v ps as' c >>= (λ r. Ok (by_reference x y b r)) | false ↦ passes v ps as' (suc c) >>= (λ r. Ok (by_value x b c r)) ]) (Ok r)
            → PassedIn r
        go b k true f1 f2 i =
            let s = bound (passes v ps as' c) (λ r. Ok (by_reference x y b r)) r i in
            let q = ok_eq (by_reference x y b s.0) r s.2 in
            let j : c + length s.0.news ≤ N = subst (λ (w : Passed). c + length w.news ≤ N) (sym q) m in
            let z = f1 s.0 s.1 j in
            subst PassedIn q ((k, z.0), z.1, z.2)
        go b k false f1 f2 i =
            let s = bound (passes v ps as' (suc c)) (λ r. Ok (by_value x b c r)) r i in
            let q = ok_eq (by_value x b c s.0) r s.2 in
            let j : c + suc (length s.0.news) ≤ N = subst (λ (w : Passed). c + length w.news ≤ N) (sym q) m in
            let lo : c < N = omega arith in
            let hi : suc c + length s.0.news ≤ N = omega arith in
            let z = f2 s.0 s.1 hi in
            subst PassedIn q (((new c lo, k.1), z.0), ((new c lo, k.0), z.1), (k.1, z.2))
