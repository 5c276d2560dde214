-- Statements: the parser and the grammar.
use Rattle.std.proofs.Common.{◌≡◌, ℕ, zero, suc, ◌<◌, ◌≤◌, true, false, T, List, [], ◌∷◌, length, Ok, codes, sym, refl, ap, ◌∙◌, subst, inl, inr, arith}
use Rattle.reader.specs.Faults.{Answer, ◌>>=◌}
use Rattle.reader.specs.declared.fault.Cause.TheVariants.{NotAllowed}
use Rattle.grammar.specs.Trees.{Name, Simple, Var, Set, Call, Next, Know, Throw, Plain, If, While, Try, Take, Stm, One, Two, Par, Block, Nil, Blocks, Last, Also}
use Rattle.grammar.specs.Parsing as G
use Rattle.grammar.specs.Parsers.{Tokens, Parser, here, rest, is_name, is, bad, eat, as_name, a_name, a_number}
use Rattle.grammar.specs.Parsing.{an_expression, in_parens, arguments, of_name, more_blocks, statement, statements}
use Rattle.grammar.specs.Language.{sign, name_token, number_token, Expression, InRoom, NameIs, Arguments, UpTo, enough, another, Statement, s_var, s_set, s_call, s_next, s_know, s_throw, s_block, s_if, s_while, s_try, s_take, s_par}
use Rattle.grammar.proofs.Results.{bound}
use Rattle.grammar.proofs.Levels.{ok_eq, no_ok, if_inv, if_true, if_false, then, sign_is, eaten, name_here, a_name_is, a_number_is, Sounds, Reads, Shrinks, Any}
use Rattle.grammar.proofs.ExpressionGrammar.{parens_sound, parens_reads, parens_shrinks, expression_sound, expression_reads, expression_shrinks}
use Rattle.grammar.proofs.NameGrammar.{arguments_sound, arguments_shrink, name_sound, name_read, name_shrink, condition_read, condition_shrink, call_read}

abbrev AllWays : {A : Type 0} → Type 0 → A → List (G.Way A) → Type 0
AllWays X x [] = Unit {0}
AllWays X x (w ∷ ws) = (T w.0 → w.1 tt ≡ Ok x → X) × AllWays X x ws

first_inv : {A : Type 0} (X : Type 0) (ws : List (G.Way A)) (d : Answer A) (x : A) → G.first_of ws d ≡ Ok x → AllWays X x ws → (d ≡ Ok x → X) → X
first_inv X [] d x e h k = k e
first_inv X (w ∷ ws) d x e h k =
    elim (if_inv w.0 w.1 (λ u. G.first_of ws d) (Ok x) e) [ inl i ↦ h.0 i.0 i.1 | inr i ↦ first_inv X ws d x i.1 h.1 k ]

-- ---- statements, from blocks

module _ (B : Block → Tokens → Tokens → Type 0) (p : Parser Block) (room : ℕ) where
  abbrev pub S : Stm → Tokens → Tokens → Type 0
  S = Statement B room

  module _ (ps : Sounds p B) where
    up_to_sound : (n : ℕ) → Sounds (more_blocks p n) (UpTo B n)
    up_to_sound zero ts x e = subst (λ (z : Blocks × Tokens). UpTo B 0 z.0 ts z.1) (ok_eq (Last, ts) x e) (enough 0)
    up_to_sound (suc n) ts x e =
        elim (if_inv (is (codes "{") ts) (λ u. p ts >>= (λ r. more_blocks p n r.1 >>= (λ s. Ok (Also r.0 s.0, s.1)))) (λ u. Ok (Last, ts)) (Ok x) e) [
          | inl i ↦
              let a = bound (p ts) (λ r. more_blocks p n r.1 >>= (λ s. Ok (Also r.0 s.0, s.1))) x i.1 in
              let b = bound (more_blocks p n a.0.1) (λ s. Ok (Also a.0.0 s.0, s.1)) x a.2 in
              subst (λ (z : Blocks × Tokens). UpTo B (suc n) z.0 ts z.1) (ok_eq (Also a.0.0 b.0.0, b.0.1) x b.2)
              (another n (ps ts a.0 a.1) (up_to_sound n a.0.1 b.0 b.1))
          | inr i ↦ subst (λ (z : Blocks × Tokens). UpTo B (suc n) z.0 ts z.1) (ok_eq (Last, ts) x i.1) (enough (suc n))
        ]

    -- a word, a name and ;
    of_name_sound : (w : List ℕ) (f : Name → Simple) (ts : Tokens) (x : Stm × Tokens)
        → ((at c : ℕ) (v : Name) (r : Tokens) → S (One at (f v)) (sign w at ∷ name_token v ∷ sign (codes ";") c ∷ r) r)
        → T (is w ts) → of_name (here ts).at f (rest ts) ≡ Ok x → S x.0 ts x.1
    of_name_sound w f ts x k i e =
        let at = (here ts).at in
        let a = bound (a_name (rest ts)) (λ r. eat (codes ";") r.1 >>= (λ t. Ok (One at (f r.0), t))) x e in
        let b = bound (eat (codes ";") a.0.1) (λ t. Ok (One at (f a.0.0), t)) x a.2 in
        let t : ts ≡ sign w at ∷ name_token a.0.0 ∷ sign (codes ";") (here a.0.1).at ∷ b.0 =
        sign_is w ts i ∙ ap (λ z. sign w at ∷ z) (a_name_is (rest ts) a.0 a.1 ∙ ap (λ z. name_token a.0.0 ∷ z) (eaten (codes ";") a.0.1 b.0 b.1)) in
        subst (λ (z : Stm × Tokens). S z.0 ts z.1) (ok_eq (One at (f a.0.0), b.0) x b.2)
        (subst (λ (z : Tokens). S (One at (f a.0.0)) z b.0) (sym t) (k at (here a.0.1).at a.0.0 b.0))

    set_sound : (v : Name) (b : ℕ) (ts : Tokens) (x : Stm × Tokens) → G.a_set room v ts ≡ Ok x → S x.0 (name_token v ∷ sign (codes "=") b ∷ ts) x.1
    set_sound v b ts x e =
        let a = bound (an_expression room ts) (λ e. eat (codes ";") e.1 >>= (λ t. Ok (One v.at (Set v e.0), t))) x e in
        let c = bound (eat (codes ";") a.0.1) (λ t. Ok (One v.at (Set v a.0.0), t)) x a.2 in
        subst (λ (z : Stm × Tokens). S z.0 (name_token v ∷ sign (codes "=") b ∷ ts) z.1) (ok_eq (One v.at (Set v a.0.0), c.0) x c.2)
        (s_set b (here a.0.1).at v (subst (λ (z : Tokens). Expression room a.0.0 ts z) (eaten (codes ";") a.0.1 c.0 c.1) (expression_sound room ts a.0 a.1)))

    call_sound : (v : Name) (ts : Tokens) (x : Stm × Tokens) → G.a_call room v ts ≡ Ok x → S x.0 (name_token v ∷ ts) x.1
    call_sound v ts x e =
        let a = bound (in_parens room (λ n. arguments) ts) (λ a. eat (codes ";") a.1 >>= (λ t. Ok (One v.at (Call v a.0), t))) x e in
        let c = bound (eat (codes ";") a.0.1) (λ t. Ok (One v.at (Call v a.0.0), t)) x a.2 in
        subst (λ (z : Stm × Tokens). S z.0 (name_token v ∷ ts) z.1) (ok_eq (One v.at (Call v a.0.0), c.0) x c.2)
        (s_call (here a.0.1).at v
        (subst (λ (z : Tokens). InRoom room (λ n. Arguments a.0.0) ts z) (eaten (codes ";") a.0.1 c.0 c.1) (parens_sound room (λ n. arguments) (λ n. Arguments) (λ n. arguments_sound) ts a.0 a.1)))

    named_sound : (ts : Tokens) (x : Stm × Tokens) → T (is_name (here ts).class) → G.named room (as_name (here ts)) (rest ts) ≡ Ok x → S x.0 ts x.1
    named_sound ts x i e =
        let v = as_name (here ts) in
        subst (λ (z : Tokens). S x.0 z x.1) (sym (name_here ts i))
        (elim (if_inv (is (codes "=") (rest ts)) (λ u. G.a_set room v (rest (rest ts))) (λ u. G.a_call room v (rest ts)) (Ok x) e) [
          | inl j ↦
              subst (λ (z : Tokens). S x.0 (name_token v ∷ z) x.1) (sym (sign_is (codes "=") (rest ts) j.0)) (set_sound v (here (rest ts)).at (rest (rest ts)) x j.1)
          | inr j ↦ call_sound v (rest ts) x j.1
        ])

    par_sound : (at : ℕ) (ts : Tokens) (x : Stm × Tokens) → G.a_par p at ts ≡ Ok x → S x.0 (sign (codes "par") at ∷ ts) x.1
    par_sound at ts x e =
        let a = bound (p ts) (λ a. p a.1 >>= (λ b. more_blocks p 6 b.1 >>= (λ m. eat (codes ";") m.1 >>= (λ t. Ok (Par at (Also a.0 (Also b.0 m.0)), t))))) x e in
        let b = bound (p a.0.1) (λ b. more_blocks p 6 b.1 >>= (λ m. eat (codes ";") m.1 >>= (λ t. Ok (Par at (Also a.0.0 (Also b.0 m.0)), t)))) x a.2 in
        let m = bound (more_blocks p 6 b.0.1) (λ m. eat (codes ";") m.1 >>= (λ t. Ok (Par at (Also a.0.0 (Also b.0.0 m.0)), t))) x b.2 in
        let c = bound (eat (codes ";") m.0.1) (λ t. Ok (Par at (Also a.0.0 (Also b.0.0 m.0.0)), t)) x m.2 in
        subst (λ (z : Stm × Tokens). S z.0 (sign (codes "par") at ∷ ts) z.1) (ok_eq (Par at (Also a.0.0 (Also b.0.0 m.0.0)), c.0) x c.2)
        (s_par at (here m.0.1).at (ps ts a.0 a.1) (ps a.0.1 b.0 b.1)
        (subst (λ (z : Tokens). UpTo B 6 m.0.0 b.0.1 z) (eaten (codes ";") m.0.1 c.0 c.1) (up_to_sound 6 b.0.1 m.0 m.1)))

    if_sound : (at : ℕ) (ts : Tokens) (x : Stm × Tokens) → G.an_if p room at ts ≡ Ok x → S x.0 (sign (codes "if") at ∷ ts) x.1
    if_sound at ts x h =
        let e = bound (in_parens room (λ n. an_expression n) ts) (λ e. p e.1 >>= (λ a. eat (codes "else") a.1 >>= (λ t. p t >>= (λ b. Ok (Two at (If e.0) a.0 b.0, b.1))))) x h in
        let a = bound (p e.0.1) (λ a. eat (codes "else") a.1 >>= (λ t. p t >>= (λ b. Ok (Two at (If e.0.0) a.0 b.0, b.1)))) x e.2 in
        let c = bound (eat (codes "else") a.0.1) (λ t. p t >>= (λ b. Ok (Two at (If e.0.0) a.0.0 b.0, b.1))) x a.2 in
        let b = bound (p c.0) (λ b. Ok (Two at (If e.0.0) a.0.0 b.0, b.1)) x c.2 in
        subst (λ (z : Stm × Tokens). S z.0 (sign (codes "if") at ∷ ts) z.1) (ok_eq (Two at (If e.0.0) a.0.0 b.0.0, b.0.1) x b.2)
        (s_if at (here a.0.1).at (parens_sound room (λ n. an_expression n) (λ n. Expression n) expression_sound ts e.0 e.1)
        (subst (λ (z : Tokens). B a.0.0 e.0.1 z) (eaten (codes "else") a.0.1 c.0 c.1) (ps e.0.1 a.0 a.1)) (ps c.0 b.0 b.1))

    while_sound : (at : ℕ) (ts : Tokens) (x : Stm × Tokens) → G.a_while p room at ts ≡ Ok x → S x.0 (sign (codes "while") at ∷ ts) x.1
    while_sound at ts x h =
        let e = bound (in_parens room (λ n. an_expression n) ts) (λ e. p e.1 >>= (λ a. Ok (Two at (While e.0) a.0 Nil, a.1))) x h in
        let a = bound (p e.0.1) (λ a. Ok (Two at (While e.0.0) a.0 Nil, a.1)) x e.2 in
        subst (λ (z : Stm × Tokens). S z.0 (sign (codes "while") at ∷ ts) z.1) (ok_eq (Two at (While e.0.0) a.0.0 Nil, a.0.1) x a.2)
        (s_while at (parens_sound room (λ n. an_expression n) (λ n. Expression n) expression_sound ts e.0 e.1) (ps e.0.1 a.0 a.1))

    try_sound : (at : ℕ) (ts : Tokens) (x : Stm × Tokens) → G.a_try p room at ts ≡ Ok x → S x.0 (sign (codes "try") at ∷ ts) x.1
    try_sound at ts x h =
        let a = bound (p ts) (λ a. eat (codes "catch") a.1 >>= (λ t. in_parens room (λ n. a_name) t >>= (λ y. p y.1 >>= (λ b. Ok (Two at (Try y.0) a.0 b.0, b.1))))) x h in
        let c = bound (eat (codes "catch") a.0.1) (λ t. in_parens room (λ n. a_name) t >>= (λ y. p y.1 >>= (λ b. Ok (Two at (Try y.0) a.0.0 b.0, b.1)))) x a.2 in
        let y = bound (in_parens room (λ n. a_name) c.0) (λ y. p y.1 >>= (λ b. Ok (Two at (Try y.0) a.0.0 b.0, b.1))) x c.2 in
        let b = bound (p y.0.1) (λ b. Ok (Two at (Try y.0.0) a.0.0 b.0, b.1)) x y.2 in
        subst (λ (z : Stm × Tokens). S z.0 (sign (codes "try") at ∷ ts) z.1) (ok_eq (Two at (Try y.0.0) a.0.0 b.0.0, b.0.1) x b.2)
        (s_try at (here a.0.1).at y.0.0 (subst (λ (z : Tokens). B a.0.0 ts z) (eaten (codes "catch") a.0.1 c.0 c.1) (ps ts a.0 a.1))
        (parens_sound room (λ n. a_name) (λ n. NameIs) (λ n. name_sound) c.0 y.0 y.1) (ps y.0.1 b.0 b.1))

    take_sound : (at : ℕ) (ts : Tokens) (x : Stm × Tokens) → G.a_take p at ts ≡ Ok x → S x.0 (sign (codes "take") at ∷ ts) x.1
    take_sound at ts x h =
        let i = bound (a_number ts) (λ i. a_name i.1 >>= (λ v. eat (codes "else") v.1 >>= (λ t. p t >>= (λ b. Ok (Two at (Take i.0 v.0) b.0 Nil, b.1))))) x h in
        let v = bound (a_name i.0.1) (λ v. eat (codes "else") v.1 >>= (λ t. p t >>= (λ b. Ok (Two at (Take i.0.0 v.0) b.0 Nil, b.1)))) x i.2 in
        let c = bound (eat (codes "else") v.0.1) (λ t. p t >>= (λ b. Ok (Two at (Take i.0.0 v.0.0) b.0 Nil, b.1))) x v.2 in
        let b = bound (p c.0) (λ b. Ok (Two at (Take i.0.0 v.0.0) b.0 Nil, b.1)) x c.2 in
        let t : ts ≡ number_token i.0.0 ∷ name_token v.0.0 ∷ sign (codes "else") (here v.0.1).at ∷ c.0 =
        a_number_is ts i.0 i.1 ∙ ap (λ z. number_token i.0.0 ∷ z) (a_name_is i.0.1 v.0 v.1 ∙ ap (λ z. name_token v.0.0 ∷ z) (eaten (codes "else") v.0.1 c.0 c.1)) in
        subst (λ (z : Stm × Tokens). S z.0 (sign (codes "take") at ∷ ts) z.1) (ok_eq (Two at (Take i.0.0 v.0.0) b.0.0 Nil, b.0.1) x b.2)
        (subst (λ (z : Tokens). S (Two at (Take i.0.0 v.0.0) b.0.0 Nil) (sign (codes "take") at ∷ z) b.0.1) (sym t)
        (s_take at (here v.0.1).at i.0.0 v.0.0 (ps c.0 b.0 b.1)))

    block_sound : (ts : Tokens) (x : Stm × Tokens) → T (is (codes "{") ts) → G.a_block p (here ts).at ts ≡ Ok x → S x.0 ts x.1
    block_sound ts x i h =
        let at = (here ts).at in
        let b = bound (p ts) (λ b. Ok (Two at Plain b.0 Nil, b.1)) x h in
        let t = sign_is (codes "{") ts i in
        subst (λ (z : Stm × Tokens). S z.0 ts z.1) (ok_eq (Two at Plain b.0.0 Nil, b.0.1) x b.2)
        (subst (λ (z : Tokens). S (Two at Plain b.0.0 Nil) z b.0.1) (sym t)
        (s_block at (subst (λ (z : Tokens). B b.0.0 z b.0.1) t (ps ts b.0 b.1))))

    at_sign : (w : List ℕ) (ts : Tokens) (x : Stm × Tokens) → T (is w ts) → S x.0 (sign w (here ts).at ∷ rest ts) x.1 → S x.0 ts x.1
    at_sign w ts x i h = subst (λ (z : Tokens). S x.0 z x.1) (sym (sign_is w ts i)) h

    pub statement_sound : Sounds (statement p room) S
    statement_sound ts x e =
        let at = (here ts).at in
        let r = rest ts in
        first_inv (S x.0 ts x.1) (G.ways p room ts) (bad ts) x e (
          named_sound ts x,
          (
            block_sound ts x,
            (
              of_name_sound (codes "var") Var ts x (λ at c v r. s_var at c v),
              (
                of_name_sound (codes "next") Next ts x (λ at c v r. s_next at c v),
                (
                  of_name_sound (codes "know") Know ts x (λ at c v r. s_know at c v),
                  (
                    of_name_sound (codes "throw") Throw ts x (λ at c v r. s_throw at c v),
                    (
                      λ i h. at_sign (codes "if") ts x i (if_sound at r x h),
                      (
                        λ i h. at_sign (codes "while") ts x i (while_sound at r x h),
                        (
                          λ i h. at_sign (codes "try") ts x i (try_sound at r x h),
                          (
                            λ i h. at_sign (codes "take") ts x i (take_sound at r x h),
                            (λ i h. at_sign (codes "par") ts x i (par_sound at r x h), tt),
                          ),
                        ),
                      ),
                    ),
                  ),
                ),
              ),
            ),
          ),
        )
        (λ h. no_ok NotAllowed at x h)

  module _ (pr : Reads p B Any) (opens : (b : Block) (ts r : Tokens) → B b ts r → is (codes "{") ts ≡ true) where
    up_to_read : (n : ℕ) (bs : Blocks) (ts r : Tokens) → UpTo B n bs ts r → is (codes "{") r ≡ false → more_blocks p n ts ≡ Ok (bs, r)
    up_to_read zero bs ts r (enough n) f = refl
    up_to_read (suc n) bs ts r (enough m) f = if_false (is (codes "{") r) (λ u. p r >>= (λ r. more_blocks p n r.1 >>= (λ s. Ok (Also r.0 s.0, s.1)))) (λ u. Ok (Last, r)) f
    up_to_read (suc n) bs ts r (another m {b = b} {bs = cs} {a = a} h k) f =
        if_true (is (codes "{") ts) (λ u. p ts >>= (λ r. more_blocks p n r.1 >>= (λ s. Ok (Also r.0 s.0, s.1)))) (λ u. Ok (Last, ts)) (opens b ts a h)
        ∙ then (λ r. more_blocks p n r.1 >>= (λ s. Ok (Also r.0 s.0, s.1))) (pr b ts a h tt)
        ∙ then (λ s. Ok (Also b s.0, s.1)) (up_to_read n cs a r k f)

    pub statement_reads : Reads (statement p room) S Any
    statement_reads s ts r (s_var at c v) f = refl
    statement_reads s ts r (s_set b c v {e = e} {ts = t} h) f =
        then (λ e. eat (codes ";") e.1 >>= (λ t. Ok (One v.at (Set v e.0), t))) (expression_reads room e t (sign (codes ";") c ∷ r) h (refl, (refl, (refl, (refl, tt)))))
    statement_reads s ts r (s_call c q {as' = as'} {ts = t} h) f = call_read room c q as' t r h
    statement_reads s ts r (s_next at c v) f = refl
    statement_reads s ts r (s_know at c v) f = refl
    statement_reads s ts r (s_throw at c v) f = refl
    statement_reads s ts r (s_block at {b = b} {ts = t} h) f = then (λ b. Ok (Two at Plain b.0 Nil, b.1)) (pr b (sign (codes "{") at ∷ t) r h tt)
    statement_reads s ts r (s_if at c {e = e} {a = a} {b = b} {ts = t} {t = u} {u = w} h i j) f =
        then (λ e. p e.1 >>= (λ a. eat (codes "else") a.1 >>= (λ t. p t >>= (λ b. Ok (Two at (If e.0) a.0 b.0, b.1))))) (condition_read room e t u h)
        ∙ then (λ a. eat (codes "else") a.1 >>= (λ t. p t >>= (λ b. Ok (Two at (If e) a.0 b.0, b.1)))) (pr a u (sign (codes "else") c ∷ w) i tt)
        ∙ then (λ b. Ok (Two at (If e) a b.0, b.1)) (pr b w r j tt)
    statement_reads s ts r (s_while at {e = e} {a = a} {ts = t} {t = u} h i) f =
        then (λ e. p e.1 >>= (λ a. Ok (Two at (While e.0) a.0 Nil, a.1))) (condition_read room e t u h)
        ∙ then (λ a. Ok (Two at (While e) a.0 Nil, a.1)) (pr a u r i tt)
    statement_reads s ts r (s_try at c y {a = a} {b = b} {ts = t} {t = u} {u = w} h i j) f =
        then (λ a. eat (codes "catch") a.1 >>= (λ t. in_parens room (λ n. a_name) t >>= (λ y. p y.1 >>= (λ b. Ok (Two at (Try y.0) a.0 b.0, b.1))))) (pr a t (sign (codes "catch") c ∷ u) h tt)
        ∙ then (λ y. p y.1 >>= (λ b. Ok (Two at (Try y.0) a b.0, b.1))) (parens_reads room (λ n. a_name) (λ n. NameIs) y u w (λ n d t k. name_read y t (sign (codes ")") d ∷ w) k) i)
        ∙ then (λ b. Ok (Two at (Try y) a b.0, b.1)) (pr b w r j tt)
    statement_reads s ts r (s_take at c i v {b = b} {ts = t} h) f = then (λ b. Ok (Two at (Take i v) b.0 Nil, b.1)) (pr b t r h tt)
    statement_reads s ts r (s_par at c {a = a} {b = b} {bs = bs} {ts = t} {t = u} {u = w} h i j) f =
        then (λ a. p a.1 >>= (λ b. more_blocks p 6 b.1 >>= (λ m. eat (codes ";") m.1 >>= (λ t. Ok (Par at (Also a.0 (Also b.0 m.0)), t))))) (pr a t u h tt)
        ∙ then (λ b. more_blocks p 6 b.1 >>= (λ m. eat (codes ";") m.1 >>= (λ t. Ok (Par at (Also a (Also b.0 m.0)), t)))) (pr b u w i tt)
        ∙ then (λ m. eat (codes ";") m.1 >>= (λ t. Ok (Par at (Also a (Also b m.0)), t))) (up_to_read 6 bs w (sign (codes ";") c ∷ r) j refl)

  module _ (sh : Shrinks B) (sh_less : (b : Block) (ts r : Tokens) → B b ts r → length r < length ts) where
    up_to_shrink : (n : ℕ) (bs : Blocks) (ts r : Tokens) → UpTo B n bs ts r → length r ≤ length ts
    up_to_shrink n bs ts r (enough m) = omega arith
    up_to_shrink n bs ts r (another m {b = b} {bs = cs} {a = a} h k) =
        let i = sh b ts a h in let j = up_to_shrink m cs a r k in omega arith

    -- a statement begins with no }, and has a token
    pub statement_shrinks : (s : Stm) (ts r : Tokens) → S s ts r → (is (codes "}") ts ≡ false) × (length r < length ts)
    statement_shrinks s ts r (s_var at c v) = (refl, omega arith)
    statement_shrinks s ts r (s_set b c v {e = e} {ts = t} h) = (refl, let i = expression_shrinks room e t (sign (codes ";") c ∷ r) h in omega arith)
    statement_shrinks s ts r (s_call c q {as' = as'} {ts = t} h) =
        (refl, let i = parens_shrinks room (λ n. Arguments as') (λ n t u k. arguments_shrink as' t u k) t (sign (codes ";") c ∷ r) h in omega arith)
    statement_shrinks s ts r (s_next at c v) = (refl, omega arith)
    statement_shrinks s ts r (s_know at c v) = (refl, omega arith)
    statement_shrinks s ts r (s_throw at c v) = (refl, omega arith)
    statement_shrinks s ts r (s_block at {b = b} {ts = t} h) = (refl, sh_less b (sign (codes "{") at ∷ t) r h)
    statement_shrinks s ts r (s_if at c {e = e} {a = a} {b = b} {ts = t} {t = u} {u = w} h i j) =
        (refl, let k = condition_shrink room e t u h in let l = sh a u (sign (codes "else") c ∷ w) i in let m = sh b w r j in omega arith)
    statement_shrinks s ts r (s_while at {e = e} {a = a} {ts = t} {t = u} h i) = (refl, let k = condition_shrink room e t u h in let l = sh a u r i in omega arith)
    statement_shrinks s ts r (s_try at c y {a = a} {b = b} {ts = t} {t = u} {u = w} h i j) =
        (refl, let k = parens_shrinks room (λ n. NameIs y) (λ n t u k. name_shrink y t u k) u w i in let l = sh a t (sign (codes "catch") c ∷ u) h in let m = sh b w r j in omega arith)
    statement_shrinks s ts r (s_take at c i v {b = b} {ts = t} h) = (refl, let l = sh b t r h in omega arith)
    statement_shrinks s ts r (s_par at c {a = a} {b = b} {bs = bs} {ts = t} {t = u} {u = w} h i j) =
        (refl, let k = up_to_shrink 6 bs w (sign (codes ";") c ∷ r) j in let l = sh a t u h in let m = sh b u w i in omega arith)
