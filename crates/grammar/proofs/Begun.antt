-- The tokens before a refused one begin a text of the grammar, in which one bracket more may be open.
use Rattle.std.proofs.Common.{◌≡◌, ℕ, zero, suc, ◌<◌, Bool, true, false, List, [], ◌∷◌, ◌++◌, length, Ok, codes, sym, refl, ap, subst, append_assoc, arith}
use Rattle.lemmas.proofs.Tests.{T_at}
use Rattle.reader.specs.declared.fault.Cause.TheVariants.{TooDeep}
use Rattle.reader.specs.Faults.{◌>>=◌, refuse}
use Rattle.grammar.specs.Trees.{Name, Exp, Use, Number, Negated}
use Rattle.grammar.specs.Parsers.{Tokens, Parser, here, rest, if_so, is, is_name, is_number, eat, as_name, a_name}
use Rattle.grammar.specs.Parsing.{products, sums, lesses, equals, level, expression, negated, closed, in_parens, simple_atom, atom, an_expression, more_names, arguments}
use Rattle.grammar.specs.Language.{sign, name_token, number_token, EqualSign, LessSign, SumSign, ProductSign, Grouped, alone, Atomic, a_use, a_literal, bracketed, Operand, bare, minus, ExpressionOver, Expression, parens, InRoom, NameIs, name_is, MoreNames, no_more, comma, Arguments, no_argument, an_argument}
use Rattle.grammar.proofs.Levels.{sign_is, name_here, number_here, a_name_is}
use Rattle.grammar.proofs.ExpressionGrammar.{read_equal, read_less, read_sum, read_product}
use Rattle.grammar.proofs.Fine.{Reading, Fine, Good, Some, after, weaken, bind_fine, map_fine, ok_fine, eat_fine, deep_fine, Then, then_is, Sign, sign_then, Mapped, mapped, Done, done, mapped_some, then_fine, mapped_fine, last_some, last_fine, any_name, name_some, name_fine, level_fine}

-- ---- brackets

abbrev Closed : {A : Type 0} → Reading A → Reading A
Closed P a t v = (c : ℕ) × P a t (sign (codes ")") c ∷ v)

closed_some : {A : Type 0} (P : Reading A) → Some P → Some (Closed P)
closed_some P s = (s.0 ++ sign (codes ")") 0 ∷ [], s.1, λ k. (0, subst (λ (z : Tokens). P s.1 z (sign (codes ")") 0 ∷ k)) (sym (append_assoc s.0 (sign (codes ")") 0 ∷ []) k)) (s.2 (sign (codes ")") 0 ∷ k))))

closed_fine : {A : Type 0} (p : Parser A) (P : Reading A) → Good p P → Good (closed p) (Closed P)
closed_fine {A} p P g ts =
    bind_fine P (λ a. Sign (codes ")") (Done a)) (Closed P) (λ a b t u v d q. shut a b t u v d q) (λ a. last_some (codes ")") a) (p ts) (λ a u. eat (codes ")") u >>= (λ t. Ok (a, t))) ts (g ts)
    (λ x e. last_fine (codes ")") x.0 x.1)
  where
    shut : (a b : A) (t u v : Tokens) → P a t u → Sign (codes ")") (Done a) b u v → Closed P b t v
    shut a b t u v d (sign_then at done) = (at, d)

abbrev pub Within : {A : Type 0} → ℕ → (ℕ → Reading A) → Reading A
Within room X a t v = InRoom (suc room) (λ n. X n a) t v

pub parens_some : {A : Type 0} (room : ℕ) (X : ℕ → Reading A) → ((n : ℕ) → Some (X n)) → Some (Within room X)
parens_some room X s = let c = closed_some (X room) (s room) in (sign (codes "(") 0 ∷ c.0, c.1, λ k. parens 0 (c.2 k).0 (c.2 k).1)

pub parens_fine : {A : Type 0} (room : ℕ) (p : ℕ → Parser A) (X : ℕ → Reading A) → ((n : ℕ) → Some (X n)) → ((n : ℕ) → Good (p n) (X (suc n))) → Good (in_parens room p) (Within room X)
parens_fine zero p X s g ts = deep_fine (codes "(") (Within zero X) (parens_some zero X s) ts
parens_fine (suc room) p X s g ts =
    eat_fine (codes "(") (closed (p room)) (Closed (X (suc room))) (Within (suc room) X) (λ at b t v q. parens at q.0 q.1) (closed_some (X (suc room)) (s (suc room)))
    (closed_fine (p room) (X (suc room)) (g room)) ts

-- ---- expressions

exp_some : (E : Reading Exp) → Some (ExpressionOver E)
exp_some E = (name_token any_name ∷ [], Use any_name, λ k. alone (alone (alone (alone (bare (a_use any_name))))))

pub expression_some : (room : ℕ) → Some (Expression room)
expression_some zero = exp_some (λ e ts r. ⊥)
expression_some (suc room) = exp_some (Expression room)

negated_fine : (p : Parser Exp) (A : Reading Exp) → Good p A → Good (negated p) (Operand A)
negated_fine p A g ts = go (is (codes "-") ts) refl
  where
    go : (b : Bool) → is (codes "-") ts ≡ b → Fine (Operand A) ts (if_so b (λ u. p (rest ts) >>= (λ r. Ok (Negated r.0, r.1))) (λ u. p ts))
    go true e =
        after (λ x t v. (y : Exp) × (x ≡ Negated y) × A y t v) (Operand A) ts (sign (codes "-") (here ts).at ∷ []) (rest ts) (p (rest ts) >>= (λ r. Ok (Negated r.0, r.1)))
        (sign_is (codes "-") ts (T_at (sym e) tt)) (λ b t v q. subst (λ z. Operand A z (sign (codes "-") (here ts).at ∷ t) v) (sym q.1) (minus (here ts).at q.2))
        (map_fine A (λ x t v. (y : Exp) × (x ≡ Negated y) × A y t v) Negated (λ a t v d. (a, refl, d)) (p (rest ts)) (rest ts) (g (rest ts)))
    go false e = weaken A (Operand A) ts (p ts) (λ b t v d. bare d) (g ts)

over_fine : (E : Reading Exp) (p : Parser Exp) → Good p (Atomic E) → Good (expression (negated p)) (ExpressionOver E)
over_fine E p g =
    let g0 = negated_fine p (Atomic E) g in
    let g1 = level_fine ProductSign products (Operand (Atomic E)) (negated p) read_product g0 in
    let g2 = level_fine SumSign sums (Grouped ProductSign (Operand (Atomic E))) (level products (negated p)) read_sum g1 in
    let g3 = level_fine LessSign lesses (Grouped SumSign (Grouped ProductSign (Operand (Atomic E)))) (level sums (level products (negated p))) read_less g2 in
    level_fine EqualSign equals (Grouped LessSign (Grouped SumSign (Grouped ProductSign (Operand (Atomic E))))) (level lesses (level sums (level products (negated p)))) read_equal g3

simple_fine : (E : Reading Exp) (p : Parser Exp) → Good p (Atomic E) → Good (simple_atom p) (Atomic E)
simple_fine E p g ts = go (is_name (here ts).class) (is_number (here ts).class) refl refl
  where
    go : (a b : Bool) → is_name (here ts).class ≡ a → is_number (here ts).class ≡ b
        → Fine (Atomic E) ts (if_so a (λ u. Ok (Use (as_name (here ts)), rest ts)) (λ u. if_so b (λ w. Ok (Number (as_name (here ts)), rest ts)) (λ w. p ts)))
    go true b e f = (name_token (as_name (here ts)) ∷ [], name_here ts (T_at (sym e) tt), λ k. a_use (as_name (here ts)))
    go false true e f = (number_token (as_name (here ts)) ∷ [], number_here ts (T_at (sym f) tt), λ k. a_literal (as_name (here ts)))
    go false false e f = g ts

atom_fine : (room : ℕ) → Good (λ w. atom room w) (Atomic (Expression room))
atom_fine zero ts = simple_fine (Expression zero) (λ u. eat (codes "(") u >>= (λ r. refuse TooDeep (here u).at)) (λ u. deep_fine (codes "(") (Atomic (Expression zero)) (name_token any_name ∷ [], Use any_name, λ k. a_use any_name) u) ts
atom_fine (suc room) ts =
    simple_fine (Expression (suc room)) (λ u. eat (codes "(") u >>= (λ r. closed (expression (negated (λ w. atom room w))) r))
    (eat_fine (codes "(") (closed (expression (negated (λ w. atom room w)))) (Closed (Expression (suc room))) (Atomic (Expression (suc room))) (λ at b t v q. bracketed at q.0 q.1)
    (closed_some (Expression (suc room)) (expression_some (suc room)))
    (closed_fine (expression (negated (λ w. atom room w))) (Expression (suc room)) (over_fine (Expression room) (λ w. atom room w) (atom_fine room))))
    ts

pub expression_fine : (room : ℕ) → Good (an_expression room) (Expression (suc room))
expression_fine room = over_fine (Expression room) (λ w. atom room w) (atom_fine room)

pub test_fine : (room : ℕ) → Good (in_parens room (λ n. an_expression n)) (Within room Expression)
test_fine room = parens_fine room (λ n. an_expression n) Expression expression_some expression_fine

-- ---- names

pub caught_fine : (room : ℕ) → Good (in_parens room (λ n. a_name)) (Within room (λ n. NameIs))
caught_fine room = parens_fine room (λ n. a_name) (λ n. NameIs) (λ n. name_some) (λ n. name_fine)

names_fine : (n : ℕ) (ts : Tokens) → length ts < n → Fine MoreNames ts (more_names n ts)
names_fine zero ts l = absurd (omega arith)
names_fine (suc n) ts l = go (is (codes ",") ts) refl (names_fine n)
  where
    shut : (at : ℕ) (b : List Name) (t v : Tokens) → Then NameIs (λ a. Mapped (λ ns. a ∷ ns) MoreNames) b t v → MoreNames b (sign (codes ",") at ∷ t) v
    shut at b t v (then_is {a = m} name_is (mapped d)) = comma at m d

    go : (b : Bool) → is (codes ",") ts ≡ b → ((u : Tokens) → length u < n → Fine MoreNames u (more_names n u))
        → Fine MoreNames ts (if_so b (λ u. a_name (rest ts) >>= (λ r. more_names n r.1 >>= (λ s. Ok (r.0 ∷ s.0, s.1)))) (λ u. Ok ([], ts)))
    go true e rec =
        let h = sign_is (codes ",") ts (T_at (sym e) tt) in
        after (Then NameIs (λ a. Mapped (λ ns. a ∷ ns) MoreNames)) MoreNames ts (sign (codes ",") (here ts).at ∷ []) (rest ts) (a_name (rest ts) >>= (λ r. more_names n r.1 >>= (λ s. Ok (r.0 ∷ s.0, s.1)))) h
        (λ b t v q. shut (here ts).at b t v q)
        (then_fine NameIs (λ a. Mapped (λ ns. a ∷ ns) MoreNames) (a_name (rest ts)) (λ a u. more_names n u >>= (λ s. Ok (a ∷ s.0, s.1))) (rest ts) (λ a. mapped_some (λ ns. a ∷ ns) MoreNames ([], [], λ k. no_more)) (name_fine (rest ts))
        (λ x q.
        let la = ap (λ (z : Tokens). length z) h in
        let lb = ap (λ (z : Tokens). length z) (a_name_is (rest ts) x q) in
        mapped_fine MoreNames (λ ns. x.0 ∷ ns) (more_names n x.1) x.1 (rec x.1 (omega arith))))
    go false e rec = ok_fine [] MoreNames ts (λ k. no_more)

arguments_fine : Good arguments (λ ns. Arguments ns)
arguments_fine ts = go (is (codes ")") ts)
  where
    shut : (b : List Name) (t v : Tokens) → Then NameIs (λ a. Mapped (λ ns. a ∷ ns) MoreNames) b t v → Arguments b t v
    shut b t v (then_is {a = m} name_is (mapped d)) = an_argument m d

    go : (b : Bool) → Fine (λ ns. Arguments ns) ts (if_so b (λ u. Ok ([], ts)) (λ u. a_name ts >>= (λ r. more_names (suc (length r.1)) r.1 >>= (λ s. Ok (r.0 ∷ s.0, s.1)))))
    go true = ok_fine [] (λ ns. Arguments ns) ts (λ k. no_argument)
    go false =
        weaken (Then NameIs (λ a. Mapped (λ ns. a ∷ ns) MoreNames)) (λ ns. Arguments ns) ts (a_name ts >>= (λ r. more_names (suc (length r.1)) r.1 >>= (λ s. Ok (r.0 ∷ s.0, s.1)))) shut
        (then_fine NameIs (λ a. Mapped (λ ns. a ∷ ns) MoreNames) (a_name ts) (λ a u. more_names (suc (length u)) u >>= (λ s. Ok (a ∷ s.0, s.1))) ts (λ a. mapped_some (λ ns. a ∷ ns) MoreNames ([], [], λ k. no_more)) (name_fine ts)
        (λ x q. mapped_fine MoreNames (λ ns. x.0 ∷ ns) (more_names (suc (length x.1)) x.1) x.1 (names_fine (suc (length x.1)) x.1 (omega arith))))

pub called_fine : (room : ℕ) → Good (in_parens room (λ n. arguments)) (Within room (λ n ns. Arguments ns))
called_fine room = parens_fine room (λ n. arguments) (λ n ns. Arguments ns) (λ n. ([], [], λ k. no_argument)) (λ n. arguments_fine)
