-- Expressions: the parser and the grammar.
use Rattle.std.proofs.Common.{◌≡◌, ℕ, zero, suc, ◌<◌, ◌≤◌, cond, List, ◌∷◌, length, Ok, codes, sym, refl, subst, inl, inr, arith}
use mathlib.Core.Option.{some, none}
use Rattle.lemmas.proofs.Tests.{cond_some, cond_else}
use Rattle.reader.specs.Faults.{◌>>=◌, refuse}
use Rattle.reader.specs.declared.fault.Cause.TheVariants.{TooDeep}
use Rattle.grammar.specs.Parsers.{if_so}
use Rattle.grammar.specs.Trees.{Op, Same, Less, Plus, Minus, Times, Exp, Use, Number, Negated}
use Rattle.grammar.specs.Parsers.{Tokens, Parser, here, rest, is_name, is_number, is, eat, as_name}
use Rattle.grammar.specs.Parsing.{op_here, level, equals, lesses, sums, products, expression, negated, closed, in_parens, simple_atom, atom, an_expression}
use Rattle.grammar.specs.Language.{sign, EqualSign, same_sign, LessSign, less_sign, SumSign, plus_sign, minus_sign, ProductSign, times_sign, Grouped, Atomic, a_use, a_literal, bracketed, Operand, bare, minus, ExpressionOver, Expression, Parens, parens, InRoom}
use Rattle.grammar.proofs.Results.{bound}
use Rattle.grammar.proofs.Levels.{ok_eq, no_ok, if_inv, then, sign_is, eaten, name_here, number_here, Sounds, Reads, Shrinks, Any, level_sound, grouped_shrinks, level_reads}

abbrev pub Signed : (List ℕ → Op → Type 0) → Tokens → Op → Type 0
Signed S ts o = (s : List ℕ) × S s o × (ts ≡ sign s (here ts).at ∷ rest ts)

pub read_equal : (ts : Tokens) (o : Op) → op_here equals ts ≡ some o → Signed EqualSign ts o
read_equal ts o h =
    let i = cond_some (is (codes "==") ts) Same o h in
    (codes "==", subst (λ (v : Op). EqualSign (codes "==") v) i.1 same_sign, sign_is (codes "==") ts i.0)

pub read_less : (ts : Tokens) (o : Op) → op_here lesses ts ≡ some o → Signed LessSign ts o
read_less ts o h =
    let i = cond_some (is (codes "<") ts) Less o h in
    (codes "<", subst (λ (v : Op). LessSign (codes "<") v) i.1 less_sign, sign_is (codes "<") ts i.0)

pub read_sum : (ts : Tokens) (o : Op) → op_here sums ts ≡ some o → Signed SumSign ts o
read_sum ts o h =
    elim (cond_else (is (codes "+") ts) Plus o (cond (is (codes "-") ts) (some Minus) none) h) [
      | inl i ↦ (codes "+", subst (λ (v : Op). SumSign (codes "+") v) i.1 plus_sign, sign_is (codes "+") ts i.0)
      | inr j ↦
          let i = cond_some (is (codes "-") ts) Minus o j.1 in
          (codes "-", subst (λ (v : Op). SumSign (codes "-") v) i.1 minus_sign, sign_is (codes "-") ts i.0)
    ]

pub read_product : (ts : Tokens) (o : Op) → op_here products ts ≡ some o → Signed ProductSign ts o
read_product ts o h =
    let i = cond_some (is (codes "*") ts) Times o h in
    (codes "*", subst (λ (v : Op). ProductSign (codes "*") v) i.1 times_sign, sign_is (codes "*") ts i.0)

-- ---- brackets

pub closed_sound : {A : Type 0} (p : Parser A) (R : A → Tokens → Tokens → Type 0) → Sounds p R → (ts : Tokens) (x : A × Tokens) → closed p ts ≡ Ok x
    → (c : ℕ) × R x.0 ts (sign (codes ")") c ∷ x.1)
closed_sound {A} p R s ts x e =
    let a = bound (p ts) (λ r. eat (codes ")") r.1 >>= (λ t. Ok (r.0, t))) x e in
    let b = bound (eat (codes ")") a.0.1) (λ t. Ok (a.0.0, t)) x a.2 in
    let c = (here a.0.1).at in (
      c,
      subst (λ (z : A × Tokens). R z.0 ts (sign (codes ")") c ∷ z.1)) (ok_eq (a.0.0, b.0) x b.2)
          (subst (λ (z : Tokens). R a.0.0 ts z) (eaten (codes ")") a.0.1 b.0 b.1) (s ts a.0 a.1)),
    )

pub closed_reads : {A : Type 0} (p : Parser A) (a : A) (ts r : Tokens) (c : ℕ) → p ts ≡ Ok (a, sign (codes ")") c ∷ r) → closed p ts ≡ Ok (a, r)
closed_reads p a ts r c e = then (λ r. eat (codes ")") r.1 >>= (λ t. Ok (r.0, t))) e

pub parens_sound : {A : Type 0} (room : ℕ) (p : ℕ → Parser A) (X : ℕ → A → Tokens → Tokens → Type 0) → ((n : ℕ) → Sounds (p n) (X n))
    → (ts : Tokens) (x : A × Tokens) → in_parens room p ts ≡ Ok x → InRoom room (λ n. X n x.0) ts x.1
parens_sound zero p X s ts x e =
    let a = bound (eat (codes "(") ts) (λ r. refuse TooDeep (here ts).at) x e in no_ok TooDeep (here ts).at x a.2
parens_sound (suc n) p X s ts x e =
    let a = bound (eat (codes "(") ts) (λ r. closed (p n) r) x e in
    let b = closed_sound (p n) (X n) (s n) a.0 x a.2 in
    subst (λ (z : Tokens). Parens (X n x.0) z x.1) (sym (eaten (codes "(") ts a.0 a.1)) (parens (here ts).at b.0 b.1)

pub parens_reads : {A : Type 0} (room : ℕ) (p : ℕ → Parser A) (X : ℕ → A → Tokens → Tokens → Type 0) (a : A) (ts r : Tokens)
    → ((n c : ℕ) (t : Tokens) → X n a t (sign (codes ")") c ∷ r) → p n t ≡ Ok (a, sign (codes ")") c ∷ r))
    → InRoom room (λ n. X n a) ts r → in_parens room p ts ≡ Ok (a, r)
parens_reads zero p X a ts r f h = absurd h
parens_reads (suc n) p X a ts r f (parens o c {ts = t} h) = closed_reads (p n) a t r c (f n c t h)

pub parens_shrinks : (room : ℕ) (X : ℕ → Tokens → Tokens → Type 0) → ((n : ℕ) (t u : Tokens) → X n t u → length u ≤ length t)
    → (ts r : Tokens) → InRoom room X ts r → length r < length ts
parens_shrinks zero X f ts r h = absurd h
parens_shrinks (suc n) X f ts r (parens o c {ts = t} h) = let i = f n t (sign (codes ")") c ∷ r) h in omega arith

-- ---- soundness

negated_sound : (p : Parser Exp) (A : Exp → Tokens → Tokens → Type 0) → Sounds p A → Sounds (negated p) (Operand A)
negated_sound p A s ts x e =
    elim (if_inv (is (codes "-") ts) (λ u. p (rest ts) >>= (λ r. Ok (Negated r.0, r.1))) (λ u. p ts) (Ok x) e) [
      | inl i ↦
          let b = bound (p (rest ts)) (λ r. Ok (Negated r.0, r.1)) x i.1 in
          subst (λ (z : Exp × Tokens). Operand A z.0 ts z.1) (ok_eq (Negated b.0.0, b.0.1) x b.2)
          (subst (λ (z : Tokens). Operand A (Negated b.0.0) z b.0.1) (sym (sign_is (codes "-") ts i.0)) (minus (here ts).at (s (rest ts) b.0 b.1)))
      | inr i ↦ bare (s ts x i.1)
    ]

over_sound : (E : Exp → Tokens → Tokens → Type 0) (p : Parser Exp) → Sounds p (Atomic E) → Sounds (expression (negated p)) (ExpressionOver E)
over_sound E p s =
    let s0 = negated_sound p (Atomic E) s in
    let s1 = level_sound ProductSign products (Operand (Atomic E)) (negated p) read_product s0 in
    let s2 = level_sound SumSign sums (Grouped ProductSign (Operand (Atomic E))) (level products (negated p)) read_sum s1 in
    let s3 = level_sound LessSign lesses (Grouped SumSign (Grouped ProductSign (Operand (Atomic E)))) (level sums (level products (negated p))) read_less s2 in
    level_sound EqualSign equals (Grouped LessSign (Grouped SumSign (Grouped ProductSign (Operand (Atomic E))))) (level lesses (level sums (level products (negated p)))) read_equal s3

abbrev Inner : ℕ → Exp → Tokens → Tokens → Type 0
Inner zero = λ e ts r. ⊥
Inner (suc room) = Expression room

from_atoms : (room : ℕ) → Sounds (λ w. atom room w) (Atomic (Inner room)) → Sounds (an_expression room) (Expression room)
from_atoms zero s = over_sound (Inner zero) (λ w. atom zero w) s
from_atoms (suc room) s = over_sound (Expression room) (λ w. atom (suc room) w) s

simple_sound : (E : Exp → Tokens → Tokens → Type 0) (p : Parser Exp) → Sounds p (Atomic E) → Sounds (simple_atom p) (Atomic E)
simple_sound E p s ts x e =
    elim (if_inv (is_name (here ts).class) (λ u. Ok (Use (as_name (here ts)), rest ts)) (λ u.
    if_so (is_number (here ts).class) (λ w. Ok (Number (as_name (here ts)), rest ts)) (λ w. p ts)) (Ok x) e) [
      | inl i ↦
          subst (λ (z : Exp × Tokens). Atomic E z.0 ts z.1) (ok_eq (Use (as_name (here ts)), rest ts) x i.1)
          (subst (λ (z : Tokens). Atomic E (Use (as_name (here ts))) z (rest ts)) (sym (name_here ts i.0)) (a_use (as_name (here ts))))
      | inr j ↦
          elim (if_inv (is_number (here ts).class) (λ w. Ok (Number (as_name (here ts)), rest ts)) (λ w. p ts) (Ok x) j.1) [
            | inl i ↦
                subst (λ (z : Exp × Tokens). Atomic E z.0 ts z.1) (ok_eq (Number (as_name (here ts)), rest ts) x i.1)
                (subst (λ (z : Tokens). Atomic E (Number (as_name (here ts))) z (rest ts)) (sym (number_here ts i.0)) (a_literal (as_name (here ts))))
            | inr i ↦ s ts x i.1
          ]
    ]

atom_sound : (room : ℕ) → Sounds (λ w. atom room w) (Atomic (Inner room))
atom_sound zero =
    simple_sound (Inner zero) (λ u. eat (codes "(") u >>= (λ r. refuse TooDeep (here u).at))
    (λ ts x e. let a = bound (eat (codes "(") ts) (λ r. refuse TooDeep (here ts).at) x e in no_ok TooDeep (here ts).at x a.2)
atom_sound (suc room) =
    let es = from_atoms room (atom_sound room) in
    simple_sound (Expression room) (λ u. eat (codes "(") u >>= (λ r. closed (expression (negated (λ w. atom room w))) r))
    (λ ts x e.
    let a = bound (eat (codes "(") ts) (λ r. closed (expression (negated (λ w. atom room w))) r) x e in
    let b = closed_sound (an_expression room) (Expression room) es a.0 x a.2 in
    subst (λ (z : Tokens). Atomic (Expression room) x.0 z x.1) (sym (eaten (codes "(") ts a.0 a.1)) (bracketed (here ts).at b.0 b.1))

pub expression_sound : (room : ℕ) → Sounds (an_expression room) (Expression room)
expression_sound room = from_atoms room (atom_sound room)

-- ---- completeness

-- no operator is next
abbrev pub Free : Tokens → Type 0
Free r = (op_here equals r ≡ none) × ((op_here lesses r ≡ none) × ((op_here sums r ≡ none) × ((op_here products r ≡ none) × Unit {0})))

atomic_shrinks : (E : Exp → Tokens → Tokens → Type 0) → Shrinks E → Shrinks (Atomic E)
atomic_shrinks E sh e ts r (a_use n) = omega arith
atomic_shrinks E sh e ts r (a_literal n) = omega arith
atomic_shrinks E sh e ts r (bracketed o c {ts = t} d) = let i = sh e t (sign (codes ")") c ∷ r) d in omega arith

operand_shrinks : (A : Exp → Tokens → Tokens → Type 0) → Shrinks A → Shrinks (Operand A)
operand_shrinks A sh e ts r (bare d) = sh e ts r d
operand_shrinks A sh e ts r (minus at {e = f} {ts = t} d) = let i = sh f t r d in omega arith

over_shrinks : (E : Exp → Tokens → Tokens → Type 0) → Shrinks E → Shrinks (ExpressionOver E)
over_shrinks E sh =
    grouped_shrinks EqualSign (Grouped LessSign (Grouped SumSign (Grouped ProductSign (Operand (Atomic E)))))
    (grouped_shrinks LessSign (Grouped SumSign (Grouped ProductSign (Operand (Atomic E))))
    (grouped_shrinks SumSign (Grouped ProductSign (Operand (Atomic E)))
    (grouped_shrinks ProductSign (Operand (Atomic E)) (operand_shrinks (Atomic E) (atomic_shrinks E sh)))))

pub expression_shrinks : (room : ℕ) → Shrinks (Expression room)
expression_shrinks zero = over_shrinks (λ e ts r. ⊥) (λ e ts r d. absurd d)
expression_shrinks (suc room) = over_shrinks (Expression room) (expression_shrinks room)

negated_reads : (E : Exp → Tokens → Tokens → Type 0) (p : Parser Exp) → Reads p (Atomic E) Any → Reads (negated p) (Operand (Atomic E)) Any
negated_reads E p pr e ts r (bare (a_use n)) f = pr e ts r (a_use n) tt
negated_reads E p pr e ts r (bare (a_literal n)) f = pr e ts r (a_literal n) tt
negated_reads E p pr e ts r (bare (bracketed o c d)) f = pr e ts r (bracketed o c d) tt
negated_reads E p pr e ts r (minus at {e = g} {ts = t} d) f = then (λ r. Ok (Negated r.0, r.1)) (pr g t r d tt)

abbrev F1 : Tokens → Type 0
F1 r = (op_here products r ≡ none) × Unit {0}

abbrev F2 : Tokens → Type 0
F2 r = (op_here sums r ≡ none) × F1 r

abbrev F3 : Tokens → Type 0
F3 r = (op_here lesses r ≡ none) × F2 r

equal_written : (s : List ℕ) (o : Op) (at : ℕ) (a : Tokens) → EqualSign s o → op_here equals (sign s at ∷ a) ≡ some o
equal_written s o at a same_sign = refl

equal_follows : (s : List ℕ) (o : Op) (at : ℕ) (a : Tokens) → EqualSign s o → F3 (sign s at ∷ a)
equal_follows s o at a same_sign = (refl, (refl, (refl, tt)))

less_written : (s : List ℕ) (o : Op) (at : ℕ) (a : Tokens) → LessSign s o → op_here lesses (sign s at ∷ a) ≡ some o
less_written s o at a less_sign = refl

less_follows : (s : List ℕ) (o : Op) (at : ℕ) (a : Tokens) → LessSign s o → F2 (sign s at ∷ a)
less_follows s o at a less_sign = (refl, (refl, tt))

sum_written : (s : List ℕ) (o : Op) (at : ℕ) (a : Tokens) → SumSign s o → op_here sums (sign s at ∷ a) ≡ some o
sum_written s o at a plus_sign = refl
sum_written s o at a minus_sign = refl

sum_follows : (s : List ℕ) (o : Op) (at : ℕ) (a : Tokens) → SumSign s o → F1 (sign s at ∷ a)
sum_follows s o at a plus_sign = (refl, tt)
sum_follows s o at a minus_sign = (refl, tt)

product_written : (s : List ℕ) (o : Op) (at : ℕ) (a : Tokens) → ProductSign s o → op_here products (sign s at ∷ a) ≡ some o
product_written s o at a times_sign = refl

over_reads : (E : Exp → Tokens → Tokens → Type 0) (p : Parser Exp) → Shrinks E → Reads p (Atomic E) Any → Reads (expression (negated p)) (ExpressionOver E) Free
over_reads E p sh pr =
    let R0 = Operand (Atomic E) in
    let h0 = operand_shrinks (Atomic E) (atomic_shrinks E sh) in
    let h1 = grouped_shrinks ProductSign (Operand (Atomic E)) h0 in
    let h2 = grouped_shrinks SumSign (Grouped ProductSign (Operand (Atomic E))) h1 in
    let h3 = grouped_shrinks LessSign (Grouped SumSign (Grouped ProductSign (Operand (Atomic E)))) h2 in
    let r1 = level_reads ProductSign products (Operand (Atomic E)) (negated p) Any product_written (λ s o at a w. tt) h0 (negated_reads E p pr) in
    let r2 = level_reads SumSign sums (Grouped ProductSign (Operand (Atomic E))) (level products (negated p)) F1 sum_written sum_follows h1 r1 in
    let r3 = level_reads LessSign lesses (Grouped SumSign (Grouped ProductSign (Operand (Atomic E)))) (level sums (level products (negated p))) F2 less_written less_follows h2 r2 in
    level_reads EqualSign equals (Grouped LessSign (Grouped SumSign (Grouped ProductSign (Operand (Atomic E))))) (level lesses (level sums (level products (negated p)))) F3 equal_written equal_follows h3 r3

reads_from : (room : ℕ) → Reads (λ w. atom room w) (Atomic (Inner room)) Any → Reads (an_expression room) (Expression room) Free
reads_from zero r = over_reads (Inner zero) (λ w. atom zero w) (λ e ts r d. absurd d) r
reads_from (suc room) r = over_reads (Expression room) (λ w. atom (suc room) w) (expression_shrinks room) r

atom_reads : (room : ℕ) → Reads (λ w. atom room w) (Atomic (Inner room)) Any
atom_reads zero e ts r (a_use n) f = refl
atom_reads zero e ts r (a_literal n) f = refl
atom_reads zero e ts r (bracketed o c d) f = absurd d
atom_reads (suc room) e ts r (a_use n) f = refl
atom_reads (suc room) e ts r (a_literal n) f = refl
atom_reads (suc room) e ts r (bracketed o c {ts = t} d) f =
    closed_reads (an_expression room) e t r c (reads_from room (atom_reads room) e t (sign (codes ")") c ∷ r) d (refl, (refl, (refl, (refl, tt)))))

pub expression_reads : (room : ℕ) → Reads (an_expression room) (Expression room) Free
expression_reads room = reads_from room (atom_reads room)
