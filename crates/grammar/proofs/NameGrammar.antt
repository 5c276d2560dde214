-- Names and arguments: the parser and the grammar.
use Rattle.std.proofs.Common.{◌≡◌, ℕ, zero, suc, ◌<◌, ◌≤◌, List, [], ◌∷◌, length, Ok, codes, sym, refl, ap, ◌∙◌, subst, inl, inr, arith}
use Rattle.reader.specs.Faults.{◌>>=◌}
use Rattle.reader.specs.declared.fault.Cause.TheVariants.{NotAllowed}
use Rattle.grammar.specs.Trees.{Name, Exp, Call, One}
use Rattle.grammar.specs.Parsing as G
use Rattle.grammar.specs.Parsers.{Tokens, here, rest, is, eat, a_name}
use Rattle.grammar.specs.Parsing.{an_expression, in_parens, more_names, arguments}
use Rattle.grammar.specs.Language.{sign, name_token, Expression, parens, InRoom, NameIs, name_is, MoreNames, no_more, comma, Arguments, no_argument, an_argument}
use Rattle.grammar.proofs.Results.{bound}
use Rattle.grammar.proofs.Levels.{ok_eq, no_ok, if_inv, then, sign_is, a_name_is, Sounds}
use Rattle.grammar.proofs.ExpressionGrammar.{closed_reads, parens_reads, parens_shrinks, expression_reads, expression_shrinks}

-- ---- names

more_names_sound : (n : ℕ) → Sounds (more_names n) MoreNames
more_names_sound zero ts x e = no_ok NotAllowed (here ts).at x e
more_names_sound (suc n) ts x e =
    elim (if_inv (is (codes ",") ts) (λ u. a_name (rest ts) >>= (λ r. more_names n r.1 >>= (λ s. Ok (r.0 ∷ s.0, s.1)))) (λ u. Ok ([], ts)) (Ok x) e) [
      | inl i ↦
          let a = bound (a_name (rest ts)) (λ r. more_names n r.1 >>= (λ s. Ok (r.0 ∷ s.0, s.1))) x i.1 in
          let b = bound (more_names n a.0.1) (λ s. Ok (a.0.0 ∷ s.0, s.1)) x a.2 in
          let t : ts ≡ sign (codes ",") (here ts).at ∷ name_token a.0.0 ∷ a.0.1 = sign_is (codes ",") ts i.0 ∙ ap (λ z. sign (codes ",") (here ts).at ∷ z) (a_name_is (rest ts) a.0 a.1) in
          subst (λ (z : List Name × Tokens). MoreNames z.0 ts z.1) (ok_eq (a.0.0 ∷ b.0.0, b.0.1) x b.2)
          (subst (λ (z : Tokens). MoreNames (a.0.0 ∷ b.0.0) z b.0.1) (sym t) (comma (here ts).at a.0.0 (more_names_sound n a.0.1 b.0 b.1)))
      | inr i ↦ subst (λ (z : List Name × Tokens). MoreNames z.0 ts z.1) (ok_eq ([], ts) x i.1) no_more
    ]

pub arguments_sound : Sounds arguments Arguments
arguments_sound ts x e =
    elim (if_inv (is (codes ")") ts) (λ u. Ok ([], ts)) (λ u. a_name ts >>= (λ r. more_names (suc (length r.1)) r.1 >>= (λ s. Ok (r.0 ∷ s.0, s.1)))) (Ok x) e) [
      | inl i ↦ subst (λ (z : List Name × Tokens). Arguments z.0 ts z.1) (ok_eq ([], ts) x i.1) no_argument
      | inr i ↦
          let a = bound (a_name ts) (λ r. more_names (suc (length r.1)) r.1 >>= (λ s. Ok (r.0 ∷ s.0, s.1))) x i.1 in
          let b = bound (more_names (suc (length a.0.1)) a.0.1) (λ s. Ok (a.0.0 ∷ s.0, s.1)) x a.2 in
          subst (λ (z : List Name × Tokens). Arguments z.0 ts z.1) (ok_eq (a.0.0 ∷ b.0.0, b.0.1) x b.2)
          (subst (λ (z : Tokens). Arguments (a.0.0 ∷ b.0.0) z b.0.1) (sym (a_name_is ts a.0 a.1)) (an_argument a.0.0 (more_names_sound (suc (length a.0.1)) a.0.1 b.0 b.1)))
    ]

more_names_read : (ns : List Name) (ts r : Tokens) (c n : ℕ) → MoreNames ns ts (sign (codes ")") c ∷ r) → length ts < n → more_names n ts ≡ Ok (ns, sign (codes ")") c ∷ r)
more_names_read ns ts r c zero h l = absurd (omega arith)
more_names_read ns ts r c (suc n) no_more l = refl
more_names_read ns ts r c (suc n) (comma at m {ns = ks} {ts = t} h) l =
    then (λ s. Ok (m ∷ s.0, s.1)) (more_names_read ks t r c n h (omega arith))

arguments_read : (ns : List Name) (ts r : Tokens) (c : ℕ) → Arguments ns ts (sign (codes ")") c ∷ r) → arguments ts ≡ Ok (ns, sign (codes ")") c ∷ r)
arguments_read ns ts r c no_argument = refl
arguments_read ns ts r c (an_argument m {ns = ks} {ts = t} h) =
    then (λ s. Ok (m ∷ s.0, s.1)) (more_names_read ks t r c (suc (length t)) h (omega arith))

more_names_shrink : (ns : List Name) (ts r : Tokens) → MoreNames ns ts r → length r ≤ length ts
more_names_shrink ns ts r no_more = omega arith
more_names_shrink ns ts r (comma at m {ns = ks} {ts = t} h) = let i = more_names_shrink ks t r h in omega arith

pub arguments_shrink : (ns : List Name) (ts r : Tokens) → Arguments ns ts r → length r ≤ length ts
arguments_shrink ns ts r no_argument = omega arith
arguments_shrink ns ts r (an_argument m {ns = ks} {ts = t} h) = let i = more_names_shrink ks t r h in omega arith

pub name_sound : Sounds a_name NameIs
name_sound ts x e = subst (λ (z : Tokens). NameIs x.0 z x.1) (sym (a_name_is ts x e)) name_is

pub name_read : (n : Name) (ts r : Tokens) → NameIs n ts r → a_name ts ≡ Ok (n, r)
name_read n ts r name_is = refl

pub name_shrink : (n : Name) (ts r : Tokens) → NameIs n ts r → length r ≤ length ts
name_shrink n ts r name_is = omega arith

pub condition_read : (room : ℕ) (e : Exp) (ts r : Tokens) → InRoom room (λ n. Expression n e) ts r → in_parens room (λ n. an_expression n) ts ≡ Ok (e, r)
condition_read room e ts r h =
    parens_reads room (λ n. an_expression n) (λ n. Expression n) e ts r (λ n c t k. expression_reads n e t (sign (codes ")") c ∷ r) k (refl, (refl, (refl, (refl, tt))))) h

pub condition_shrink : (room : ℕ) (e : Exp) (ts r : Tokens) → InRoom room (λ n. Expression n e) ts r → length r < length ts
condition_shrink room e ts r h = parens_shrinks room (λ n. Expression n e) (λ n t u k. expression_shrinks n e t u k) ts r h

pub call_read : (room c : ℕ) (v : Name) (as' : List Name) (ts r : Tokens) → InRoom room (λ n. Arguments as') ts (sign (codes ";") c ∷ r)
    → G.named room v ts ≡ Ok (One v.at (Call v as'), r)
call_read zero c v as' ts r h = absurd h
call_read (suc room) c v as' ts r (parens o d {ts = t} h) =
    then (λ a. eat (codes ";") a.1 >>= (λ t. Ok (One v.at (Call v a.0), t))) (closed_reads arguments as' t (sign (codes ";") c ∷ r) d (arguments_read as' t (sign (codes ";") c ∷ r) d h))

-- one of several ways was gone
