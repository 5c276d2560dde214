-- What a named move is answered, and what it leaves.
use Rattle.std.proofs.Common.{◌≡◌, ℕ, ◌<◌, ◌≤◌, Bool, true, false, cond, T, ltb, Ok, Err, Result, sym, refl, ap, ◌∙◌, subst, arith, ltb→lt, lt→ltb, nltb→le}
use mathlib.Core.Option.{Option, some, none}
use lib.Dec.{not_T}
use Rattle.rules.specs.declared.answers.Refusal.{Refusal}
use Rattle.rules.specs.declared.answers.Refusal.TheVariants.{NoSuch, Limit, NotPermitted}
use Rattle.rules.specs.States.{State, Move}
use Rattle.rules.specs.Permissions.{Permitted}
use Rattle.rules.specs.Moves.{made}
use Rattle.rules.specs.Tests.{permitted}
use Rattle.rules.specs.Answers.{limit, answer}
use Rattle.rules.specs.GrantLaws.{GrantedExactly, GrantedMakes, NoSuchExactly, LimitExactly, NotPermittedExactly, RefusedLeaves}
use Rattle.lemmas.proofs.Tests.{T_true}
use Rattle.rules.proofs.Decide.{permitted_tells}

abbrev Answer : Type 0
Answer = Result (Unit {0}) Refusal

abbrev code : Answer → ℕ
code (Ok u) = 0
code (Err NoSuch) = 31
code (Err Limit) = 32
code (Err NotPermitted) = 33

-- the answer of two tests: the limit is not reached, the move is permitted
abbrev told : Bool → Bool → Answer
told a b = cond a (cond b (Ok tt) (Err NotPermitted)) (Err Limit)

ok_case : (a b : Bool) → told a b ≡ Ok tt → T a × T b
ok_case true true e = (tt, tt)
ok_case true false e = absurd (let z : ◌≡◌ {A = ℕ} 33 0 = ap code e in omega arith)
ok_case false b e = absurd (let z : ◌≡◌ {A = ℕ} 32 0 = ap code e in omega arith)

ok_of : (a b : Bool) → T a → T b → told a b ≡ Ok tt
ok_of true true h i = refl
ok_of true false h i = absurd i
ok_of false b h i = absurd h

limit_case : (a b : Bool) → told a b ≡ Err Limit → T a → ⊥
limit_case true true e h = let z : ◌≡◌ {A = ℕ} 0 32 = ap code e in omega arith
limit_case true false e h = let z : ◌≡◌ {A = ℕ} 33 32 = ap code e in omega arith
limit_case false b e h = h

limit_of : (a b : Bool) → (T a → ⊥) → told a b ≡ Err Limit
limit_of true b h = absurd (h tt)
limit_of false b h = refl

refused_case : (a b : Bool) → told a b ≡ Err NotPermitted → T a × (T b → ⊥)
refused_case true true e = absurd (let z : ◌≡◌ {A = ℕ} 0 33 = ap code e in omega arith)
refused_case true false e = (tt, λ h. h)
refused_case false b e = absurd (let z : ◌≡◌ {A = ℕ} 32 33 = ap code e in omega arith)

refused_of : (a b : Bool) → T a → (T b → ⊥) → told a b ≡ Err NotPermitted
refused_of true true h i = absurd (i tt)
refused_of true false h i = refl
refused_of false b h i = absurd h

such_case : (a b : Bool) → told a b ≡ Err NoSuch → ⊥
such_case true true e = let z : ◌≡◌ {A = ℕ} 0 31 = ap code e in omega arith
such_case true false e = let z : ◌≡◌ {A = ℕ} 33 31 = ap code e in omega arith
such_case false b e = let z : ◌≡◌ {A = ℕ} 32 31 = ap code e in omega arith

reached : (s : State) → (T (ltb s.total limit) → ⊥) → limit ≤ s.total
reached s h = nltb→le s.total limit (not_T (ltb s.total limit) h)

not_reached : (s : State) → limit ≤ s.total → T (ltb s.total limit) → ⊥
not_reached s l h = let z = ltb→lt s.total limit h in omega arith

pub granted_exactly : GrantedExactly
granted_exactly t s o sd wf = (
  out o,
  λ a. subst (λ (v : Option Move). answer t s v ≡ Ok tt) (sym a.1)
      (ok_of (ltb s.total limit) (permitted t s a.0) (lt→ltb s.total limit a.2) ((permitted_tells t s a.0 sd wf).1 a.3)),
)
  where
    out : (o : Option Move) → answer t s o ≡ Ok tt → (m : Move) × (o ≡ some m) × (s.total < limit) × Permitted t s m
    out none e = absurd (let z : ◌≡◌ {A = ℕ} 31 0 = ap code e in omega arith)
    out (some m) e =
        let a = ok_case (ltb s.total limit) (permitted t s m) e in
        (m, refl, ltb→lt s.total limit a.0, (permitted_tells t s m sd wf).0 a.1)

pub granted_makes : GrantedMakes
granted_makes k t s m e =
    let a = ok_case (ltb s.total limit) (permitted t s m) e in
    ap (λ v. cond v (cond (permitted t s m) (made k t s m) s) s) (T_true (ltb s.total limit) a.0)
    ∙ ap (λ v. cond v (made k t s m) s) (T_true (permitted t s m) a.1)

pub no_such_exactly : NoSuchExactly
no_such_exactly t s o = (out o, λ e. ap (answer t s) e)
  where
    out : (o : Option Move) → answer t s o ≡ Err NoSuch → o ≡ none
    out none e = refl
    out (some m) e = absurd (such_case (ltb s.total limit) (permitted t s m) e)

pub limit_exactly : LimitExactly
limit_exactly t s o = (
  out o,
  λ a. subst (λ (v : Option Move). answer t s v ≡ Err Limit) (sym a.1)
      (limit_of (ltb s.total limit) (permitted t s a.0) (not_reached s a.2)),
)
  where
    out : (o : Option Move) → answer t s o ≡ Err Limit → (m : Move) × (o ≡ some m) × (limit ≤ s.total)
    out none e = absurd (let z : ◌≡◌ {A = ℕ} 31 32 = ap code e in omega arith)
    out (some m) e = (m, refl, reached s (limit_case (ltb s.total limit) (permitted t s m) e))

pub not_permitted_exactly : NotPermittedExactly
not_permitted_exactly t s o sd wf = (
  out o,
  λ a. subst (λ (v : Option Move). answer t s v ≡ Err NotPermitted) (sym a.1)
      (refused_of (ltb s.total limit) (permitted t s a.0) (lt→ltb s.total limit a.2) (λ h. a.3 ((permitted_tells t s a.0 sd wf).0 h))),
)
  where
    out : (o : Option Move) → answer t s o ≡ Err NotPermitted → (m : Move) × (o ≡ some m) × (s.total < limit) × (Permitted t s m → ⊥)
    out none e = absurd (let z : ◌≡◌ {A = ℕ} 31 33 = ap code e in omega arith)
    out (some m) e =
        let a = refused_case (ltb s.total limit) (permitted t s m) e in
        (m, refl, ltb→lt s.total limit a.0, λ p. a.1 ((permitted_tells t s m sd wf).1 p))

pub refused_leaves : RefusedLeaves
refused_leaves k t s none e h = refl
refused_leaves k t s (some m) e h = go (ltb s.total limit) (permitted t s m) h
  where
    go : (a b : Bool) → told a b ≡ Err e → cond a (cond b (made k t s m) s) s ≡ s
    go true true i = absurd (ok_err e i)
      where
        ok_err : (e : Refusal) → ◌≡◌ {A = Answer} (Ok tt) (Err e) → ⊥
        ok_err NoSuch i = let z : ◌≡◌ {A = ℕ} 0 31 = ap code i in omega arith
        ok_err Limit i = let z : ◌≡◌ {A = ℕ} 0 32 = ap code i in omega arith
        ok_err NotPermitted i = let z : ◌≡◌ {A = ℕ} 0 33 = ap code i in omega arith
    go true false i = refl
    go false b i = refl
