-- The tests of the sites tell what the rules ask, and the walk finds the first site that is wrong.
use Rattle.std.proofs.Common.{◌≡◌, ℕ, ◌≤◌, Bool, true, false, not, leb, ◌⊎◌, List, [], ◌∷◌, length, is_some, Some, None, Ok, Err, Decides, Option, Result, sym, refl, ap, ◌∙◌, subst, inl, inr, arith, eq-eqb, eqb-true, le-leb, leb-true}
use Rattle.std.proofs.lemmas.Bool.Decides.{Decides-not, Decides-or}
use Rattle.reader.specs.declared.fault.Fault.{Fault}
use Rattle.reader.specs.declared.fault.Error.{Error}
use Rattle.reader.specs.declared.fault.Error.TheVariants.{Refused, OutOfMemory}
use Rattle.reader.specs.Faults.{Answer, Meets, ◌>>=◌, must}
use Rattle.reader.specs.Tokens.{same, among}
use Rattle.numbers.specs.Literals.{digits_value}
use Rattle.grammar.specs.Trees.{Proc, Tree}
use Rattle.names.specs.Naming.{Reading, Scope, find_proc, named}
use Rattle.names.specs.Sites.{
  Site,
  uses,
  declares,
  calls,
  gives,
  defines,
  writes,
  takes,
  sites,
  with_procs,
  Among,
  Right,
  fault_at,
  AllRight,
  FirstWrong,
  Judged,
}
use Rattle.names.specs.Laws.{PassesWhenRight, RefusesFirstWrong}
use Rattle.grammar.proofs.Spelling.{same_decides}
use Rattle.names.proofs.Checked.{fits, test, checked, named_is}

clash : {A : Type 0} → true ≡ false → A
clash e = absurd cc

-- ---- tests and facts

among_tells : (w : List ℕ) (v : Scope) → Decides (among w v) (Among w v)
among_tells w [] = (λ e. clash (sym e), λ x. absurd x)
among_tells w (x ∷ v) = Decides-or (same w x) (among w v) (same_decides w x) (among_tells w v)

some_tells : {A : Type 0} (o : Option A) → Decides (is_some o) ((a : A) × (o ≡ Some a))
some_tells None = (λ e. clash (sym e), λ x. clash (let z : true ≡ false = cc x.1 in z))
some_tells (Some a) = (λ e. (a, refl), λ x. refl)

none_tells : {A : Type 0} (o : Option A) → Decides (not (is_some o)) ((a : A) → o ≡ Some a → ⊥)
none_tells None = (λ e a x. clash (let z : true ≡ false = cc in z), λ f. refl)
none_tells (Some a) = (λ e. clash (sym e), λ f. absurd (f a refl))

fits_tells : (k : ℕ) (o : Option Proc) → Decides (fits k o) ((p : Proc) → o ≡ Some p → length p.params ≡ k)
fits_tells k None = (λ e p x. clash (let z : true ≡ false = cc in z), λ f. refl)
fits_tells k (Some q) = (λ e p x. ap (λ (r : Proc). length r.params) (let z : p ≡ q = cc in z) ∙ eqb-true _ _ e, λ f. eq-eqb _ _ (f q refl))

port_tells : (o : Option ℕ) → Decides (elim o [ Some k ↦ leb k 7 | None ↦ false ]) ((k : ℕ) × (o ≡ Some k) × (k ≤ 7))
port_tells None = (λ e. clash (sym e), λ x. clash (let z : true ≡ false = cc x.1 in z))
port_tells (Some k) = (λ e. (k, refl, leb-true k 7 e), λ x. le-leb k 7 (let i : k ≡ x.0 = cc x.1 in omega (arith, x.2)))

pub tells : (l : Reading) (s : Site) → Decides (test l s) (Right l s)
tells l (uses v n) = among_tells n.text v
tells l (declares v n) = Decides-not (among n.text v) (among_tells n.text v)
tells l (calls ps n) = some_tells (find_proc ps n.text)
tells l (gives ps n k) = fits_tells k (find_proc ps n.text)
tells l (defines ps n) = none_tells (find_proc ps n.text)
tells l (writes n) = some_tells (l n.text)
tells l (takes n) = port_tells (digits_value n.text)

-- ---- the walk

step_ok : (l : Reading) (s : Site) (ss : List Site) → test l s ≡ true → checked l (s ∷ ss) ≡ checked l ss
step_ok l s ss e = ap (λ (b : Bool). must b (fault_at s).cause (fault_at s).offset >>= (λ u. checked l ss)) e

step_err : (l : Reading) (s : Site) (ss : List Site) → test l s ≡ false → checked l (s ∷ ss) ≡ Err (fault_at s)
step_err l s ss e = ap (λ (b : Bool). must b (fault_at s).cause (fault_at s).offset >>= (λ u. checked l ss)) e

pub right_passes : (l : Reading) (ss : List Site) → AllRight l ss → checked l ss ≡ Ok tt
right_passes l [] h = refl
right_passes l (s ∷ ss) h = step_ok l s ss ((tells l s).1 h.0) ∙ right_passes l ss h.1

wrong_test : (l : Reading) (s : Site) → (Right l s → ⊥) → test l s ≡ false
wrong_test l s h = elim (test l s) as (λ (b : Bool). test l s ≡ b → b ≡ false) [ true ↦ λ e. absurd (h ((tells l s).0 e)) | false ↦ λ e. refl ] refl

pub wrong_refuses : (l : Reading) (ss : List Site) (f : Fault) → FirstWrong l ss f → checked l ss ≡ Err f
wrong_refuses l [] f h = absurd h
wrong_refuses l (s ∷ ss) f (inl w) = step_err l s ss (wrong_test l s w.0) ∙ ap Err (sym w.1)
wrong_refuses l (s ∷ ss) f (inr w) = step_ok l s ss ((tells l s).1 w.0) ∙ wrong_refuses l ss f w.1

-- every list of sites is all right, or has a first that is wrong
pub split : (l : Reading) (ss : List Site) → AllRight l ss ⊎ ((f : Fault) × FirstWrong l ss f)
split l [] = inl tt
split l (s ∷ ss) =
    elim (test l s) as (λ (b : Bool). test l s ≡ b → AllRight l (s ∷ ss) ⊎ ((f : Fault) × FirstWrong l (s ∷ ss) f)) [
      | true ↦
          λ e. elim (split l ss) [
            | inl h ↦ inl ((tells l s).0 e, h)
            | inr h ↦ inr (h.0, inr ((tells l s).0 e, h.1))
          ]
      | false ↦ λ e. inr (fault_at s, inl (λ r. clash (sym ((tells l s).1 r) ∙ e), refl))
    ] refl

ok_err : {A B : Type 0} {a : A} {f : Fault} {r : Answer A} → r ≡ Ok a → r ≡ Err f → B
ok_err e i = absurd cc

named_ok : (l : Reading) (t : Tree) → AllRight l (sites t) → named l t ≡ Ok (with_procs [] t.procs)
named_ok l t h = named_is l t ∙ ap (λ (z : Answer (Unit {0})). z >>= (λ u. Ok (with_procs [] t.procs))) (right_passes l (sites t) h)

named_err : (l : Reading) (t : Tree) (f : Fault) → FirstWrong l (sites t) f → named l t ≡ Err f
named_err l t f h = named_is l t ∙ ap (λ (z : Answer (Unit {0})). z >>= (λ u. Ok (with_procs [] t.procs))) (wrong_refuses l (sites t) f h)

pub passes_when_right : PassesWhenRight
passes_when_right l t =
    (λ ps e. elim (split l (sites t)) [ inl h ↦ h | inr h ↦ ok_err e (named_err l t h.0 h.1) ], named_ok l t)

same_fault : {A : Type 0} {r : Answer A} {f g : Fault} → r ≡ Err f → r ≡ Err g → f ≡ g
same_fault e i = cc

pub refuses_first_wrong : RefusesFirstWrong
refuses_first_wrong l t f = (
  λ e. elim (split l (sites t)) [
    | inl h ↦ ok_err (named_ok l t h) e
    | inr h ↦ subst (λ (g : Fault). FirstWrong l (sites t) g) (same_fault (named_err l t h.0 h.1) e) h.1
  ],
  named_err l t f,
)

-- what an answer of the code says
pub judged : (l : Reading) (t : Tree) (r : Result (Unit {0}) Error) (a : Answer (List Proc)) → named l t ≡ a → Meets (λ (u : Unit {0}) (ps : List Proc). Unit {0}) r a → Judged l (sites t) r
judged l t (Ok u) (Ok ps) e h = (passes_when_right l t).0 ps e
judged l t (Ok u) (Err f) e h = absurd h
judged l t (Err (Refused g)) (Ok ps) e h = absurd h
judged l t (Err (Refused g)) (Err f) e h = (refuses_first_wrong l t g).0 (e ∙ ap Err (sym h))
judged l t (Err OutOfMemory) a e h = tt
