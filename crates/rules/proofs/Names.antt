-- A kind and two numbers name a move exactly if it exists and this is its name.
use Rattle.std.proofs.Common.{◌≡◌, ℕ, ◌<◌, Bool, true, false, cond, ◌&&◌, T, eqb, ltb, ◌⊎◌, sym, refl, ap, subst, inl, inr, eqb→eq, ltb→lt, lt→ltb}
use mathlib.Core.Option.{Option, some, none}
use Rattle.rules.specs.Programs.{Table}
use Rattle.rules.specs.States.{Move, step, close, meet, poison}
use Rattle.rules.specs.Names.{Name, name_of, is_home, Exists, named_move}
use Rattle.rules.specs.ListingLaws.{NamesTell}
use Rattle.lemmas.proofs.Tests.{T_and, and_T, T_true, eq_eqb, cond_some, some_none}

either : {A : Type 0} (b : Bool) (x y : Option A) (m : A) → cond b x y ≡ some m → (T b × (x ≡ some m)) ⊎ (y ≡ some m)
either true x y m e = inl (tt, e)
either false x y m e = inr e

module _ (t : Table) (n : ℕ) where
  home_out : (h : ℕ) → T (is_home t n h) → (h < n) × (t.home h ≡ h)
  home_out h e = let a = T_and (ltb h n) (eqb (t.home h) h) e in (ltb→lt h n a.0, eqb→eq (t.home h) h a.1)

  home_in : (h : ℕ) → h < n → t.home h ≡ h → T (is_home t n h)
  home_in h l e = and_T (ltb h n) (eqb (t.home h) h) (lt→ltb h n l) (eq_eqb (t.home h) h e)

  abbrev Told : ℕ → ℕ → ℕ → Move → Type 0
  Told kind a b m = Exists t n m × (name_of m ≡ record { kind = kind; first = a; second = b })

  told_at : (kind a b : ℕ) (l m : Move) → l ≡ m → Told kind a b l → Told kind a b m
  told_at kind a b l m e = subst (λ (v : Move). Told kind a b v) e

  same_name : (k kind a b c : ℕ) → kind ≡ k → b ≡ c
      → ◌≡◌ {A = Name} (record { kind = k; first = a; second = c }) (record { kind = kind; first = a; second = b })
  same_name k kind a b c e f = λ i. record { kind = sym e i; first = a; second = sym f i }

  out : (kind a b : ℕ) (m : Move) → named_move t n kind a b ≡ some m → Told kind a b m
  out kind a b m e =
      elim (either (eqb kind 0) _ _ m e) [
        | inl x ↦
            let c = cond_some (ltb a t.places && eqb b 0) (step a) m x.1 in
            let d = T_and (ltb a t.places) (eqb b 0) c.0 in
            told_at kind a b (step a) m c.1 (ltb→lt a t.places d.0, same_name 0 kind a b 0 (eqb→eq kind 0 x.0) (eqb→eq b 0 d.1))
        | inr f ↦
            elim (either (eqb kind 1) _ _ m f) [
              | inl x ↦
                  let c = cond_some (ltb a t.places && eqb b 0) (close a) m x.1 in
                  let d = T_and (ltb a t.places) (eqb b 0) c.0 in
                  told_at kind a b (close a) m c.1 (ltb→lt a t.places d.0, same_name 1 kind a b 0 (eqb→eq kind 1 x.0) (eqb→eq b 0 d.1))
              | inr g ↦
                  elim (either (eqb kind 2) _ _ m g) [
                    | inl x ↦
                        let c = cond_some (is_home t n a && eqb b 0) (meet a) m x.1 in
                        let d = T_and (is_home t n a) (eqb b 0) c.0 in
                        told_at kind a b (meet a) m c.1 (home_out a d.0, same_name 2 kind a b 0 (eqb→eq kind 2 x.0) (eqb→eq b 0 d.1))
                    | inr h ↦
                        elim (either (eqb kind 3) _ _ m h) [
                          | inl x ↦
                              let c = cond_some (ltb a t.places && is_home t n b) (poison a b) m x.1 in
                              let d = T_and (ltb a t.places) (is_home t n b) c.0 in
                              let u = home_out b d.1 in
                              told_at kind a b (poison a b) m c.1 ((ltb→lt a t.places d.0, u.0, u.1), same_name 3 kind a b b (eqb→eq kind 3 x.0) refl)
                          | inr i ↦ some_none m none i refl
                        ]
                  ]
            ]
      ]

  chosen : (b : Bool) (m : Move) → T b → cond b (some m) none ≡ some m
  chosen b m h = ap (λ v. cond v (some m) none) (T_true b h)

  base : (m : Move) → Exists t n m → named_move t n (name_of m).kind (name_of m).first (name_of m).second ≡ some m
  base (step p) e = chosen (ltb p t.places && eqb 0 0) (step p) (and_T (ltb p t.places) (eqb 0 0) (lt→ltb p t.places e) tt)
  base (close p) e = chosen (ltb p t.places && eqb 0 0) (close p) (and_T (ltb p t.places) (eqb 0 0) (lt→ltb p t.places e) tt)
  base (meet h) e = chosen (is_home t n h && eqb 0 0) (meet h) (and_T (is_home t n h) (eqb 0 0) (home_in h e.0 e.1) tt)
  base (poison p h) e =
      chosen (ltb p t.places && is_home t n h) (poison p h)
      (and_T (ltb p t.places) (is_home t n h) (lt→ltb p t.places e.0) (home_in h e.1 e.2))

pub names_tell_lem : NamesTell
names_tell_lem t n kind a b m = (
  out t n kind a b m,
  λ h. subst (λ (v : Name). named_move t n v.kind v.first v.second ≡ some m) h.1 (base t n m h.0),
)
