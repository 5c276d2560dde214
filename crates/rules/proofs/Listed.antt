-- The listing holds exactly the permitted moves that exist, in the order of names.
use Rattle.std.proofs.Common.{◌≡◌, ℕ, ◌<◌, not, T, eqb, List, ◌++◌, length, sym, refl, subst, inl, inr, arith, eqb→eq}
use native.Mathlib.Decide.{dec_lt}
use Rattle.rules.specs.Programs.{Table}
use Rattle.rules.specs.States.{State, Local, is_idle, Move, step, close, meet, poison}
use Rattle.rules.specs.Readiness.{Ready, waits, parts, Waits}
use Rattle.rules.specs.Tests.{permitted}
use Rattle.rules.specs.Names.{name_of, Exists, Precedes}
use Rattle.rules.specs.Listings.{each, if_permitted, steps_of, closes_of, meets_of, poisons_of, listing}
use Rattle.rules.specs.ListingLaws.{ListingTells, ListingOrdered, ListingOnce, PermittedExists, RestTells}
use Rattle.lemmas.proofs.Tests.{T_and, eq_eqb}
use Rattle.rules.proofs.Locals.{busy_live, live_some}
use Rattle.rules.proofs.Readiness.{ready_busy}
use Rattle.rules.proofs.Decide.{permitted_tells}
use Rattle.rules.proofs.Lists.{
  In,
  in_nth,
  nth_in,
  in_l,
  in_r,
  in_append,
  in_each,
  each_in,
  one_in,
  in_one,
  Sorted,
  sorted_append,
  sorted_each,
  sorted_one,
  sorted_nth,
  length_zero,
  no_members,
}

module _ (t : Table) (s : State) (n : ℕ) where
  abbrev steps : List Move
  steps = each (steps_of t s) t.places

  abbrev closes : List Move
  closes = each (closes_of t s) t.places

  abbrev meets : List Move
  meets = each (meets_of t s) n

  abbrev poisons : List Move
  poisons = each (poisons_of t s n) t.places

  -- what stands in each part
  step_part : (m : Move) → In m steps → (p : ℕ) × (m ≡ step p) × (p < t.places) × T (permitted t s m)
  step_part m h =
      let a = each_in m (steps_of t s) t.places h in
      let b = one_in m (step a.0) (permitted t s (step a.0)) a.2 in
      (a.0, b.1, a.1, subst (λ (v : Move). T (permitted t s v)) (sym b.1) b.0)

  close_part : (m : Move) → In m closes → (p : ℕ) × (m ≡ close p) × (p < t.places) × T (permitted t s m)
  close_part m h =
      let a = each_in m (closes_of t s) t.places h in
      let b = one_in m (close a.0) (permitted t s (close a.0)) a.2 in
      (a.0, b.1, a.1, subst (λ (v : Move). T (permitted t s v)) (sym b.1) b.0)

  meet_part : (m : Move) → In m meets → (h : ℕ) × (m ≡ meet h) × (h < n) × T (permitted t s m)
  meet_part m h =
      let a = each_in m (meets_of t s) n h in
      let b = one_in m (meet a.0) (permitted t s (meet a.0)) a.2 in
      (a.0, b.1, a.1, subst (λ (v : Move). T (permitted t s v)) (sym b.1) b.0)

  poison_of_part : (p : ℕ) (m : Move) → In m (poisons_of t s n p) → (h : ℕ) × (m ≡ poison p h) × (h < n) × T (permitted t s m)
  poison_of_part p m i =
      let a = each_in m (λ h. if_permitted t s (poison p h)) n i in
      let b = one_in m (poison p a.0) (permitted t s (poison p a.0)) a.2 in
      (a.0, b.1, a.1, subst (λ (v : Move). T (permitted t s v)) (sym b.1) b.0)

  poison_part : (m : Move) → In m poisons → (p : ℕ) × (h : ℕ) × (m ≡ poison p h) × (p < t.places) × (h < n) × T (permitted t s m)
  poison_part m i =
      let a = each_in m (poisons_of t s n) t.places i in
      let b = poison_of_part a.0 m a.2 in
      (a.0, b.0, b.1, a.1, b.2, b.3)

  -- ---- membership

  home_is : (h : ℕ) → T (permitted t s (meet h)) → t.home h ≡ h
  home_is h e = eqb→eq (t.home h) h (T_and (eqb (t.home h) h) _ e).0

  poison_home : (p h : ℕ) → T (permitted t s (poison p h)) → t.home h ≡ h
  poison_home p h e = eqb→eq (t.home h) h (T_and (eqb (t.home h) h) _ e).0

  abbrev Fine : Move → Type 0
  Fine m = T (permitted t s m) × Exists t n m

  fine_at : (m l : Move) → m ≡ l → T (permitted t s m) → (T (permitted t s l) → Exists t n l) → Fine m
  fine_at m l e a f = (a, subst (λ (v : Move). Exists t n v) (sym e) (f (subst (λ (v : Move). T (permitted t s v)) e a)))

  listed_fine : (m : Move) → In m (listing t s n) → Fine m
  unfolding listing
  listed_fine m i =
      elim (in_append m steps (closes ++ (meets ++ poisons)) i) [
        | inl a ↦ let b = step_part m a in fine_at m (step b.0) b.1 b.3 (λ h. b.2)
        | inr j ↦
            elim (in_append m closes (meets ++ poisons) j) [
              | inl a ↦ let b = close_part m a in fine_at m (close b.0) b.1 b.3 (λ h. b.2)
              | inr k ↦
                  elim (in_append m meets poisons k) [
                    | inl a ↦ let b = meet_part m a in fine_at m (meet b.0) b.1 b.3 (λ h. (b.2, home_is b.0 h))
                    | inr a ↦
                        let b = poison_part m a in
                        fine_at m (poison b.0 b.1) b.2 b.5 (λ h. (b.3, b.4, poison_home b.0 b.1 h))
                  ]
            ]
      ]

  fine_listed : (m : Move) → Fine m → In m (listing t s n)
  unfolding listing
  fine_listed (step p) a =
      in_l (step p) steps _ (in_each (step p) (steps_of t s) t.places p a.1 (in_one (step p) (permitted t s (step p)) a.0))
  fine_listed (close p) a =
      in_r (close p) steps _
      (in_l (close p) closes _ (in_each (close p) (closes_of t s) t.places p a.1 (in_one (close p) (permitted t s (close p)) a.0)))
  fine_listed (meet h) a =
      in_r (meet h) steps _
      (in_r (meet h) closes _
      (in_l (meet h) meets _ (in_each (meet h) (meets_of t s) n h a.1.0 (in_one (meet h) (permitted t s (meet h)) a.0))))
  fine_listed (poison p h) a =
      in_r (poison p h) steps _
      (in_r (poison p h) closes _
      (in_r (poison p h) meets _
      (in_each (poison p h) (poisons_of t s n) t.places p a.1.0
      (in_each (poison p h) (λ h. if_permitted t s (poison p h)) n h a.1.1 (in_one (poison p h) (permitted t s (poison p h)) a.0)))))

  -- ---- order

  abbrev Before : Move → Move → Type 0
  Before m l = Precedes (name_of m) (name_of l)

  before_at : (m l m' l' : Move) → m ≡ m' → l ≡ l' → Before m' l' → Before m l
  before_at m l m' l' e f h =
      subst (λ (v : Move). Before v l) (sym e) (subst (λ (v : Move). Before m' v) (sym f) h)

  steps_sorted : Sorted steps
  steps_sorted =
      sorted_each (steps_of t s) t.places (λ i. sorted_one (step i) (permitted t s (step i)))
      (λ i j x y l a b.
      before_at x y (step i) (step j) (one_in x (step i) (permitted t s (step i)) a).1 (one_in y (step j) (permitted t s (step j)) b).1
      (inr (refl, inl l)))

  closes_sorted : Sorted closes
  closes_sorted =
      sorted_each (closes_of t s) t.places (λ i. sorted_one (close i) (permitted t s (close i)))
      (λ i j x y l a b.
      before_at x y (close i) (close j) (one_in x (close i) (permitted t s (close i)) a).1 (one_in y (close j) (permitted t s (close j)) b).1
      (inr (refl, inl l)))

  meets_sorted : Sorted meets
  meets_sorted =
      sorted_each (meets_of t s) n (λ i. sorted_one (meet i) (permitted t s (meet i)))
      (λ i j x y l a b.
      before_at x y (meet i) (meet j) (one_in x (meet i) (permitted t s (meet i)) a).1 (one_in y (meet j) (permitted t s (meet j)) b).1
      (inr (refl, inl l)))

  poisons_of_sorted : (p : ℕ) → Sorted (poisons_of t s n p)
  poisons_of_sorted p =
      sorted_each (λ h. if_permitted t s (poison p h)) n (λ i. sorted_one (poison p i) (permitted t s (poison p i)))
      (λ i j x y l a b.
      before_at x y (poison p i) (poison p j) (one_in x (poison p i) (permitted t s (poison p i)) a).1
      (one_in y (poison p j) (permitted t s (poison p j)) b).1
      (inr (refl, inr (refl, l))))

  poisons_sorted : Sorted poisons
  poisons_sorted =
      sorted_each (poisons_of t s n) t.places poisons_of_sorted
      (λ i j x y l a b.
      let u = poison_of_part i x a in
      let v = poison_of_part j y b in
      before_at x y (poison i u.0) (poison j v.0) u.1 v.1 (inr (refl, inl l)))

  listing_sorted : Sorted (listing t s n)
  unfolding listing
  listing_sorted =
      sorted_append steps (closes ++ (meets ++ poisons)) steps_sorted
      (sorted_append closes (meets ++ poisons) closes_sorted
      (sorted_append meets poisons meets_sorted poisons_sorted
      (λ x y a b.
      let u = meet_part x a in
      let v = poison_part y b in
      before_at x y (meet u.0) (poison v.0 v.1) u.1 v.2 (inl (omega arith))))
      (λ x y a b.
      let u = close_part x a in
      elim (in_append y meets poisons b) [
        | inl c ↦ let v = meet_part y c in before_at x y (close u.0) (meet v.0) u.1 v.1 (inl (omega arith))
        | inr c ↦ let v = poison_part y c in before_at x y (close u.0) (poison v.0 v.1) u.1 v.2 (inl (omega arith))
      ]))
      (λ x y a b.
      let u = step_part x a in
      elim (in_append y closes (meets ++ poisons) b) [
        | inl c ↦ let v = close_part y c in before_at x y (step u.0) (close v.0) u.1 v.1 (inl (omega arith))
        | inr d ↦
            elim (in_append y meets poisons d) [
              | inl c ↦ let v = meet_part y c in before_at x y (step u.0) (meet v.0) u.1 v.1 (inl (omega arith))
              | inr c ↦ let v = poison_part y c in before_at x y (step u.0) (poison v.0 v.1) u.1 v.2 (inl (omega arith))
            ]
      ])

-- a ready place has a place that waits
waiting : (t : Table) (s : State) (h : ℕ) {p : ℕ} → Ready t s h p → (q : ℕ) × Waits t s h q
waiting t s h {p} (waits w) = (p, w)
waiting t s h (parts x e c a f) = waiting t s h (f c a)

pub listing_tells_lem : ListingTells
listing_tells_lem t s n m sd wf = (
  λ a.
      let b = listed_fine t s n m (nth_in m (listing t s n) a.0 a.1) in
      ((permitted_tells t s m sd wf).0 b.0, b.1),
  λ a. in_nth m (listing t s n) (fine_listed t s n m ((permitted_tells t s m sd wf).1 a.0, a.1)),
)

pub listing_ordered : ListingOrdered
listing_ordered t s n i j m l = sorted_nth (listing t s n) (listing_sorted t s n) i j m l

-- a name does not precede itself
no_self : (m : Move) → Precedes (name_of m) (name_of m) → ⊥
no_self m (inl l) = omega arith
no_self m (inr a) = elim a.1 [ inl l ↦ omega arith | inr b ↦ let l = b.1 in omega arith ]

pub listing_once : ListingOnce
listing_once t s n i j m e f =
    elim (dec_lt i j) [
      | yes l ↦ absurd (no_self m (listing_ordered t s n i j m m l e f))
      | no h ↦ elim (dec_lt j i) [ yes l ↦ absurd (no_self m (listing_ordered t s n j i m m l f e)) | no g ↦ omega arith ]
    ]

pub permitted_exists : PermittedExists
permitted_exists t s n (step p) sd wf hs a = wf.inside p (subst (λ (l : Local). T (not (is_idle l))) (sym a.1) tt)
permitted_exists t s n (close p) sd wf hs a = wf.inside p (subst (λ (l : Local). T (not (is_idle l))) (sym a.1) tt)
permitted_exists t s n (meet h) sd wf hs a =
    let w = waiting t s h a.1 in
    (hs w.1.0 w.1.1 h w.1.3, a.0)
permitted_exists t s n (poison p h) sd wf hs a =
    let w = waiting t s h a.2 in
    (wf.inside p (live_some _ (busy_live _ (ready_busy t s h a.2))), hs w.1.0 w.1.1 h w.1.3, a.0)

pub rest_tells : RestTells
rest_tells t s n sd wf hs = (
  λ e m a.
      length_zero (listing t s n) (eqb→eq (length (listing t s n)) 0 e) m
      (fine_listed t s n m ((permitted_tells t s m sd wf).1 a, permitted_exists t s n m sd wf hs a)),
  λ r. eq_eqb (length (listing t s n)) 0
      (no_members (listing t s n) (λ m i. r m ((permitted_tells t s m sd wf).0 (listed_fine t s n m i).0))),
)
