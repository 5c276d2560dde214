-- A move that writes every place anew.
use Rattle.std.proofs.Common.{◌≡◌, ℕ, zero, suc, ◌+◌, ◌<◌, ◌≤◌, Bool, true, false, cond, ◌&&◌, eqb, List, length, get_or, set, sym, refl, ap, ◌∙◌, subst, inl, inr, zero-add, arith, length-set}
use Rattle.std.specs.Fn.{Called}
use Rattle.std.specs.Array.{IsFromFnResult, IsFromFnResultFrom}
use denote.Param.Members.{Mut}
use mathlib.Core.Option
use mathlib.Core.Option.{Option, some, none, map}
use native.Mathlib.Decide.{dec_lt}
use Rattle.std.proofs.lemmas.List.{get_or_past}
use Rattle.std.proofs.lemmas.Bool.{ne_eqb, and_right, eqb-true}
use Rattle.rules.specs.Programs.{Table}
use Rattle.rules.specs.Trees.{within, nonzero}
use Rattle.rules.specs.States.{Local, idle, poisoned, running}
use Rattle.rules.specs.Readiness.{counted}
use Rattle.rules.specs.Effects.{Effect, changed, lower_to, keep, reset}
use Rattle.rules.specs.Steps.{raise, step_effect, act_mark}
use Rattle.rules.specs.Moves.{close_effect, runs_at, parts_at, meet_effect, poison_effect, observed, owns_at, any_below}
use Rattle.lemmas.proofs.Tests.{same?}
use Rattle.board.specs.declared.state.PlaceState.{PlaceState}
use Rattle.board.specs.declared.state.State.{State}
use Rattle.board.specs.Views.{idle_place, local, marked, place, portless}
use Rattle.board.specs.Effects.{PlaceAfter, After, Shaped, observed_if, observed_by, met_cell}
use Rattle.tables.proofs.Counts.{any_same}
use Rattle.board.proofs.Copying.{get_d_set}
use Rattle.tables.proofs.Ways.{within_below}

-- an array of which each element is what a call gave
pub made : {F B : Type 0} {g : Mut F (ℕ × Unit {0}) B} {f : F} {ys : List B} {n : ℕ} (P : ℕ → B → Type 0) → IsFromFnResult g f ys n
    → ((i : ℕ) (y : B) (q : F) → Called g f (i, tt) y q → (q ≡ f) × P i y) → (d : B) (k : ℕ) → k < n → P k (get_or ys k d)
made {F} {B} {g} {f} {ys} {n} P w call d k l = from n 0 w.each k (omega arith) (omega arith)
  where
    from : (m i : ℕ) → IsFromFnResultFrom g f ys i m → (k : ℕ) → i ≤ k → k < i + m → P k (get_or ys k d)
    from zero i h k a b = absurd (omega arith)
    from (suc m) i h k a b =
        elim (same? k i) [
          | inl e ↦ subst (λ (v : ℕ). P v (get_or ys v d)) (sym e) (subst (P i) (sym (h.2.1 d)) (call i h.1 h.0 h.3).1)
          | inr ne ↦ from m (i + 1) (subst (λ (v : F). IsFromFnResultFrom g v ys (i + 1) m) (call i h.1 h.0 h.3).0 h.4) k (omega arith) (omega arith)
        ]

-- the places past the end stay idle
pub swept_all : (e : Effect) (s r : List PlaceState) → length s ≡ 64 → length r ≡ 64
    → ((k : ℕ) → k < 64 → PlaceAfter e k (get_or s k idle_place) (get_or r k idle_place)) → ((k : ℕ) → 64 ≤ k → PlaceAfter e k idle_place idle_place)
    → (k : ℕ) → PlaceAfter e k (get_or s k idle_place) (get_or r k idle_place)
swept_all e s r l n each out k =
    elim (dec_lt k 64) [
      | yes a ↦ each k a
      | no a ↦
          let x : get_or s k idle_place ≡ idle_place = get_or_past s k idle_place (omega arith) in
          let y : get_or r k idle_place ≡ idle_place = get_or_past r k idle_place (omega arith) in
          subst (λ (v : PlaceState). PlaceAfter e k v (get_or r k idle_place)) (sym x) (subst (λ (v : PlaceState). PlaceAfter e k idle_place v) (sym y) (out k (omega arith)))
    ]

-- a state of which every place was written anew, where cells and meets stay
pub swept_after : (e : Effect) (s r : State) → Shaped s → length r.places ≡ 64 → r.cells ≡ s.cells → r.meets ≡ s.meets → r.total ≡ s.total + 1
    → ((k : ℕ) → k < 64 → PlaceAfter e k (place s k) (place r k)) → ((k : ℕ) → 64 ≤ k → PlaceAfter e k idle_place idle_place)
    → ((c : ℕ) → e.cell c ≡ none) → ((h : ℕ) → e.meets h ≡ 0) → After e s r
swept_after e s r sh n cells meets total each past cs ms =
    record {
      shape = (n, ap length cells ∙ sh.1, ap length meets ∙ sh.2);
      places = swept_all e s.places r.places sh.0 n each past;
      cells = λ c. ap (λ v. get_or v c 0) cells ∙ sym (ap (λ v. Option.get_or v (get_or s.cells c 0)) (cs c));
      meets = λ h. ap (λ v. get_or v h 0) meets ∙ sym (ap (λ v. v + get_or s.meets h 0) (ms h) ∙ zero-add (get_or s.meets h 0));
      total = omega arith;
    }

-- what the effects make of the places past the end
pub throw_past : (t : Table) → ((q : ℕ) → 0 < q → t.parent q < q) → t.parent 0 < 1 → (p g j : ℕ) → p < 64 → g < 64
    → (k : ℕ) → 64 ≤ k → PlaceAfter (step_effect t p (raise g j)) k idle_place idle_place
throw_past t lower root p g j a b k h =
    record {
      at = sym (ap (λ v. Option.get_or (cond v (some poisoned) none) idle) (ne_eqb k p (omega arith)));
      mark = sym (ap (λ v. changed v none) mark);
      steps = sym (ap (λ v. cond v 1 0 + 0) (ne_eqb k p (omega arith)));
    }
  where
    above : t.parent p < k
    above = elim (same? p 0) [ inl e ↦ subst (λ (v : ℕ). t.parent v < k) (sym e) (omega arith) | inr ne ↦ let l = lower p (omega arith) in omega arith ]

    mark : act_mark t p (raise g j) k ≡ keep
    mark =
        ap (λ v. cond v (lower_to j) (cond (within t g k && within t k (t.parent p)) (lower_to 0) keep)) (ne_eqb k g (omega arith))
        ∙ ap (λ v. cond v (lower_to 0) keep) (and_right (within t g k) _ (within_below t lower (t.parent p) k (t.parent p) (omega arith) above))

pub close_past : (t : Table) (p : ℕ) (l : Local) → p < 64 → (k : ℕ) → 64 ≤ k → PlaceAfter (close_effect t p l) k idle_place idle_place
close_past t p l a k h =
    record {
      at = sym (ap (λ v. Option.get_or (cond v (some l) (cond (nonzero k && eqb (t.parent k) p) (some idle) none)) idle) (ne_eqb k p (omega arith)) ∙ both (nonzero k && eqb (t.parent k) p));
      mark = sym (ap (λ v. changed (cond v reset keep) none) (ne_eqb k p (omega arith)));
      steps = refl;
    }
  where
    both : (b : Bool) → Option.get_or (cond b (some idle) none) idle ≡ idle
    both true = refl
    both false = refl

-- effects that look at the counted places
module _ (v : ℕ → Option Local) (k : ℕ) (b : Bool) (l : Local) (e : v k ≡ cond b (some l) none) (x y : PlaceState) where
  pub poison_at : PlaceAfter (poison_effect (observed_if b l)) 0 x y → PlaceAfter (poison_effect v) k x y
  poison_at d =
      record {
        at = d.at ∙ ap (λ o. Option.get_or (map (λ x. poisoned) (runs_at o)) (local x.at)) (sym e);
        mark = d.mark ∙ ap (λ o. changed (parts_at o) (marked x.mark)) (sym e);
        steps = d.steps;
      }

  pub meet_at : (t : Table) (h w : ℕ) → PlaceAfter (meet_effect t 0 (observed_if b l) 0) 0 x y → PlaceAfter (meet_effect t h v w) k x y
  meet_at t h w d =
      record {
        at = d.at ∙ ap (λ o. Option.get_or (map (λ x. running (t.after x)) (runs_at o)) (local x.at)) (sym e);
        mark = d.mark;
        steps = d.steps;
      }

poison_idle : (b : Bool) → PlaceAfter (poison_effect (observed_if b idle)) 0 idle_place idle_place
poison_idle true = record { at = refl; mark = refl; steps = refl }
poison_idle false = record { at = refl; mark = refl; steps = refl }

meet_idle : (t : Table) (b : Bool) → PlaceAfter (meet_effect t 0 (observed_if b idle) 0) 0 idle_place idle_place
meet_idle t true = record { at = refl; mark = refl; steps = refl }
meet_idle t false = record { at = refl; mark = refl; steps = refl }

module _ (s : State) (sh : Shaped s) (f : ℕ → Bool) where
  at_past : (k : ℕ) → 64 ≤ k → observed_by f (portless s) k ≡ cond (f k) (some idle) none
  at_past k h = ap (λ (x : PlaceState). cond (f k) (some (local x.at)) none) (get_or_past s.places k idle_place (let n = sh.0 in omega arith))

  pub poison_past : (k : ℕ) → 64 ≤ k → PlaceAfter (poison_effect (observed_by f (portless s))) k idle_place idle_place
  poison_past k h = poison_at (observed_by f (portless s)) k (f k) idle (at_past k h) idle_place idle_place (poison_idle (f k))

  pub meet_past : (t : Table) (j w : ℕ) (k : ℕ) → 64 ≤ k → PlaceAfter (meet_effect t j (observed_by f (portless s)) w) k idle_place idle_place
  meet_past t j w k h = meet_at (observed_by f (portless s)) k (f k) idle (at_past k h) idle_place idle_place t j w (meet_idle t (f k))

-- a place is observed by the answer for it
pub observed_as : (s : State) (f g : ℕ → Bool) (k : ℕ) → g k ≡ f k → observed_by f (portless s) k ≡ cond (g k) (some (local (place s k).at)) none
observed_as s f g k e = ap (λ b. cond b (some (local (place s k).at)) none) (sym e)

-- a whole meet
pub meet_after : (t : Table) (h p : ℕ) (s r : State) (f : ℕ → Bool) → Shaped s → h < 128 → t.places ≤ 64
    → length r.places ≡ 64 → length r.cells ≡ 128 → r.meets ≡ set s.meets h (get_or s.meets h 0 + 1) → r.total ≡ s.total + 1
    → ((q : ℕ) → q < 64 → f q ≡ counted t (portless s) h p q)
    → ((k : ℕ) → k < 64 → PlaceAfter (meet_effect t h (observed t (portless s) h p) (get_or s.cells h 0)) k (place s k) (place r k))
    → ((c : ℕ) → get_or r.cells c 0 ≡ met_cell t (portless s) f (get_or s.cells h 0) t.places c)
    → After (meet_effect t h (observed t (portless s) h p) (get_or s.cells h 0)) s r
meet_after t h p s r f sh lt few n m meets total fs each met_cell_is =
    record {
      shape = (n, m, ap length meets ∙ length-set s.meets h (get_or s.meets h 0 + 1) ∙ sh.2);
      places = swept_all (meet_effect t h (observed t (portless s) h p) (get_or s.cells h 0)) s.places r.places sh.0 n each (meet_past s sh (counted t (portless s) h p) t h (get_or s.cells h 0));
      cells = λ k. met_cell_is k ∙ ap (λ b. cond b (get_or s.cells h 0) (get_or s.cells k 0)) (any_same t.places _ _ (λ q a. ap (λ b. owns_at t (runs_at (cond b (some ((portless s).at q)) none)) k) (fs q (omega arith)))) ∙ over (any_below t.places (λ q. owns_at t (runs_at (observed t (portless s) h p q)) k)) (get_or s.cells h 0) (get_or s.cells k 0);
      meets = λ k. let y = sh.2 in ap (λ v. get_or v k 0) meets ∙ get_d_set s.meets h k (get_or s.meets h 0 + 1) 0 (omega arith) ∙ counts k (eqb k h) refl;
      total = omega arith;
    }
  where
    over : (b : Bool) (w x : ℕ) → cond b w x ≡ Option.get_or (cond b (some w) none) x
    over true w x = refl
    over false w x = refl

    counts : (k : ℕ) (b : Bool) → eqb k h ≡ b → cond b (get_or s.meets h 0 + 1) (get_or s.meets k 0) ≡ cond b 1 0 + get_or s.meets k 0
    counts k true e = let y = ap (λ v. get_or s.meets v 0) (eqb-true k h e) in omega arith
    counts k false e = omega arith
