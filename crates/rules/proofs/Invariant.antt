-- Every permitted move keeps a state well formed, and at power it is.
use Rattle.std.proofs.Common.{◌≡◌, ℕ, zero, suc, ◌<◌, min, Bool, true, false, cond, not, ◌&&◌, T, eqb, ◌≢◌, ◌⊎◌, List, sym, refl, ap, ◌∙◌, subst, inl, inr, arith, eqb→eq}
use mathlib.Core.Option.{Option, some, none, get_or, map}
use native.Mathlib.Decide.{dec_le}
use lib.Dec.{eqb_refl}
use Rattle.numbers.specs.Kinds.{Meaning}
use Rattle.rules.specs.Effects.{MarkChange, keep, lower_to, reset, changed}
use Rattle.rules.specs.Invariants.{Wf, Stands}
use Rattle.rules.specs.Moves.{effect, made, observed, runs_at, parts_at, closing, after_close}
use Rattle.rules.specs.Permissions.{Permitted}
use Rattle.rules.specs.Programs.{Table, elem, Stm, par, awaits, Copies}
use Rattle.rules.specs.Soundness.{Sound, Catches, Leads}
use Rattle.rules.specs.States.{State, Local, idle, running, parted, finished, poisoned, busy, is_idle, Mark, lesser, Move, step, close, meet, poison}
use Rattle.rules.specs.Steps.{doing, Act, stay, pass, fork, raise, halt, act_at}
use Rattle.rules.specs.Safety.{Kept, AtPower}
use Rattle.rules.specs.Trees.{nonzero, Within}
use Rattle.lemmas.proofs.Tests.{T_true, some_none}
use Rattle.rules.proofs.Locals.{busy_live, live_some, running_inj}
use Rattle.rules.proofs.Acts.{Fits}
use Rattle.rules.proofs.Readiness.{ready_running, ready_down}
use Rattle.rules.proofs.Places.{step_fits, run_place, parted_place, parted_par, observed_inv}
use Rattle.rules.proofs.Above.{above_busy}
use Rattle.rules.proofs.Cells.{awaits_next}
use Rattle.rules.proofs.Marks.{Marked, step_marks}
use Rattle.rules.proofs.Branches.{parted_stays, branches', inside'}

-- what is written is fine, if anything is
abbrev StandsIf : Table → ℕ → Option Local → Type 0
StandsIf t q none = Unit {0}
StandsIf t q (some l) = Stands t q l

stands_cond : (t : Table) (q : ℕ) (b : Bool) (l : Local) (o : Option Local) → (T b → Stands t q l) → StandsIf t q o → StandsIf t q (cond b (some l) o)
stands_cond t q true l o f g = f tt
stands_cond t q false l o f g = g

lesser_inv : (o : Mark) (i j : ℕ) → lesser o i ≡ some j → (i ≡ j) ⊎ (o ≡ some j)
lesser_inv none i j e = inl (cc)
lesser_inv (some a) i j e =
    let z : min a i ≡ j = cc in
    elim (dec_le a i) [ yes h ↦ inr (let y : a ≡ j = omega arith in ap some y) | no h ↦ inl (omega arith) ]

resets : (k : Meaning) (t : Table) (s : State) (q : ℕ) → (effect k t s (close q)).mark q ≡ reset
resets k t s q = ap (λ b. cond b reset keep) (T_true (eqb q q) (eqb_refl q))

module _ (k : Meaning) (t : Table) (sd : Sound t) (s : State) (wf : Wf t s) (m : Move) (pm : Permitted t s m) where
  abbrev s' : State
  s' = made k t s m

  -- ---- points

  act_stands : (p x q : ℕ) (a : Act) → t.place x ≡ p → Fits t x (t.stm x) a → StandsIf t q (act_at t p a q)
  act_stands p x q stay i f = tt
  act_stands p x q (pass w r y) i f =
      let j : t.place y ≡ t.place x = sd.leads_place x y f.2 in
      stands_cond t q (eqb q p) (running y) none (λ h. j ∙ i ∙ sym (eqb→eq q p h)) tt
  act_stands p x q (fork w y bs) i f =
      stands_cond t q (eqb q p) (parted y) (cond (elem q bs) (some (running (t.start q))) none)
      (λ h. (ap t.place f.1 ∙ i ∙ sym (eqb→eq q p h), (bs, f.2.0, ap t.stm f.1 ∙ f.2.1)))
      (stands_cond t q (elem q bs) (running (t.start q)) none
      (λ h. sd.start_place q (sd.branch x bs f.2.0 f.2.1 q h).2) tt)
  act_stands p x q (raise g j) i f = stands_cond t q (eqb q p) poisoned none (λ h. tt) tt
  act_stands p x q halt i f = stands_cond t q (eqb q p) finished none (λ h. tt) tt

  close_stands : (p x : ℕ) (o : Mark) → t.place x ≡ p → t.place (t.after x) ≡ t.place x → ((j : ℕ) → o ≡ some j → Catches t x j) → Stands t p (after_close t x o)
  close_stands p x none i a f = a ∙ i
  close_stands p x (some zero) i a f = tt
  close_stands p x (some (suc j)) i a f = f (suc j) refl ∙ i

  after_par : (x : ℕ) → (bs : List ℕ) × (cs : Copies) × (t.stm x ≡ par bs cs) → t.place (t.after x) ≡ t.place x
  after_par x a = sd.leads_place x (t.after x) (subst (λ (v : Stm). Leads v (t.after x) (t.after x)) (sym a.2) refl)

  after_next : (x c h : ℕ) → awaits (t.stm x) ≡ some (c, h) → t.place (t.after x) ≡ t.place x
  after_next x c h e =
      sd.leads_place x (t.after x) (subst (λ (v : Stm). Leads v (t.after x) (t.after x)) (sym (awaits_next (t.stm x) c h e)) refl)

  run_stands : (q : ℕ) (o : Option Local) → ((x : ℕ) → o ≡ some (running x) → t.place (t.after x) ≡ q) → StandsIf t q (map (λ x. running (t.after x)) (runs_at o))
  run_stands q none h = tt
  run_stands q (some idle) h = tt
  run_stands q (some (running x)) h = h x refl
  run_stands q (some (parted x)) h = tt
  run_stands q (some finished) h = tt
  run_stands q (some poisoned) h = tt

  poisoned_stands : (q : ℕ) (o : Option ℕ) → StandsIf t q (map (λ x. poisoned) o)
  poisoned_stands q none = tt
  poisoned_stands q (some x) = tt

  effect_stands : (q : ℕ) → StandsIf t q ((effect k t s m).at q)
  effect_stands q = go m pm
    where
      go : (m : Move) → Permitted t s m → StandsIf t q ((effect k t s m).at q)
      go (step p) a = act_stands p a.0 q (doing k t s (s.at p)) (run_place t s wf p a.0 a.1) (step_fits t sd s wf k p a.0 a.1)
      go (close p) a =
          stands_cond t q (eqb q p) (closing t (s.mark p) (s.at p)) (cond (nonzero q && eqb (t.parent q) p) (some idle) none)
          (λ h. subst (λ (v : ℕ). Stands t v (closing t (s.mark p) (s.at p))) (sym (eqb→eq q p h))
          (subst (λ (l : Local). Stands t p (closing t (s.mark p) l)) (sym a.1)
          (close_stands p a.0 (s.mark p) (parted_place t s wf p a.0 a.1) (after_par a.0 (parted_par t s wf p a.0 a.1))
          (λ j e. let w = wf.marks p j e in
          let f : parted w.0 ≡ parted a.0 = sym w.1 ∙ a.1 in
          let y : w.0 ≡ a.0 = cc in
          subst (λ (v : ℕ). Catches t v j) y w.2))))
          (stands_cond t q (nonzero q && eqb (t.parent q) p) idle none (λ h. tt) tt)
      go (meet h) a =
          run_stands q (observed t s h (t.declarer h) q)
          (λ x e.
          let v = observed_inv t s h (t.declarer h) q (running x) e in
          let w = ready_running t s h x v.1 (ready_down t s h a.1 v.0) in
          let y : x ≡ w.0 = running_inj _ _ (sym v.1 ∙ w.2) in
          after_next x w.1 h (ap (λ z. awaits (t.stm z)) y ∙ w.3) ∙ run_place t s wf q x v.1)
      go (poison p h) a = poisoned_stands q (runs_at (observed t s h p q))

  points' : (q : ℕ) → Stands t q (s'.at q)
  points' q = go ((effect k t s m).at q) (effect_stands q)
    where
      go : (o : Option Local) → StandsIf t q o → Stands t q (get_or o (s.at q))
      go none h = wf.points q
      go (some l) h = h

  -- ---- marks

  abbrev MarksFine : State → ℕ → ℕ → Type 0
  MarksFine u q j = (x : ℕ) × (u.at q ≡ parted x) × Catches t x j

  zero_fine : (x i : ℕ) → i ≡ 0 → Catches t x i
  zero_fine x i e = subst (λ (v : ℕ). Catches t x v) (sym e) tt

  parts_inv : (q i : ℕ) (o : Option Local) → parts_at o ≡ lower_to i → (x : ℕ) × (o ≡ some (parted x)) × (i ≡ 0)
  parts_inv q i none e = absurd (let z : ◌≡◌ {A = ℕ} 0 1 = cc in omega arith)
  parts_inv q i (some idle) e = absurd (let z : ◌≡◌ {A = ℕ} 0 1 = cc in omega arith)
  parts_inv q i (some (running x)) e = absurd (let z : ◌≡◌ {A = ℕ} 0 1 = cc in omega arith)
  parts_inv q i (some (parted x)) e = (x, refl, cc)
  parts_inv q i (some finished) e = absurd (let z : ◌≡◌ {A = ℕ} 0 1 = cc in omega arith)
  parts_inv q i (some poisoned) e = absurd (let z : ◌≡◌ {A = ℕ} 0 1 = cc in omega arith)

  close_low : (b : Bool) (i : ℕ) → cond b reset keep ≡ lower_to i → ⊥
  close_low true i e = let z : ◌≡◌ {A = ℕ} 0 1 = cc in omega arith
  close_low false i e = let z : ◌≡◌ {A = ℕ} 0 1 = cc in omega arith

  lowered : (q i : ℕ) → (effect k t s m).mark q ≡ lower_to i → MarksFine s q i
  lowered q i e = go m pm e
    where
      go : (m : Move) → Permitted t s m → (effect k t s m).mark q ≡ lower_to i → MarksFine s q i
      go (step p) a e =
          let h : Marked t sd s wf p a.0 q (lower_to i) = subst (λ (o : MarkChange). Marked t sd s wf p a.0 q o) e (step_marks t sd s wf k p q a) in
          let u = above_busy t sd s wf q p h.0 h.1 (subst (λ (l : Local). T (busy l)) (sym a.1) tt) in
          let c = u.0 in
          let y : s.at q ≡ parted (t.under c) = sym (ap s.at u.1.1) ∙ wf.branches c u.1.0 (live_some _ (busy_live _ u.2)) in
          let w : Within t c (t.place a.0) = subst (λ (v : ℕ). Within t c v) (sym (run_place t s wf p a.0 a.1)) u.3 in
          (t.under c, y, elim h.2 [ inl z ↦ zero_fine (t.under c) i z | inr f ↦ sd.caught a.0 q i f c u.1 w ])
      go (close p) a e = absurd (close_low (eqb q p) i e)
      go (meet h) a e = absurd (let z : ◌≡◌ {A = ℕ} 0 1 = cc in omega arith)
      go (poison p h) a e =
          let b = parts_inv q i (observed t s h p q) e in
          (b.0, (observed_inv t s h p q (parted b.0) b.1).1, zero_fine b.0 i b.2)

  marks' : (q j : ℕ) → s'.mark q ≡ some j → MarksFine s' q j
  marks' q j e = go ((effect k t s m).mark q) refl e
    where
      not_close : (o : MarkChange) → (effect k t s m).mark q ≡ o → o ≢ reset → m ≢ close q
      not_close o f ne i = ne (sym f ∙ ap (λ v. (effect k t s v).mark q) i ∙ resets k t s q)

      on : MarksFine s q j → m ≢ close q → MarksFine s' q j
      on w ne = (w.0, parted_stays k t sd s wf m pm q w.0 w.1 ne, w.2)

      go : (o : MarkChange) → (effect k t s m).mark q ≡ o → changed o (s.mark q) ≡ some j → MarksFine s' q j
      go keep f g = on (wf.marks q j g) (not_close keep f (λ h. absurd (let z : ◌≡◌ {A = ℕ} 0 1 = cc in omega arith)))
      go (lower_to i) f g =
          let ne = not_close (lower_to i) f (λ h. absurd (let z : ◌≡◌ {A = ℕ} 0 1 = cc in omega arith)) in
          elim (lesser_inv (s.mark q) i j g) [
            | inl y ↦ on (subst (λ (v : ℕ). MarksFine s q v) y (lowered q i f)) ne
            | inr y ↦ on (wf.marks q j y) ne
          ]
      go reset f g = some_none j none g refl

pub kept : Kept
kept k t s m sd wf pm =
    record {
      inside = inside' k t sd s wf m pm;
      branches = branches' k t sd s wf m pm;
      points = points' k t sd s wf m pm;
      marks = marks' k t sd s wf m pm;
    }

pub at_power : AtPower
at_power t r sd =
    record {
      inside = λ q n. begun q (eqb q 0) (eqb→eq q 0) n;
      branches = λ q z n. absurd (only_idle (eqb q 0) z n);
      points = λ q. stands q (eqb q 0) (eqb→eq q 0);
      marks = λ q j e. some_none j none e refl;
    }
  where
    only_idle : (b : Bool) → T (not b) → T (not (is_idle (cond b (running (t.start 0)) idle))) → ⊥
    only_idle true z n = z
    only_idle false z n = n

    begun : (q : ℕ) (b : Bool) → (T b → q ≡ 0) → T (not (is_idle (cond b (running (t.start 0)) idle))) → q < t.places
    begun q true f n = let e = f tt in let l = sd.some_place in omega arith
    begun q false f n = absurd n

    stands : (q : ℕ) (b : Bool) → (T b → q ≡ 0) → Stands t q (cond b (running (t.start 0)) idle)
    stands q true f = sd.start_place 0 sd.some_place ∙ sym (f tt)
    stands q false f = tt
