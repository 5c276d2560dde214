-- Which places a move writes and reads, and that two different permitted moves do not conflict there.
use Rattle.std.proofs.Common.{◌≡◌, ℕ, cond, ◌&&◌, T, eqb, ◌≢◌, ◌⊎◌, List, sym, refl, ap, ◌∙◌, subst, inl, inr, eqb→eq}
use mathlib.Core.Option.{Option, some, none, map-eq-some_iff}
use Rattle.numbers.specs.Kinds.{Meaning}
use Rattle.rules.specs.Invariants.{Wf, Stands}
use Rattle.rules.specs.Moves.{effect, observed, runs_at}
use Rattle.rules.specs.Permissions.{Permitted}
use Rattle.rules.specs.Programs.{Table, awaits, elem, par, Copies}
use Rattle.rules.specs.Readiness.{counts_child, KnowingChild, Waits, Ready, waits, Counted, counted}
use Rattle.rules.specs.Soundness.{Sound}
use Rattle.rules.specs.States.{State, Local, idle, running, parted, finished, poisoned, live, busy, is_parted, Move, step, close, meet, poison}
use Rattle.rules.specs.Steps.{Act, stay, pass, fork, raise, halt, act, act_at, doing}
use Rattle.rules.specs.Trees.{here, more, nonzero, Child}
use Rattle.lemmas.proofs.Tests.{T_and, differ, cond_some, cond_else, some_none}
use Rattle.rules.proofs.Locals.{busy_live, live_some}
use Rattle.rules.proofs.Tree.{climbs→, compare_ways}
use Rattle.rules.proofs.Readiness.{same_next, counts_out, counted_child, ready_busy, ready_parted, ready_running, ready_down, spoiled_knows, spoiled_ready}
use Rattle.rules.proofs.Acts.{Fits, fits}

abbrev pub Around : Table → ℕ → ℕ → Type 0
Around t p q = (q ≡ p) ⊎ Child t p q

-- the places whose local state a move may write
abbrev pub WritesPlace : Table → State → Move → ℕ → Type 0
WritesPlace t s (step p) q = Around t p q
WritesPlace t s (close p) q = Around t p q
WritesPlace t s (meet h) q = Counted t s h (t.declarer h) q × Waits t s h q
WritesPlace t s (poison p h) q = Counted t s h p q × Waits t s h q

-- the places whose local state it reads or writes
abbrev pub ReadsPlace : Table → State → Move → ℕ → Type 0
ReadsPlace t s (step p) q = Around t p q
ReadsPlace t s (close p) q = Around t p q
ReadsPlace t s (meet h) q = Counted t s h (t.declarer h) q
ReadsPlace t s (poison p h) q = Counted t s h p q

pub writes→reads : (t : Table) (s : State) (m : Move) (q : ℕ) → WritesPlace t s m q → ReadsPlace t s m q
writes→reads t s (step p) q w = w
writes→reads t s (close p) q w = w
writes→reads t s (meet h) q w = w.0
writes→reads t s (poison p h) q w = w.0

runs_inv : (o : Option Local) (x : ℕ) → runs_at o ≡ some x → o ≡ some (running x)
runs_inv none x e = some_none x none e refl
runs_inv (some idle) x e = some_none x none e refl
runs_inv (some (running y)) x e = cc
runs_inv (some (parted y)) x e = some_none x none e refl
runs_inv (some finished) x e = some_none x none e refl
runs_inv (some poisoned) x e = some_none x none e refl

pub observed_inv : (t : Table) (s : State) (h p q : ℕ) (l : Local) → observed t s h p q ≡ some l → Counted t s h p q × (s.at q ≡ l)
observed_inv t s h p q l e =
    let a = cond_some (counted t s h p q) (s.at q) l e in
    (climbs→ t.parent (counts_child t s h) p q q a.0, a.1)

pub runs_observed : (t : Table) (s : State) (h p q x : ℕ) → runs_at (observed t s h p q) ≡ some x → Counted t s h p q × (s.at q ≡ running x)
runs_observed t s h p q x e = observed_inv t s h p q (running x) (runs_inv (observed t s h p q) x e)

pub run_place : (t : Table) (s : State) (wf : Wf t s) (q x : ℕ) → s.at q ≡ running x → t.place x ≡ q
run_place t s wf q x e = subst (λ (l : Local). Stands t q l) e (wf.points q)

pub parted_place : (t : Table) (s : State) (wf : Wf t s) (q x : ℕ) → s.at q ≡ parted x → t.place x ≡ q
parted_place t s wf q x e = let a : Stands t q (parted x) = subst (λ (l : Local). Stands t q l) e (wf.points q) in a.0

pub parted_par : (t : Table) (s : State) (wf : Wf t s) (q x : ℕ) → s.at q ≡ parted x → (bs : List ℕ) × (cs : Copies) × (t.stm x ≡ par bs cs)
parted_par t s wf q x e = let a : Stands t q (parted x) = subst (λ (l : Local). Stands t q l) e (wf.points q) in a.1

-- a running or parted place with no such child, that is ready for nothing
pub record ActsAlone (t : Table) (s : State) (p : ℕ) : Type 0 where
  pub is_busy : T (busy (s.at p))
  pub no_child : (c : ℕ) → Child t p c → T (busy (s.at c)) → ⊥
  pub not_ready : (h : ℕ) → Ready t s h p → ⊥

module _ (t : Table) (sd : Sound t) (s : State) (wf : Wf t s) where
  pub step_alone : (p : ℕ) → Permitted t s (step p) → ActsAlone t s p
  step_alone p a =
      record {
        is_busy = subst (λ (l : Local). T (busy l)) (sym a.1) tt;
        no_child = λ c d b. differ is_parted (subst (λ (v : ℕ). s.at v ≡ parted (t.under c)) d.1 (wf.branches c d.0 (live_some _ (busy_live _ b)))) a.1 tt tt;
        not_ready = λ h r. none_ready h r;
      }
    where
      none_ready : (h : ℕ) → Ready t s h p → ⊥
      none_ready h r =
          let w = ready_running t s h a.0 a.1 r in
          let e : running w.0 ≡ running a.0 = sym w.2 ∙ a.1 in
          let x : w.0 ≡ a.0 = cc in
          some_none (w.1, h) (awaits (t.stm w.0)) w.3 (ap (λ y. awaits (t.stm y)) x ∙ a.2)

  pub close_alone : (p : ℕ) → Permitted t s (close p) → ActsAlone t s p
  close_alone p a =
      record {
        is_busy = subst (λ (l : Local). T (busy l)) (sym a.1) tt;
        no_child = a.2;
        not_ready = λ h r. let b = ready_parted t s h a.0 a.1 r in
            let c = b.0.0 in
            let d = b.0.1 in
            a.2 c (d.0, d.1) (ready_busy t s h (b.1 c d));
      }

  unlike : (p r x y : ℕ) → s.at p ≡ running x → s.at r ≡ parted y → p ≢ r
  unlike p r x y e f i = differ is_parted f (sym (ap s.at i) ∙ e) tt tt

  alone_alone : (p r q : ℕ) → ActsAlone t s p → ActsAlone t s r → p ≢ r → Around t p q → Around t r q → ⊥
  alone_alone p r q a b ne (inl e) (inl e') = ne (sym e ∙ e')
  alone_alone p r q a b ne (inl e) (inr d) = b.no_child p (subst (λ (v : ℕ). Child t r v) e d) a.is_busy
  alone_alone p r q a b ne (inr d) (inl e) = a.no_child r (subst (λ (v : ℕ). Child t p v) e d) b.is_busy
  alone_alone p r q a b ne (inr c) (inr d) = ne (sym c.1 ∙ d.1)

  alone_ready : (p q h : ℕ) → ActsAlone t s p → Around t p q → Ready t s h q → ⊥
  alone_ready p q h a (inl e) r = a.not_ready h (subst (λ (v : ℕ). Ready t s h v) e r)
  alone_ready p q h a (inr d) r = a.no_child q d (ready_busy t s h r)

  -- a place that may be poisoned is counted by no other ready place
  not_counted_above : (r p h : ℕ) → Permitted t s (poison p h) → Ready t s h r → r ≢ p → Counted t s h r p → ⊥
  not_counted_above r p h a b ne (here e) = ne (sym e)
  not_counted_above r p h a b ne (more j w) =
      let u = counts_out t s h p j in
      let o = a.3 in
      let knowing_child : KnowingChild t s h (t.parent p) o.0 = (o.2.0, o.2.1, o.3, spoiled_knows t s h o.4) in
      spoiled_ready t s h o.4 (ready_down t s h b (counted_child t s h r (t.parent p) o.0 u.0 w u.1 knowing_child))

  -- two waits for one home
  poisons_apart : (p r q h : ℕ) → Permitted t s (poison p h) → Permitted t s (poison r h) → p ≢ r → Counted t s h p q → Counted t s h r q → ⊥
  poisons_apart p r q h a b ne u v =
      elim (compare_ways u v) [
        | inl w ↦ not_counted_above p r h b a.2 ne w
        | inr w ↦ not_counted_above r p h a b.2 (λ e. ne (sym e)) w
      ]

  no_meet : (p q h : ℕ) → Permitted t s (poison p h) → Permitted t s (meet h) → Counted t s h p q → Counted t s h (t.declarer h) q → ⊥
  no_meet p q h a b u v =
      elim (compare_ways u v) [
        | inl w ↦ unknown w
        | inr w ↦ not_counted_above (t.declarer h) p h a b.1 (λ e. sd.declared h (subst (λ (x : ℕ). T (t.knows x h)) (sym e) a.1)) w
      ]
    where
      unknown : Counted t s h p (t.declarer h) → ⊥
      unknown (here e) = sd.declared h (subst (λ (x : ℕ). T (t.knows x h)) (sym e) a.1)
      unknown (more j w) = sd.declared h (counts_out t s h (t.declarer h) j).2.3

  -- a place that waits for h and is ready for another home
  one_home : (q h g : ℕ) → Waits t s h q → Ready t s g q → h ≡ g
  one_home q h g w r =
      let v = ready_running t s g w.0 w.2 r in
      (same_next t s q w.0 v.0 w.1 v.1 h g w.2 v.2 w.3 v.3).1

  -- what a move writes, another reads not
  pub places_disjoint : (m n : Move) (q : ℕ) → Permitted t s m → Permitted t s n → m ≢ n → WritesPlace t s m q → ReadsPlace t s n q → ⊥
  places_disjoint (step p) (step r) q a b ne w v = alone_alone p r q (step_alone p a) (step_alone r b) (λ e. ne (ap step e)) w v
  places_disjoint (step p) (close r) q a b ne w v = alone_alone p r q (step_alone p a) (close_alone r b) (unlike p r a.0 b.0 a.1 b.1) w v
  places_disjoint (step p) (meet h) q a b ne w v = alone_ready p q h (step_alone p a) w (ready_down t s h b.1 v)
  places_disjoint (step p) (poison r h) q a b ne w v = alone_ready p q h (step_alone p a) w (ready_down t s h b.2 v)
  places_disjoint (close p) (step r) q a b ne w v = alone_alone p r q (close_alone p a) (step_alone r b) (λ e. unlike r p b.0 a.0 b.1 a.1 (sym e)) w v
  places_disjoint (close p) (close r) q a b ne w v = alone_alone p r q (close_alone p a) (close_alone r b) (λ e. ne (ap close e)) w v
  places_disjoint (close p) (meet h) q a b ne w v = alone_ready p q h (close_alone p a) w (ready_down t s h b.1 v)
  places_disjoint (close p) (poison r h) q a b ne w v = alone_ready p q h (close_alone p a) w (ready_down t s h b.2 v)
  places_disjoint (meet h) (step r) q a b ne w v = alone_ready r q h (step_alone r b) v (waits w.1)
  places_disjoint (meet h) (close r) q a b ne w v = alone_ready r q h (close_alone r b) v (waits w.1)
  places_disjoint (meet h) (meet g) q a b ne w v = ne (ap meet (one_home q h g w.1 (ready_down t s g b.1 v)))
  places_disjoint (meet h) (poison r g) q a b ne w v =
      let e : h ≡ g = one_home q h g w.1 (ready_down t s g b.2 v) in
      no_meet r q g b (subst (λ (x : ℕ). Permitted t s (meet x)) e a) v (subst (λ (x : ℕ). Counted t s x (t.declarer x) q) e w.0)
  places_disjoint (poison p h) (step r) q a b ne w v = alone_ready r q h (step_alone r b) v (waits w.1)
  places_disjoint (poison p h) (close r) q a b ne w v = alone_ready r q h (close_alone r b) v (waits w.1)
  places_disjoint (poison p h) (meet g) q a b ne w v =
      let e : h ≡ g = one_home q h g w.1 (ready_down t s g b.1 v) in
      no_meet p q g (subst (λ (x : ℕ). Permitted t s (poison p x)) e a) b (subst (λ (x : ℕ). Counted t s x p q) e w.0) v
  places_disjoint (poison p h) (poison r g) q a b ne w v =
      let e : h ≡ g = one_home q h g w.1 (ready_down t s g b.2 v) in
      poisons_apart p r q g (subst (λ (x : ℕ). Permitted t s (poison p x)) e a) b (λ i. ne (λ j. poison (i j) (e j)))
      (subst (λ (x : ℕ). Counted t s x p q) e w.0) v

  -- ---- what an effect writes

  act_writes_place : (p x q : ℕ) (l : Local) (a : Act) → t.place x ≡ p → Fits t x (t.stm x) a → act_at t p a q ≡ some l → Around t p q
  act_writes_place p x q l stay i f e = some_none l none e refl
  act_writes_place p x q l (pass w r y) i f e = inl (eqb→eq q p (cond_some (eqb q p) (running y) l e).0)
  act_writes_place p x q l (fork w y bs) i f e =
      elim (cond_else (eqb q p) (parted y) l (cond (elem q bs) (some (running (t.start q))) none) e) [
        | inl o ↦ inl (eqb→eq q p o.0)
        | inr o ↦
            let b = cond_some (elem q bs) (running (t.start q)) l o.1 in
            let u = sd.branch x bs f.2.0 f.2.1 q b.0 in
            inr (u.0, sym (sd.under_place q u.0 u.2) ∙ ap t.place u.1 ∙ i)
      ]
  act_writes_place p x q l (raise g j) i f e = inl (eqb→eq q p (cond_some (eqb q p) poisoned l e).0)
  act_writes_place p x q l halt i f e = inl (eqb→eq q p (cond_some (eqb q p) finished l e).0)

  pub acting : (k : Meaning) (p x : ℕ) → s.at p ≡ running x → doing k t s (s.at p) ≡ act k t s.cell s.port x (t.stm x)
  acting k p x e = ap (λ l. doing k t s l) e

  -- what a step does fits its statement
  pub step_fits : (k : Meaning) (p x : ℕ) → s.at p ≡ running x → Fits t x (t.stm x) (doing k t s (s.at p))
  step_fits k p x e =
      subst (λ (a : Act). Fits t x (t.stm x) a) (sym (acting k p x e)) (fits k t s.cell s.port x (t.stm x))

  pub writes : (k : Meaning) (m : Move) (q : ℕ) (l : Local) → Permitted t s m → (effect k t s m).at q ≡ some l → WritesPlace t s m q
  writes k (step p) q l a e = act_writes_place p a.0 q l (doing k t s (s.at p)) (run_place t s wf p a.0 a.1) (step_fits k p a.0 a.1) e
  writes k (close p) q l a e =
      elim (cond_else (eqb q p) _ l _ e) [
        | inl o ↦ inl (eqb→eq q p o.0)
        | inr o ↦
            let b : T (nonzero q) × T (eqb (t.parent q) p) = T_and _ _ (cond_some (nonzero q && eqb (t.parent q) p) idle l o.1).0 in
            inr (b.0, eqb→eq (t.parent q) p b.1)
      ]
  writes k (meet h) q l a e =
      let b = (map-eq-some_iff (λ x. running (t.after x)) (runs_at (observed t s h (t.declarer h) q))).0 e in
      let c = runs_observed t s h (t.declarer h) q b.0 b.1 in
      (c.0, ready_running t s h b.0 c.1 (ready_down t s h a.1 c.0))
  writes k (poison p h) q l a e =
      let b = (map-eq-some_iff (λ x. poisoned) (runs_at (observed t s h p q))).0 e in
      let c = runs_observed t s h p q b.0 b.1 in
      (c.0, ready_running t s h b.0 c.1 (ready_down t s h a.2 c.0))

  -- what is written was live, or has a parent that the move writes
  pub live_or_child : (m : Move) (c : ℕ) → Permitted t s m → WritesPlace t s m c → T (live (s.at c)) ⊎ (T (nonzero c) × WritesPlace t s m (t.parent c))
  live_or_child (step p) c a (inl e) = inl (subst (λ (v : ℕ). T (live (s.at v))) (sym e) (busy_live _ (step_alone p a).is_busy))
  live_or_child (step p) c a (inr d) = inr (d.0, inl d.1)
  live_or_child (close p) c a (inl e) = inl (subst (λ (v : ℕ). T (live (s.at v))) (sym e) (busy_live _ (close_alone p a).is_busy))
  live_or_child (close p) c a (inr d) = inr (d.0, inl d.1)
  live_or_child (meet h) c a w = inl (subst (λ (l : Local). T (live l)) (sym w.1.2) tt)
  live_or_child (poison p h) c a w = inl (subst (λ (l : Local). T (live l)) (sym w.1.2) tt)
