-- Which cells and ports a move writes and reads, and that two different permitted moves do not conflict there.
use Rattle.std.proofs.Common.{◌≡◌, ℕ, T, ◌≢◌, ◌⊎◌, sym, refl, ap, ◌∙◌, subst, inl, inr, arith, eqb→eq}
use mathlib.Core.Option.{Option, some, none}
use Rattle.numbers.specs.Kinds.{Meaning}
use Rattle.rules.specs.Invariants.{Wf}
use Rattle.rules.specs.Moves.{effect, observed, runs_at, owns, owns_at, any_below}
use Rattle.rules.specs.Permissions.{Permitted}
use Rattle.rules.specs.Programs.{Table, awaits, Stm, end, var, set, know, next, call, test, try, take, par, goto, throw}
use Rattle.rules.specs.Readiness.{Waits, Counted}
use Rattle.rules.specs.Soundness.{Sound, Touches, Takes}
use Rattle.rules.specs.States.{State, Local, running, live, Move, step, close, meet, poison}
use Rattle.rules.specs.Steps.{Act, stay, pass, fork, raise, halt, act_cell, act_pop, doing}
use Rattle.rules.specs.Trees.{here}
use Rattle.lemmas.proofs.Tests.{same?, cond_some, some_none, pair_eq}
use Rattle.rules.proofs.Readiness.{same_next, ready_running, ready_down}
use Rattle.rules.proofs.Acts.{Fits}
use Rattle.rules.proofs.Places.{places_disjoint, run_place, step_fits, runs_observed}
use Rattle.rules.proofs.Bounds.{any_out}
use Rattle.rules.proofs.Above.{beside, knows_counted}

-- a place that runs at a statement that touches the cell, or takes from the port
abbrev pub Owner : Table → State → ℕ → ℕ → Type 0
Owner t s q c = (x : ℕ) × (s.at q ≡ running x) × Touches (t.stm x) c

abbrev pub Taker : Table → State → ℕ → ℕ → Type 0
Taker t s q i = (x : ℕ) × (s.at q ≡ running x) × Takes (t.stm x) i

-- a counted next with that own cell
abbrev pub Met : Table → State → ℕ → ℕ → Type 0
Met t s h c =
    (q : ℕ) × (x : ℕ) × Counted t s h (t.declarer h) q × (s.at q ≡ running x) × (awaits (t.stm x) ≡ some (c, h))

abbrev pub WritesCell : Table → State → Move → ℕ → Type 0
WritesCell t s (step p) c = Owner t s p c
WritesCell t s (close p) c = ⊥
WritesCell t s (meet h) c = Met t s h c
WritesCell t s (poison p h) c = ⊥

abbrev pub ReadsCell : Table → State → Move → ℕ → Type 0
ReadsCell t s (step p) c = Owner t s p c
ReadsCell t s (close p) c = ⊥
ReadsCell t s (meet h) c = (c ≡ h) ⊎ Met t s h c
ReadsCell t s (poison p h) c = ⊥

pub cell_writes→reads : (t : Table) (s : State) (m : Move) (c : ℕ) → WritesCell t s m c → ReadsCell t s m c
cell_writes→reads t s (step p) c w = w
cell_writes→reads t s (close p) c w = w
cell_writes→reads t s (meet h) c w = inr w
cell_writes→reads t s (poison p h) c w = w

abbrev pub TakesPort : Table → State → Move → ℕ → Type 0
TakesPort t s (step p) i = Taker t s p i
TakesPort t s (close p) i = ⊥
TakesPort t s (meet h) i = ⊥
TakesPort t s (poison p h) i = ⊥

pub awaits_next : (st : Stm) (c h : ℕ) → awaits st ≡ some (c, h) → st ≡ next c h
awaits_next end c h e = some_none (c, h) none e refl
awaits_next (var a) c h e = some_none (c, h) none e refl
awaits_next (set a i) c h e = some_none (c, h) none e refl
awaits_next know c h e = some_none (c, h) none e refl
awaits_next (next a g) c h e = let z = pair_eq a c g h e in (λ i. next (z.0 i) (z.1 i))
awaits_next (call cs y) c h e = some_none (c, h) none e refl
awaits_next (test i y z) c h e = some_none (c, h) none e refl
awaits_next (try y) c h e = some_none (c, h) none e refl
awaits_next (take i a z) c h e = some_none (c, h) none e refl
awaits_next (par bs cs) c h e = some_none (c, h) none e refl
awaits_next (goto y) c h e = some_none (c, h) none e refl
awaits_next (throw g j) c h e = some_none (c, h) none e refl

awaits_touches : (st : Stm) (c h : ℕ) → awaits st ≡ some (c, h) → Touches st c
awaits_touches st c h e = subst (λ (v : Stm). Touches v c) (sym (awaits_next st c h e)) refl

owns_inv : (t : Table) (o : Option ℕ) (c : ℕ) → T (owns_at t o c) → (x : ℕ) × (h : ℕ) × (o ≡ some x) × (awaits (t.stm x) ≡ some (c, h))
owns_inv t none c e = absurd e
owns_inv t (some x) c e = go (awaits (t.stm x)) refl e
  where
    go : (o : Option (ℕ × ℕ)) → awaits (t.stm x) ≡ o → T (owns o c) → (y : ℕ) × (h : ℕ) × (some x ≡ some y) × (awaits (t.stm y) ≡ some (c, h))
    go none i b = absurd b
    go (some d) i b = (x, d.1, refl, i ∙ ap (λ a. some (a, d.1)) (sym (eqb→eq c d.0 b)))

module _ (t : Table) (sd : Sound t) (s : State) (wf : Wf t s) where
  owners : (p q c : ℕ) → p ≢ q → Owner t s p c → Owner t s q c → ⊥
  owners p q c ne a b = sd.cells_apart a.0 b.0 c (beside t sd s wf p q a.0 b.0 a.1 b.1 ne) a.2 b.2

  takers : (p q i : ℕ) → p ≢ q → Taker t s p i → Taker t s q i → ⊥
  takers p q i ne a b = sd.ports_apart a.0 b.0 i (beside t sd s wf p q a.0 b.0 a.1 b.1 ne) a.2 b.2

  met_owner : (h c : ℕ) (m : Met t s h c) → Owner t s m.0 c
  met_owner h c m = (m.1, m.3, awaits_touches (t.stm m.1) c h m.4)

  -- ---- cells

  step_meet : (p h c : ℕ) → Permitted t s (step p) → Permitted t s (meet h) → step p ≢ meet h → Owner t s p c → ReadsCell t s (meet h) c → ⊥
  step_meet p h c a b ne o (inl e) =
      let g : t.home c ≡ h = ap t.home e ∙ b.0 in
      let i : t.place o.0 ≡ p = run_place t s wf p o.0 o.1 in
      let l : T (live (s.at p)) = subst (λ (v : Local). T (live v)) (sym o.1) tt in
      let r : Counted t s h (t.declarer h) p =
      elim (sd.touch_home o.0 c o.2) [
        | inl n ↦ knows_counted t sd s wf p p h (omega arith) l (subst (λ (v : ℕ). T (t.knows p v)) g (subst (λ (v : ℕ). T (t.knows v (t.home c))) i n))
        | inr d ↦ here (sym i ∙ d ∙ ap t.declarer g)
      ]
      in
      places_disjoint t sd s wf (step p) (meet h) p a b ne (inl refl) r
  step_meet p h c a b ne o (inr m) =
      elim (same? p m.0) [
        | inl e ↦ places_disjoint t sd s wf (step p) (meet h) m.0 a b ne (inl (sym e)) m.2
        | inr d ↦ owners p m.0 c d o (met_owner h c m)
      ]

  meet_meet : (h g c : ℕ) → Permitted t s (meet h) → Permitted t s (meet g) → meet h ≢ meet g → Met t s h c → ReadsCell t s (meet g) c → ⊥
  meet_meet h g c a b ne m (inl e) =
      ne (ap meet (sym (sd.next_home m.1 c h m.4) ∙ ap t.home e ∙ b.0))
  meet_meet h g c a b ne m (inr n) =
      elim (same? m.0 n.0) [
        | inl e ↦
            places_disjoint t sd s wf (meet h) (meet g) n.0 a b ne
            (subst (λ (v : ℕ). Counted t s h (t.declarer h) v) e m.2, subst (λ (v : ℕ). Waits t s h v) e (m.1, c, m.3, m.4)) n.2
        | inr d ↦ owners m.0 n.0 c d (met_owner h c m) (met_owner g c n)
      ]

  pub cells_disjoint : (m n : Move) (c : ℕ) → Permitted t s m → Permitted t s n → m ≢ n → WritesCell t s m c → ReadsCell t s n c → ⊥
  cells_disjoint (step p) (step r) c a b ne w v = owners p r c (λ e. ne (ap step e)) w v
  cells_disjoint (step p) (close r) c a b ne w v = v
  cells_disjoint (step p) (meet h) c a b ne w v = step_meet p h c a b ne w v
  cells_disjoint (step p) (poison r h) c a b ne w v = v
  cells_disjoint (close p) n c a b ne w v = w
  cells_disjoint (meet h) (step r) c a b ne w v = step_meet r h c b a (λ e. ne (sym e)) v (inr w)
  cells_disjoint (meet h) (close r) c a b ne w v = v
  cells_disjoint (meet h) (meet g) c a b ne w v = meet_meet h g c a b ne w v
  cells_disjoint (meet h) (poison r g) c a b ne w v = v
  cells_disjoint (poison p h) n c a b ne w v = w

  act_writes_cell : (x c v : ℕ) (a : Act) → Fits t x (t.stm x) a → act_cell a c ≡ some v → Touches (t.stm x) c
  act_writes_cell x c v stay f e = some_none v none e refl
  act_writes_cell x c v (pass w r y) f e = f.0 c v e
  act_writes_cell x c v (fork w y bs) f e = f.0 c v e
  act_writes_cell x c v (raise g j) f e = some_none v none e refl
  act_writes_cell x c v halt f e = some_none v none e refl

  pub cell_writes : (k : Meaning) (m : Move) (c v : ℕ) → Permitted t s m → (effect k t s m).cell c ≡ some v → WritesCell t s m c
  cell_writes k (step p) c v a e = (a.0, a.1, act_writes_cell a.0 c v (doing k t s (s.at p)) (step_fits t sd s wf k p a.0 a.1) e)
  cell_writes k (close p) c v a e = some_none v none e refl
  cell_writes k (meet h) c v a e =
      let b = cond_some (any_below t.places (λ q. owns_at t (runs_at (observed t s h (t.declarer h) q)) c)) (s.cell h) v e in
      let q = any_out t.places (λ q. owns_at t (runs_at (observed t s h (t.declarer h) q)) c) b.0 in
      let o = owns_inv t (runs_at (observed t s h (t.declarer h) q.0)) c q.2 in
      let u = runs_observed t s h (t.declarer h) q.0 o.0 o.2 in
      let w = ready_running t s h o.0 u.1 (ready_down t s h a.1 u.0) in
      let g : h ≡ o.1 = (same_next t s q.0 w.0 o.0 w.1 c h o.1 w.2 u.1 w.3 o.3).1 in
      (q.0, o.0, u.0, u.1, o.3 ∙ ap (λ y. some (c, y)) (sym g))
  cell_writes k (poison p h) c v a e = some_none v none e refl

  -- ---- ports

  pub ports_disjoint : (m n : Move) (i : ℕ) → m ≢ n → TakesPort t s m i → TakesPort t s n i → ⊥
  ports_disjoint (step p) (step r) i ne w v = takers p r i (λ e. ne (ap step e)) w v
  ports_disjoint (step p) (close r) i ne w v = v
  ports_disjoint (step p) (meet h) i ne w v = v
  ports_disjoint (step p) (poison r h) i ne w v = v
  ports_disjoint (close p) n i ne w v = w
  ports_disjoint (meet h) n i ne w v = w
  ports_disjoint (poison p h) n i ne w v = w

  act_takes_port : (x i : ℕ) (a : Act) → Fits t x (t.stm x) a → T (act_pop a i) → Takes (t.stm x) i
  act_takes_port x i stay f e = absurd e
  act_takes_port x i (pass w r y) f e = f.1 i e
  act_takes_port x i (fork w y bs) f e = absurd e
  act_takes_port x i (raise g j) f e = absurd e
  act_takes_port x i halt f e = absurd e

  pub pops : (k : Meaning) (m : Move) (i : ℕ) → Permitted t s m → T ((effect k t s m).pop i) → TakesPort t s m i
  pops k (step p) i a e = (a.0, a.1, act_takes_port a.0 i (doing k t s (s.at p)) (step_fits t sd s wf k p a.0 a.1) e)
  pops k (close p) i a e = e
  pops k (meet h) i a e = e
  pops k (poison p h) i a e = e
