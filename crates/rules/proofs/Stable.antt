-- After another permitted move, a move is permitted still and has the same effect.
use Rattle.std.proofs.Common.{◌≡◌, ℕ, ◌<◌, Bool, true, false, cond, not, ◌&&◌, T, eqb, ◌≢◌, ◌⊎◌, sym, refl, ap, ◌∙◌, subst, ap₂, inl, inr, arith, eqb→eq}
use mathlib.Core.Path.{fun_ext}
use mathlib.Core.Option.{Option, some, none, get_or}
use lib.Dec.{eqb_refl}
use Rattle.numbers.specs.Kinds.{Meaning}
use Rattle.rules.specs.Effects.{MarkChange, keep, lower_to, reset, changed, later}
use Rattle.rules.specs.Invariants.{Wf}
use Rattle.rules.specs.Moves.{effect, made, close_effect, meet_effect, poison_effect, observed, closing}
use Rattle.rules.specs.Permissions.{Permitted}
use Rattle.rules.specs.Programs.{Table}
use Rattle.rules.specs.Readiness.{counts_child, KnowingChild, Ready, waits, parts, Spoiled, itself, no_child_knows, child_spoiled, Counted, counted}
use Rattle.rules.specs.Soundness.{Sound}
use Rattle.rules.specs.States.{State, Local, idle, running, parted, poisoned, live, busy, is_parted, is_idle, Mark, lesser, Move, step, close, meet, poison}
use Rattle.rules.specs.Steps.{step_effect, doing}
use Rattle.rules.specs.Trees.{here, more, nonzero, Child}
use Rattle.lemmas.proofs.Tests.{T_at, T_same, T_false, T_true, differ, look, same?}
use Rattle.rules.proofs.Tree.{climbs→, →climbs}
use Rattle.rules.proofs.Readiness.{counts_out, counts_in, counted_child, ready_busy}
use Rattle.rules.proofs.Acts.{act_same}
use Rattle.rules.proofs.Places.{WritesPlace, places_disjoint, writes, live_or_child, acting}
use Rattle.rules.proofs.Cells.{WritesCell, cells_disjoint, cell_writes, TakesPort, ports_disjoint, pops}
use Rattle.rules.proofs.Marks.{Lowering, step_lowering, poison_lowering, unmarked}

pub same_move? : (m n : Move) → (m ≡ n) ⊎ (m ≢ n)
same_move? m n = go m n
  where
    one : (f : ℕ → Move) (g : Move → ℕ) → ((x : ℕ) → g (f x) ≡ x) → (x y : ℕ) → (f x ≡ f y) ⊎ (f x ≢ f y)
    one f g h x y = elim (same? x y) [ inl e ↦ inl (ap f e) | inr ne ↦ inr (λ e. ne (sym (h x) ∙ ap g e ∙ h y)) ]

    first : Move → ℕ
    first (step p) = p
    first (close p) = p
    first (meet h) = h
    first (poison p h) = p

    second : Move → ℕ
    second (step p) = p
    second (close p) = p
    second (meet h) = h
    second (poison p h) = h

    go : (m n : Move) → (m ≡ n) ⊎ (m ≢ n)
    go (step p) (step q) = one step first (λ x. refl) p q
    go (step p) (close q) = inr (λ e. absurd (let z : ◌≡◌ {A = ℕ} 0 1 = cc in omega arith))
    go (step p) (meet g) = inr (λ e. absurd (let z : ◌≡◌ {A = ℕ} 0 1 = cc in omega arith))
    go (step p) (poison q g) = inr (λ e. absurd (let z : ◌≡◌ {A = ℕ} 0 1 = cc in omega arith))
    go (close p) (step q) = inr (λ e. absurd (let z : ◌≡◌ {A = ℕ} 0 1 = cc in omega arith))
    go (close p) (close q) = one close first (λ x. refl) p q
    go (close p) (meet g) = inr (λ e. absurd (let z : ◌≡◌ {A = ℕ} 0 1 = cc in omega arith))
    go (close p) (poison q g) = inr (λ e. absurd (let z : ◌≡◌ {A = ℕ} 0 1 = cc in omega arith))
    go (meet h) (step q) = inr (λ e. absurd (let z : ◌≡◌ {A = ℕ} 0 1 = cc in omega arith))
    go (meet h) (close q) = inr (λ e. absurd (let z : ◌≡◌ {A = ℕ} 0 1 = cc in omega arith))
    go (meet h) (meet g) = one meet first (λ x. refl) h g
    go (meet h) (poison q g) = inr (λ e. absurd (let z : ◌≡◌ {A = ℕ} 0 1 = cc in omega arith))
    go (poison p h) (step q) = inr (λ e. absurd (let z : ◌≡◌ {A = ℕ} 0 1 = cc in omega arith))
    go (poison p h) (close q) = inr (λ e. absurd (let z : ◌≡◌ {A = ℕ} 0 1 = cc in omega arith))
    go (poison p h) (meet g) = inr (λ e. absurd (let z : ◌≡◌ {A = ℕ} 0 1 = cc in omega arith))
    go (poison p h) (poison q g) =
        elim (same? p q) [
          | inl e ↦ elim (same? h g) [ inl f ↦ inl (λ i. poison (e i) (f i)) | inr ne ↦ inr (λ i. ne (ap second i)) ]
          | inr ne ↦ inr (λ i. ne (ap first i))
        ]

cond_same : (b' b : Bool) (x' x : Local) → b' ≡ b → (T b → x' ≡ x) → ◌≡◌ {A = Option Local} (cond b' (some x') none) (cond b (some x) none)
cond_same true true x' x e f = ap some (f tt)
cond_same true false x' x e f = absurd (T_at e tt)
cond_same false true x' x e f = absurd (T_at (sym e) tt)
cond_same false false x' x e f = refl

counts_lower : (t : Table) (sd : Sound t) (s : State) (h q : ℕ) → T (counts_child t s h q) → t.parent q < q
counts_lower t sd s h q j = sd.lower q (counts_out t s h q j).2.0

zero_lowering : (o : MarkChange) (m : Mark) → Lowering o → m ≡ some 0 → changed o m ≡ some 0
zero_lowering keep m h e = e
zero_lowering (lower_to j) m h e = ap (λ v. lesser v j) e ∙ ap some (omega arith)
zero_lowering reset m h e = absurd h

spoiled_live : (t : Table) (s : State) (h : ℕ) {q : ℕ} → Spoiled t s h q → T (live (s.at q))
spoiled_live t s h (itself n e) = subst (λ (l : Local). T (live l)) (sym e) tt
spoiled_live t s h (no_child_knows x n e m f) = subst (λ (l : Local). T (live l)) (sym e) tt
spoiled_live t s h (child_spoiled x n e m c d l p) = subst (λ (l : Local). T (live l)) (sym e) tt

closed_poisoned : (k : Meaning) (t : Table) (s : State) (q x : ℕ) → s.at q ≡ parted x → s.mark q ≡ some 0 → (made k t s (close q)).at q ≡ poisoned
closed_poisoned k t s q x e m =
    let l : closing t (s.mark q) (s.at q) ≡ poisoned = ap₂ (closing t) m e in
    let P : Bool → Local = λ b. get_or (cond b (some (closing t (s.mark q) (s.at q))) (cond (nonzero q && eqb (t.parent q) q) (some idle) none)) (s.at q) in
    ap P (T_true (eqb q q) (eqb_refl q)) ∙ l

module _ (k : Meaning) (t : Table) (sd : Sound t) (s : State) (wf : Wf t s) (m : Move) (pm : Permitted t s m) where
  abbrev pub s' : State
  s' = made k t s m

  pub same_at : (q : ℕ) → (WritesPlace t s m q → ⊥) → s'.at q ≡ s.at q
  same_at q f =
      elim (look ((effect k t s m).at q)) [
        | inl e ↦ ap (λ o. get_or o (s.at q)) e
        | inr o ↦ absurd (f (writes t sd s wf k m q o.0 pm o.1))
      ]

  pub same_cell : (c : ℕ) → (WritesCell t s m c → ⊥) → s'.cell c ≡ s.cell c
  same_cell c f =
      elim (look ((effect k t s m).cell c)) [
        | inl e ↦ ap (λ o. get_or o (s.cell c)) e
        | inr o ↦ absurd (f (cell_writes t sd s wf k m c o.0 pm o.1))
      ]

  same_port : (i : ℕ) → (TakesPort t s m i → ⊥) → s'.port i ≡ s.port i
  same_port i f =
      ap (λ b. cond b (later (s.port i)) (s.port i)) (T_false ((effect k t s m).pop i) (λ h. f (pops t sd s wf k m i pm h)))

  -- what is live afterwards was so before, unless its parent was written
  was_live : (c : ℕ) → (WritesPlace t s m (t.parent c) → ⊥) → T (live (s'.at c)) → T (live (s.at c))
  was_live c f l =
      elim (look ((effect k t s m).at c)) [
        | inl e ↦ subst (λ (o : Option Local). T (live (get_or o (s.at c)))) e l
        | inr o ↦ elim (live_or_child t sd s wf m c pm (writes t sd s wf k m c o.0 pm o.1)) [ inl a ↦ a | inr b ↦ absurd (f b.1) ]
      ]

  -- ---- a ready place of which nothing is written
  module _ (h p : ℕ) (rd : Ready t s h p) (cl : (q : ℕ) → WritesPlace t s m q → Counted t s h p q → ⊥) where
    kept : (q : ℕ) → Counted t s h p q → s'.at q ≡ s.at q
    kept q w = same_at q (λ v. cl q v w)

    knowing→ : (r c x : ℕ) → Counted t s h p r → s.at r ≡ parted x → KnowingChild t s h r c → KnowingChild t s' h r c
    knowing→ r c x w e a =
        (a.0, a.1, subst (λ (l : Local). T (live l)) (sym (kept c (counted_child t s h p r c x w e a))) a.2, a.3)

    knowing← : (r c : ℕ) → Counted t s h p r → KnowingChild t s' h r c → KnowingChild t s h r c
    knowing← r c w a =
        (a.0, a.1, was_live c (λ v. cl r (subst (λ (u : ℕ). WritesPlace t s m u) a.1 v) w) a.2, a.3)

    counted→ : {q : ℕ} → Counted t s h p q → Counted t s' h p q
    counted→ (here e) = here e
    counted→ (more {q} j w) =
        let a = counts_out t s h q j in
        more (counts_in t s' h q (t.parent q) a.0 (kept (t.parent q) w ∙ a.1) (knowing→ (t.parent q) q a.0 w a.1 a.2)) (counted→ w)

    counted← : {q : ℕ} → Counted t s' h p q → Counted t s h p q
    counted← (here e) = here e
    counted← (more {q} j w) =
        let v = counted← w in
        let a = counts_out t s' h q j in
        more (counts_in t s h q (t.parent q) a.0 (sym (kept (t.parent q) v) ∙ a.1) (knowing← (t.parent q) q v a.2)) v

    ready_at : {r : ℕ} → Ready t s h r → Counted t s h p r → Ready t s' h r
    ready_at {r} (waits a) w = waits (a.0, a.1, kept r w ∙ a.2, a.3)
    ready_at {r} (parts x e c a f) w =
        parts x (kept r w ∙ e) c (knowing→ r c x w e a)
        (λ d b. let g = knowing← r d w b in ready_at (f d g) (counted_child t s h p r d x w e g))

    ready_stable : Ready t s' h p
    ready_stable = ready_at rd (here refl)

    observed_same : observed t s' h p ≡ observed t s h p
    observed_same =
        fun_ext (λ q.
        cond_same (counted t s' h p q) (counted t s h p q) (s'.at q) (s.at q)
        (T_same (counted t s' h p q) (counted t s h p q)
        (λ b. →climbs t.parent (counts_child t s h) p (counts_lower t sd s h) (counted← (climbs→ t.parent (counts_child t s' h) p q q b)) q (omega arith))
        (λ b. →climbs t.parent (counts_child t s' h) p (counts_lower t sd s' h) (counted→ (climbs→ t.parent (counts_child t s h) p q q b)) q (omega arith)))
        (λ b. kept q (climbs→ t.parent (counts_child t s h) p q q b)))

  -- ---- what is spoiled stays so
  place_kept : (q : ℕ) → ((x : ℕ) → s.at q ≡ running x → ⊥) → T (not (is_idle (s.at q))) → m ≢ close q → m ≢ close (t.parent q) → WritesPlace t s m q → ⊥
  place_kept q f n a b w = go m pm a b w
    where
      parent_parted : (p : ℕ) → Child t p q → s.at p ≡ parted (t.under q)
      parent_parted p d = sym (ap s.at d.1) ∙ wf.branches q d.0 n

      go : (m : Move) → Permitted t s m → m ≢ close q → m ≢ close (t.parent q) → WritesPlace t s m q → ⊥
      go (step p) u a b (inl e) = f u.0 (ap s.at e ∙ u.1)
      go (step p) u a b (inr d) = differ is_parted (parent_parted p d) u.1 tt tt
      go (close p) u a b (inl e) = a (ap close (sym e))
      go (close p) u a b (inr d) = b (ap close (sym d.1))
      go (meet h) u a b w = f w.1.0 w.1.2
      go (poison p h) u a b w = f w.1.0 w.1.2

  lowering : (q : ℕ) → m ≢ close q → Lowering ((effect k t s m).mark q)
  lowering q ne = go m pm ne
    where
      resets : (b : Bool) → (T b → ⊥) → Lowering (cond b reset keep)
      resets true h = absurd (h tt)
      resets false h = tt

      go : (m : Move) → Permitted t s m → m ≢ close q → Lowering ((effect k t s m).mark q)
      go (step p) u a = step_lowering t sd s wf k p q u
      go (close p) u a = resets (eqb q p) (λ b. a (ap close (sym (eqb→eq q p b))))
      go (meet h) u a = tt
      go (poison p h) u a = poison_lowering t sd s wf k p h q

  spoiled_stable : (h : ℕ) {q : ℕ} → Spoiled t s h q → m ≢ close (t.parent q) → Spoiled t s' h q
  spoiled_stable h {q} (itself n e) b =
      itself n (same_at q (place_kept q (λ x i. differ busy i e tt tt) (subst (λ (l : Local). T (not (is_idle l))) (sym e) tt)
      (λ i. differ busy (subst (λ (v : Move). Permitted t s v) i pm).1 e tt tt) b) ∙ e)
  spoiled_stable h {q} (no_child_knows x n e mk f) b =
      elim (same_move? m (close q)) [
        | inl i ↦ itself n (subst (λ (v : Move). (made k t s v).at q ≡ poisoned) (sym i) (closed_poisoned k t s q x e mk))
        | inr ne ↦
            let u = place_kept q (λ y i. differ is_parted e i tt tt) (subst (λ (l : Local). T (not (is_idle l))) (sym e) tt) ne b in
            no_child_knows x n (same_at q u ∙ e) (zero_lowering ((effect k t s m).mark q) (s.mark q) (lowering q ne) mk)
            (λ c a. f c (a.0, a.1, was_live c (λ v. u (subst (λ (y : ℕ). WritesPlace t s m y) a.1 v)) a.2, a.3))
      ]
  spoiled_stable h {q} (child_spoiled x n e mk c d l p) b =
      elim (same_move? m (close q)) [
        | inl i ↦ itself n (subst (λ (v : Move). (made k t s v).at q ≡ poisoned) (sym i) (closed_poisoned k t s q x e mk))
        | inr ne ↦
            let u = place_kept q (λ y i. differ is_parted e i tt tt) (subst (λ (l : Local). T (not (is_idle l))) (sym e) tt) ne b in
            let o = spoiled_stable h p (λ i. ne (i ∙ ap close d.1)) in
            child_spoiled x n (same_at q u ∙ e) (zero_lowering ((effect k t s m).mark q) (s.mark q) (lowering q ne) mk) c d (spoiled_live t s' h o) o
      ]

  -- ---- permitted still, with the same effect
  pub stable : (n : Move) → Permitted t s n → m ≢ n → Permitted t s' n × (effect k t s' n ≡ effect k t s n)
  stable (step r) b ne =
      let i : s'.at r ≡ s.at r = same_at r (λ w. places_disjoint t sd s wf m (step r) r pm b ne w (inl refl)) in
      let x = b.0 in (
        (x, i ∙ b.1, b.2),
        ap (step_effect t r)
            (ap (λ l. doing k t s' l) (i ∙ b.1)
            ∙ act_same k t s'.cell s.cell s'.port s.port x (t.stm x)
            (λ c h. same_cell c (λ w. cells_disjoint t sd s wf m (step r) c pm b ne w (x, b.1, h)))
            (λ j h. same_port j (λ w. ports_disjoint t sd s wf m (step r) j ne w (x, b.1, h)))
            ∙ sym (acting t sd s wf k r x b.1)),
      )
  stable (close r) b ne =
      let i : s'.at r ≡ s.at r = same_at r (λ w. places_disjoint t sd s wf m (close r) r pm b ne w (inl refl)) in
      let j : s'.mark r ≡ s.mark r = ap (λ o. changed o (s.mark r)) (unmarked t sd s wf k r m b pm (λ e. ne (sym e))) in (
        (b.0, i ∙ b.1, λ c d a. b.2 c d (subst (λ (l : Local). T (busy l)) (same_at c (λ w. places_disjoint t sd s wf m (close r) c pm b ne w (inr d))) a)),
        ap (close_effect t r) (ap₂ (closing t) j i),
      )
  stable (meet h) b ne =
      let cl : (q : ℕ) → WritesPlace t s m q → Counted t s h (t.declarer h) q → ⊥ = λ q w v. places_disjoint t sd s wf m (meet h) q pm b ne w v in (
        (b.0, ready_stable h (t.declarer h) b.1 cl),
        ap₂ (meet_effect t h) (observed_same h (t.declarer h) b.1 cl) (same_cell h (λ w. cells_disjoint t sd s wf m (meet h) h pm b ne w (inl refl))),
      )
  stable (poison r h) b ne =
      let cl : (q : ℕ) → WritesPlace t s m q → Counted t s h r q → ⊥ = λ q w v. places_disjoint t sd s wf m (poison r h) q pm b ne w v in
      let o = b.3 in
      let sp : Spoiled t s' h o.0 =
      spoiled_stable h o.4 (λ i.
      (subst (λ (v : Move). Permitted t s v) (i ∙ ap close o.2.1) pm).2 r ((sd.known r h b.1).0, refl) (ready_busy t s h b.2))
      in
      ((b.0, b.1, ready_stable h r b.2 cl, (o.0, o.1, o.2, spoiled_live t s' h sp, sp)), ap poison_effect (observed_same h r b.2 cl))
