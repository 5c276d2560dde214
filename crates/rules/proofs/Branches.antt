-- A permitted move keeps the tree: who is not idle is a branch of the par where its parent stands parted.
use Rattle.std.proofs.Common.{◌≡◌, ℕ, ◌<◌, Bool, true, false, cond, not, ◌&&◌, T, eqb, ◌≢◌, sym, refl, ap, ◌∙◌, subst, ap₂, inl, inr, arith, eqb→eq, T_not}
use mathlib.Core.Option.{Option, some, none, get_or}
use lib.Dec.{eqb_refl}
use Rattle.numbers.specs.Kinds.{Meaning}
use Rattle.rules.specs.Invariants.{Wf}
use Rattle.rules.specs.Moves.{effect, made, closing}
use Rattle.rules.specs.Permissions.{Permitted}
use Rattle.rules.specs.Programs.{Table, elem}
use Rattle.rules.specs.Soundness.{Sound}
use Rattle.rules.specs.States.{State, Local, idle, running, parted, finished, poisoned, busy, is_parted, is_idle, Move, step, close, meet, poison}
use Rattle.rules.specs.Steps.{doing, Act, stay, pass, fork, raise, halt, act_at}
use Rattle.rules.specs.Trees.{nonzero, Child}
use Rattle.lemmas.proofs.Tests.{and_T, T_dec, T_false, T_true, differ, look, some_none, cond_some, cond_else, eq_eqb}
use Rattle.rules.proofs.Locals.{busy_live, live_some}
use Rattle.rules.proofs.Acts.{Fits}
use Rattle.rules.proofs.Places.{WritesPlace, writes, step_fits, run_place}
use Rattle.rules.proofs.Stable.{same_at, same_move?}

-- the children of a place that closes are idle
pub closed_child : (k : Meaning) (t : Table) (sd : Sound t) (s : State) (p q : ℕ) → Child t p q → (made k t s (close p)).at q ≡ idle
closed_child k t sd s p q d =
    let z = sd.lower q d.0 in
    let a : eqb q p ≡ false = T_false (eqb q p) (λ h. let e = eqb→eq q p h in let f = d.1 in absurd (omega arith)) in
    let b : (nonzero q && eqb (t.parent q) p) ≡ true = T_true _ (and_T (nonzero q) (eqb (t.parent q) p) d.0 (eq_eqb _ _ d.1)) in
    let P : Bool → Bool → Local =
    λ u v. get_or (cond u (some (closing t (s.mark p) (s.at p))) (cond v (some idle) none)) (s.at q)
    in
    ap₂ P a b

module _ (k : Meaning) (t : Table) (sd : Sound t) (s : State) (wf : Wf t s) (m : Move) (pm : Permitted t s m) where
  abbrev pub s' : State
  s' = made k t s m

  -- a parted place stays so until it closes
  pub parted_stays : (r x : ℕ) → s.at r ≡ parted x → m ≢ close r → s'.at r ≡ parted x
  parted_stays r x e ne = same_at k t sd s wf m pm r (go m pm ne) ∙ e
    where
      go : (m : Move) → Permitted t s m → m ≢ close r → WritesPlace t s m r → ⊥
      go (step p) a b (inl i) = differ is_parted (sym (ap s.at i) ∙ e) a.1 tt tt
      go (step p) a b (inr d) =
          differ is_parted (sym (ap s.at d.1) ∙ wf.branches r d.0 (subst (λ (l : Local). T (not (is_idle l))) (sym e) tt)) a.1 tt tt
      go (close p) a b (inl i) = b (ap close (sym i))
      go (close p) a b (inr d) = a.2 r d (subst (λ (l : Local). T (busy l)) (sym e) tt)
      go (meet h) a b w = differ is_parted e w.1.2 tt tt
      go (poison p h) a b w = differ is_parted e w.1.2 tt tt

  -- ---- branches

  forked : (p x q : ℕ) (l : Local) (a : Act) → t.place x ≡ p → Fits t x (t.stm x) a → (T (eqb q p) → ⊥) → act_at t p a q ≡ some l
      → (get_or (act_at t p a p) (s.at p) ≡ parted (t.under q)) × (q < t.places)
  forked p x q l stay i f ne e = some_none l none e refl
  forked p x q l (pass w r y) i f ne e = absurd (ne (cond_some (eqb q p) (running y) l e).0)
  forked p x q l (fork w y bs) i f ne e =
      elim (cond_else (eqb q p) (parted y) l (cond (elem q bs) (some (running (t.start q))) none) e) [
        | inl o ↦ absurd (ne o.0)
        | inr o ↦
            let b = cond_some (elem q bs) (running (t.start q)) l o.1 in
            let u = sd.branch x bs f.2.0 f.2.1 q b.0 in (
              ap (λ v. get_or (cond v (some (parted y)) (cond (elem p bs) (some (running (t.start p))) none)) (s.at p)) (T_true (eqb p p) (eqb_refl p))
                  ∙ ap parted (f.1 ∙ sym u.1),
              u.2,
            )
      ]
  forked p x q l (raise g j) i f ne e = absurd (ne (cond_some (eqb q p) poisoned l e).0)
  forked p x q l halt i f ne e = absurd (ne (cond_some (eqb q p) finished l e).0)

  -- a place that was idle and is so no more is a new branch
  started : (q : ℕ) (l : Local) → T (is_idle (s.at q)) → (effect k t s m).at q ≡ some l → T (not (is_idle l))
      → (s'.at (t.parent q) ≡ parted (t.under q)) × (q < t.places)
  started q l i e n = go m pm e (writes t sd s wf k m q l pm e)
    where
      not_busy : T (busy (s.at q)) → ⊥
      not_busy b = T_not (is_idle (s.at q)) (live_some _ (busy_live _ b)) i

      go : (m : Move) → Permitted t s m → (effect k t s m).at q ≡ some l → WritesPlace t s m q
          → ((made k t s m).at (t.parent q) ≡ parted (t.under q)) × (q < t.places)
      go (step p) a e (inl j) = absurd (not_busy (subst (λ (v : Local). T (busy v)) (sym (ap s.at j ∙ a.1)) tt))
      go (step p) a e (inr d) =
          let z = sd.lower q d.0 in
          subst (λ (v : ℕ). ((made k t s (step p)).at v ≡ parted (t.under q)) × (q < t.places)) (sym d.1)
          (forked p a.0 q l (doing k t s (s.at p)) (run_place t s wf p a.0 a.1) (step_fits t sd s wf k p a.0 a.1)
          (λ h. let y = eqb→eq q p h in let f = d.1 in absurd (omega arith)) e)
      go (close p) a e (inl j) = absurd (not_busy (subst (λ (v : Local). T (busy v)) (sym (ap s.at j ∙ a.1)) tt))
      go (close p) a e (inr d) =
          let c : get_or ((effect k t s (close p)).at q) (s.at q) ≡ idle = closed_child k t sd s p q d in
          let y : l ≡ idle = sym (ap (λ o. get_or o (s.at q)) e) ∙ c in
          absurd (subst (λ (v : Local). T (not (is_idle v))) y n)
      go (meet h) a e w = absurd (not_busy (subst (λ (v : Local). T (busy v)) (sym w.1.2) tt))
      go (poison p h) a e w = absurd (not_busy (subst (λ (v : Local). T (busy v)) (sym w.1.2) tt))

  pub branches' : (q : ℕ) → T (nonzero q) → T (not (is_idle (s'.at q))) → s'.at (t.parent q) ≡ parted (t.under q)
  branches' q z n =
      elim (T_dec (is_idle (s.at q))) [
        | inl i ↦
            elim (look ((effect k t s m).at q)) [
              | inl e ↦ absurd (T_not (is_idle (s.at q)) (subst (λ (o : Option Local). T (not (is_idle (get_or o (s.at q))))) e n) i)
              | inr o ↦ (started q o.0 i o.1 (subst (λ (v : Option Local). T (not (is_idle (get_or v (s.at q))))) o.1 n)).0
            ]
        | inr i ↦
            let e = wf.branches q z (lib.Dec.not_T (is_idle (s.at q)) i) in
            elim (same_move? m (close (t.parent q))) [
              | inl j ↦
                  absurd (subst (λ (l : Local). T (not (is_idle l))) (ap (λ v. (made k t s v).at q) j ∙ closed_child k t sd s (t.parent q) q (z, refl)) n)
              | inr ne ↦ parted_stays (t.parent q) (t.under q) e ne
            ]
      ]

  pub inside' : (q : ℕ) → T (not (is_idle (s'.at q))) → q < t.places
  inside' q n =
      elim (T_dec (is_idle (s.at q))) [
        | inl i ↦
            elim (look ((effect k t s m).at q)) [
              | inl e ↦ absurd (T_not (is_idle (s.at q)) (subst (λ (o : Option Local). T (not (is_idle (get_or o (s.at q))))) e n) i)
              | inr o ↦ (started q o.0 i o.1 (subst (λ (v : Option Local). T (not (is_idle (get_or v (s.at q))))) o.1 n)).1
            ]
        | inr i ↦ wf.inside q (lib.Dec.not_T (is_idle (s.at q)) i)
      ]
