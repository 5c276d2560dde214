-- Which marks a move changes: none of a place that may close, and only a close resets one.
use Rattle.std.proofs.Common.{◌≡◌, ℕ, Bool, true, false, cond, ◌&&◌, T, eqb, ◌≢◌, ◌⊎◌, sym, refl, ap, subst, inl, inr, eqb→eq}
use mathlib.Core.Option.{Option, some, none}
use Rattle.numbers.specs.Kinds.{Meaning}
use Rattle.rules.specs.Effects.{MarkChange, keep, lower_to, reset}
use Rattle.rules.specs.Invariants.{Wf}
use Rattle.rules.specs.Moves.{effect, observed, parts_at}
use Rattle.rules.specs.Permissions.{Permitted}
use Rattle.rules.specs.Programs.{Table, throw}
use Rattle.rules.specs.Soundness.{Sound}
use Rattle.rules.specs.States.{State, Local, idle, running, parted, finished, poisoned, busy, Move, step, close, meet, poison}
use Rattle.rules.specs.Steps.{Act, stay, pass, fork, raise, halt, act_mark, doing}
use Rattle.rules.specs.Trees.{nonzero, Within, within}
use Rattle.lemmas.proofs.Tests.{T_and, T_false, look}
use Rattle.rules.proofs.Tree.{climbs→}
use Rattle.rules.proofs.Acts.{Fits}
use Rattle.rules.proofs.Places.{places_disjoint, run_place, step_fits, observed_inv}
use Rattle.rules.proofs.Above.{above_busy}

-- a change that resets nothing
abbrev pub Lowering : MarkChange → Type 0
Lowering keep = Unit {0}
Lowering (lower_to j) = Unit {0}
Lowering reset = ⊥

module _ (t : Table) (sd : Sound t) (s : State) (wf : Wf t s) where
  -- the marks that an act of p leaves or lowers: those of places above p
  abbrev pub Marked : ℕ → ℕ → ℕ → MarkChange → Type 0
  Marked p x q keep = Unit {0}
  Marked p x q (lower_to j) = T (nonzero p) × Within t q (t.parent p) × ((j ≡ 0) ⊎ (t.stm x ≡ throw q j))
  Marked p x q reset = ⊥

  raise_marks : (p x q g j : ℕ) → t.place x ≡ p → t.stm x ≡ throw g j → Marked p x q (act_mark t p (raise g j) q)
  raise_marks p x q g j i e =
      let a = sd.thrown x g j e in
      let z : T (nonzero p) = subst (λ (v : ℕ). T (nonzero v)) i a.0 in
      go (eqb q g) (within t g q && within t q (t.parent p))
      (λ h. let d = eqb→eq q g h in (
        z,
        subst (λ (v : ℕ). Within t q (t.parent v)) i (subst (λ (v : ℕ). Within t v (t.parent (t.place x))) (sym d) a.1),
        inr (subst (λ (v : ℕ). t.stm x ≡ throw v j) (sym d) e),
      ))
      (λ h. (z, climbs→ t.parent nonzero q (t.parent p) (t.parent p) (T_and (within t g q) (within t q (t.parent p)) h).1, inl refl))
    where
      go : (a b : Bool) → (T a → Marked p x q (lower_to j)) → (T b → Marked p x q (lower_to 0)) → Marked p x q (cond a (lower_to j) (cond b (lower_to 0) keep))
      go true b f h = f tt
      go false true f h = h tt
      go false false f h = tt

  act_marks : (p x q : ℕ) (a : Act) → t.place x ≡ p → Fits t x (t.stm x) a → Marked p x q (act_mark t p a q)
  act_marks p x q stay i f = tt
  act_marks p x q (pass w r y) i f = tt
  act_marks p x q (fork w y bs) i f = tt
  act_marks p x q (raise g j) i f = raise_marks p x q g j i f
  act_marks p x q halt i f = tt

  pub step_marks : (k : Meaning) (p q : ℕ) (a : Permitted t s (step p)) → Marked p a.0 q ((effect k t s (step p)).mark q)
  step_marks k p q a = act_marks p a.0 q (doing k t s (s.at p)) (run_place t s wf p a.0 a.1) (step_fits t sd s wf k p a.0 a.1)

  -- a place that may close is marked by nobody else
  pub unmarked : (k : Meaning) (p : ℕ) (n : Move) → Permitted t s (close p) → Permitted t s n → close p ≢ n → (effect k t s n).mark p ≡ keep
  unmarked k p (step r) a b ne = go ((effect k t s (step r)).mark p) (step_marks k r p b)
    where
      go : (o : MarkChange) → Marked r b.0 p o → o ≡ keep
      go keep h = refl
      go (lower_to j) h =
          let i = above_busy t sd s wf p r h.0 h.1 (subst (λ (l : Local). T (busy l)) (sym b.1) tt) in
          absurd (a.2 i.0 i.1 i.2)
      go reset h = absurd h
  unmarked k p (close r) a b ne = ap (λ o. cond o reset keep) (T_false (eqb p r) (λ h. ne (ap close (eqb→eq p r h))))
  unmarked k p (meet h) a b ne = refl
  unmarked k p (poison r h) a b ne =
      elim (look (observed t s h r p)) [
        | inl e ↦ ap parts_at e
        | inr o ↦ absurd (places_disjoint t sd s wf (close p) (poison r h) p a b ne (inl refl) (observed_inv t s h r p o.0 o.1).0)
      ]

  pub step_lowering : (k : Meaning) (p q : ℕ) → Permitted t s (step p) → Lowering ((effect k t s (step p)).mark q)
  step_lowering k p q a = go ((effect k t s (step p)).mark q) (step_marks k p q a)
    where
      go : (o : MarkChange) → Marked p a.0 q o → Lowering o
      go keep h = tt
      go (lower_to j) h = tt
      go reset h = h

  pub poison_lowering : (k : Meaning) (p h q : ℕ) → Lowering ((effect k t s (poison p h)).mark q)
  poison_lowering k p h q = go (observed t s h p q)
    where
      go : (o : Option Local) → Lowering (parts_at o)
      go none = tt
      go (some idle) = tt
      go (some (running x)) = tt
      go (some (parted x)) = tt
      go (some finished) = tt
      go (some poisoned) = tt
