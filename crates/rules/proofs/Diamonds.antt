-- Two different permitted moves commute.
use Rattle.std.proofs.Common.{◌≡◌, ℕ, cond, eqb, ◌≢◌, ◌⊎◌, sym, ap, ◌∙◌, subst, inl, inr, eqb→eq}
use Rattle.numbers.specs.Kinds.{Meaning}
use Rattle.rules.specs.Effects.{apply, MarkChange, keep, lower_to, reset}
use Rattle.rules.specs.Invariants.{Wf}
use Rattle.rules.specs.Moves.{effect, made}
use Rattle.rules.specs.Permissions.{Permitted}
use Rattle.rules.specs.Programs.{Table}
use Rattle.rules.specs.Soundness.{Sound}
use Rattle.rules.specs.States.{State, Move, step, close, meet, poison}
use Rattle.rules.specs.Confluence.{Diamond}
use Rattle.lemmas.proofs.Tests.{T_dec, T_false, look, is_none}
use Rattle.rules.proofs.Commute.{Compatible, Apart, commute}
use Rattle.rules.proofs.Places.{writes→reads, places_disjoint, writes}
use Rattle.rules.proofs.Cells.{cell_writes→reads, cells_disjoint, cell_writes, ports_disjoint, pops}
use Rattle.rules.proofs.Marks.{Lowering, step_lowering, poison_lowering, unmarked}
use Rattle.rules.proofs.Stable.{stable}

lowering_compatible : (a b : MarkChange) → Lowering a → Lowering b → Compatible a b
lowering_compatible keep b h i = tt
lowering_compatible (lower_to j) keep h i = tt
lowering_compatible (lower_to j) (lower_to l) h i = tt
lowering_compatible (lower_to j) reset h i = i
lowering_compatible reset b h i = absurd h

keep_compatible : (a : MarkChange) → Compatible a keep
keep_compatible keep = tt
keep_compatible (lower_to j) = tt
keep_compatible reset = tt

module _ (k : Meaning) (t : Table) (sd : Sound t) (s : State) (wf : Wf t s) where
  -- a closing place against another move
  close_compatible : (p : ℕ) (n : Move) (q : ℕ) → Permitted t s (close p) → Permitted t s n → close p ≢ n
      → ((effect k t s (close p)).mark q ≡ keep) ⊎ ((effect k t s n).mark q ≡ keep)
  close_compatible p n q a b ne =
      elim (T_dec (eqb q p)) [
        | inl h ↦ inr (subst (λ (v : ℕ). (effect k t s n).mark v ≡ keep) (sym (eqb→eq q p h)) (unmarked t sd s wf k p n a b ne))
        | inr h ↦ inl (ap (λ o. cond o reset keep) (T_false (eqb q p) h))
      ]

  compatible_of : (a b : MarkChange) → (a ≡ keep) ⊎ (b ≡ keep) → Compatible a b
  compatible_of a b (inl e) = subst (λ (v : MarkChange). Compatible v b) (sym e) tt
  compatible_of a b (inr e) = subst (λ (v : MarkChange). Compatible a v) (sym e) (keep_compatible a)

  swap : {A B : Type 0} → A ⊎ B → B ⊎ A
  swap (inl a) = inr a
  swap (inr b) = inl b

  compatible : (m n : Move) (q : ℕ) → Permitted t s m → Permitted t s n → m ≢ n → Compatible ((effect k t s m).mark q) ((effect k t s n).mark q)
  compatible (close p) n q a b ne = compatible_of _ _ (close_compatible p n q a b ne)
  compatible (step p) (close r) q a b ne = compatible_of _ _ (swap (close_compatible r (step p) q b a (λ e. ne (sym e))))
  compatible (step p) (step r) q a b ne = lowering_compatible _ _ (step_lowering t sd s wf k p q a) (step_lowering t sd s wf k r q b)
  compatible (step p) (meet h) q a b ne = keep_compatible _
  compatible (step p) (poison r h) q a b ne = lowering_compatible _ _ (step_lowering t sd s wf k p q a) (poison_lowering t sd s wf k r h q)
  compatible (meet g) n q a b ne = tt
  compatible (poison p g) (close r) q a b ne = compatible_of _ _ (swap (close_compatible r (poison p g) q b a (λ e. ne (sym e))))
  compatible (poison p g) (step r) q a b ne = lowering_compatible _ _ (poison_lowering t sd s wf k p g q) (step_lowering t sd s wf k r q b)
  compatible (poison p g) (meet h) q a b ne = keep_compatible _
  compatible (poison p g) (poison r h) q a b ne = lowering_compatible _ _ (poison_lowering t sd s wf k p g q) (poison_lowering t sd s wf k r h q)

  apart : (m n : Move) → Permitted t s m → Permitted t s n → m ≢ n → Apart (effect k t s m) (effect k t s n)
  apart m n a b ne =
      record {
        ats = λ q. elim (look ((effect k t s n).at q)) [
          | inl e ↦ inr e
          | inr o ↦ inl (is_none _ (λ l e.
              places_disjoint t sd s wf m n q a b ne (writes t sd s wf k m q l a e) (writes→reads t s n q (writes t sd s wf k n q o.0 b o.1))))
        ];
        marks = λ q. compatible m n q a b ne;
        cells = λ c. elim (look ((effect k t s n).cell c)) [
          | inl e ↦ inr e
          | inr o ↦ inl (is_none _ (λ v e.
              cells_disjoint t sd s wf m n c a b ne (cell_writes t sd s wf k m c v a e) (cell_writes→reads t s n c (cell_writes t sd s wf k n c o.0 b o.1))))
        ];
        pops = λ i. elim (T_dec ((effect k t s n).pop i)) [
          | inl h ↦ inl (T_false _ (λ g. ports_disjoint t sd s wf m n i ne (pops t sd s wf k m i a g) (pops t sd s wf k n i b h)))
          | inr h ↦ inr (T_false _ h)
        ];
      }

pub diamond : Diamond
diamond k t s m n sd wf a b ne =
    let u = stable k t sd s wf m a n b ne in
    let v = stable k t sd s wf n b m a (λ e. ne (sym e)) in (
      u.0,
      v.0,
      ap (λ e. apply e (made k t s m)) u.1
          ∙ commute (effect k t s n) (effect k t s m) s (apart k t sd s wf n m b a (λ e. ne (sym e)))
          ∙ ap (λ e. apply e (made k t s n)) (sym v.1),
    )
