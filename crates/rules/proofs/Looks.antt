-- Permission hangs on local states and marks alone.
use Rattle.std.proofs.Common.{◌≡◌, ℕ, T, sym, ap, ◌∙◌, subst}
use Rattle.rules.specs.Programs.{Table}
use Rattle.rules.specs.States.{State, Local, live, busy, Move, step, close, meet, poison}
use Rattle.rules.specs.Readiness.{Ready, waits, parts, Spoiled, itself, no_child_knows, child_spoiled}
use Rattle.rules.specs.Permissions.{Permitted}
use Rattle.rules.specs.GrantLaws.{PermissionLooks}

module _ (t : Table) (s r : State) (a : s.at ≡ r.at) (m : s.mark ≡ r.mark) where
  at_of : (q : ℕ) → s.at q ≡ r.at q
  at_of q = ap (λ f. f q) a

  mark_of : (q : ℕ) → s.mark q ≡ r.mark q
  mark_of q = ap (λ f. f q) m

  live_to : (q : ℕ) → T (live (s.at q)) → T (live (r.at q))
  live_to q = subst (λ (l : Local). T (live l)) (at_of q)

  live_from : (q : ℕ) → T (live (r.at q)) → T (live (s.at q))
  live_from q = subst (λ (l : Local). T (live l)) (sym (at_of q))

  ready_to : (h : ℕ) {p : ℕ} → Ready t s h p → Ready t r h p
  ready_to h {p} (waits w) = waits (w.0, w.1, sym (at_of p) ∙ w.2, w.3)
  ready_to h {p} (parts x e c k f) =
      parts x (sym (at_of p) ∙ e) c (k.0, k.1, live_to c k.2, k.3)
      (λ d j. ready_to h (f d (j.0, j.1, live_from d j.2, j.3)))

  spoiled_to : (h : ℕ) {q : ℕ} → Spoiled t s h q → Spoiled t r h q
  spoiled_to h {q} (itself n e) = itself n (sym (at_of q) ∙ e)
  spoiled_to h {q} (no_child_knows x n e z f) =
      no_child_knows x n (sym (at_of q) ∙ e) (sym (mark_of q) ∙ z) (λ c k. f c (k.0, k.1, live_from c k.2, k.3))
  spoiled_to h {q} (child_spoiled x n e z c d l p) =
      child_spoiled x n (sym (at_of q) ∙ e) (sym (mark_of q) ∙ z) c d (live_to c l) (spoiled_to h p)

  permitted_to : (v : Move) → Permitted t s v → Permitted t r v
  permitted_to (step p) b = (b.0, sym (at_of p) ∙ b.1, b.2)
  permitted_to (close p) b =
      (b.0, sym (at_of p) ∙ b.1, λ c d k. b.2 c d (subst (λ (l : Local). T (busy l)) (sym (at_of c)) k))
  permitted_to (meet h) b = (b.0, ready_to h b.1)
  permitted_to (poison p h) b =
      let o = b.3 in
      (b.0, b.1, ready_to h b.2, (o.0, o.1, o.2, live_to o.0 o.3, spoiled_to h o.4))

pub permission_looks : PermissionLooks
permission_looks t s r v a m = (permitted_to t s r a m v, permitted_to t r s (sym a) (sym m) v)
