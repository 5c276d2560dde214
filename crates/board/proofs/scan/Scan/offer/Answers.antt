use Rattle.std.proofs.Common.{◌+◌, ◌++◌, sym, ◌∙◌, subst}
use Rattle.board.specs.declared.scan.Scan.{Scan}
use Rattle.board.specs.Scans.{Scanned, listed}
use Rattle.board.proofs.Scanning.{offer_took, offer_went}
use Rattle.board.proofs.scan.Scan.offer.Goals as goal
use Rattle.board.proofs.scan.Scan.offer.Goals.{then-self, else-self}

pub returns-after-self-clause-list : goal.returns-after-self-clause-list
returns-after-self-clause-list c w xs h =
    let s = c.args.self.now in
    let m = c.args.m in
    elim c.if-self.branch [
      | then-self v ↦
          subst (λ (z : Scan). Scanned w (xs ++ listed m) (record { want = z.want; count = z.count + 1; found = z.found })) (sym v.self-is)
          (offer_took s w xs h m (sym c.is_some.ensures ∙ c.if-is_some.true) v.if-self.true)
      | else-self v ↦
          subst (λ (z : Scan). Scanned w (xs ++ listed m) (record { want = z.want; count = z.count + 1; found = z.found })) (sym v.self-is)
          (offer_went s w xs h m (sym c.is_some.ensures ∙ c.if-is_some.true) v.if-self.false)
    ]
