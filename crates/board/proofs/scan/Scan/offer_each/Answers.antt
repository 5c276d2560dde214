use Rattle.std.proofs.Common.{◌≡◌, ℕ, ◌++◌, subst, arith}
use Rattle.rules.specs.Listings.{each}
use Rattle.board.specs.Scans.{Scanned, listed}
use Rattle.board.proofs.Scanning.{each_more}
use Rattle.board.proofs.scan.Scan.offer_each.Goals as goal

pub loop-i-preserved : goal.loop-i-preserved
loop-i-preserved g c =
    let i = c.loop-i.i in
    let m = c.permitted.result in
    record {
      grows = omega (arith, c.offer.ensures.grows);
      list = λ f h w xs s. each_more f i w xs (listed m) c.offer.new.self (h i m c.loop-i-test.true c.permitted.ensures)
          (c.offer.ensures.list w (xs ++ each f i) (c.loop-i.invariant.list f h w xs s));
    }

pub returns-clause-list : goal.returns-clause-list
returns-clause-list g c =
    let end : c.loop-i.i ≡ c.args.n = omega arith in
    λ f h w xs s. subst (λ (n : ℕ). Scanned w (xs ++ each f n) c.loop-i.self) end (c.loop-i.invariant.list f h w xs s)
