use Rattle.std.proofs.Common.{◌^◌, arith}
use Rattle.numbers.proofs.Bases.{rebase_more, rebase_fits, fewer_fit}
use Rattle.numbers.proofs.decimal.+rebased.Goals as goal

pub rebased-requires : goal.rebased-requires
rebased-requires g t c κs within =
    let fewer = fewer_fit g.Source.Base.RADIX g.Target.Base.RADIX c.args.k (2 ^ 32) c.requires.to c.requires.fits in
    (omega arith, (within.0, (within.1, (c.requires.from, (c.requires.to, fewer)))))

pub overflow_mul-result : goal.overflow_mul-result
overflow_mul-result g t c =
    let rest = rw c.RADIX-else-k-eq0-2.ensures at c.rebased.ensures in
    let whole = rebase_more g.Source.Base.RADIX g.Target.Base.RADIX c.args.k c.args.n c.rebased.result (omega arith) rest in
    let fits = rebase_fits g.Source.Base.RADIX g.Target.Base.RADIX c.args.k c.args.n (2 ^ 32) c.requires.from c.requires.to c.requires.fits in
    rw c.RADIX-else-k-eq0.ensures (omega arith)

pub overflow_add-result : goal.overflow_add-result
overflow_add-result g t c =
    let rest = rw c.RADIX-else-k-eq0-2.ensures at c.rebased.ensures in
    let whole = rebase_more g.Source.Base.RADIX g.Target.Base.RADIX c.args.k c.args.n c.rebased.result (omega arith) rest in
    let fits = rebase_fits g.Source.Base.RADIX g.Target.Base.RADIX c.args.k c.args.n (2 ^ 32) c.requires.from c.requires.to c.requires.fits in
    rw (c.RADIX.ensures, c.RADIX-else-k-eq0.ensures) (omega arith)

pub returns-else-k-eq0 : goal.returns-else-k-eq0
returns-else-k-eq0 g t c =
    let rest = rw c.RADIX-else-k-eq0-2.ensures at c.rebased.ensures in
    rw (c.RADIX.ensures, c.RADIX-else-k-eq0.ensures) (rebase_more g.Source.Base.RADIX g.Target.Base.RADIX c.args.k c.args.n c.rebased.result (omega arith) rest)
