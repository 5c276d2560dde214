use Rattle.std.proofs.Common.{arith}
use Rattle.reader.proofs.Parts.{part_is}
use Rattle.reader.proofs.reader.part.Goals as goal

pub returns : goal.returns
returns c =
    let e = c.min-from.ensures in
    let f = c.min-count.ensures in
    part_is c.args.text.now c.args.at c.args.len c.min-from.result c.min-count.result (omega arith) (omega arith)
