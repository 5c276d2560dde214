use Rattle.std.proofs.Common.{◌≤◌, length, rules, arith}
use Rattle.std.proofs.lemmas.Iterator.{YieldsList-from_slice}
use Rattle.std.proofs.lemmas.Bool.Decides.{nat_tests}
use Rattle.numbers.proofs.Literals.{read_by_fold}
use Rattle.numbers.proofs.literal.literal_value.Goals as goal

pub returns : goal.returns
returns c =
    let bs = c.args.digits.now in
    let some : 1 ≤ length bs = grind (arith, nat_tests) in
    read_by_fold _ _ _ _ _ _ (λ n x v q k. search (rules, nat_tests)) _ bs c.try_fold.ensures.ran (YieldsList-from_slice bs cc) some c.if-digits-gt10.false
