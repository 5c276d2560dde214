use Rattle.std.proofs.Common.{arith}
use Rattle.std.proofs.lemmas.Fmt.{length-decimal-le}
use Rattle.numbers.proofs.digits.writing.decimal_digits.Goals as goal

pub write_digits-from-requires : goal.write_digits-from-requires
write_digits-from-requires c = let l = length-decimal-le 10 c.into.result (omega arith) (omega arith) (omega arith) in (omega arith, omega arith)

pub returns-clause-room : goal.returns-clause-room
returns-clause-room c = let l = length-decimal-le 10 c.into.result (omega arith) (omega arith) (omega arith) in omega arith
