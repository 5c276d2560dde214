use Rattle.std.proofs.Common.{arith}
use Rattle.std.proofs.lemmas.Bool.Decides.{nat_tests}
use Rattle.reader.proofs.WordTests.{tag_tested}
use Rattle.reader.proofs.classes.word_tag.Goals as goal

pub returns-in-while : goal.returns-in-while
returns-in-while c = grind (arith, nat_tests, tag_tested)

pub returns-in-catch : goal.returns-in-catch
returns-in-catch c = grind (arith, nat_tests, tag_tested)

pub returns-in-throw : goal.returns-in-throw
returns-in-throw c = grind (arith, nat_tests, tag_tested)

pub returns-in_default : goal.returns-in_default
returns-in_default c = grind (arith, nat_tests, tag_tested)

pub returns-in_default-3 : goal.returns-in_default-3
returns-in_default-3 c = grind (arith, nat_tests, tag_tested)

pub returns-in_default-7 : goal.returns-in_default-7
returns-in_default-7 c = grind (arith, nat_tests, tag_tested)

pub returns-in_default-9 : goal.returns-in_default-9
returns-in_default-9 c = grind (arith, nat_tests, tag_tested)

pub returns-in_default-10 : goal.returns-in_default-10
returns-in_default-10 c = grind (arith, nat_tests, tag_tested)

pub returns-in_default-19 : goal.returns-in_default-19
returns-in_default-19 c = grind (arith, nat_tests, tag_tested)

pub returns-in_default-25 : goal.returns-in_default-25
returns-in_default-25 c = grind (arith, nat_tests, tag_tested)

pub returns-in_default-29 : goal.returns-in_default-29
returns-in_default-29 c = grind (arith, nat_tests, tag_tested)

pub returns-in_default-41 : goal.returns-in_default-41
returns-in_default-41 c = grind (arith, nat_tests, tag_tested)

pub returns-in_default-42 : goal.returns-in_default-42
returns-in_default-42 c = grind (arith, nat_tests, tag_tested)

pub returns-in_default-43 : goal.returns-in_default-43
returns-in_default-43 c = grind (arith, nat_tests, tag_tested)
