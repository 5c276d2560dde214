use Rattle.numbers.proofs.decimal.+all_digits.Given as goal

abbrev pub decreases-all_digits : goal.decreases-all_digits
decreases-all_digits l = l.k
