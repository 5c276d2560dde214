-- What an expression is worth.
use Rattle.std.specs.Prelude.{ℕ, cond, ◌==◌}
use Rattle.numbers.specs.Kinds.{Meaning}
use Rattle.rules.specs.Programs.{Expr, own, word, plus, minus, times, below, same}

-- Sum, difference, product and less are the kind's; equality is of words; `<` and `==` give 1 or 0.
abbrev pub value : Meaning → (ℕ → ℕ) → Expr → ℕ
value k f (own c) = f c
value k f (word w) = w
value k f (plus a b) = k.sum (value k f a) (value k f b)
value k f (minus a b) = k.difference (value k f a) (value k f b)
value k f (times a b) = k.product (value k f a) (value k f b)
value k f (below a b) = cond (k.less (value k f a) (value k f b)) 1 0
value k f (same a b) = cond (value k f a == value k f b) 1 0
