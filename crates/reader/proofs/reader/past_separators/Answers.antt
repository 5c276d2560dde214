use Rattle.std.proofs.Common.{◌+◌, ℕ, ap, rules}
use Rattle.reader.specs.Tokens.{blank}
use Rattle.reader.proofs.Nexts.{next_within}
use Rattle.reader.proofs.reader.past_separators.Goals as goal

pub overflow_add-result : goal.overflow_add-result
overflow_add-result c =
    let e = c.run_len.ensures blank (λ b r p. search rules) in
    let w = next_within c.args.text.now c.args.from c.requires in
    search rules

pub returns : goal.returns
returns c = ap (λ (n : ℕ). c.args.from + n) (c.run_len.ensures blank (λ b r p. search rules))
