use Rattle.std.proofs.Common.{rules}
use Rattle.reader.specs.Tokens.{digit}
use Rattle.reader.proofs.Firsts.{number_shows}
use Rattle.reader.proofs.reader.number_at.Goals as goal

pub returns : goal.returns
returns c =
    number_shows c.args.text.now c.args.at c.run_len-len.result (c.run_len-len.ensures digit (λ b r p. search rules))
    c.limited.result (record { ok = c.limited.ensures.ok; err = c.limited.ensures.err })
