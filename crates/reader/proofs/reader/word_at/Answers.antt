use Rattle.std.proofs.Common.{ap, ◌∙◌, rules}
use Rattle.reader.specs.Tokens.{letter_or_digit}
use Rattle.reader.specs.Reads.{word_tag}
use Rattle.reader.proofs.Firsts.{word_shows}
use Rattle.reader.proofs.reader.word_at.Goals as goal

pub returns : goal.returns
returns c =
    word_shows c.args.text.now c.args.at c.run_len-len.result (c.run_len-len.ensures letter_or_digit (λ b r p. search rules))
    c.word_tag.result (c.word_tag.ensures ∙ ap word_tag c.part.ensures)
    c.limited.result (record { ok = c.limited.ensures.ok; err = c.limited.ensures.err })
