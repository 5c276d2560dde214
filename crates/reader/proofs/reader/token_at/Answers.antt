use Rattle.std.proofs.Common.{sym, ◌∙◌, inl, inr}
use Rattle.reader.proofs.Firsts.{sign_here, equal_here, word_here, number_here, nothing_here, separator_here}
use Rattle.reader.proofs.reader.token_at.Goals as goal

pub returns-in-Sign : goal.returns-in-Sign
returns-in-Sign c = sign_here c.args.text.now c.args.at c.requires.within c.in-Sign.tag c.in-Sign.ensures

pub returns-in-Equal : goal.returns-in-Equal
returns-in-Equal c = rw c.equal_at.ensures (equal_here c.args.text.now c.args.at c.requires.within c.in-Equal.ensures)

pub returns-in-Word : goal.returns-in-Word
returns-in-Word c = word_here c.args.text.now c.args.at c.requires.within c.word_at.result c.in-Word.ensures c.word_at.ensures

pub returns-in-Number : goal.returns-in-Number
returns-in-Number c = number_here c.args.text.now c.args.at c.requires.within c.number_at.result c.in-Number.ensures c.number_at.ensures

pub returns-in-Separator : goal.returns-in-Separator
returns-in-Separator c =
    elim c.in-Separator.is [
      | inl e ↦ separator_here c.args.text.now c.args.at c.requires.within c.requires.token_byte (sym e ∙ c.begins.ensures)
      | inr e ↦ nothing_here c.args.text.now c.args.at c.requires.within c.at.result c.at.ensures (sym e ∙ c.begins.ensures)
    ]
