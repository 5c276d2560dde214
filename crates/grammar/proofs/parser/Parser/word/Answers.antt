use Rattle.std.proofs.Common.{refl}
use Rattle.grammar.proofs.Telling.{valued, refuses, word_yes, word_no}
use Rattle.grammar.proofs.parser.Parser.word.Goals as goal

pub returns-then-takes-clause-tells : goal.returns-then-takes-clause-tells
returns-then-takes-clause-tells c text =
    let p = c.takes.ensures.yes c.if-takes.true in
    valued _ (rw (p.1, c.from.ensures, c.peek-word.ensures) (word_yes text c.args.self.now.rest.now c.args.tag c.requires p.0))

pub returns-else-takes-clause-tells : goal.returns-else-takes-clause-tells
returns-else-takes-clause-tells c text =
    let p = c.takes.ensures.no c.if-takes.false in
    refuses (rw (c.refuse.ensures, p.1) refl) (word_no text c.args.self.now.rest.now c.args.tag c.requires p.0)
