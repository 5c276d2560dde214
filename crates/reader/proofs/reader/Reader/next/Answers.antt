use Rattle.std.proofs.Common.{refl, arith, rules}
use Rattle.reader.specs.Reads.{next_at}
use Rattle.reader.proofs.Nexts.{next_within, next_byte, end_shows, token_within}
use Rattle.reader.proofs.reader.Reader.next.Goals as goal

pub invariant_of-self : goal.invariant_of-self
invariant_of-self c = record { within = (let w = next_within c.args.self.now.text.now c.args.self.now.at c.args.self.now.within in omega (arith, c.past_separators-at.ensures)) }

pub returns-then-at-text : goal.returns-then-at-text
returns-then-at-text c =
    let t = c.args.self.now.text.now in
    record {
      text = refl;
      token = end_shows t c.past_separators-at.result (next_at t c.args.self.now.at) c.past_separators-at.ensures c.if-at-text.true;
      stands = omega (arith, c.past_separators-at.ensures);
    }

pub token_at-requires : goal.token_at-requires
token_at-requires c = record { within = c.if-at-text.false; token_byte = next_byte c.args.self.now.text.now c.args.self.now.at c.args.self.now.within c.past_separators-at.result c.past_separators-at.ensures c.if-at-text.false }

pub overflow_add-self : goal.overflow_add-self
overflow_add-self c =
    let w = token_within c.args.self.now.text.now c.past_separators-at.result c.in_ok-token.token (omega arith) c.in_ok-token.ensures in
    search rules

pub invariant_of-self-2 : goal.invariant_of-self-2
invariant_of-self-2 c =
    let w = token_within c.args.self.now.text.now c.past_separators-at.result c.in_ok-token.token (omega arith) c.in_ok-token.ensures in
    record { within = omega arith }
