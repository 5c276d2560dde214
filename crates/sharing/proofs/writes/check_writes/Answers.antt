use Rattle.std.proofs.Common.{Bool, rules, sym, ap, ◌∙◌}
use Rattle.reader.specs.declared.fault.Cause.TheVariants.{WrittenTwice}
use Rattle.reader.specs.Faults.{must}
use Rattle.sharing.proofs.Ported.{write_test, write_pairs}
use Rattle.sharing.proofs.writes.check_writes.Goals as goal

pub returns : goal.returns
returns c =
    let text = c.args.text.now in
    c.must.ensures
    ∙ ap (λ (b : Bool). must b WrittenTwice c.args.at) (c.are_apart-is_apart.ensures (write_test text) (λ g h us vs r p. search rules) ∙ sym (write_pairs text c.args.branches.now))
