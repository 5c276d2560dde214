use Rattle.std.proofs.Common.{Bool, rules, sym, ap, ◌∙◌}
use Rattle.reader.specs.declared.fault.Cause.TheVariants.{PortTwice}
use Rattle.reader.specs.Faults.{must}
use Rattle.sharing.proofs.Ported.{clear_test, clear_pairs}
use Rattle.sharing.proofs.ports.check_ports.Goals as goal

pub returns : goal.returns
returns c = λ text. c.must.ensures ∙ ap (λ (b : Bool). must b PortTwice c.args.at) (c.are_apart-is_apart.ensures clear_test (λ g h us vs r p. search rules) ∙ sym (clear_pairs text c.args.branches.now))
