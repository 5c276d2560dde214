use Rattle.std.proofs.Common.{◌≡◌, rules, get_or, ℕ, List}
use Rattle.banks.specs.Banks.{stretch}
use Rattle.banks.proofs.Ports.{at_each, listed_behind}
use Rattle.banks.proofs.tape.Tape.new.Goals as goal

pub returns : goal.returns
returns c =
    let memory = c.args.memory in
    let ports = c.from_fn-ports.result in
    let f : ℕ → List ℕ = λ p. stretch memory.now (get_or c.args.first p 0) (get_or c.args.len p 0) in
    let each = at_each (λ p. (get_or ports p memory).now ≡ f p) (search rules) (search rules) (search rules) (search rules) (search rules) (search rules) (search rules) (search rules) in
    record { fields = each; words = listed_behind (λ s. s.now) ports f memory c.from_fn-ports.ensures.items.long each }
