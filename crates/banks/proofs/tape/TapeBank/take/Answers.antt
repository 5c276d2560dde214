use Rattle.banks.proofs.tape.TapeBank.take.Goals as goal
use Rattle.banks.proofs.Ports.{taken_behind}

pub returns-clause-rest : goal.returns-clause-rest
returns-clause-rest c =
    let found = c.in_ok-get.ensures.lookup in
    taken_behind (λ s. s.now) c.args.self.now.ports c.args.port c.in_ok-word.field-0-0.now c.in_ok-get.field-0.now c.in_ok-word.rest found.3.0 found.1 c.in_ok-word.ensures.cases.0
