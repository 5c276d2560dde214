use Rattle.std.proofs.Common.{◌≡◌, ℕ, Bool, length}
use Rattle.board.specs.Views.{flags}
use Rattle.board.specs.Loops.{AnsweredFrom}
use Rattle.board.proofs.state.answers.backward.Given as goal

abbrev pub invariant-loop-p : goal.invariant-loop-p
invariant-loop-p g l =
    record {
      size : length l.out ≡ 64;
      told : (f : ℕ → (ℕ → Bool) → Bool) → ((p : ℕ) (later : _) (r : _) → goal.F-post g l.one p later r → r ≡ f p (flags later.now)) → AnsweredFrom f l.n l.out l.p;
    }
