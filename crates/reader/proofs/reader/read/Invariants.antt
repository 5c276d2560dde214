use Rattle.std.proofs.Common.{◌≡◌, ◌-◌, ◌≤◌, length, vec_items}
use Rattle.reader.proofs.Turns.{Going}
use Rattle.reader.proofs.reader.read.Given as goal

abbrev pub invariant-loop-found : goal.invariant-loop-found
invariant-loop-found l = (l.reader.text.now ≡ l.text) × (length l.text ≤ 16384) × Going l.text l.reader.at (vec_items l.found)

abbrev pub decreases-loop-found : goal.decreases-loop-found
decreases-loop-found l = length l.text - l.reader.at
