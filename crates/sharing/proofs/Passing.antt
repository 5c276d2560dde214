-- The stage passes exactly the texts whose every statement is fair.
use Rattle.std.proofs.Common.{◌≡◌, ℕ, Bool, true, false, T, List, Ok, Err, refl, ap, ◌∙◌}
use Rattle.reader.specs.declared.fault.Cause.{Cause}
use Rattle.reader.specs.declared.fault.Cause.TheVariants.{WrittenTwice, ReferencedTwice, PortTwice, Uncaught}
use Rattle.reader.specs.Faults.{Answer, must, ◌>>=◌}
use Rattle.reader.specs.Tokens.{among}
use Rattle.unfold.specs.Unfolded.{Part, plain, calls, tests, loops, tries, takes, Node, one, throws, two, par, Nodes, nil, seq, Branches, last, also}
use Rattle.unfold.specs.Sharing.{apart, all_ports, names_apart, all_writes, names_distinct, part_sharing, part_tries, node_sharing, sharing, branches_sharing}
use Rattle.sharing.specs.Fairness.{GivenOnce, Fair, Each, Every, EveryBranch}
use Rattle.sharing.proofs.Members.{among_in, in_among, distinct_once, once_distinct}
use Rattle.sharing.proofs.Pairs.{tests_apart, apart_writes, apart_ports}

must_holds : (b : Bool) (c : Cause) (at : ℕ) → must b c at ≡ Ok tt → T b
must_holds true c at e = tt
must_holds false c at e = absurd cc

holds_must : (b : Bool) (c : Cause) (at : ℕ) → T b → must b c at ≡ Ok tt
holds_must true c at h = refl
holds_must false c at h = absurd h

both_pass : (r s : Answer (Unit {0})) → (r >>= (λ u. s)) ≡ Ok tt → (r ≡ Ok tt) × (s ≡ Ok tt)
both_pass (Ok a) s e = (refl, e)
both_pass (Err f) s e = absurd cc

pass_both : (r s : Answer (Unit {0})) → r ≡ Ok tt → s ≡ Ok tt → (r >>= (λ u. s)) ≡ Ok tt
pass_both r s e f = ap (λ (x : Answer (Unit {0})). x >>= (λ u. s)) e ∙ f

part_passed : (at : ℕ) (h : Part) → part_sharing at h ≡ Ok tt → GivenOnce h
part_passed at plain e = tt
part_passed at (calls cs rs) e = distinct_once rs (must_holds (names_distinct rs) ReferencedTwice at e)
part_passed at (tests x) e = tt
part_passed at (loops x) e = tt
part_passed at (tries n) e = tt
part_passed at (takes i c) e = tt

part_passes : (at : ℕ) (h : Part) → GivenOnce h → part_sharing at h ≡ Ok tt
part_passes at plain f = refl
part_passes at (calls cs rs) f = holds_must (names_distinct rs) ReferencedTwice at (once_distinct rs f)
part_passes at (tests x) f = refl
part_passes at (loops x) f = refl
part_passes at (tries n) f = refl
part_passes at (takes i c) f = refl

mutual
  node_passed : (ts : List (List ℕ)) (u : Node) → node_sharing ts u ≡ Ok tt → Each Fair ts u
  node_passed ts (one at ns s) e = tt
  node_passed ts (throws at n) e = among_in n ts (must_holds (among n ts) Uncaught at e)
  node_passed ts (two at ns h a b) e =
      let p = both_pass (part_sharing at h) (sharing (part_tries ts h) a >>= (λ w. sharing ts b)) e in
      let q = both_pass (sharing (part_tries ts h) a) (sharing ts b) p.1 in
      (part_passed at h p.0, passed (part_tries ts h) a q.0, passed ts b q.1)
  node_passed ts (par at ns bs) e =
      let p = both_pass (must (names_apart (all_writes bs)) WrittenTwice at) (must (apart (all_ports bs)) PortTwice at >>= (λ w. branches_sharing ts bs)) e in
      let q = both_pass (must (apart (all_ports bs)) PortTwice at) (branches_sharing ts bs) p.1 in
      (tests_apart bs (must_holds (names_apart (all_writes bs)) WrittenTwice at p.0) (must_holds (apart (all_ports bs)) PortTwice at q.0), branches_passed ts bs q.1)

  pub passed : (ts : List (List ℕ)) (us : Nodes) → sharing ts us ≡ Ok tt → Every Fair ts us
  passed ts nil e = tt
  passed ts (seq u us) e = let p = both_pass (node_sharing ts u) (sharing ts us) e in (node_passed ts u p.0, passed ts us p.1)

  branches_passed : (ts : List (List ℕ)) (bs : Branches) → branches_sharing ts bs ≡ Ok tt → EveryBranch Fair ts bs
  branches_passed ts last e = tt
  branches_passed ts (also g us bs) e = let p = both_pass (sharing ts us) (branches_sharing ts bs) e in (passed ts us p.0, branches_passed ts bs p.1)

mutual
  node_passes : (ts : List (List ℕ)) (u : Node) → Each Fair ts u → node_sharing ts u ≡ Ok tt
  node_passes ts (one at ns s) h = refl
  node_passes ts (throws at n) h = holds_must (among n ts) Uncaught at (in_among n ts h)
  node_passes ts (two at ns h a b) k =
      pass_both (part_sharing at h) (sharing (part_tries ts h) a >>= (λ w. sharing ts b)) (part_passes at h k.0)
      (pass_both (sharing (part_tries ts h) a) (sharing ts b) (passes (part_tries ts h) a k.1) (passes ts b k.2))
  node_passes ts (par at ns bs) k =
      pass_both (must (names_apart (all_writes bs)) WrittenTwice at) (must (apart (all_ports bs)) PortTwice at >>= (λ w. branches_sharing ts bs))
      (holds_must (names_apart (all_writes bs)) WrittenTwice at (apart_writes bs k.0))
      (pass_both (must (apart (all_ports bs)) PortTwice at) (branches_sharing ts bs) (holds_must (apart (all_ports bs)) PortTwice at (apart_ports bs k.0)) (branches_pass ts bs k.1))

  pub passes : (ts : List (List ℕ)) (us : Nodes) → Every Fair ts us → sharing ts us ≡ Ok tt
  passes ts nil h = refl
  passes ts (seq u us) h = pass_both (node_sharing ts u) (sharing ts us) (node_passes ts u h.0) (passes ts us h.1)

  branches_pass : (ts : List (List ℕ)) (bs : Branches) → EveryBranch Fair ts bs → branches_sharing ts bs ≡ Ok tt
  branches_pass ts last h = refl
  branches_pass ts (also g us bs) h = pass_both (sharing ts us) (branches_sharing ts bs) (passes ts us h.0) (branches_pass ts bs h.1)
