-- A dozen texts, and what clearing answers to each: how many points, places and cells, or the refusal.
use Rattle.std.specs.Prelude.{◌≡◌, ℕ, List, [], ◌∷◌, map, length, Some, Ok, codes}
use Rattle.reader.specs.declared.fault.Cause.TheVariants.{OverLimit, WrittenTwice, ReferencedTwice, PortTwice, Uncaught}
use Rattle.reader.specs.Faults.{Answer, refuse, ◌>>=◌}
use Rattle.numbers.specs.Literals.{value_of}
use Rattle.names.specs.Naming.{Reading}
use Rattle.program.specs.Clearing.{cleared}

-- a reading that every literal has
abbrev pub any_literal : Reading
any_literal ds = Some (value_of 0 ds)

abbrev pub outcome : List ℕ → Answer (ℕ × ℕ × ℕ)
outcome bs = cleared any_literal bs >>= (λ p. Ok (length p.points, length p.places, length p.cells))

abbrev pub texts : List (List ℕ)
texts =
    codes "main { }" ∷
    codes "main { var a; var b; par { next a; next b; } { next b; next a; }; }" ∷
    codes "proc p(x) { x = 1; } main { var a; par { p(a); } { p(a); }; }" ∷
    codes "proc p(&x) { x = 1; } main { var a; par { p(a); } { know a; }; }" ∷
    codes "main { var a; par { a = 1; } { a = 2; }; }" ∷
    codes "proc p(&x) { } main { var a; par { p(a); } { a = 2; }; }" ∷
    codes "proc p(&x, &y) { } main { var a; p(a, a); }" ∷
    codes "proc p(&x) { take 07 x else { } } main { var a; var b; par { p(a); } { take 7 b else { } }; }" ∷
    codes "main { throw T; }" ∷
    codes "main { try { } catch (T) { throw T; } }" ∷
    codes "proc p() { par { } { } { } { } { } { } { } { }; } main { p(); p(); p(); p(); p(); p(); p(); p(); }" ∷
    codes "proc a() { { } { } } proc b() { a(); a(); } proc c() { b(); b(); } proc d() { c(); c(); } proc e() { d(); d(); } proc f() { e(); e(); } proc g() { f(); f(); } proc h() { g(); g(); } proc i() { h(); h(); } proc j() { i(); i(); } main { j(); j(); }" ∷
    []

abbrev pub outcomes : List (Answer (ℕ × ℕ × ℕ))
outcomes =
    Ok (1, 1, 0) ∷
    Ok (10, 3, 6) ∷
    Ok (9, 3, 5) ∷
    Ok (8, 3, 2) ∷
    refuse WrittenTwice 14 ∷
    refuse WrittenTwice 29 ∷
    refuse ReferencedTwice 33 ∷
    refuse PortTwice 55 ∷
    refuse Uncaught 7 ∷
    refuse Uncaught 27 ∷
    refuse OverLimit 11 ∷
    refuse OverLimit 221 ∷
    []

-- each text has its outcome
abbrev pub CasesHold : Type 0
CasesHold = map outcome texts ≡ outcomes
