-- The listed boards: eight texts, and what becomes of each.
use Rattle.std.specs.Prelude.{◌≡◌, ℕ, List, [], ◌∷◌, map, codes}
use Rattle.reader.specs.declared.fault.Cause.TheVariants.{WrittenTwice, Uncaught}
use Rattle.rules.specs.declared.answers.Verdict.TheVariants.{Finished, Deadlock}
use Rattle.cases.specs.Outcomes.{Outcome, refused, rests, outcome}

pub record Case : Type 0 where
  pub text : List ℕ
  pub comes_to : Outcome

abbrev case : List ℕ → Outcome → Case
case t o = record { text = t; comes_to = o }

abbrev pub listed : List Case
listed =
    case (codes "main { }") (rests 1 Finished [])
    ∷ case (codes "main { throw T; }") (refused Uncaught 7)
    ∷ case (codes "main { var a; par { a = 1; } { a = 2; }; }") (refused WrittenTwice 14)
    ∷ case (codes "main { var a; var b; par { next a; next b; } { next b; next a; }; }") (rests 3 Deadlock (0 ∷ 0 ∷ 0 ∷ 0 ∷ 0 ∷ 0 ∷ []))
    ∷ case (codes "main { var a; par { next a; next a; } { next a; }; }") (rests 8 Finished (0 ∷ 0 ∷ 0 ∷ []))
    ∷ case (codes "main { var a; var b; par { par { next a; } { next b; }; } { next a; next a; know b; }; }") (rests 6 Deadlock (0 ∷ 0 ∷ 0 ∷ 0 ∷ 0 ∷ 0 ∷ 0 ∷ 0 ∷ []))
    ∷ case (codes "main { var i; try { try { par { throw T; } { throw U; }; } catch (T) { } i = i + 1; } catch (U) { } }") (rests 8 Finished (0 ∷ []))
    ∷ case (codes "main { var i; try { par { know i; throw T; } { i = 1; next i; i = 2; }; } catch (T) { } }") (rests 9 Finished (1 ∷ 0 ∷ []))
    ∷ []

abbrev pub ListedHold : Type 0
ListedHold = map (λ c. outcome c.text) listed ≡ map (λ c. c.comes_to) listed
