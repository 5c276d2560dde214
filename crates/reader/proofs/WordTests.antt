-- The reserved words by their lengths and bytes, as the code's patterns test them.
use Rattle.std.proofs.Common.{◌≡◌, ℕ, suc, Bool, true, false, cond, ◌&&◌, eqb, List, [], ◌∷◌, length, get_or, codes, sym, refl, ap, ◌∙◌, arith}
use Rattle.std.proofs.lemmas.Bool.Decides.{nat_tests}
use Rattle.reader.specs.declared.token.Tag.{Tag}
use Rattle.reader.specs.declared.token.Tag.TheVariants.{Name, Var, Next, Know, Take, If, Else, While, Par, Try, Catch, Throw, Proc, Main}
use Rattle.reader.specs.Tokens.{same}
use Rattle.reader.specs.Reads.{word_tag}

-- bytes from index i on equal a word
abbrev pub places : List ℕ → ℕ → List ℕ → Bool
places bs i [] = true
places bs i (w ∷ ws) = eqb (get_or bs i 0) w && places bs (suc i) ws

shift : (b : ℕ) (bs : List ℕ) (i : ℕ) (ws : List ℕ) → places (b ∷ bs) (suc i) ws ≡ places bs i ws
shift b bs i [] = refl
shift b bs i (w ∷ ws) = ap (λ t. eqb (get_or bs i 0) w && t) (shift b bs (suc i) ws)

suc_eqb : (m n : ℕ) → eqb (suc m) (suc n) ≡ eqb m n
suc_eqb m n = grind (arith, nat_tests)

and_swap : (a b c : Bool) → (a && (b && c)) ≡ (b && (a && c))
and_swap true true c = refl
and_swap true false c = refl
and_swap false true c = refl
and_swap false false c = refl

same_places : (bs ws : List ℕ) → same bs ws ≡ (eqb (length bs) (length ws) && places bs 0 ws)
same_places [] [] = refl
same_places [] (w ∷ ws) = grind (arith, nat_tests)
same_places (b ∷ bs) [] = grind (arith, nat_tests)
same_places (b ∷ bs) (w ∷ ws) =
    ap (λ t. eqb b w && t) (same_places bs ws)
    ∙ and_swap (eqb b w) (eqb (length bs) (length ws)) (places bs 0 ws)
    ∙ ap (λ t. t && (eqb b w && places bs 0 ws)) (sym (suc_eqb (length bs) (length ws)))
    ∙ ap (λ t. eqb (suc (length bs)) (suc (length ws)) && (eqb b w && t)) (sym (shift b bs 0 ws))

abbrev pub is : List ℕ → List ℕ → Bool
is bs ws = eqb (length bs) (length ws) && places bs 0 ws

abbrev pub tested : List ℕ → Tag
tested bs =
    (cond (is bs (codes "var")) Var
    (cond (is bs (codes "next")) Next
    (cond (is bs (codes "know")) Know
    (cond (is bs (codes "take")) Take
    (cond (is bs (codes "if")) If
    (cond (is bs (codes "else")) Else
    (cond (is bs (codes "while")) While
    (cond (is bs (codes "par")) Par
    (cond (is bs (codes "try")) Try
    (cond (is bs (codes "catch")) Catch
    (cond (is bs (codes "throw")) Throw
    (cond (is bs (codes "proc")) Proc
    (cond (is bs (codes "main")) Main
    Name)))))))))))))

pub tag_tested : (bs : List ℕ) → word_tag bs ≡ tested bs
tag_tested bs = rw (same_places bs (codes "var"), same_places bs (codes "next"), same_places bs (codes "know"), same_places bs (codes "take"), same_places bs (codes "if"), same_places bs (codes "else"), same_places bs (codes "while"), same_places bs (codes "par"), same_places bs (codes "try"), same_places bs (codes "catch"), same_places bs (codes "throw"), same_places bs (codes "proc"), same_places bs (codes "main"))
