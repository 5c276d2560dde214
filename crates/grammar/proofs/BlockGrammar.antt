-- Blocks: the parser and the grammar.
use Rattle.std.proofs.Common.{◌≡◌, ℕ, zero, suc, ◌<◌, true, false, ◌∷◌, length, Ok, codes, sym, refl, ◌∙◌, subst, inl, inr, arith}
use Rattle.reader.specs.Faults.{◌>>=◌, refuse}
use Rattle.reader.specs.declared.fault.Cause.TheVariants.{NotAllowed, TooDeep}
use Rattle.grammar.specs.Trees.{Stm, Block, Nil, Seq}
use Rattle.grammar.specs.Parsers.{Tokens, Parser, here, is, eat}
use Rattle.grammar.specs.Parsing.{statement, statements, block}
use Rattle.grammar.specs.Language.{sign, Statement, Statements, none_left, one_more, Braces, braces, BlockIs}
use Rattle.grammar.proofs.Results.{bound}
use Rattle.grammar.proofs.Levels.{ok_eq, no_ok, if_inv, if_false, then, eaten, Sounds, Reads, Shrinks, Any}
use Rattle.grammar.proofs.StatementGrammar.{S, statement_sound, statement_reads, statement_shrinks}

-- ---- blocks

statements_sound : (S : Stm → Tokens → Tokens → Type 0) (p : Parser Stm) → Sounds p S → (n : ℕ) → Sounds (statements p n) (Statements S)
statements_sound S p ps zero ts x e = no_ok NotAllowed (here ts).at x e
statements_sound S p ps (suc n) ts x e =
    elim (if_inv (is (codes "}") ts) (λ u. Ok (Nil, ts)) (λ u. p ts >>= (λ s. statements p n s.1 >>= (λ b. Ok (Seq s.0 b.0, b.1)))) (Ok x) e) [
      | inl i ↦ subst (λ (z : Block × Tokens). Statements S z.0 ts z.1) (ok_eq (Nil, ts) x i.1) none_left
      | inr i ↦
          let a = bound (p ts) (λ s. statements p n s.1 >>= (λ b. Ok (Seq s.0 b.0, b.1))) x i.1 in
          let b = bound (statements p n a.0.1) (λ b. Ok (Seq a.0.0 b.0, b.1)) x a.2 in
          subst (λ (z : Block × Tokens). Statements S z.0 ts z.1) (ok_eq (Seq a.0.0 b.0.0, b.0.1) x b.2)
          (one_more (ps ts a.0 a.1) (statements_sound S p ps n a.0.1 b.0 b.1))
    ]

statements_read : (S : Stm → Tokens → Tokens → Type 0) (p : Parser Stm) → Reads p S Any → ((s : Stm) (ts r : Tokens) → S s ts r → (is (codes "}") ts ≡ false) × (length r < length ts))
    → (b : Block) (ts r : Tokens) (c n : ℕ) → Statements S b ts (sign (codes "}") c ∷ r) → length ts < n → statements p n ts ≡ Ok (b, sign (codes "}") c ∷ r)
statements_read S p pr sh b ts r c zero h l = absurd (omega arith)
statements_read S p pr sh b ts r c (suc n) none_left l = refl
statements_read S p pr sh b ts r c (suc n) (one_more {s = s} {b = d} {a = a} h k) l =
    let i = sh s ts a h in
    if_false (is (codes "}") ts) (λ u. Ok (Nil, ts)) (λ u. p ts >>= (λ s. statements p n s.1 >>= (λ b. Ok (Seq s.0 b.0, b.1)))) i.0
    ∙ then (λ s. statements p n s.1 >>= (λ b. Ok (Seq s.0 b.0, b.1))) (pr s ts a h tt)
    ∙ then (λ b. Ok (Seq s b.0, b.1)) (statements_read S p pr sh d a r c n k (let j = i.1 in omega arith))

statements_shrink : (S : Stm → Tokens → Tokens → Type 0) → ((s : Stm) (ts r : Tokens) → S s ts r → (is (codes "}") ts ≡ false) × (length r < length ts))
    → Shrinks (Statements S)
statements_shrink S sh b ts r none_left = omega arith
statements_shrink S sh b ts r (one_more {s = s} {b = d} {a = a} h k) = let i = (sh s ts a h).1 in let j = statements_shrink S sh d a r k in omega arith

pub block_less : (room : ℕ) (b : Block) (ts r : Tokens) → BlockIs room b ts r → length r < length ts
block_less zero b ts r h = absurd h
block_less (suc room) b ts r (braces o c {ts = t} h) =
    let i = statements_shrink (Statement (BlockIs room) room)
    (statement_shrinks (BlockIs room) (λ u. block room u) room (λ b ts r k. let j = block_less room b ts r k in omega arith) (block_less room)) b t (sign (codes "}") c ∷ r) h in
    omega arith

pub block_shrinks : (room : ℕ) → Shrinks (BlockIs room)
block_shrinks room b ts r h = let i = block_less room b ts r h in omega arith

block_opens : (room : ℕ) (b : Block) (ts r : Tokens) → BlockIs room b ts r → is (codes "{") ts ≡ true
block_opens zero b ts r h = absurd h
block_opens (suc room) b ts r (braces o c h) = refl

pub blocks_sound : (room : ℕ) → Sounds (λ u. block room u) (BlockIs room)
blocks_sound zero ts x e = let a = bound (eat (codes "{") ts) (λ r. refuse TooDeep (here ts).at) x e in no_ok TooDeep (here ts).at x a.2
blocks_sound (suc room) ts x e =
    let q = statement (λ u. block room u) room in
    let S = Statement (BlockIs room) room in
    let a = bound (eat (codes "{") ts) (λ t. statements q (suc (length t)) t >>= (λ b. eat (codes "}") b.1 >>= (λ u. Ok (b.0, u)))) x e in
    let b = bound (statements q (suc (length a.0)) a.0) (λ b. eat (codes "}") b.1 >>= (λ u. Ok (b.0, u))) x a.2 in
    let c = bound (eat (codes "}") b.0.1) (λ u. Ok (b.0.0, u)) x b.2 in
    let ss = statements_sound S q (statement_sound (BlockIs room) (λ u. block room u) room (blocks_sound room)) (suc (length a.0)) a.0 b.0 b.1 in
    subst (λ (z : Block × Tokens). Braces (Statements S) z.0 ts z.1) (ok_eq (b.0.0, c.0) x c.2)
    (subst (λ (z : Tokens). Braces (Statements S) b.0.0 z c.0) (sym (eaten (codes "{") ts a.0 a.1))
    (braces (here ts).at (here b.0.1).at (subst (λ (z : Tokens). Statements S b.0.0 a.0 z) (eaten (codes "}") b.0.1 c.0 c.1) ss)))

pub blocks_read : (room : ℕ) → Reads (λ u. block room u) (BlockIs room) Any
blocks_read zero b ts r h f = absurd h
blocks_read (suc room) b ts r (braces o c {ts = t} h) f =
    then (λ b. eat (codes "}") b.1 >>= (λ u. Ok (b.0, u)))
    (statements_read (Statement (BlockIs room) room) (statement (λ u. block room u) room)
    (statement_reads (BlockIs room) (λ u. block room u) room (blocks_read room) (block_opens room))
    (statement_shrinks (BlockIs room) (λ u. block room u) room (block_shrinks room) (block_less room)) b t r c (suc (length t)) h (omega arith))
