use Rattle.std.proofs.Common.{◌≡◌, ℕ, Bool, true, false, cond, eqb, get_or, sym, refl, ap, ◌∙◌, ap₂}
use mir.Val.{bool_byte}
use Rattle.rules.specs.Values.{value}
use Rattle.tables.specs.Stms.{expr}
use Rattle.tables.specs.declared.expr.Expr.{Expr}
use Rattle.board.proofs.eval.+value.Goals as goal

-- an operation on the values of two parts
of_parts : {A : Type 0} (f : ℕ → ℕ → A) (v : Expr → ℕ) {x y : ℕ} {d e a b : Expr} → x ≡ v d → d ≡ a → y ≡ v e → e ≡ b → f x y ≡ f (v a) (v b)
of_parts f v p q r s = ap₂ f (p ∙ ap v q) (r ∙ ap v s)

one_or_zero : (b : Bool) → bool_byte b ≡ cond b 1 0
one_or_zero true = refl
one_or_zero false = refl

pub returns-in-Plus : goal.returns-in-Plus
returns-in-Plus g t c =
    let k = g.K.NumberKind.meaning in
    let v : Expr → ℕ = λ e. value k (λ i. get_or c.args.cells.now i 0) (expr e) in
    c.sum.ensures ∙ of_parts k.sum v c.value.ensures c.deref.ensures c.value-in-Plus.ensures c.deref-in-Plus.ensures ∙ sym (ap v c.in-Plus.is)

pub returns-in-Minus : goal.returns-in-Minus
returns-in-Minus g t c =
    let k = g.K.NumberKind.meaning in
    let v : Expr → ℕ = λ e. value k (λ i. get_or c.args.cells.now i 0) (expr e) in
    c.difference.ensures ∙ of_parts k.difference v c.value-in-Minus.ensures c.deref-in-Minus.ensures c.value-in-Minus-2.ensures c.deref-in-Minus-2.ensures ∙ sym (ap v c.in-Minus.is)

pub returns-in-Times : goal.returns-in-Times
returns-in-Times g t c =
    let k = g.K.NumberKind.meaning in
    let v : Expr → ℕ = λ e. value k (λ i. get_or c.args.cells.now i 0) (expr e) in
    c.product.ensures ∙ of_parts k.product v c.value-in-Times.ensures c.deref-in-Times.ensures c.value-in-Times-2.ensures c.deref-in-Times-2.ensures ∙ sym (ap v c.in-Times.is)

pub returns-in-Less : goal.returns-in-Less
returns-in-Less g t c =
    let k = g.K.NumberKind.meaning in
    let v : Expr → ℕ = λ e. value k (λ i. get_or c.args.cells.now i 0) (expr e) in
    c.from.ensures ∙ one_or_zero c.less.result ∙ ap (λ b. cond b 1 0) (c.less.ensures ∙ of_parts k.less v c.value-in-Less.ensures c.deref-in-Less.ensures c.value-in-Less-2.ensures c.deref-in-Less-2.ensures) ∙ sym (ap v c.in-Less.is)

pub returns-in-Same : goal.returns-in-Same
returns-in-Same g t c =
    let k = g.K.NumberKind.meaning in
    let v : Expr → ℕ = λ e. value k (λ i. get_or c.args.cells.now i 0) (expr e) in
    c.from-in-Same.ensures ∙ one_or_zero _ ∙ ap (λ b. cond b 1 0) (of_parts eqb v c.value-in-Same.ensures c.deref-in-Same.ensures c.value-in-Same-2.ensures c.deref-in-Same-2.ensures) ∙ sym (ap v c.in-Same.is)
