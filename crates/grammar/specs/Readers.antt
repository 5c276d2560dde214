-- The parsers that the functions of the code stand for. Each is shut, so that a proof takes one step at a time.
use Rattle.std.specs.Prelude.{ℕ, zero, suc, cond, List, Ok, codes, ◌==◌}
use Rattle.reader.specs.declared.fault.Cause.TheVariants.{TooDeep}
use Rattle.reader.specs.Faults.{Answer, ◌>>=◌, refuse}
use Rattle.reader.specs.declared.token.Tag.{Tag}
use Rattle.reader.specs.declared.token.Tag.TheVariants as tags
use Rattle.grammar.specs.Trees.{Name, Exp, Stm, Block, Blocks, Param, Proc}
use Rattle.grammar.specs.Parsers.{Tokens, Parser, here, eat, a_name, a_number}
use Rattle.grammar.specs.Parsing.{
  Signs,
  products,
  sums,
  lesses,
  equals,
  level,
  negated,
  atom,
  an_expression,
  in_parens,
  arguments,
  more_blocks,
  a_par,
  an_if,
  a_while,
  a_try,
  a_take,
  a_block,
  named,
  a_set,
  a_call,
  statement,
  statements,
  block,
  a_param,
  more_params,
  parameters,
  a_proc,
  procedures,
}

-- an opening bracket, where so many may still be opened
unfoldable pub opened : ℕ → List ℕ → Tokens → Answer Tokens
opened zero s ts = eat s ts >>= (λ r. refuse TooDeep (here ts).at)
opened (suc room) s ts = eat s ts

-- a name or a number, as a tag says
abbrev pub word_at : Tag → Parser Name
word_at tags.Number = a_number
word_at t = a_name

-- a name and `;`
unfoldable pub ended_name : Parser Name
ended_name ts = a_name ts >>= (λ r. eat (codes ";") r.1 >>= (λ t. Ok (r.0, t)))

-- the operators of a rank: 1 is *, 2 is + and -, 3 is <, and 4 is ==
abbrev pub signs_of : ℕ → Signs
signs_of n = cond (n == 1) products (cond (n == 2) sums (cond (n == 3) lesses equals))

unfoldable pub atom_at : ℕ → Parser Exp
atom_at room = atom room

-- an expression whose operators have at most a rank
unfoldable pub level_at : ℕ → ℕ → Parser Exp
level_at room zero = negated (λ w. atom room w)
level_at room (suc n) = level (signs_of (suc n)) (level_at room n)

-- an expression in parentheses
unfoldable pub grouped_at : ℕ → Parser Exp
grouped_at room = in_parens room (λ n. an_expression n)

-- the name of an exception, in parentheses
unfoldable pub caught_at : ℕ → Parser Name
caught_at room = in_parens room (λ n. a_name)

unfoldable pub arguments_at : Parser (List Name)
arguments_at = arguments

-- the arguments of a call, in parentheses
unfoldable pub called_at : ℕ → Parser (List Name)
called_at room = in_parens room (λ n. arguments)

unfoldable pub set_at : ℕ → Name → Parser Stm
set_at room v = a_set room v

unfoldable pub call_at : ℕ → Name → Parser Stm
call_at room v = a_call room v

unfoldable pub named_at : ℕ → Name → Parser Stm
named_at room v = named room v

unfoldable pub block_at : ℕ → Parser Block
block_at room = block room

unfoldable pub statement_at : ℕ → Parser Stm
statement_at room = statement (λ u. block room u) room

-- the second number is more than the number of tokens left
unfoldable pub statements_at : ℕ → ℕ → Parser Block
statements_at room n = statements (statement (λ u. block room u) room) n

unfoldable pub plain_at : ℕ → ℕ → Parser Stm
plain_at room at = a_block (λ u. block room u) at

unfoldable pub if_at : ℕ → ℕ → Parser Stm
if_at room at = an_if (λ u. block room u) room at

unfoldable pub while_at : ℕ → ℕ → Parser Stm
while_at room at = a_while (λ u. block room u) room at

unfoldable pub try_at : ℕ → ℕ → Parser Stm
try_at room at = a_try (λ u. block room u) room at

unfoldable pub take_at : ℕ → ℕ → Parser Stm
take_at room at = a_take (λ u. block room u) at

unfoldable pub par_at : ℕ → ℕ → Parser Stm
par_at room at = a_par (λ u. block room u) at

-- up to so many branches more
unfoldable pub branches_at : ℕ → ℕ → Parser Blocks
branches_at room n = more_blocks (λ u. block room u) n

unfoldable pub param_at : Parser Param
param_at = a_param

unfoldable pub parameters_at : Parser (List Param)
parameters_at = parameters

-- up to so many parameters more
unfoldable pub more_params_at : ℕ → Parser (List Param)
more_params_at = more_params

-- the parameters of a procedure, in parentheses
unfoldable pub listed_at : Parser (List Param)
listed_at = in_parens 16 (λ n. parameters)

unfoldable pub proc_at : Parser Proc
proc_at = a_proc

-- the number is more than the number of tokens left
unfoldable pub procedures_at : ℕ → Parser (List Proc)
procedures_at = procedures
