-- What the code's tokens stand for.
use Rattle.std.specs.Prelude.{ℕ, List, [], ◌∷◌, take, drop, codes}
use Rattle.reader.specs.declared.token.Token.{Token}
use Rattle.reader.specs.declared.token.Tag.{Tag}
use Rattle.reader.specs.declared.token.Tag.TheVariants.{
  Name,
  Number,
  OpenParen,
  CloseParen,
  OpenBrace,
  CloseBrace,
  Comma,
  Semicolon,
  Ampersand,
  Assign,
  Plus,
  Minus,
  Star,
  Less,
  Equals,
  Var,
  Next,
  Know,
  Take,
  If,
  Else,
  While,
  Par,
  Try,
  Catch,
  Throw,
  Proc,
  Main,
  End,
}
use Rattle.reader.specs.Tokens.{Lexeme, Class, name, number, fixed, finish}

-- a part of a text
abbrev pub part : List ℕ → ℕ → ℕ → List ℕ
part text at len = take len (drop at text)

abbrev pub class_of : Tag → Class
class_of Name = name
class_of Number = number
class_of OpenParen = fixed
class_of CloseParen = fixed
class_of OpenBrace = fixed
class_of CloseBrace = fixed
class_of Comma = fixed
class_of Semicolon = fixed
class_of Ampersand = fixed
class_of Assign = fixed
class_of Plus = fixed
class_of Minus = fixed
class_of Star = fixed
class_of Less = fixed
class_of Equals = fixed
class_of Var = fixed
class_of Next = fixed
class_of Know = fixed
class_of Take = fixed
class_of If = fixed
class_of Else = fixed
class_of While = fixed
class_of Par = fixed
class_of Try = fixed
class_of Catch = fixed
class_of Throw = fixed
class_of Proc = fixed
class_of Main = fixed
class_of End = finish

-- what a sign or a reserved word is written as; a name and a number are written as their part of the text
abbrev pub spelled : List ℕ → Tag → List ℕ
spelled w Name = w
spelled w Number = w
spelled w OpenParen = codes "("
spelled w CloseParen = codes ")"
spelled w OpenBrace = codes "{"
spelled w CloseBrace = codes "}"
spelled w Comma = codes ","
spelled w Semicolon = codes ";"
spelled w Ampersand = codes "&"
spelled w Assign = codes "="
spelled w Plus = codes "+"
spelled w Minus = codes "-"
spelled w Star = codes "*"
spelled w Less = codes "<"
spelled w Equals = codes "=="
spelled w Var = codes "var"
spelled w Next = codes "next"
spelled w Know = codes "know"
spelled w Take = codes "take"
spelled w If = codes "if"
spelled w Else = codes "else"
spelled w While = codes "while"
spelled w Par = codes "par"
spelled w Try = codes "try"
spelled w Catch = codes "catch"
spelled w Throw = codes "throw"
spelled w Proc = codes "proc"
spelled w Main = codes "main"
spelled w End = []

abbrev pub lexeme_of : List ℕ → Token → Lexeme
lexeme_of text t = record { class = class_of t.tag; text = spelled (part text t.at t.len) t.tag; at = t.at }

abbrev pub lexemes : List ℕ → List Token → List Lexeme
lexemes text [] = []
lexemes text (t ∷ ts) = lexeme_of text t ∷ lexemes text ts
