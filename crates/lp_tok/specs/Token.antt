-- Tokens as contracts see them: texts are compared by their bytes.
use Rattle.std.specs.Prelude.{ℕ, List, Result, Ok, Err}
use Rattle.lp_tok.specs.declared.tok.Tok.{Tok}
use Rattle.lp_tok.specs.declared.tok.Tok.TheVariants as tok
use Rattle.lp_tok.specs.declared.tok.Error.{Error}
use Rattle.lp_tok.specs.declared.piece.Texted.{Texted}
use Rattle.lp_tok.specs.declared.piece.Texted.TheVariants.{Use, Escape, Id, MacroId, Lifetime, StringLiteral, CharLiteral, RegexLiteral, EqualsGreaterThanCode, EqualsGreaterThanQuestionCode, ShebangAttribute}

-- a token that has no text, or one of the kinds that have, with its text
pub data Token : Type 0 where
  Symbol : Tok → Token
  Text : Texted → List ℕ → Token

-- a token that has no text
abbrev pub IsSymbol : Token → Type 0
IsSymbol (Symbol token) = Unit {0}
IsSymbol (Text kind text) = ⊥

-- a token, with its text's bytes
abbrev pub token_of : Tok → Token
token_of (tok.Use t) = Text Use t.now
token_of (tok.Escape t) = Text Escape t.now
token_of (tok.Id t) = Text Id t.now
token_of (tok.MacroId t) = Text MacroId t.now
token_of (tok.Lifetime t) = Text Lifetime t.now
token_of (tok.StringLiteral t) = Text StringLiteral t.now
token_of (tok.CharLiteral t) = Text CharLiteral t.now
token_of (tok.RegexLiteral t) = Text RegexLiteral t.now
token_of (tok.EqualsGreaterThanCode t) = Text EqualsGreaterThanCode t.now
token_of (tok.EqualsGreaterThanQuestionCode t) = Text EqualsGreaterThanQuestionCode t.now
token_of (tok.ShebangAttribute t) = Text ShebangAttribute t.now
token_of t = Symbol t

-- a token between the byte at which it begins and the byte after it, or an error
abbrev pub Item : Type 0
Item = Result (ℕ × Token × ℕ) Error

-- what the tokenizer answers, with the bytes of its texts
abbrev pub item_of : Result (ℕ × Tok × ℕ) Error → Item
item_of (Ok span) = Ok (span.0, token_of span.1, span.2)
item_of (Err e) = Err e
