-- The span and the message of an error of reading, and what its report may answer.
use Rattle.std.specs.Prelude.{◌≡◌, ℕ, ◌+◌, ◌-◌, ◌^◌, min, ◌&&◌, nat_le, List, [], ◌++◌, length, codes, Option, Some, None, if◌then◌else◌, slice_get, slice_range, encode_utf8}
use Rattle.std.specs.Fn.{Called, Mut}
use Rattle.std.specs.Str.{chars, is_utf8}
use denote.Ref.{Bor}
use Rattle.lp_repr.specs.declared.values.ParseError.{ParseError}
use Rattle.lp_repr.specs.declared.values.ParseError.TheVariants.{InvalidToken, UnrecognizedEof, UnrecognizedToken, ExtraToken, User}
use Rattle.lp_tok.specs.declared.tok.Error.{Error}
use Rattle.lp_tok.specs.declared.tok.ErrorCode.{ErrorCode}
use Rattle.lp_tok.specs.declared.tok.ErrorCode.TheVariants as code
use Rattle.lp_tok.specs.declared.tok.Tok.{Tok}
use Rattle.lp_types.specs.declared.error.Span.{Span}

abbrev pub span_between : ℕ → ℕ → Span
span_between lo hi = record { 0 = lo; 1 = hi }

-- where an error is: at a place, at a token, or at the byte from a place on
abbrev pub span_of : ParseError ℕ Tok Error → Span
span_of (InvalidToken location) = span_between location location
span_of (UnrecognizedEof location expected) = span_between location location
span_of (UnrecognizedToken token expected) = span_between token.0 token.2
span_of (ExtraToken token) = span_between token.0 token.2
span_of (User error) = span_between error.location (min (error.location + 1) (2 ^ 64 - 1))

-- the text from one place to another, which is empty where they are turned, past the end or within a character
abbrev pub text_between : List ℕ → ℕ → ℕ → List ℕ
text_between text lo hi = if nat_le hi (length text) && is_utf8 (slice_range text lo hi) then slice_range text lo hi else []

-- the character at a place: none at the end, past it or within a character
abbrev pub character_at : List ℕ → ℕ → Option ℕ
character_at text location = slice_get (chars (text_between text location (length text))) 0

-- a text behind its front, which ends with a backquote, and a backquote behind it
abbrev pub quoted : List ℕ → List ℕ → List ℕ
quoted front text = front ++ (text ++ codes "`")

abbrev pub end_message : List ℕ
end_message = codes "unexpected end of file"

-- of a character that begins no token, or of the end of the text
abbrev pub invalid_message : Option ℕ → List ℕ
invalid_message None = end_message
invalid_message (Some c) = quoted (codes "invalid character `") (encode_utf8 c)

-- of the errors of the tokenizer and of escapes
abbrev pub code_message : ErrorCode → List ℕ
code_message code.UnrecognizedToken = codes "unrecognized token"
code_message code.UnterminatedEscape = codes "unterminated escape; missing '`'?"
code_message code.UnterminatedAsciiEscape = codes "unterminated ascii escape; missing second digit?"
code_message code.UnrecognizedEscape = codes "unrecognized escape; only \\n, \\r, \\t, \\0, \\\", \\\\, and \\x## are recognized"
code_message code.UnterminatedStringLiteral = codes "unterminated string literal; missing `\"`?"
code_message code.UnterminatedCharacterLiteral = codes "unterminated character literal; missing `'`?"
code_message code.UnterminatedAttribute = codes "unterminated #! attribute; missing `]`?"
code_message code.ExpectedStringLiteral = codes "expected string literal; missing `\"`?"
code_message code.UnterminatedCode = codes "unterminated code block; perhaps a missing `;`, `)`, `]` or `}`?"
code_message code.UnterminatedBlockComment = codes "unterminated block comment; missing `*/`?"

-- what is told of an error of reading this text
abbrev pub message_of : List ℕ → ParseError ℕ Tok Error → List ℕ
message_of text (InvalidToken location) = invalid_message (character_at text location)
message_of text (UnrecognizedEof location expected) = end_message
message_of text (UnrecognizedToken token expected) = quoted (codes "unexpected token: `") (text_between text token.0 token.2)
message_of text (ExtraToken token) = quoted (codes "extra token at end of input: `") (text_between text token.0 token.2)
message_of text (User error) = code_message error.code

-- called on this text, span and message, the reporter may give this answer
pub record MayAnswer {F E : Type 0} (g : Mut F (Bor (List ℕ) × (Span × (Bor (List ℕ) × Unit {0}))) E) (reporter : F) (text : List ℕ) (span : Span) (message : List ℕ) (answer : E) : Type 0 where
  pub input : Bor (List ℕ)
  pub words : Bor (List ℕ)
  pub shows : (input.now ≡ text) × (words.now ≡ message)
  pub left : F
  pub called : Called g reporter (input, (span, (words, tt))) answer left
