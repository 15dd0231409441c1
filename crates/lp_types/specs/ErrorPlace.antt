-- Where an error of reading is.
use Rattle.std.specs.Prelude.{ℕ}
use Rattle.lp_repr.specs.declared.values.ParseError.{ParseError}
use Rattle.lp_repr.specs.declared.values.ParseError.TheVariants.{InvalidToken, UnrecognizedEof, UnrecognizedToken, ExtraToken, User}
use Rattle.lp_tok.specs.declared.tok.Tok.{Tok}
use Rattle.lp_tok.specs.declared.tok.Error.{Error}

-- where the error is
abbrev pub error_place : ParseError ℕ Tok Error → ℕ
error_place (InvalidToken location) = location
error_place (UnrecognizedEof location expected) = location
error_place (UnrecognizedToken token expected) = token.0
error_place (ExtraToken token) = token.0
error_place (User error) = error.location
