-- The tokens of a text, as a relation between the text and their list.
use Rattle.std.specs.Prelude.{◌≡◌, ℕ, ◌+◌, ◌-◌, List, [], ◌∷◌, length, Ok, Err, encode_utf8_all, Option, Some, None}
use Rattle.std.specs.Str.{chars}
use Rattle.lp_tok.specs.declared.tok.Error.{Error}
use Rattle.lp_tok.specs.declared.tok.ErrorCode.{ErrorCode}
use Rattle.lp_tok.specs.declared.tok.ErrorCode.TheVariants.{UnterminatedCode}
use Rattle.lp_tok.specs.declared.piece.Texted.{Texted}
use Rattle.lp_tok.specs.declared.piece.Texted.TheVariants.{ShebangAttribute}
use Rattle.lp_tok.specs.Token.{Token, Text, Item}
use Rattle.lp_tok.specs.Cut.{StopsAt, BreaksAt, IsUnclosed}
use Rattle.lp_tok.specs.Pieces.{Gap, Whole, Attribute, Cut, Fault, Nothing, text_between}
use Rattle.lp_tok.specs.WordPieces.{first_piece}
use Rattle.lp_tok.specs.Spans.{InOrder}

-- the byte at which what is left begins, in a text that ends at the byte `end`
abbrev pub place : ℕ → List ℕ → ℕ
place end cs = end - length (encode_utf8_all cs)

-- the tokens of what is left, in a text that ends at the byte `end`, and at most one error, the last:
-- gaps are passed, and a token that ends with its cut takes the text up to where that stops
pub data AreTokens (end : ℕ) : List ℕ → List Item → Type 0 where
  tokens_none : (cs : List ℕ) → first_piece cs ≡ Nothing → AreTokens end cs []
  tokens_gap : (cs rest : List ℕ) (items : List Item) → first_piece cs ≡ Gap rest → AreTokens end rest items → AreTokens end cs items
  tokens_whole : (cs rest : List ℕ) (token : Token) (items : List Item) → first_piece cs ≡ Whole token rest → AreTokens end rest items → AreTokens end cs (Ok (place end cs, token, place end rest) ∷ items)
  tokens_attribute : (cs stop rest : List ℕ) (items : List Item) → first_piece cs ≡ Attribute stop rest → AreTokens end rest items → AreTokens end cs (Ok (place end cs, Text ShebangAttribute (text_between cs stop), place end stop) ∷ items)
  tokens_cut : (cs code rest : List ℕ) (kind : Texted) (items : List Item) → first_piece cs ≡ Cut kind code → StopsAt code rest → AreTokens end rest items → AreTokens end cs (Ok (place end cs, Text kind (text_between code rest), place end rest) ∷ items)
  tokens_fault : (cs at : List ℕ) (code : ErrorCode) → first_piece cs ≡ Fault code at → AreTokens end cs (Err (record { location = place end at; code = code }) ∷ [])
  tokens_breaks : (cs code at : List ℕ) (kind : Texted) (error : ErrorCode) → first_piece cs ≡ Cut kind code → BreaksAt code error at → AreTokens end cs (Err (record { location = place end at; code = error }) ∷ [])
  tokens_unclosed : (cs code : List ℕ) (kind : Texted) → first_piece cs ≡ Cut kind code → IsUnclosed code → AreTokens end cs (Err (record { location = place end cs; code = UnterminatedCode }) ∷ [])

-- the tokens of a text, whose places are moved up by `shift`
abbrev pub AreTokensOf : List ℕ → ℕ → List Item → Type 0
AreTokensOf text shift items = AreTokens (length text + shift) (chars text) items

-- the error of a list of items, where there is one
abbrev pub error_among : Option Error → List Item → Option Error
error_among known [] = known
error_among known (Ok token ∷ items) = error_among known items
error_among known (Err e ∷ items) = error_among (Some e) items

-- a text has exactly one list of tokens, and this is its error; the spans are in order, and each text
-- stands inside its span
pub record HasOneList (text : List ℕ) (shift : ℕ) (error : Option Error) : Type 0 where
  pub items : List Item
  pub fit : AreTokensOf text shift items
  pub no_other : (others : List Item) → AreTokensOf text shift others → others ≡ items
  pub error_is : error ≡ error_among None items
  pub in_order : InOrder text shift shift items
