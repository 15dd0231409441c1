-- What the tokenizer answers, and what is left to it.
use Rattle.std.specs.Prelude.{◌≡◌, ℕ, ◌<◌, List, [], ◌∷◌, ◌++◌, Ok, Err, Option, MatchOption, Result}
use Rattle.std.specs.Str.{chars}
use Rattle.lp_tok.specs.declared.rest.Rest.{Rest}
use Rattle.lp_tok.specs.declared.tok.Tok.{Tok}
use Rattle.lp_tok.specs.declared.tok.Error.{Error}
use Rattle.lp_tok.specs.declared.unread.Tokenizer.{Tokenizer}
use Rattle.lp_tok.specs.declared.tokenizer.Reading.{Reading}
use Rattle.lp_tok.specs.declared.tokenizer.Reading.TheVariants as reading
use Rattle.lp_tok.specs.Left.{left, size, Follows}
use Rattle.lp_tok.specs.Token.{Token, Symbol, Text, Item, token_of, item_of}
use Rattle.lp_tok.specs.Tokens.{place, AreTokens}
use Rattle.lp_tok.specs.Spans.{InOrder, IsLeftOf, place_of}

-- a token's text, where it has one, stands between two places
abbrev pub TextFollows : Rest → Token → Rest → Type 0
TextFollows start (Symbol token) stop = Unit {0}
TextFollows start (Text kind inside) stop = (front : Rest) × (back : Rest) × Follows start front × (front.text.now ≡ inside ++ back.text.now) × Follows back stop

-- a token or an error comes first among those of what is left
abbrev pub IsReadFrom : Rest → Reading → Type 0
IsReadFrom from (reading.Token start token stop after) =
    ((end : ℕ) (items : List Item) → AreTokens end (left after) items → AreTokens end (left from) (Ok (place end (left start), token_of token, place end (left stop)) ∷ items))
    × Follows from start × Follows from stop × Follows from after × (size after < size from)
    × Follows start stop × Follows stop after × TextFollows start (token_of token) stop
IsReadFrom from (reading.Broken code at) = ((end : ℕ) → AreTokens end (left from) (Err (record { location = place end (left at); code = code }) ∷ [])) × Follows from at × (0 < size from)
IsReadFrom from reading.End = (end : ℕ) → AreTokens end (left from) []

-- the tokens that are left to a tokenizer
abbrev pub TokensLeft : Tokenizer → List Item → Type 0
TokensLeft t items = AreTokens t.end (chars t.rest.now) items

-- an item's span comes before those of the items that are left
abbrev pub KeepsOrder : Tokenizer → Item → Tokenizer → Type 0
KeepsOrder s x t = (text : List ℕ) (shift : ℕ) → IsLeftOf text shift s → IsLeftOf text shift t × ((items : List Item) → TokensLeft t items → InOrder text shift (place_of t) items → InOrder text shift (place_of s) (x ∷ items))

-- a call of `next` gives the first of the tokens that were left, and leaves the others, with spans in
-- order; None where none were left, and then none are
abbrev pub GivesNext : Tokenizer → Option (Result (ℕ × Tok × ℕ) Error) → Tokenizer → Type 0
GivesNext s answer t = MatchOption answer (TokensLeft s [] × TokensLeft t []) (λ x. ((items : List Item) → TokensLeft t items → TokensLeft s (item_of x ∷ items)) × KeepsOrder s (item_of x) t)
