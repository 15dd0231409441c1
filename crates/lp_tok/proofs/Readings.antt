-- Steps of the tokenizer, and that a text has one list of tokens.
use Rattle.std.proofs.Common.{◌≡◌, ℕ, ◌-◌, ◌<◌, ◌≤◌, List, [], ◌∷◌, refl, sym, ap, ◌∙◌, subst, length, arith, Ok, Err, IsUtf8}
use Rattle.std.specs.Str.{chars}
use Rattle.std.proofs.lemmas.Str.{chars-nil, encodes-chars}
use Rattle.lp_tok.specs.declared.rest.Rest.{Rest}
use Rattle.lp_tok.specs.declared.tok.ErrorCode.{ErrorCode}
use Rattle.lp_tok.specs.declared.piece.Texted.TheVariants.{ShebangAttribute}
use Rattle.lp_tok.specs.declared.piece.Texted.{Texted}
use Rattle.lp_tok.specs.declared.tokenizer.Reading.{Reading}
use Rattle.lp_tok.specs.declared.tokenizer.Reading.TheVariants as reading
use Rattle.lp_tok.specs.Left.{left, size, Follows}
use Rattle.lp_tok.specs.Token.{Token, Text, Item}
use Rattle.lp_tok.specs.Cut.{StopsAt}
use Rattle.lp_tok.specs.Pieces.{Gap, Whole, Attribute, Cut, Nothing, text_between}
use Rattle.lp_tok.specs.WordPieces.{first_piece}
use Rattle.lp_tok.specs.Tokens.{place, AreTokens, tokens_none, tokens_gap, tokens_whole, tokens_attribute, tokens_cut, tokens_fault, tokens_breaks, tokens_unclosed}
use Rattle.lp_tok.specs.Reads.{IsReadFrom}
use Rattle.lp_tok.proofs.Lefts.{follows_follows}

-- only gaps stand between two places
pub record PassesGaps (from start : Rest) : Type 0 where
  pub tokens : (end : ℕ) (items : List Item) → AreTokens end (left start) items → AreTokens end (left from) items
  pub follows : Follows from start
  pub shorter : size start ≤ size from

-- one gap more
pub gaps_more : (from start after : Rest) → PassesGaps from start → Gap (left after) ≡ first_piece (left start) → Follows start after → size after < size start → PassesGaps from after
gaps_more from start after passes gap follows shorter = record {
  tokens = λ end items rest. passes.tokens end items (tokens_gap (left start) (left after) items (sym gap) rest);
  follows = follows_follows from start after passes.follows follows;
  shorter = omega (arith, passes.shorter);
}

-- what is read after gaps is read from before them
pub read_past_gaps : (from start : Rest) (r : Reading) → PassesGaps from start → IsReadFrom start r → IsReadFrom from r
read_past_gaps from start (reading.Token at token stop after) passes read = (
  λ end items rest. passes.tokens end _ (read.0 end items rest),
  follows_follows from start at passes.follows read.1,
  follows_follows from start stop passes.follows read.2,
  follows_follows from start after passes.follows read.3,
  omega (arith, passes.shorter, read.4),
  read.5,
  read.6,
  read.7,
)
read_past_gaps from start (reading.Broken code at) passes read = (λ end. passes.tokens end _ (read.0 end), follows_follows from start at passes.follows read.1, omega (arith, passes.shorter, read.2))
read_past_gaps from start reading.End passes read = λ end. passes.tokens end _ (read end)

-- a token whose text is known
pub whole_tokens : (cs after : List ℕ) (token given : Token) (end : ℕ) (items : List Item) → Whole token after ≡ first_piece cs → given ≡ token → AreTokens end after items → AreTokens end cs (Ok (place end cs, given, place end after) ∷ items)
whole_tokens cs after token given end items piece same rest = subst (λ t. AreTokens end cs (Ok (place end cs, t, place end after) ∷ items)) (sym same) (tokens_whole cs after token items (sym piece) rest)

pub attribute_tokens : (cs stop after : List ℕ) (given : Token) (end : ℕ) (items : List Item) → Attribute stop after ≡ first_piece cs → given ≡ Text ShebangAttribute (text_between cs stop) → AreTokens end after items → AreTokens end cs (Ok (place end cs, given, place end stop) ∷ items)
attribute_tokens cs stop after given end items piece same rest = subst (λ t. AreTokens end cs (Ok (place end cs, t, place end stop) ∷ items)) (sym same) (tokens_attribute cs stop after items (sym piece) rest)

pub cut_tokens : (cs code after : List ℕ) (kind : Texted) (given : Token) (end : ℕ) (items : List Item) → first_piece cs ≡ Cut kind code → StopsAt code after → given ≡ Text kind (text_between code after) → AreTokens end after items → AreTokens end cs (Ok (place end cs, given, place end after) ∷ items)
cut_tokens cs code after kind given end items piece stops same rest = subst (λ t. AreTokens end cs (Ok (place end cs, t, place end after) ∷ items)) (sym same) (tokens_cut cs code after kind items piece stops rest)

-- the byte at which a text begins that ends at the byte `end`
pub place_is : (end : ℕ) (t : List ℕ) → IsUtf8 t → end - length t ≡ place end (chars t)
place_is end t utf8 = ap (λ bs. end - length bs) (sym (encodes-chars t utf8))

-- nothing is left of the empty text
pub nothing_left : first_piece (chars []) ≡ Nothing
unfolding first_piece
nothing_left = ap first_piece chars-nil

pub no_tokens : (end : ℕ) (cs : List ℕ) (items : List Item) → first_piece cs ≡ Nothing → AreTokens end cs items → items ≡ []
no_tokens end _ _ none (tokens_none cs e) = refl
no_tokens end _ _ none (tokens_gap cs rest items e more) = absurd cc
no_tokens end _ _ none (tokens_whole cs rest token items e more) = absurd cc
no_tokens end _ _ none (tokens_attribute cs stop rest items e more) = absurd cc
no_tokens end _ _ none (tokens_cut cs code rest kind items e stops more) = absurd cc
no_tokens end _ _ none (tokens_fault cs at code e) = absurd cc
no_tokens end _ _ none (tokens_breaks cs code at kind error e breaks) = absurd cc
no_tokens end _ _ none (tokens_unclosed cs code kind e unclosed) = absurd cc

-- what a token or an error read says of the text itself
pub next_token : (end : ℕ) (cs start stop after cs' start' stop' after' : List ℕ) (token : Token) (lo hi : ℕ) (items : List Item) → cs ≡ cs' → start ≡ start' → stop ≡ stop' → after ≡ after' → lo ≡ place end start' → hi ≡ place end stop' → ((more : List Item) → AreTokens end after more → AreTokens end cs (Ok (place end start, token, place end stop) ∷ more)) → AreTokens end after' items → AreTokens end cs' (Ok (lo, token, hi) ∷ items)
next_token end cs start stop after cs' start' stop' after' token lo hi items e f k g p q step rest =
    subst (λ x. AreTokens end x (Ok (lo, token, hi) ∷ items)) e
    (subst (λ x. AreTokens end cs (Ok (x, token, hi) ∷ items)) (ap (place end) f ∙ sym p)
    (subst (λ x. AreTokens end cs (Ok (place end start, token, x) ∷ items)) (ap (place end) k ∙ sym q)
    (step items (subst (λ x. AreTokens end x items) (sym g) rest))))

pub next_error : (end : ℕ) (cs at cs' at' : List ℕ) (code : ErrorCode) (location : ℕ) (items : List Item) → cs ≡ cs' → at ≡ at' → location ≡ place end at' → AreTokens end cs (Err (record { location = place end at; code = code }) ∷ []) → items ≡ [] → AreTokens end cs' (Err (record { location = location; code = code }) ∷ items)
next_error end cs at cs' at' code location items e f p read none =
    subst (λ more. AreTokens end cs' (Err (record { location = location; code = code }) ∷ more)) (sym none)
    (subst (λ x. AreTokens end x (Err (record { location = location; code = code }) ∷ [])) e
    (subst (λ x. AreTokens end cs (Err (record { location = x; code = code }) ∷ [])) (ap (place end) f ∙ sym p) read))
