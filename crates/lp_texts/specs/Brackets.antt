-- The brackets of a text that are open outside its quotes. They are named by their closers, the innermost first.
use Rattle.std.specs.Prelude.{◌≡◌, ℕ, ◌==◌, Bool, ◌||◌, List, [], ◌∷◌, drop, if◌then◌else◌}
use Rattle.lp_tok.specs.Signs.{left_parenthesis, right_parenthesis, left_bracket, right_bracket, left_brace, right_brace}
use Rattle.lp_texts.specs.Quotes.{Piece, Quote, Unended, Single, Nothing, piece}

abbrev pub opens : ℕ → Bool
opens c = (c == left_parenthesis) || ((c == left_bracket) || (c == left_brace))

abbrev pub closes : ℕ → Bool
closes c = (c == right_parenthesis) || ((c == right_bracket) || (c == right_brace))

-- what closes a bracket
abbrev pub closer_of : ℕ → ℕ
closer_of c = if c == left_parenthesis then right_parenthesis else (if c == left_bracket then right_bracket else right_brace)

-- the open brackets behind a byte
abbrev pub open_after : List ℕ → ℕ → List ℕ
open_after brackets c = if opens c then (closer_of c ∷ brackets) else (if closes c then drop 1 brackets else brackets)

-- what follows a piece, and the brackets that are open there; nothing follows a quote without an end
pub data Step : Type 0 where
  Onward : List ℕ → List ℕ → Step
  Stuck : Step

abbrev pub step_over : List ℕ → Piece → Step
step_over brackets (Quote after) = Onward after brackets
step_over brackets Unended = Stuck
step_over brackets (Single c after) = Onward after (open_after brackets c)
step_over brackets Nothing = Stuck

-- pieces of `text`, in front of which the brackets `before` are open, lead up to where `rest` is left, with
-- the brackets `open`. So `rest` stands outside quotes
pub data Leads : List ℕ → List ℕ → List ℕ → List ℕ → Type 0 where
  leads_none : (text before : List ℕ) → Leads text before text before
  leads_one : (text before next inner rest brackets : List ℕ) → step_over before (piece text) ≡ Onward next inner → Leads next inner rest brackets → Leads text before rest brackets

-- the place i of a text stands outside quotes
abbrev pub IsOutside : List ℕ → ℕ → Type 0
IsOutside text i = (brackets : List ℕ) × Leads text [] (drop i text) brackets
