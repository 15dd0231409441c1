-- Token lines: a public name, a budget, the calls that fail, and the items of the token source,
-- with one blank between. A text is the list of its bytes.
use Rattle.std.specs.Prelude.{ℕ, ◌+◌, ◌-◌, ◌≤◌, ◌≡◌, Bool, false, ◌==◌, ◌&&◌, not, nat_lt, nat_le, List, [], ◌∷◌, length, slice_index, slice_get, take, map, Option, Some, None, IsSome, if◌then◌else◌, ◌⊎◌, ⊤}
use Rattle.std.specs.List.{find}
use Rattle.std.specs.Option.{option_map, option_and_then}
use Rattle.std.specs.Str.{bytes_eq}
use Rattle.lp_repr.specs.declared.values.Loc.{Loc}
use Rattle.lp_repr.specs.declared.values.Loc.TheVariants.{Default, At}
use Rattle.lp_repr.specs.declared.values.TokenValue.{TokenValue}
use Rattle.lp_repr.specs.declared.values.RunItem.{RunItem}
use Rattle.lp_repr.specs.declared.values.RunItem.TheVariants.{Token, Fault}
use Rattle.lp_lines.specs.declared.vocabulary.Form.{Form}
use Rattle.lp_lines.specs.declared.vocabulary.Vocabulary.{Vocabulary}
use Rattle.lp_lines.specs.declared.token_line.TokenLine.{TokenLine}
use Rattle.lp_lines.specs.declared.token_line.LineFault.{LineFault}
use Rattle.lp_lines.specs.declared.token_line.LineFault.TheVariants.{Line, Memory}
use Rattle.lp_lines.specs.Scan.{split_at, split_all, number_of, is_name, is_payload, all_some}

-- a place, or the default where the grammar has no location type
abbrev pub place_of : Vocabulary → ℕ → Loc
place_of v n = if v.located then At n else Default

-- a payload
abbrev pub payload_of : List ℕ → Option (List ℕ)
payload_of text = if is_payload text then Some text else None

-- `p,q`
abbrev pub payloads_of : List ℕ → Option (List (List ℕ))
payloads_of text = all_some (map payload_of (split_all text 44))

-- `1,2`
abbrev pub numbers_of : List ℕ → Option (List ℕ)
numbers_of text = all_some (map number_of (split_all text 44))

-- two numbers, where both are there
abbrev pub both : Option ℕ → Option ℕ → Option (ℕ × ℕ)
both None b = None
both (Some a) b = option_map (λ n. (a, n)) b

-- `a-b`
abbrev pub span_of : List ℕ → Option (ℕ × ℕ)
span_of text = option_and_then (λ p. both (number_of p.0) (number_of p.1)) (split_at text 45)

-- the form of the terminal of a number; none for the error terminal
abbrev pub form_at : Vocabulary → Option ℕ → Option Form
form_at v None = None
form_at v (Some n) = option_and_then (λ form. form) (slice_get v.forms n)

-- a token of a form with these payloads, if it has so many captures
abbrev pub token_of : Option Form → List (List ℕ) → Option TokenValue
token_of None payloads = None
token_of (Some form) payloads =
    if form.captures == length payloads then Some (record { form = form.text; payloads = payloads }) else None

-- a token of a form with payloads that may not be there
abbrev pub token_with : Option Form → Option (List (List ℕ)) → Option TokenValue
token_with form None = None
token_with form (Some payloads) = token_of form payloads

-- what stands before a last `)`
abbrev pub before_closer : List ℕ → Option (List ℕ)
before_closer text =
    if not (length text == 0) && (slice_index text (length text - 1) == 41) then Some (take (length text - 1) text) else None

-- `i` or `i(p,q)`, as it splits at its first `(`
abbrev pub terminal_of : Vocabulary → List ℕ → Option (List ℕ × List ℕ) → Option TokenValue
terminal_of v head None = token_of (form_at v (number_of head)) []
terminal_of v head (Some p) =
    token_with (form_at v (number_of p.0)) (option_and_then payloads_of (before_closer p.1))

-- `?`, `i` or `i(p,q)`
abbrev pub value_of : Vocabulary → List ℕ → Option TokenValue
value_of v head =
    if bytes_eq head (63 ∷ []) then Some (record { form = []; payloads = [] }) else terminal_of v head (split_at head 40)

-- a token with its span, where both are there
abbrev pub spanned : Vocabulary → Option TokenValue → Option (ℕ × ℕ) → Option RunItem
spanned v None span = None
spanned v (Some token) span =
    option_map (λ p. Token (place_of v p.0) token (place_of v p.1)) span

-- `?@a-b`, `i@a-b` or `i(p,q)@a-b`
abbrev pub spanned_of : Vocabulary → List ℕ → Option RunItem
spanned_of v part =
    option_and_then (λ p. spanned v (value_of v p.0) (span_of p.1)) (split_at part 64)

-- a fault of this name
abbrev pub fault_of : List ℕ → Option RunItem
fault_of name = if is_name name then Some (Fault name) else None

-- `!name`, or a token with its span
abbrev pub item_of : Vocabulary → List ℕ → Option RunItem
item_of v [] = None
item_of v (b ∷ bs) = if b == 33 then fault_of bs else spanned_of v (b ∷ bs)

-- a public name
abbrev pub start_of : Vocabulary → List ℕ → Option (List ℕ)
start_of v name = find (λ start. bytes_eq start name) v.starts

-- a number from 1 to 1,000,000
abbrev pub budget_of : List ℕ → Option ℕ
budget_of text =
    option_and_then (λ n. if nat_le 1 n && nat_le n 1000000 then Some n else None) (number_of text)

-- `-` for none, or numbers between commas
abbrev pub failing_of : List ℕ → Option (List ℕ)
failing_of text = if bytes_eq text (45 ∷ []) then Some [] else numbers_of text

-- the items, each of which is one
abbrev pub items_of : Vocabulary → List (List ℕ) → Option (List RunItem)
items_of v parts = all_some (map (item_of v) parts)

-- the parts together, where each is there
abbrev pub together : Option (List ℕ) → Option ℕ → Option (List ℕ) → Option (List RunItem) → Option TokenLine
together (Some start) (Some budget) (Some failing) (Some items) =
    Some (record { start = start; budget = budget; failing = failing; items = items })
together _ _ _ _ = None

-- a line of these parts
abbrev pub line_of_parts : Vocabulary → List (List ℕ) → Option TokenLine
line_of_parts v (start ∷ budget ∷ failing ∷ items) =
    together (start_of v start) (budget_of budget) (failing_of failing) (items_of v items)
line_of_parts v _ = None

-- a token line
abbrev pub line_of : Vocabulary → List ℕ → Option TokenLine
line_of v line = line_of_parts v (split_all line 32)

-- a line in which nothing stands
abbrev pub is_empty_line : Option (List ℕ) → Bool
is_empty_line None = false
is_empty_line (Some line) = length line == 0

-- the lines without a last one in which nothing stands
abbrev pub without_last_empty : List (List ℕ) → List (List ℕ)
without_last_empty lines =
    if is_empty_line (slice_get lines (length lines - 1)) then take (length lines - 1) lines else lines

-- the lines of a text; after its last line feed none begins
abbrev pub lines_of : List ℕ → List (List ℕ)
lines_of text = without_last_empty (split_all text 10)

-- of lines that were read as token lines or as none, those before one of this number, counted
-- from 1, are token lines, and this one is none, or the 65th
pub record IsFirstMisfit {X : Type 0} (read : List (Option X)) (number : ℕ) : Type 0 where
  pub counted : 1 ≤ number
  pub there : number ≤ length read
  pub before : IsSome (all_some (take (number - 1) read))
  pub misfit : (number ≡ 65) ⊎ (slice_get read (number - 1) ≡ Some None)

-- why lines are refused
abbrev pub RefusesLine : {X : Type 0} → List (Option X) → LineFault → Type 0
RefusesLine read (Line number) = IsFirstMisfit read number
RefusesLine read Memory = ⊤
