-- The elements of lists that stand in one text.
use Rattle.std.specs.Prelude.{ℕ, zero, suc, ◌-◌, Bool, false, List, [], ◌∷◌, length, take, drop, Option, Some, None, codes, nat_eq, if◌then◌else◌}
use Rattle.std.specs.List.{starts_with}
use Rattle.lp_texts.specs.Quotes.{piece}
use Rattle.lp_texts.specs.Brackets.{Step, Onward, Stuck, step_over}
use Rattle.lp_view.specs.declared.joined.Joined.{Joined}
use Rattle.lp_view.specs.declared.joined.Patterns.{Patterns}

-- at most so many elements of a text, by what stands before its first separator and what stands behind it; the
-- empty text has none
abbrev pub elements_within : (List ℕ → List ℕ) → (List ℕ → List ℕ) → ℕ → List ℕ → List (List ℕ)
elements_within before behind zero s = []
elements_within before behind (suc n) [] = []
elements_within before behind (suc n) (b ∷ bs) = before (b ∷ bs) ∷ elements_within before behind n (behind (b ∷ bs))

-- all of them, where a separator has a byte or more
abbrev pub all_elements : (List ℕ → List ℕ) → (List ℕ → List ℕ) → List ℕ → List (List ℕ)
all_elements before behind s = elements_within before behind (length s) s

-- what stands before the first place of a separator; all, where it stands nowhere
abbrev pub before : List ℕ → List ℕ → List ℕ
before separator [] = []
before separator (b ∷ bs) = if starts_with nat_eq (b ∷ bs) separator then [] else (b ∷ before separator bs)

-- what stands behind it; nothing, where it stands nowhere
abbrev pub behind : List ℕ → List ℕ → List ℕ
behind separator [] = []
behind separator (b ∷ bs) = if starts_with nat_eq (b ∷ bs) separator then drop (length separator) (b ∷ bs) else behind separator bs

-- the elements of a text between the places of a separator
abbrev pub elements : List ℕ → List ℕ → List (List ℕ)
elements separator s = all_elements (before separator) (behind separator) s

-- whether a text begins with a bar, where no bracket is open in front of it
abbrev pub is_bar : List ℕ → List ℕ → Bool
is_bar [] s = starts_with nat_eq s (codes " | ")
is_bar (b ∷ brackets) s = false

abbrev pub bar_after : (List ℕ → List ℕ → Option (List ℕ)) → Step → Option (List ℕ)
bar_after bar (Onward next brackets) = bar brackets next
bar_after bar Stuck = None

-- what is left of a text from its first bar on that stands outside quotes and brackets, within so many pieces; in
-- front of the text these brackets are open
abbrev pub bar_within : ℕ → List ℕ → List ℕ → Option (List ℕ)
bar_within zero brackets s = None
bar_within (suc n) brackets s = if is_bar brackets s then Some s else bar_after (λ inner next. bar_within n inner next) (step_over brackets (piece s))

abbrev pub from_bar : List ℕ → Option (List ℕ)
from_bar s = bar_within (length s) [] s

abbrev pub before_rest : List ℕ → Option (List ℕ) → List ℕ
before_rest s None = s
before_rest s (Some rest) = take (length s - length rest) s

abbrev pub behind_rest : Option (List ℕ) → List ℕ
behind_rest None = []
behind_rest (Some rest) = drop 3 rest

-- what stands before the first bar; all, where there is none
abbrev pub before_bar : List ℕ → List ℕ
before_bar s = before_rest s (from_bar s)

-- what stands behind it; nothing, where there is none
abbrev pub behind_bar : List ℕ → List ℕ
behind_bar s = behind_rest (from_bar s)

-- the patterns of a text between its bars
abbrev pub patterns : List ℕ → List (List ℕ)
patterns s = all_elements before_bar behind_bar s

-- the elements that are left to go over
abbrev pub joined_left : Joined → List (List ℕ)
joined_left j = elements_within (before j.separator.now) (behind j.separator.now) j.left j.rest.now

-- the patterns that are left to go over
abbrev pub patterns_left : Patterns → List (List ℕ)
patterns_left p = elements_within before_bar behind_bar p.left p.rest.now
