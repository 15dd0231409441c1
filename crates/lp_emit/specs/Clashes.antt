-- Nonterminals with one escaped name, by the numbers of both.
use Rattle.std.specs.Prelude.{◌≡◌, ℕ, ◌<◌, ◌≤◌, nat_le, if◌then◌else◌, List, length, map, Option, Some, None, slice_get}
use Rattle.lp_repr.specs.Numbering.{nonterminals_of}
use Rattle.lp_repr.specs.declared.repr.Grammar.{Grammar}
use Rattle.lp_write.specs.Texts.{name_text}

-- the text at the second place stands at the first too, which is the lesser
pub record IsRepeat (texts : List (List ℕ)) (first second : ℕ) : Type 0 where
  pub order : first < second
  pub within : second < length texts
  pub same : slice_get texts first ≡ slice_get texts second

-- a pair of numbers is not after another, by the first and then by the second number
pub record IsNotAfter (pair : ℕ × ℕ) (first second : ℕ) : Type 0 where
  pub by_first : pair.0 ≤ first
  pub by_second : pair.0 ≡ first → pair.1 ≤ second

-- the least pair of places with one text, or none where no text stands twice
abbrev pub IsLeastRepeat : List (List ℕ) → Option (ℕ × ℕ) → Type 0
IsLeastRepeat texts None = (first second : ℕ) → ¬ IsRepeat texts first second
IsLeastRepeat texts (Some pair) = IsRepeat texts pair.0 pair.1 × ((first second : ℕ) → IsRepeat texts first second → IsNotAfter pair first second)

-- of a pair so far and one with a greater second number, the lesser
abbrev pub lesser_of : Option (ℕ × ℕ) → ℕ × ℕ → ℕ × ℕ
lesser_of None pair = pair
lesser_of (Some least) pair = if nat_le least.0 pair.0 then least else pair

-- the escaped names of the nonterminals, by number
abbrev pub escaped_names : Grammar → List (List ℕ)
escaped_names g = map (λ n. name_text n.0) (nonterminals_of g)

-- no two nonterminals have one escaped name
abbrev pub HasNoClash : Grammar → Type 0
HasNoClash g = IsLeastRepeat (escaped_names g) None

-- these two nonterminals have one escaped name, and no lesser pair has
abbrev pub IsLeastClash : Grammar → ℕ → ℕ → Type 0
IsLeastClash g first second = IsLeastRepeat (escaped_names g) (Some (first, second))
