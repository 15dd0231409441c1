-- The lines of a text that count: all but empty lines and comments, without the blanks in front.
use Rattle.std.specs.Prelude.{◌≡◌, ℕ, zero, suc, ◌+◌, ◌<◌, ◌==◌, Bool, not, ◌&&◌, ◌||◌, if◌then◌else◌, nat_lt, nat_eq, List, [], ◌∷◌, ◌++◌, length, take, drop, Option, Some, None, codes}
use Rattle.std.specs.List.{count_by, prefix_len, starts_with}
use Rattle.std.specs.Option.{MatchOption}
use Rattle.std.specs.Str.{bytes_eq, trim_start}
use denote.Ref.{Bor}

-- a byte that ends no line
abbrev pub is_text : ℕ → Bool
is_text b = not (b == 10)

-- how many bytes stand before the first line feed, or in the whole text
abbrev pub line_len : List ℕ → ℕ
line_len text = prefix_len is_text text

-- the line in front, and the text behind its line feed
abbrev pub front_line : List ℕ → List ℕ
front_line text = take (line_len text) text

abbrev pub behind_line : List ℕ → List ℕ
behind_line text = drop (line_len text + 1) text

-- how many lines end in a text
abbrev pub feeds : List ℕ → ℕ
feeds text = count_by (λ b. b == 10) text

-- a line that counts for nothing, without its blanks in front: empty, or a comment
abbrev pub is_skipped : List ℕ → Bool
is_skipped line = (length line == 0) || starts_with nat_eq line (codes "//")

-- the text from the next line that counts on, without the blanks in front, where n bounds the lines
unfoldable pub settled_within : ℕ → List ℕ → List ℕ
settled_within zero text = []
settled_within (suc n) [] = []
settled_within (suc n) (b ∷ t) =
    if is_skipped (trim_start (front_line (b ∷ t)))
    then settled_within n (behind_line (b ∷ t))
    else trim_start (front_line (b ∷ t)) ++ drop (line_len (b ∷ t)) (b ∷ t)

-- the text from the next line that counts on, without the blanks in front; nothing where there is none
unfoldable pub settled : List ℕ → List ℕ
settled text = settled_within (length text) text

-- a line as it stands in front of a text; none where the text is empty
abbrev pub IsLineAt : List ℕ → Option (Bor (List ℕ)) → Type 0
IsLineAt rest line = MatchOption line (rest ≡ []) (λ x. (x.now ≡ front_line rest) × (0 < length rest))

-- the text behind the next line that counts, if it is this line
abbrev pub take_line : List ℕ → List ℕ → Option (List ℕ)
take_line line text =
    if nat_lt 0 (length (settled text)) && bytes_eq (front_line (settled text)) line
    then Some (behind_line (settled text))
    else None
