-- Lines, the indent at which each stands, and their bytes.
use Rattle.std.specs.Prelude.{ℕ, ◌+◌, ◌-◌, ◌^◌, Bool, if◌then◌else◌, ◌||◌, ◌&&◌, ◌==◌, nat_lt, List, [], ◌∷◌, ◌++◌, length, replicate, slice_index}

-- a line whose first and last brackets move the indent, or one that leaves the indent alone
pub data Line : Type 0 where
  line : List ℕ → Line
  verbatim : List ℕ → Line

-- `}`, `]` or `)`
abbrev pub closes : ℕ → Bool
closes c = c == 125 || c == 93 || c == 41

-- `{`, `[` or `(`
abbrev pub opens : ℕ → Bool
opens c = c == 123 || c == 91 || c == 40

-- the indent of a text, which a closing bracket at its front lowers by 4, down to 0
abbrev pub lowered : ℕ → List ℕ → ℕ
lowered indent text = if closes (slice_index text 0) then indent - 4 else indent

-- the indent after a text, which an opening bracket at its end raises by 4, if the sum fits 64 bits
abbrev pub raised : ℕ → List ℕ → ℕ
raised indent text =
    if opens (slice_index text (length text - 1)) && nat_lt (indent + 4) (2 ^ 64) then indent + 4 else indent

-- the indent after a line
abbrev pub indent_after : ℕ → Line → ℕ
indent_after indent (line text) = raised (lowered indent text) text
indent_after indent (verbatim text) = indent

-- blanks up to the indent, if blanks are printed
abbrev pub blanks : Bool → ℕ → List ℕ
blanks whitespace indent = if whitespace then replicate indent 32 else []

-- a text at an indent, and a line end
abbrev pub indented : Bool → ℕ → List ℕ → List ℕ
indented whitespace indent text = blanks whitespace indent ++ text ++ 10 ∷ []

-- the bytes of a line; an empty one is a line end alone
abbrev pub line_bytes : Bool → ℕ → Line → List ℕ
line_bytes whitespace indent (line text) =
    if length text == 0 then 10 ∷ [] else indented whitespace (lowered indent text) text
line_bytes whitespace indent (verbatim text) = indented whitespace indent text

-- the bytes of lines, one after another
abbrev pub lines_bytes : Bool → ℕ → List Line → List ℕ
lines_bytes whitespace indent [] = []
lines_bytes whitespace indent (l ∷ lines) =
    line_bytes whitespace indent l ++ lines_bytes whitespace (indent_after indent l) lines

-- the indent after lines
abbrev pub indent_after_all : ℕ → List Line → ℕ
indent_after_all indent [] = indent
indent_after_all indent (l ∷ lines) = indent_after_all (indent_after indent l) lines

-- the bytes of the first line, if there is one
abbrev pub next_bytes : Bool → ℕ → List Line → List ℕ
next_bytes whitespace indent [] = []
next_bytes whitespace indent (l ∷ lines) = line_bytes whitespace indent l
