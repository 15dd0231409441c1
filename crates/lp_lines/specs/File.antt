-- A file of a grammar's text and what follows it. A text is the list of its bytes.
use Rattle.std.specs.Prelude.{ℕ, ◌+◌, ◌-◌, ◌<◌, ◌≡◌, Bool, false, ◌==◌, ◌&&◌, ◌||◌, List, [], ◌∷◌, length, slice_index, drop, take, IsTrue, ◌⊎◌}
use Rattle.std.specs.Str.{bytes_eq}

-- the first line of a text is exactly `%%`
abbrev pub is_mark : List ℕ → Bool
is_mark text =
    bytes_eq (take 2 text) (37 ∷ 37 ∷ []) && (length text == 2 || slice_index text 2 == 10)

-- a line begins at a place
abbrev pub begins_line : List ℕ → ℕ → Bool
begins_line file place = place == 0 || slice_index file (place - 1) == 10

-- a line that is exactly `%%` begins at a place
abbrev pub is_mark_at : List ℕ → ℕ → Bool
is_mark_at file place = begins_line file place && is_mark (drop place file)

-- the first such place
pub record IsFirstMark (file : List ℕ) (place : ℕ) : Type 0 where
  pub within : place < length file
  pub mark : IsTrue (is_mark_at file place)
  pub first : (q : ℕ) → q < place → is_mark_at file q ≡ false

-- no line is `%%`
abbrev pub HasNoMark : List ℕ → Type 0
HasNoMark file = (q : ℕ) → q < length file → is_mark_at file q ≡ false

-- the text before the first line that is `%%`, and what follows that line; the whole and nothing
-- where no line is
abbrev pub IsCutFile : List ℕ → List ℕ → List ℕ → Type 0
IsCutFile file text tail =
    ((place : ℕ) × IsFirstMark file place × (text ≡ take place file) × (tail ≡ drop (place + 3) file))
    ⊎ (HasNoMark file × (text ≡ file) × (tail ≡ []))
