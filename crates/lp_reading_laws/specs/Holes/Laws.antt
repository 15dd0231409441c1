-- What the laws say: a printed line reads as exactly its holes, where these are parted.
use Rattle.std.specs.Prelude.{◌≡◌, ◌↔◌, ℕ, true, List, ◌++◌, length, take, codes}
use Rattle.std.specs.Str.{IsUtf8}
use Rattle.lp_form.specs.Templates.{steps_of, holes_of}
use Rattle.lp_form.specs.declared.part.Part.{Part}
use Rattle.lp_texts.specs.Identifiers.{is_identifier}
use Rattle.lp_reading_laws.specs.Holes.Parted.{IsParted}
use Rattle.lp_reading_laws.specs.Holes.Found.{are_words, AreFilled, LinesFound, known_behind, SameLines}

-- under a prefix of word bytes, the lines of every template read as the holes that fill them exactly where these are parted
abbrev pub HolesFound : Type 0
HolesFound = (prefix : List ℕ) (p : Part) (holes : List (List ℕ)) → are_words prefix ≡ true → AreFilled prefix p holes → IsParted prefix p holes ↔ LinesFound prefix (holes_of p) holes 0 (steps_of p)

-- the lines of a part tell all its holes
abbrev pub LinesTellAll : Type 0
LinesTellAll = (p : Part) → known_behind (steps_of p) 0 ≡ length (holes_of p)

-- equal lines have equal holes, where these are parted
abbrev pub EqualHoles : Type 0
EqualHoles = (prefix : List ℕ) (p : Part) (holes others : List (List ℕ)) → are_words prefix ≡ true → AreFilled prefix p holes → AreFilled prefix p others → IsParted prefix p holes → IsParted prefix p others →
    SameLines prefix holes others (steps_of p) → take (length (holes_of p)) holes ≡ take (length (holes_of p)) others

-- a prefix that makes an identifier of `lalrpop_util` has bytes of words alone
abbrev pub PrefixesAreWords : Type 0
PrefixesAreWords = (prefix : List ℕ) → IsUtf8 prefix → is_identifier (prefix ++ codes "lalrpop_util") ≡ true → are_words prefix ≡ true
