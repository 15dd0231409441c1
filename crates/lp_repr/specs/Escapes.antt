-- Texts as literals.
use Rattle.std.specs.Prelude.{ℕ, false, List, [], ◌∷◌, ◌++◌, codes, ◌==◌, ◌||◌, nat_lt, if◌then◌else◌, encode_utf8}
use Rattle.std.specs.List.{flat_map}
use Rattle.std.specs.Str.{chars}
use Rattle.std.specs.Fmt.{digits}

-- the letter after `\` that stands for a character, 0 where there is none
abbrev pub escape_letter : ℕ → ℕ
escape_letter c = if c == 34 then 34 else (if c == 92 then 92 else (if c == 10 then 110 else (if c == 13 then 114 else (if c == 9 then 116 else (if c == 0 then 48 else 0)))))

-- an ASCII control by its code in hexadecimal, and any other character as it is
abbrev pub plain_character : ℕ → List ℕ
plain_character c = if nat_lt c 32 || (c == 127) then 92 ∷ 117 ∷ 123 ∷ (digits 16 false c ++ 125 ∷ []) else encode_utf8 c

-- a character between the quotes of a literal
abbrev pub escaped_character : ℕ → List ℕ
escaped_character c = if escape_letter c == 0 then plain_character c else 92 ∷ escape_letter c ∷ []

-- a text as a literal
abbrev pub escaped_text : List ℕ → List ℕ
escaped_text text = 34 ∷ (flat_map escaped_character (chars text) ++ 34 ∷ [])
