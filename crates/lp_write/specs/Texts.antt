-- The texts that values are shown as, texts of lists, and names.
use Rattle.std.specs.Prelude.{◌≡◌, ℕ, false, ◌==◌, if◌then◌else◌, List, [], ◌∷◌, Option, Some, IfSome}
use Rattle.std.specs.List.{AllZip, flat_map}
use Rattle.std.specs.Char.{is_ascii_alphanumeric}
use Rattle.std.specs.Str.{chars}
use Rattle.std.specs.Fmt.{digits, ◌++?◌}

-- a text that a value may be shown as: the stated one, or any where none is stated
abbrev pub IsShownAs : Option (List ℕ) → List ℕ → Type 0
IsShownAs stated text = IfSome stated (λ t. text ≡ t)

-- texts that values may be shown as, one for each
abbrev pub AreShownAs : {X : Type 0} → (X → Option (List ℕ)) → List X → List (List ℕ) → Type 0
AreShownAs output values texts = AllZip (λ x text. IsShownAs (output x) text) values texts

-- the stated texts, each after this text, if each is stated
abbrev pub after_each : List ℕ → List (Option (List ℕ)) → Option (List ℕ)
after_each text [] = Some []
after_each text (o ∷ os) = Some text ++? (o ++? after_each text os)

-- the stated texts with this text between each two, if each is stated
abbrev pub between : List ℕ → List (Option (List ℕ)) → Option (List ℕ)
between text [] = Some []
between text (o ∷ os) = o ++? after_each text os

-- a character in an identifier: an ASCII letter or digit as it is, `_` twice, and any other as `_`
-- and its code in hexadecimal
abbrev pub name_character : ℕ → List ℕ
name_character c =
    if is_ascii_alphanumeric c then c ∷ [] else (if c == 95 then 95 ∷ 95 ∷ [] else 95 ∷ digits 16 false c)

-- a text as part of an identifier
abbrev pub name_text : List ℕ → List ℕ
name_text text = flat_map name_character (chars text)
