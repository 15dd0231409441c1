-- Uses and user code, which their cut ends.
use Rattle.std.specs.Prelude.{◌≡◌, ℕ, ◌-◌, Bool, true, ◌||◌, ◌==◌, if◌then◌else◌, nat_eq, List, ◌++◌, length, take, codes}
use Rattle.std.specs.List.{starts_with, ends_with}
use Rattle.std.specs.Str.{chars}
use Rattle.lp_tok.specs.Cut.{StopsAt}
use Rattle.lp_spelling.specs.Counting.{settled}

-- nothing, or a line feed in front
abbrev pub ends_there : List ℕ → Bool
ends_there text = (length text == 0) || starts_with nat_eq text (codes "\n")

-- the next line that counts begins with `use `, and this follows
abbrev pub StartsUse : List ℕ → List ℕ → Type 0
StartsUse left behind = settled left ≡ codes "use " ++ behind

-- the next line that counts begins a use: `use `, a text at whose end its cut stops, `;`, and the end of the line
pub record IsUse (left used rest : List ℕ) : Type 0 where
  pub front : settled left ≡ codes "use " ++ (used ++ (codes ";" ++ rest))
  pub stops : StopsAt (chars (used ++ (codes ";" ++ rest))) (chars (codes ";" ++ rest))
  pub ends : ends_there rest ≡ true

-- a text without a line feed at its end
abbrev pub without_feed : List ℕ → List ℕ
without_feed text = if ends_with nat_eq text (codes "\n") then take (length text - 1) text else text

-- user code stands in front: up to the `}` at which its cut stops, without the line feed before it
pub record IsCode (left code rest : List ℕ) : Type 0 where
  pub whole : List ℕ
  pub front : left ≡ whole ++ rest
  pub stops : StopsAt (chars left) (chars rest)
  pub closes : starts_with nat_eq rest (codes "}") ≡ true
  pub code_is : code ≡ without_feed whole
