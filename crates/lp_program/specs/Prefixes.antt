-- The prefix that a text shows: in the first line that counts and renames the crate `lalrpop_util`, uses being passed over.
use Rattle.std.specs.Prelude.{◌≡◌, ℕ, true, false, nat_eq, List, ◌++◌, codes}
use Rattle.std.specs.List.{starts_with}
use Rattle.std.specs.Str.{IsUtf8}
use Rattle.lp_program.specs.CodeReading.{IsUse}
use Rattle.lp_program.specs.Reads.{TakesLine, is_prefix}

-- how such a line begins
abbrev pub renaming : List ℕ
renaming = codes "extern crate lalrpop_util as "

-- and what stands behind that, under a prefix
abbrev pub renamed : List ℕ → List ℕ
renamed prefix = prefix ++ codes "lalrpop_util;"

-- it is the next line; or that is a use, or another line, and it comes behind it
pub data ShowsPrefix (prefix : List ℕ) : List ℕ → Type 0 where
  shown : (text rest : List ℕ) → TakesLine (renaming ++ renamed prefix) text rest → is_prefix prefix ≡ true → ShowsPrefix prefix text
  behind_use : (text used rest : List ℕ) → IsUse text used rest → IsUtf8 rest → ShowsPrefix prefix rest → ShowsPrefix prefix text
  behind_line : (text line rest : List ℕ) → TakesLine line text rest → starts_with nat_eq line (codes "use ") ≡ false → starts_with nat_eq line renaming ≡ false →
      ShowsPrefix prefix rest → ShowsPrefix prefix text
