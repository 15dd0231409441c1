-- What is left of a text, as a list of characters.
use Rattle.std.specs.Prelude.{◌≡◌, ℕ, ◌+◌, List, ◌++◌, length}
use Rattle.std.specs.Str.{chars}
use Rattle.lp_tok.specs.declared.rest.Rest.{Rest}

-- the characters that are left
abbrev pub left : Rest → List ℕ
left rest = chars rest.text.now ++ chars rest.behind.now

-- how many bytes are left
abbrev pub size : Rest → ℕ
size rest = length rest.text.now + length rest.behind.now

-- what is left in `to` is an end of what is left in `from`
pub record Follows (from to : Rest) : Type 0 where
  pub read : List ℕ
  pub text : from.text.now ≡ read ++ to.text.now
  pub read_behind : List ℕ
  pub behind : from.behind.now ≡ read_behind ++ to.behind.now

-- `rest` is an end of `text`
pub record EndsIn (text rest : List ℕ) : Type 0 where
  pub front : List ℕ
  pub split : text ≡ front ++ rest
