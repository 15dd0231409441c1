-- Where words, strings, raw strings and comments end. Each definition takes the characters that are
-- left and gives those that follow.
use Rattle.std.specs.Prelude.{ℕ, ◌+◌, ◌-◌, ◌==◌, Bool, ◌&&◌, ◌||◌, List, [], ◌∷◌, Option, Some, None, zero, suc, if◌then◌else◌}
use Rattle.std.specs.List.{list_any}
use Rattle.unicode_ident.specs.Ident.{is_xid_start, is_xid_continue}
use Rattle.lp_tok.specs.Signs.{line_feed, quote, hash, star, slash, left_bracket, backslash, right_bracket, underscore}

-- a word begins with an XID start (Unicode Standard Annex 31) or `_`
abbrev pub starts_word : ℕ → Bool
starts_word c = is_xid_start c || (c == underscore)

-- and goes on with an XID continue or `_`
abbrev pub continues_word : ℕ → Bool
continues_word c = is_xid_continue c || (c == underscore)

-- what follows the characters of a word
abbrev pub after_word : List ℕ → List ℕ
after_word [] = []
after_word (c ∷ cs) = if continues_word c then after_word cs else (c ∷ cs)

-- what is left from the next c on, or nothing
abbrev pub from_char : ℕ → List ℕ → List ℕ
from_char c [] = []
from_char c (d ∷ cs) = if d == c then (d ∷ cs) else from_char c cs

-- what is left from the next quote q on that no `\` escapes, or nothing
abbrev pub from_unescaped : ℕ → List ℕ → List ℕ
from_unescaped q [] = []
from_unescaped q (c ∷ []) = if c == q then (c ∷ []) else []
from_unescaped q (c ∷ d ∷ cs) =
    if c == q then (c ∷ d ∷ cs)
    else (if c == backslash then from_unescaped q cs
    else from_unescaped q (d ∷ cs))

-- what follows one character, if there is one
abbrev pub past_any : List ℕ → List ℕ
past_any [] = []
past_any (c ∷ cs) = cs

-- what follows c, where c comes first
abbrev pub past : ℕ → List ℕ → Option (List ℕ)
past c [] = None
past c (d ∷ cs) = if d == c then Some cs else None

-- how many hashes come first
abbrev pub hashes : List ℕ → ℕ
hashes [] = 0
hashes (c ∷ cs) = if c == hash then hashes cs + 1 else 0

-- what follows the hashes that come first
abbrev pub after_hashes : List ℕ → List ℕ
after_hashes [] = []
after_hashes (c ∷ cs) = if c == hash then after_hashes cs else (c ∷ cs)

-- what follows n hashes, where they come first
abbrev pub past_hashes : ℕ → List ℕ → Option (List ℕ)
past_hashes zero cs = Some cs
past_hashes (suc n) [] = None
past_hashes (suc n) (c ∷ cs) = if c == hash then past_hashes n cs else None

-- the end of a raw string: what is left from its closing quote on, and what follows its hashes
pub record RawEnd : Type 0 where
  pub from_quote : List ℕ
  pub after : List ℕ

-- the first of two ends, where it is one
abbrev pub end_here : Option (List ℕ) → List ℕ → Option RawEnd → Option RawEnd
end_here None here later = later
end_here (Some after) here later = Some (record { from_quote = here; after = after })

-- the next quote that n hashes follow
abbrev pub raw_end : ℕ → List ℕ → Option RawEnd
raw_end n [] = None
raw_end n (c ∷ cs) = if c == quote then end_here (past_hashes n cs) (c ∷ cs) (raw_end n cs) else raw_end n cs

-- what follows the end of a block comment that stands inside n others; `/*` and `*/` are taken left
-- to right and share no character
abbrev pub after_comment : ℕ → List ℕ → Option (List ℕ)
after_comment n [] = None
after_comment n (c ∷ []) = None
after_comment n (c ∷ d ∷ cs) =
    if (c == slash) && (d == star) then after_comment (n + 1) cs
    else (if (c == star) && (d == slash) then (if n == 0 then Some cs else after_comment (n - 1) cs)
    else after_comment n (d ∷ cs))

-- where a place in an attribute stands: in no string, in a string, or after a `\` in a string
pub data Within : Type 0 where
  NoString : Within
  String : Within
  Escape : Within

-- what follows the `]` of an attribute that stands inside n other brackets: it ends on its line, but
-- for line feeds in its strings
abbrev pub after_attribute : Within → ℕ → List ℕ → Option (List ℕ)
after_attribute w n [] = None
after_attribute Escape n (c ∷ cs) = after_attribute String n cs
after_attribute String n (c ∷ cs) =
    if c == quote then after_attribute NoString n cs
    else (if c == backslash then after_attribute Escape n cs
    else after_attribute String n cs)
after_attribute NoString n (c ∷ cs) =
    if c == quote then after_attribute String n cs
    else (if c == left_bracket then after_attribute NoString (n + 1) cs
    else (if c == right_bracket then (if n == 0 then Some cs else after_attribute NoString (n - 1) cs)
    else (if c == line_feed then None
    else after_attribute NoString n cs)))

-- whether a `]` is among them
abbrev pub has_closer : List ℕ → Bool
has_closer cs = list_any (λ c. c == right_bracket) cs
