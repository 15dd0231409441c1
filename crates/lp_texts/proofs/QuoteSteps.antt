-- Steps over the bytes of a quote.
use Rattle.std.proofs.Common.{◌≡◌, ℕ, ◌+◌, ◌<◌, ◌≤◌, Bool, true, false, List, [], ◌∷◌, length, drop, get_or, Option, Some, None, refl, sym, ap, ◌∙◌, subst, arith}
use Rattle.std.proofs.lemmas.List.{drop_more, drop_all}
use Rattle.std.proofs.lemmas.Bool.{ne_eqb}
use Rattle.lp_tok.specs.Signs.{quote, apostrophe, backslash}
use Rattle.lp_tok.specs.Scans.{from_char, from_unescaped, past, past_any}
use Rattle.lp_texts.specs.Quotes.{Single, Quote, goes_on, after_character, quote_piece, character_piece, apostrophe_piece, piece}
use Rattle.lp_texts.specs.Places.{EndsAt, IsPieceAt, found_of}

-- what is left from the next unescaped `"` on, where the next character may be escaped
abbrev pub from_escaped : Bool → List ℕ → List ℕ
from_escaped true cs = from_unescaped quote (past_any cs)
from_escaped false cs = from_unescaped quote cs

unescape : (c : ℕ) (cs : List ℕ) → c ≡ backslash → from_escaped false (c ∷ cs) ≡ from_escaped true cs
unescape c [] e = rw e refl
unescape c (d ∷ cs) e = rw e refl

plain : (c : ℕ) (cs : List ℕ) → (c ≡ quote → ⊥) → (c ≡ backslash → ⊥) → from_escaped false (c ∷ cs) ≡ from_escaped false cs
plain c [] no_quote no_backslash = rw (ne_eqb c quote no_quote) refl
plain c (d ∷ cs) no_quote no_backslash = rw (ne_eqb c quote no_quote, ne_eqb c backslash no_backslash) refl

found : (c : ℕ) (cs : List ℕ) → c ≡ quote → past quote (from_escaped false (c ∷ cs)) ≡ Some cs
found c [] e = rw e refl
found c (d ∷ cs) e = rw e refl

pub string_escaped : (text : List ℕ) (i : ℕ) → i < length text → from_escaped true (drop i text) ≡ from_escaped false (drop (i + 1) text)
string_escaped text i lt = ap (from_escaped true) (drop_more text i 0 lt)

pub string_backslash : (text : List ℕ) (i : ℕ) → i < length text → get_or text i 0 ≡ backslash → from_escaped false (drop i text) ≡ from_escaped true (drop (i + 1) text)
string_backslash text i lt e = ap (from_escaped false) (drop_more text i 0 lt) ∙ unescape (get_or text i 0) (drop (i + 1) text) e

pub string_plain : (text : List ℕ) (i : ℕ) → i < length text → (get_or text i 0 ≡ quote → ⊥) → (get_or text i 0 ≡ backslash → ⊥) → from_escaped false (drop i text) ≡ from_escaped false (drop (i + 1) text)
string_plain text i lt no_quote no_backslash = ap (from_escaped false) (drop_more text i 0 lt) ∙ plain (get_or text i 0) (drop (i + 1) text) no_quote no_backslash

pub string_found : (text : List ℕ) (i : ℕ) → i < length text → get_or text i 0 ≡ quote → past quote (from_escaped false (drop i text)) ≡ Some (drop (i + 1) text)
string_found text i lt e = ap (λ x. past quote (from_escaped false x)) (drop_more text i 0 lt) ∙ found (get_or text i 0) (drop (i + 1) text) e

none_escaped : (b : Bool) → past quote (from_escaped b []) ≡ None
none_escaped true = refl
none_escaped false = refl

pub string_none : (text : List ℕ) (i : ℕ) (b : Bool) → length text ≤ i → past quote (from_escaped b (drop i text)) ≡ None
string_none text i b done = ap (λ x. past quote (from_escaped b x)) (drop_all i text done) ∙ none_escaped b

pub closing_plain : (text : List ℕ) (i : ℕ) → i < length text → (get_or text i 0 ≡ apostrophe → ⊥) → from_char apostrophe (drop i text) ≡ from_char apostrophe (drop (i + 1) text)
closing_plain text i lt other = rw (drop_more text i 0 lt, ne_eqb (get_or text i 0) apostrophe other) refl

pub closing_found : (text : List ℕ) (i : ℕ) → i < length text → get_or text i 0 ≡ apostrophe → past apostrophe (from_char apostrophe (drop i text)) ≡ Some (drop (i + 1) text)
closing_found text i lt e = rw (drop_more text i 0 lt, e) refl

pub closing_none : (text : List ℕ) (i : ℕ) → length text ≤ i → past apostrophe (from_char apostrophe (drop i text)) ≡ None
closing_none text i done = ap (λ x. past apostrophe (from_char apostrophe x)) (drop_all i text done)

pub character_more : (text : List ℕ) (i : ℕ) → i < length text → goes_on (get_or text i 0) ≡ true → after_character (drop i text) ≡ after_character (drop (i + 1) text)
character_more text i lt e = rw (drop_more text i 0 lt, e) refl

pub character_found : (text : List ℕ) (i : ℕ) → i < length text → goes_on (get_or text i 0) ≡ false → after_character (drop i text) ≡ drop i text
character_found text i lt e = let split = drop_more text i 0 lt in rw (split, e) refl

-- the loop over a string: past an escaped byte, a `\`, and any other
pub step_escaped : (text : List ℕ) (i : ℕ) (was now : Bool) (all : List ℕ) → i < length text → was ≡ true → now ≡ false → from_escaped was (drop i text) ≡ all → from_escaped now (drop (i + 1) text) ≡ all
step_escaped text i was now all lt a b inv =
    subst (λ x. from_escaped x (drop (i + 1) text) ≡ all) (sym b)
    (sym (string_escaped text i lt) ∙ subst (λ x. from_escaped x (drop i text) ≡ all) a inv)

pub step_backslash : (text : List ℕ) (i : ℕ) (was now : Bool) (all : List ℕ) → i < length text → was ≡ false → now ≡ true → get_or text i 0 ≡ backslash → from_escaped was (drop i text) ≡ all → from_escaped now (drop (i + 1) text) ≡ all
step_backslash text i was now all lt a b e inv =
    subst (λ x. from_escaped x (drop (i + 1) text) ≡ all) (sym b)
    (sym (string_backslash text i lt e) ∙ subst (λ x. from_escaped x (drop i text) ≡ all) a inv)

pub step_plain : (text : List ℕ) (i : ℕ) (was now : Bool) (all : List ℕ) → i < length text → was ≡ false → now ≡ was → (get_or text i 0 ≡ quote → ⊥) → (get_or text i 0 ≡ backslash → ⊥) → from_escaped was (drop i text) ≡ all → from_escaped now (drop (i + 1) text) ≡ all
step_plain text i was now all lt a b no_quote no_backslash inv =
    subst (λ x. from_escaped x (drop (i + 1) text) ≡ all) (sym (b ∙ a))
    (sym (string_plain text i lt no_quote no_backslash) ∙ subst (λ x. from_escaped x (drop i text) ≡ all) a inv)

pub step_found : (text : List ℕ) (i : ℕ) (was : Bool) (all : List ℕ) → i < length text → was ≡ false → get_or text i 0 ≡ quote → from_escaped was (drop i text) ≡ all → past quote all ≡ Some (drop (i + 1) text)
step_found text i was all lt a e inv = ap (past quote) (sym (subst (λ x. from_escaped x (drop i text) ≡ all) a inv)) ∙ string_found text i lt e

-- what is found where a quote ends
pub found_at : (text : List ℕ) (at from : ℕ) (rest : Option (List ℕ)) (end : Option ℕ) → piece (drop at text) ≡ quote_piece rest → at < from → EndsAt text from rest end → IsPieceAt text at (found_of end)
found_at text at from rest None e lt ends = e ∙ ap quote_piece ends
found_at text at from rest (Some end) e lt ends = (e ∙ ap quote_piece ends.0, omega (arith, lt, ends.1), ends.2)

pub string_piece : (text : List ℕ) (at : ℕ) → at < length text → get_or text at 0 ≡ quote → piece (drop at text) ≡ quote_piece (past quote (from_unescaped quote (drop (at + 1) text)))
string_piece text at lt e = ap piece (drop_more text at 0 lt) ∙ rw e refl

marked_piece : (text : List ℕ) (at : ℕ) → at < length text → get_or text at 0 ≡ apostrophe → piece (drop at text) ≡ apostrophe_piece (drop (at + 1) text)
marked_piece text at lt e = ap piece (drop_more text at 0 lt) ∙ rw e refl

-- a `'` at the end of the text
pub last_mark : (text : List ℕ) (at : ℕ) → at < length text → get_or text at 0 ≡ apostrophe → length text ≤ at + 1 → piece (drop at text) ≡ Single (get_or text at 0) (drop (at + 1) text)
last_mark text at lt e done =
    let none = drop_all (at + 1) text done in
    marked_piece text at lt e ∙ ap apostrophe_piece none ∙ subst (λ x. Single apostrophe [] ≡ Single x (drop (at + 1) text)) (sym e) (ap (Single apostrophe) (sym none))

-- a `'` with a `\` behind it
pub escaped_mark : (text : List ℕ) (at : ℕ) → at + 1 < length text → get_or text at 0 ≡ apostrophe → get_or text (at + 1) 0 ≡ backslash → piece (drop at text) ≡ quote_piece (past apostrophe (from_char apostrophe (drop (at + 1 + 1) text)))
escaped_mark text at lt e f = marked_piece text at (omega arith) e ∙ ap apostrophe_piece (drop_more text (at + 1) 0 lt) ∙ rw f refl

character_mark : (text : List ℕ) (at : ℕ) → at + 1 < length text → get_or text at 0 ≡ apostrophe → (get_or text (at + 1) 0 ≡ backslash → ⊥) → piece (drop at text) ≡ character_piece (drop (at + 1) text) (past apostrophe (after_character (drop (at + 1 + 1) text)))
character_mark text at lt e f =
    let split = drop_more text (at + 1) 0 lt in
    marked_piece text at (omega arith) e
    ∙ ap apostrophe_piece split
    ∙ rw (ne_eqb (get_or text (at + 1) 0) backslash f) refl
    ∙ ap (λ x. character_piece x (past apostrophe (after_character (drop (at + 1 + 1) text)))) (sym split)

-- a `'` alone
pub single_mark : (text : List ℕ) (at end : ℕ) → at + 1 < length text → get_or text at 0 ≡ apostrophe → (get_or text (at + 1) 0 ≡ backslash → ⊥) → drop end text ≡ after_character (drop (at + 1 + 1) text) → past apostrophe (drop end text) ≡ None → piece (drop at text) ≡ Single (get_or text at 0) (drop (at + 1) text)
single_mark text at end lt e f value none =
    character_mark text at lt e f
    ∙ ap (character_piece (drop (at + 1) text)) (ap (past apostrophe) (sym value) ∙ none)
    ∙ ap (λ x. Single x (drop (at + 1) text)) (sym e)

-- a quoted character
pub quoted_mark : (text : List ℕ) (at end stop : ℕ) → at + 1 < length text → get_or text at 0 ≡ apostrophe → (get_or text (at + 1) 0 ≡ backslash → ⊥) → drop end text ≡ after_character (drop (at + 1 + 1) text) → past apostrophe (drop end text) ≡ Some (drop stop text) → piece (drop at text) ≡ Quote (drop stop text)
quoted_mark text at end stop lt e f value some =
    character_mark text at lt e f
    ∙ ap (character_piece (drop (at + 1) text)) (ap (past apostrophe) (sym value) ∙ some)
