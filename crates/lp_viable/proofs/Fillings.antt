-- Each kind of hole has a text that may stand in it, whatever the prefix.
use Rattle.std.proofs.Common.{◌≡◌, ℕ, ◌==◌, ◌<◌, zero, suc, true, false, not, ◌||◌, List, [], ◌∷◌, ◌++◌, length, get_or, drop, codes, refl, sym, ap, ◌∙◌, subst, arith, eqb, ltb, eq-eqb, inl, inr, length-append}
use Rattle.std.specs.List.{list_all, starts_with}
use Rattle.std.specs.Str.{IsUtf8, is_utf8, chars, bytes_eq}
use Rattle.std.proofs.lemmas.Bool.{and_parts, and_from, and_left, or_from, cases_Bool, cond-true, cond-false, eqb-true, ne_eqb, ltb-true, le-ltb, not_from_false, both_ways}
use Rattle.std.proofs.lemmas.List.{drop_at}
use Rattle.std.proofs.lemmas.Str.{chars-IsAscii, IsUtf8-append, IsUtf8-from_ascii, is_utf8-from_IsUtf8}
use Rattle.unicode_ident.proofs.IdentLemmas.{is_xid_start-ascii}
use Rattle.lp_form.specs.declared.template.Kind.{Kind}
use Rattle.lp_form.specs.declared.template.Kind.TheVariants as kind
use Rattle.lp_tok.specs.Scans.{starts_word}
use Rattle.lp_texts.specs.Identifiers.{is_identifier}
use Rattle.lp_texts.specs.Identifiers as identifier
use Rattle.lp_texts.specs.OneLine.{IsOneLine}
use Rattle.lp_spelling.specs.HoleEnds.{is_word, first_at, place}
use Rattle.lp_spelling.specs.Fillings.{holds, is_number, is_name, is_own, is_argument, is_element, joined_within, is_joined, is_look, are_filled, fits_behind, has_shape, line_part, Fits, Fills}
use Rattle.lp_reading_laws.proofs.Holes.Words.{ascii_at, identifier_words}
use Rattle.lp_reading_laws.proofs.Holes.Plain.{one_line}
use Rattle.lp_program.specs.Reads.{is_prefix}
use Rattle.lp_reading_laws.specs.Printing.WellFormed.{is_pattern}
use Rattle.lp_viable.specs.Fillings.{other_letter, own_name, filling}

ascii_utf8 : (t : List ℕ) → list_all (λ b. ltb b 128) t ≡ true → IsUtf8 t
ascii_utf8 t h = IsUtf8-from_ascii t (ascii_at t h)

-- a letter with which the prefix doesn't begin
record Letter (prefix : List ℕ) (b : ℕ) : Type 0 where
  utf8 : IsUtf8 (b ∷ [])
  name : is_name (b ∷ []) ≡ true
  line : IsOneLine (b ∷ [])
  argument : is_argument (b ∷ []) ≡ true
  joined : has_shape prefix kind.Arguments (b ∷ []) ≡ true
  not_unit : not (bytes_eq (b ∷ []) (codes "()")) ≡ true
  apart : (get_or prefix 0 0 == b) ≡ false

a_name : is_name (codes "a") ≡ true
a_name =
    let starts : starts_word 97 ≡ true = ap (λ x. x || (97 == 95)) (is_xid_start-ascii 97 (omega arith)) in
    and_from (is_utf8 (codes "a")) _ (is_utf8-from_IsUtf8 (codes "a") (ascii_utf8 (codes "a") refl))
    (ap identifier.is_word (chars-IsAscii (codes "a") (ascii_at (codes "a") refl)) ∙ and_from (starts_word 97) true starts refl)

b_name : is_name (codes "b") ≡ true
b_name =
    let starts : starts_word 98 ≡ true = ap (λ x. x || (98 == 95)) (is_xid_start-ascii 98 (omega arith)) in
    and_from (is_utf8 (codes "b")) _ (is_utf8-from_IsUtf8 (codes "b") (ascii_utf8 (codes "b") refl))
    (ap identifier.is_word (chars-IsAscii (codes "b") (ascii_at (codes "b") refl)) ∙ and_from (starts_word 98) true starts refl)

letter_a : (prefix : List ℕ) → (get_or prefix 0 0 == 97) ≡ false → Letter prefix 97
unfolding has_shape is_joined joined_within is_element holds first_at
letter_a prefix h = record {
  utf8 = ascii_utf8 (codes "a") refl;
  name = a_name;
  line = one_line (codes "a") refl (ap (Rattle.lp_texts.specs.OneLine.begins Rattle.std.specs.Char.is_whitespace) (chars-IsAscii (codes "a") (ascii_at (codes "a") refl)));
  argument = a_name;
  joined = a_name;
  not_unit = refl;
  apart = h;
}

letter_b : (prefix : List ℕ) → (get_or prefix 0 0 == 98) ≡ false → Letter prefix 98
unfolding has_shape is_joined joined_within is_element holds first_at
letter_b prefix h = record {
  utf8 = ascii_utf8 (codes "b") refl;
  name = b_name;
  line = one_line (codes "b") refl (ap (Rattle.lp_texts.specs.OneLine.begins Rattle.std.specs.Char.is_whitespace) (chars-IsAscii (codes "b") (ascii_at (codes "b") refl)));
  argument = b_name;
  joined = b_name;
  not_unit = refl;
  apart = h;
}

letter_of : (prefix : List ℕ) → (b : ℕ) × (other_letter prefix ≡ b ∷ []) × Letter prefix b
unfolding other_letter
letter_of prefix = elim (cases_Bool (get_or prefix 0 0 == 97)) [
  | inl y ↦ (98, cond-true (get_or prefix 0 0 == 97) _ _ y, letter_b prefix (ap (λ c. c == 98) (eqb-true (get_or prefix 0 0) 97 y)))
  | inr n ↦ (97, cond-false (get_or prefix 0 0 == 97) _ _ n, letter_a prefix n)
]

-- it doesn't hold the prefix
not_front : (prefix : List ℕ) (b : ℕ) → 0 < length prefix → (get_or prefix 0 0 == b) ≡ false → starts_with eqb (b ∷ []) prefix ≡ false
not_front [] b some h = absurd (omega arith)
not_front (c ∷ p) b some h = and_left (c == b) (starts_with eqb [] p) h

not_held : (prefix : List ℕ) (b : ℕ) → 0 < length prefix → (get_or prefix 0 0 == b) ≡ false → holds prefix (b ∷ []) ≡ false
unfolding holds first_at
not_held prefix b some h =
    let none : place prefix (b ∷ []) ≡ 1 = cond-false (starts_with eqb (b ∷ []) prefix) 0 1 (not_front prefix b some h) in
    or_from (length prefix == 0) (ltb (place prefix (b ∷ [])) 1) (ne_eqb (length prefix) 0 (λ e. omega (arith, e, some))) (le-ltb (place prefix (b ∷ [])) 1 (omega (arith, none)))

letter_filled : (prefix : List ℕ) (b : ℕ) → 0 < length prefix → (get_or prefix 0 0 == b) ≡ false → are_filled prefix (b ∷ []) ≡ true
unfolding are_filled fits_behind
letter_filled prefix b some h = and_from _ true (Rattle.std.proofs.lemmas.Bool.or_left (not (starts_with eqb (b ∷ []) prefix)) _ (not_from_false (starts_with eqb (b ∷ []) prefix) (not_front prefix b some h))) refl

-- a name that begins with the prefix
pub starts_front : (a b : List ℕ) → starts_with eqb (a ++ b) a ≡ true
starts_front [] b = refl
starts_front (c ∷ a) b = and_from (c == c) _ (eq-eqb c c refl) (starts_front a b)

pub name_of : (prefix : List ℕ) → is_prefix prefix ≡ true → is_identifier (own_name prefix) ≡ true
name_of prefix h = (and_parts (ltb 0 (length prefix)) (is_identifier (prefix ++ codes "lalrpop_util")) h).1

some_of : (prefix : List ℕ) → is_prefix prefix ≡ true → 0 < length prefix
some_of prefix h = ltb-true 0 (length prefix) (and_parts (ltb 0 (length prefix)) (is_identifier (prefix ++ codes "lalrpop_util")) h).0

own_utf8 : (prefix : List ℕ) → IsUtf8 prefix → IsUtf8 (own_name prefix)
own_utf8 prefix u = IsUtf8-append prefix (codes "lalrpop_util") u (ascii_utf8 (codes "lalrpop_util") refl)

own_is : (prefix : List ℕ) → IsUtf8 prefix → is_prefix prefix ≡ true → is_own prefix (own_name prefix) ≡ true
own_is prefix u h =
    and_from (starts_with eqb (own_name prefix) prefix) _ (starts_front prefix (codes "lalrpop_util"))
    (and_from (is_utf8 (own_name prefix)) _ (is_utf8-from_IsUtf8 (own_name prefix) (own_utf8 prefix u)) (name_of prefix h))

-- words hold no comma, and begin with no bracket
no_first : (c : ℕ) (s t : List ℕ) → is_word c ≡ false → list_all is_word t ≡ true → first_at (λ x. starts_with eqb x (c ∷ s)) t ≡ length t
unfolding first_at
no_first c s [] n h = refl
no_first c s (b ∷ t) n h =
    let p = and_parts (is_word b) (list_all is_word t) h in
    let other : (c == b) ≡ false = ne_eqb c b (λ e. both_ways (is_word c) n (ap is_word e ∙ p.0)) in
    cond-false (starts_with eqb (b ∷ t) (c ∷ s)) 0 _ (and_left (c == b) (starts_with eqb t s) other) ∙ ap suc (no_first c s t n p.1)

no_comma : (t : List ℕ) → list_all is_word t ≡ true → holds (codes ", ") t ≡ false
unfolding holds
no_comma t h =
    let none : place (codes ", ") t ≡ length t = no_first 44 (codes " ") t refl h in
    or_from _ (ltb (place (codes ", ") t) (length t)) refl (le-ltb (place (codes ", ") t) (length t) (omega (arith, none)))

no_bracket : (t : List ℕ) → list_all is_word t ≡ true → starts_with eqb t (codes "(") ≡ false
no_bracket [] h = refl
no_bracket (b ∷ t) h = and_left (40 == b) true (ne_eqb 40 b (λ e. both_ways (is_word 40) refl (ap is_word e ∙ (and_parts (is_word b) (list_all is_word t) h).0)))

joined_once : (n : ℕ) (prefix : List ℕ) (e : _) (t : List ℕ) → 0 < n → list_all is_word t ≡ true → is_element prefix e t ≡ true → joined_within n prefix e (codes ", ") t ≡ true
unfolding joined_within
joined_once zero prefix e t some w h = absurd (omega arith)
joined_once (suc n) prefix e t some w h = cond-false (holds (codes ", ") t) _ _ (no_comma t w) ∙ h

own_joined : (prefix : List ℕ) → IsUtf8 prefix → is_prefix prefix ≡ true → has_shape prefix kind.Symbols (own_name prefix) ≡ true
unfolding has_shape is_joined is_element
own_joined prefix u h =
    let size = length-append prefix (codes "lalrpop_util") in
    joined_once (length (own_name prefix)) prefix _ (own_name prefix) (omega (arith, size, some_of prefix h)) (identifier_words (own_name prefix) (own_utf8 prefix u) (name_of prefix h)) (own_is prefix u h)

own_named : (prefix : List ℕ) → IsUtf8 prefix → is_prefix prefix ≡ true → has_shape prefix kind.Names (own_name prefix) ≡ true
unfolding has_shape is_joined is_element
own_named prefix u h =
    let size = length-append prefix (codes "lalrpop_util") in
    joined_once (length (own_name prefix)) prefix _ (own_name prefix) (omega (arith, size, some_of prefix h)) (identifier_words (own_name prefix) (own_utf8 prefix u) (name_of prefix h)) (own_is prefix u h)

own_captured : (prefix : List ℕ) → IsUtf8 prefix → is_prefix prefix ≡ true → Rattle.lp_spelling.specs.Fillings.are_captures prefix (own_name prefix) ≡ true
own_captured prefix u h =
    cond-false (starts_with eqb (own_name prefix) (codes "(")) _ _ (no_bracket (own_name prefix) (identifier_words (own_name prefix) (own_utf8 prefix u) (name_of prefix h))) ∙ own_is prefix u h

-- a place of a span
look_is : (prefix : List ℕ) → is_look prefix (prefix ++ codes "lookahead") ≡ true
look_is prefix =
    let left : drop (length prefix) (prefix ++ codes "lookahead") ≡ codes "lookahead" = drop_at prefix (codes "lookahead") (length prefix) refl in
    and_from (starts_with eqb (prefix ++ codes "lookahead") prefix) _ (starts_front prefix (codes "lookahead"))
    (Rattle.std.proofs.lemmas.Bool.or_right _ _ (ap (λ (x : List ℕ). bytes_eq x (codes "lookahead")) left))

-- each kind
letter_fills : (prefix t : List ℕ) (k : Kind) → other_letter prefix ≡ t → Fills prefix k t → Fills prefix k (other_letter prefix)
letter_fills prefix t k e f = subst (λ (x : List ℕ). Fills prefix k x) (sym e) f

pub filling_fills : (prefix : List ℕ) (k : Kind) → IsUtf8 prefix → is_prefix prefix ≡ true → Fills prefix k (filling prefix k)
unfolding filling Fits has_shape line_part is_number is_joined joined_within is_element holds first_at
filling_fills prefix kind.Number u h = (ascii_utf8 (codes "0") refl, (refl, tt))
filling_fills prefix kind.NotOne u h = (ascii_utf8 (codes "0") refl, (refl, tt))
filling_fills prefix kind.Last u h = (ascii_utf8 (codes "0") refl, (refl, tt))
filling_fills prefix kind.Numbers u h = (ascii_utf8 (codes "0") refl, (refl, tt))
filling_fills prefix kind.Ranges u h = (ascii_utf8 (codes "0") refl, (refl, tt))
filling_fills prefix kind.Escaped u h = (ascii_utf8 [] refl, (refl, tt))
filling_fills prefix kind.Terminal u h = (ascii_utf8 [] refl, (refl, tt))
filling_fills prefix kind.Visibility u h = (ascii_utf8 [] refl, (refl, tt))
filling_fills prefix kind.Parameters u h = (ascii_utf8 [] refl, (refl, tt))
filling_fills prefix kind.Attribute u h = (ascii_utf8 (codes "#![]") refl, (refl, tt))
filling_fills prefix kind.Literal u h = (ascii_utf8 (codes "\"\"") refl, (refl, tt))
filling_fills prefix kind.Location u h =
    (IsUtf8-append (codes "*") (prefix ++ codes "lookahead") (ascii_utf8 (codes "*") refl) (IsUtf8-append prefix (codes "lookahead") u (ascii_utf8 (codes "lookahead") refl)), (look_is prefix, tt))
filling_fills prefix kind.Symbols u h = (own_utf8 prefix u, (own_joined prefix u h, tt))
filling_fills prefix kind.Names u h = (own_utf8 prefix u, (own_named prefix u h, tt))
filling_fills prefix kind.Captures u h = (own_utf8 prefix u, (own_captured prefix u h, tt))
filling_fills prefix kind.Name u h = let l = letter_of prefix in letter_fills prefix (l.0 ∷ []) kind.Name l.1 (l.2.utf8, (l.2.name, tt))
filling_fills prefix kind.PlainName u h =
    let l = letter_of prefix in
    letter_fills prefix (l.0 ∷ []) kind.PlainName l.1 (l.2.utf8, (and_from (is_name (l.0 ∷ [])) _ l.2.name (not_from_false (holds prefix (l.0 ∷ [])) (not_held prefix l.0 (some_of prefix h) l.2.apart)), tt))
filling_fills prefix kind.Text u h = let l = letter_of prefix in letter_fills prefix (l.0 ∷ []) kind.Text l.1 (l.2.utf8, (refl, l.2.line))
filling_fills prefix kind.Generics u h = let l = letter_of prefix in letter_fills prefix (l.0 ∷ []) kind.Generics l.1 (l.2.utf8, (refl, l.2.line))
filling_fills prefix kind.Filled u h = let l = letter_of prefix in letter_fills prefix (l.0 ∷ []) kind.Filled l.1 (l.2.utf8, (letter_filled prefix l.0 (some_of prefix h) l.2.apart, l.2.line))
filling_fills prefix kind.Patterns u h = let l = letter_of prefix in letter_fills prefix (l.0 ∷ []) kind.Patterns l.1 (l.2.utf8, (letter_filled prefix l.0 (some_of prefix h) l.2.apart, l.2.line))
filling_fills prefix kind.Pattern u h =
    let l = letter_of prefix in
    letter_fills prefix (l.0 ∷ []) kind.Pattern l.1 (l.2.utf8, (not_from_false (holds prefix (l.0 ∷ [])) (not_held prefix l.0 (some_of prefix h) l.2.apart), l.2.line))
filling_fills prefix kind.Result u h = let l = letter_of prefix in letter_fills prefix (l.0 ∷ []) kind.Result l.1 (l.2.utf8, (l.2.not_unit, l.2.line))
filling_fills prefix kind.Arguments u h = let l = letter_of prefix in letter_fills prefix (l.0 ∷ []) kind.Arguments l.1 (l.2.utf8, (l.2.joined, tt))
filling_fills prefix kind.Argument u h = let l = letter_of prefix in letter_fills prefix (l.0 ∷ []) kind.Argument l.1 (l.2.utf8, (l.2.argument, tt))

pub pattern_some : (prefix : List ℕ) (k : Kind) → is_pattern k ≡ true → 0 < length (filling prefix k)
unfolding filling
pattern_some prefix kind.Pattern h = let l = letter_of prefix in subst (λ (x : List ℕ). 0 < length x) (sym l.1) (omega arith)
pattern_some prefix kind.Patterns h = let l = letter_of prefix in subst (λ (x : List ℕ). 0 < length x) (sym l.1) (omega arith)
pattern_some prefix _ h = absurd (both_ways false refl h)
