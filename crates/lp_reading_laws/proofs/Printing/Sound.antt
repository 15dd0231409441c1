-- The lines of templates count, whatever fills their holes.
use Rattle.std.proofs.Common.{◌≡◌, ℕ, ◌==◌, ◌<◌, zero, suc, Bool, true, false, not, ◌||◌, List, [], ◌∷◌, ◌++◌, length, get_or, take, drop, codes, refl, sym, ap, ◌∙◌, subst, arith, eqb, ltb, inl, inr, ◌⊎◌, ⊎_elim, length-append}
use Rattle.std.specs.List.{list_all, starts_with}
use Rattle.std.specs.Prelude.{slice_index}
use Rattle.std.specs.Char.{is_whitespace}
use Rattle.std.specs.Str.{IsUtf8, is_utf8, chars, bytes_eq}
use Rattle.std.proofs.lemmas.Bool.{and_parts, and_from, or_cases, cases_Bool, cond-true, cond-false, eqb-true, ne_eqb, ltb-true, not-true, both_ways}
use Rattle.std.proofs.lemmas.List.Folds.{list_all-append}
use Rattle.std.proofs.lemmas.Slice.Eq.{bytes_eq-Decides}
use Rattle.std.proofs.lemmas.Str.{chars-nil, IsUtf8-nil, IsUtf8-append, IsUtf8-from_ascii}
use Rattle.unicode_ident.proofs.IdentLemmas.{is_xid_start-ascii}
use Rattle.lp_form.specs.Templates.{Piece}
use Rattle.lp_form.specs.declared.template.Kind.{Kind}
use Rattle.lp_form.specs.declared.template.Kind.TheVariants as kind
use Rattle.lp_form.specs.declared.template.Slot.{Slot}
use Rattle.lp_form.specs.declared.template.Slot.TheVariants.{Nothing, Prefix, Hole}
use Rattle.lp_repr.specs.Names.{same_text}
use Rattle.lp_tok.specs.Scans.{starts_word, continues_word}
use Rattle.lp_texts.specs.Identifiers.{is_identifier, is_word}
use Rattle.lp_texts.specs.OneLine.{begins}
use Rattle.lp_spelling.specs.Counting.{is_text}
use Rattle.lp_spelling.specs.HoleEnds.{is_digit}
use Rattle.lp_spelling.specs.Lines.{slot_text, line_of}
use Rattle.lp_spelling.specs.LineReading.{kind_of}
use Rattle.lp_spelling.specs.Fillings.{is_number, holds, is_name, is_range, is_argument, is_element, joined_within, is_joined, is_escape, is_bare, has_shape, line_part, part_before, Fits, Fills}
use Rattle.lp_spelling.proofs.Reading.{starts_ok}
use Rattle.lp_spelling.proofs.Fitting.{number_parts}
use Rattle.lp_reading_laws.specs.Printing.LineTexts.{is_on_line, Counts}
use Rattle.lp_reading_laws.specs.Printing.LineTests.{is_good, is_plain, is_slot_in, is_plain_line, begins_so, next_so, kind_front, slot_front, text_front, is_front, is_sound_line}
use Rattle.lp_reading_laws.specs.Printing.WellFormed.{is_pattern, HolesFill}
use Rattle.lp_reading_laws.proofs.Printing.Lining.{on_line-append}
use Rattle.lp_reading_laws.proofs.Printing.OnLine.{words-on_line, fits-on_line}
use Rattle.lp_reading_laws.proofs.Printing.Fronts.{Solid, Loose, ascii_begins, good_solid, solid_more, solid_loose, loose_counts, loose_more, one_line_loose, digit_good, escape_good, word_shown}

-- words
pub word_begins : (cs : List ℕ) → is_word cs ≡ true → begins starts_word cs ≡ true
word_begins [] h = absurd (both_ways false refl h)
word_begins (c ∷ cs) h = (and_parts (starts_word c) (list_all continues_word cs) h).0

begins_shown : (cs : List ℕ) → begins starts_word cs ≡ true → begins is_whitespace cs ≡ false
begins_shown [] h = refl
begins_shown (c ∷ cs) h = word_shown c h

word_solid : (t : List ℕ) → is_word (chars t) ≡ true → Solid t
word_solid [] h = absurd (both_ways (is_word (chars [])) (ap is_word chars-nil) h)
word_solid (b ∷ x) h =
    let first : begins starts_word (chars (b ∷ x)) ≡ true = word_begins (chars (b ∷ x)) h in
    record {
      some = omega arith;
      shown = begins_shown (chars (b ∷ x)) first;
      plain = ne_eqb b 47 (λ e.
          let at : begins starts_word (chars (47 ∷ x)) ≡ true = subst (λ n. begins starts_word (chars (n ∷ x)) ≡ true) e first in
          let no : starts_word 47 ≡ false = ap (λ y. y || (47 == 95)) (is_xid_start-ascii 47 (omega arith)) in
          both_ways (starts_word 47) no (sym (ascii_begins starts_word 47 x (omega arith)) ∙ at));
    }

identifier_solid : (t : List ℕ) → is_identifier t ≡ true → Solid t
identifier_solid t h = word_solid t (and_parts (not (same_text t (codes "_"))) (is_word (chars t)) h).1

name_solid : (t : List ℕ) → is_name t ≡ true → Solid t
name_solid t h = identifier_solid t (and_parts (is_utf8 t) (is_identifier t) h).1

pub word_before : (cs ds : List ℕ) → 0 < length cs → is_word (cs ++ ds) ≡ true → is_word cs ≡ true
word_before [] ds l h = absurd (omega arith)
word_before (c ∷ cs) ds l h =
    let p = and_parts (starts_word c) (list_all continues_word (cs ++ ds)) h in
    let q = and_parts (list_all continues_word cs) (list_all continues_word ds) (sym (list_all-append continues_word cs ds) ∙ p.1) in
    and_from (starts_word c) (list_all continues_word cs) p.0 q.0

-- numbers
digit_solid : (t : List ℕ) → begins is_digit t ≡ true → Solid t
digit_solid [] h = absurd (both_ways false refl h)
digit_solid (b ∷ x) h = good_solid b x (digit_good b h)

digits_begin : (t : List ℕ) → 0 < length t → list_all is_digit t ≡ true → begins is_digit t ≡ true
digits_begin [] l h = absurd (omega arith)
digits_begin (b ∷ x) l h = (and_parts (is_digit b) (list_all is_digit x) h).0

pub number_begins : (t : List ℕ) → is_number t ≡ true → begins is_digit t ≡ true
number_begins t h = let p = number_parts t h in digits_begin t p.0 p.1

take_begins : (k : ℕ) (t : List ℕ) → begins is_digit (take k t) ≡ true → begins is_digit t ≡ true
take_begins zero t h = absurd (both_ways false refl h)
take_begins (suc k) [] h = h
take_begins (suc k) (b ∷ t) h = h

pub range_begins : (t : List ℕ) → is_range t ≡ true → begins is_digit t ≡ true
range_begins t h = elim (cases_Bool (holds (codes "..=") t)) [
  | inl y ↦ take_begins _ t (number_begins (part_before (codes "..=") t) (and_parts (is_number (part_before (codes "..=") t)) _ (sym (cond-true (holds (codes "..=") t) _ _ y) ∙ h)).0)
  | inr n ↦ number_begins t (sym (cond-false (holds (codes "..=") t) _ _ n) ∙ h)
]

joined_begins : (n : ℕ) (prefix : List ℕ) (e : _) (s t : List ℕ) → ((x : List ℕ) → is_element prefix e x ≡ true → begins is_digit x ≡ true) → joined_within n prefix e s t ≡ true → begins is_digit t ≡ true
unfolding joined_within
joined_begins zero prefix e s t f h = absurd (both_ways false refl h)
joined_begins (suc n) prefix e s t f h = elim (cases_Bool (holds s t)) [
  | inl y ↦
      let p = and_parts (is_element prefix e (part_before s t)) _ (sym (cond-true (holds s t) _ _ y) ∙ h) in
      take_begins _ t (f (part_before s t) p.0)
  | inr z ↦ f t (sym (cond-false (holds s t) _ _ z) ∙ h)
]

pub are_joined_begin : (prefix : List ℕ) (e : _) (s t : List ℕ) → ((x : List ℕ) → is_element prefix e x ≡ true → begins is_digit x ≡ true) → is_joined prefix e s t ≡ true → begins is_digit t ≡ true
unfolding is_joined
are_joined_begin prefix e s t f h = joined_begins (length t) prefix e s t f h

-- texts with a front of their own
front_solid : (b : ℕ) (s t : List ℕ) → is_good b ≡ true → starts_with eqb t (b ∷ s) ≡ true → Solid t
front_solid b s t g h = subst Solid (sym (starts_ok (b ∷ s) t h)) (good_solid b (s ++ drop (length (b ∷ s)) t) g)

argument_solid : (t : List ℕ) → is_argument t ≡ true → Solid t
argument_solid t h = elim (cases_Bool (starts_with eqb t (codes "&"))) [
  | inl y ↦ front_solid 38 [] t refl y
  | inr n ↦ name_solid t (sym (cond-false (starts_with eqb t (codes "&")) _ _ n) ∙ h)
]

pub empty_is : (t : List ℕ) → (length t == 0) ≡ true → t ≡ []
empty_is [] h = refl
empty_is (b ∷ t) h = absurd (omega (arith, eqb-true (length (b ∷ t)) 0 h))

escaped_soft : (t : List ℕ) → list_all is_escape t ≡ true → (t ≡ []) ⊎ Solid t
escaped_soft [] h = inl refl
escaped_soft (b ∷ x) h = inr (good_solid b x (escape_good b (and_parts (is_escape b) (list_all is_escape x) h).0))

visibility_soft : (prefix t : List ℕ) → Fits prefix kind.Visibility t → (t ≡ []) ⊎ Solid t
unfolding Fits has_shape line_part
visibility_soft prefix t f =
    ⊎_elim
    (λ b.
    ⊎_elim (λ e. inl (empty_is t e)) (λ e. inr (subst Solid (sym ((bytes_eq-Decides t (codes "pub ")).0 e)) (good_solid 112 (codes "ub ") refl)))
    (or_cases (length t == 0) (bytes_eq t (codes "pub ")) b))
    (λ k. inr (front_solid 112 (codes "ub(") t refl (and_parts (starts_with eqb t (codes "pub(")) _ k).0))
    (or_cases (is_bare t) _ f.0)

-- a front that counts
abbrev pub Fronted : List ℕ → Type 0
Fronted t = Loose t × (0 < length t)

solid_fronted : (t m : List ℕ) → IsUtf8 t → Solid t → Fronted (t ++ m)
solid_fronted t m u s = let w = solid_more t m u s in (solid_loose (t ++ m) w, w.some)

-- what the next literal text begins with
pub record Next (test : ℕ → Bool) (m : List ℕ) : Type 0 where
  pub byte : ℕ
  pub behind : List ℕ
  pub is : m ≡ byte ∷ behind
  pub so : test byte ≡ true

text_next : (test : ℕ → Bool) (text slot rest : List ℕ) → begins_so test text ≡ true → Next test ((text ++ slot) ++ rest)
text_next test [] slot rest h = absurd (both_ways false refl h)
text_next test (b ∷ x) slot rest h = record { byte = b; behind = (x ++ slot) ++ rest; is = refl; so = h }

pub line_next : (test : ℕ → Bool) (prefix : List ℕ) (holes : List (List ℕ)) (ps : List Piece) → next_so test ps ≡ true → Next test (line_of prefix holes ps)
unfolding line_of
line_next test prefix holes [] h = absurd (both_ways false refl h)
line_next test prefix holes (p ∷ ps) h = text_next test p.0 (slot_text prefix holes p.1) (line_of prefix holes ps) h

soft_fronted : (t m : List ℕ) → IsUtf8 t → (t ≡ []) ⊎ Solid t → Next is_good m → Fronted (t ++ m)
soft_fronted t m u (inl e) n =
    let w : Solid m = subst Solid (sym n.is) (good_solid n.byte n.behind n.so) in
    subst (λ x. Fronted (x ++ m)) (sym e) (solid_loose m w, w.some)
soft_fronted t m u (inr s) n = solid_fronted t m u s

loose_fronted : (t m : List ℕ) (b : ℕ) → IsUtf8 t → Loose t → (b == 47) ≡ false → (0 < length t) ⊎ (is_good b ≡ true) → Fronted (t ++ b ∷ m)
loose_fronted t m b u l n g = (loose_more t m b u l n g, (let size = length-append t (b ∷ m) in omega (arith, size)))

good_apart : (b : ℕ) → is_good b ≡ true → (b == 47) ≡ false
good_apart b h = not-true (b == 47) (and_parts (not (is_whitespace b)) (not (b == 47)) (and_parts (ltb b 128) _ h).1).1

text_fronted : (t m : List ℕ) → IsUtf8 t → Loose t → Next is_good m → Fronted (t ++ m)
text_fronted t m u l n = subst (λ x. Fronted (t ++ x)) (sym n.is) (loose_fronted t n.behind n.byte u l (good_apart n.byte n.so) (inr n.so))

pattern_fronted : (t m : List ℕ) → IsUtf8 t → Loose t → 0 < length t → Next (λ b. not (b == 47)) m → Fronted (t ++ m)
pattern_fronted t m u l s n = subst (λ x. Fronted (t ++ x)) (sym n.is) (loose_fronted t n.behind n.byte u l (not-true (n.byte == 47) n.so) (inl s))

abbrev IsTold : Kind → List ℕ → Type 0
IsTold k t = is_pattern k ≡ true → 0 < length t

kind_fronted : (prefix : List ℕ) (holes : List (List ℕ)) (k : Kind) (t : List ℕ) (ps : List Piece) → Fills prefix k t → IsTold k t → kind_front k ps ≡ true → Fronted (t ++ line_of prefix holes ps)
unfolding Fits has_shape line_part is_element
kind_fronted prefix holes kind.Name t ps f i h = solid_fronted t _ f.0 (name_solid t f.1.0)
kind_fronted prefix holes kind.PlainName t ps f i h = solid_fronted t _ f.0 (name_solid t (and_parts (is_name t) _ f.1.0).0)
kind_fronted prefix holes kind.Number t ps f i h = solid_fronted t _ f.0 (digit_solid t (number_begins t f.1.0))
kind_fronted prefix holes kind.Numbers t ps f i h = solid_fronted t _ f.0 (digit_solid t (are_joined_begin prefix _ (codes " | ") t (λ x e. number_begins x e) f.1.0))
kind_fronted prefix holes kind.Ranges t ps f i h = solid_fronted t _ f.0 (digit_solid t (are_joined_begin prefix _ (codes " | ") t (λ x e. range_begins x e) f.1.0))
kind_fronted prefix holes kind.Argument t ps f i h = solid_fronted t _ f.0 (argument_solid t f.1.0)
kind_fronted prefix holes kind.Attribute t ps f i h = solid_fronted t _ f.0 (front_solid 35 (codes "![") t refl (and_parts (starts_with eqb t (codes "#![")) _ f.1.0).0)
kind_fronted prefix holes kind.Escaped t ps f i h = soft_fronted t _ f.0 (escaped_soft t f.1.0) (line_next is_good prefix holes ps h)
kind_fronted prefix holes kind.Visibility t ps f i h = soft_fronted t _ f.0 (visibility_soft prefix t f.1) (line_next is_good prefix holes ps h)
kind_fronted prefix holes kind.Text t ps f i h = text_fronted t _ f.0 (one_line_loose t f.1.1) (line_next is_good prefix holes ps h)
kind_fronted prefix holes kind.Pattern t ps f i h = pattern_fronted t _ f.0 (one_line_loose t f.1.1) (i refl) (line_next (λ b. not (b == 47)) prefix holes ps h)
kind_fronted prefix holes kind.Patterns t ps f i h = pattern_fronted t _ f.0 (one_line_loose t f.1.1) (i refl) (line_next (λ b. not (b == 47)) prefix holes ps h)
kind_fronted prefix holes _ t ps f i h = absurd (both_ways false refl h)

-- a prefix
pub record IsPrefix (prefix : List ℕ) : Type 0 where
  pub utf8 : IsUtf8 prefix
  pub word : is_word (chars prefix) ≡ true

slot_fronted : (prefix : List ℕ) (kinds : List Kind) (holes : List (List ℕ)) (s : Slot) (ps : List Piece) → IsPrefix prefix → HolesFill prefix kinds holes → is_slot_in (length kinds) s ≡ true →
    slot_front kinds s ps ≡ true → Fronted (slot_text prefix holes s ++ line_of prefix holes ps)
slot_fronted prefix kinds holes Nothing ps p f i h = absurd (both_ways false refl h)
slot_fronted prefix kinds holes Prefix ps p f i h = solid_fronted prefix _ p.utf8 (word_solid prefix p.word)
slot_fronted prefix kinds holes (Hole k) ps p f i h =
    let q = f k (ltb-true k (length kinds) i) in
    kind_fronted prefix holes (kind_of kinds k) (get_or holes k []) ps q.0 q.1 h

text_front_is : (prefix : List ℕ) (kinds : List Kind) (holes : List (List ℕ)) (text : List ℕ) (s : Slot) (ps : List Piece) → IsPrefix prefix → HolesFill prefix kinds holes → is_slot_in (length kinds) s ≡ true →
    text_front text (slot_front kinds s ps) ≡ true → Fronted ((text ++ slot_text prefix holes s) ++ line_of prefix holes ps)
text_front_is prefix kinds holes [] s ps p f i h = slot_fronted prefix kinds holes s ps p f i h
text_front_is prefix kinds holes (b ∷ x) s ps p f i h =
    let w = good_solid b ((x ++ slot_text prefix holes s) ++ line_of prefix holes ps) h in
    (solid_loose _ w, w.some)

line_fronted : (prefix : List ℕ) (kinds : List Kind) (holes : List (List ℕ)) (ps : List Piece) → IsPrefix prefix → HolesFill prefix kinds holes → is_plain_line (length kinds) ps ≡ true →
    is_front kinds ps ≡ true → Fronted (line_of prefix holes ps)
unfolding line_of
line_fronted prefix kinds holes [] p f i h = absurd (both_ways false refl h)
line_fronted prefix kinds holes (q ∷ ps) p f i h =
    let a = and_parts (list_all is_plain q.0) _ i in
    text_front_is prefix kinds holes q.0 q.1 ps p f (and_parts (is_slot_in (length kinds) q.1) _ a.1).0 h

-- the bytes of lines
pub plain_ascii : (t : List ℕ) → list_all is_plain t ≡ true → (i : ℕ) → slice_index t i < 128
plain_ascii [] h i = omega arith
plain_ascii (b ∷ t) h zero = ltb-true b 128 (and_parts (ltb b 128) (is_text b) (and_parts (is_plain b) (list_all is_plain t) h).0).0
plain_ascii (b ∷ t) h (suc i) = plain_ascii t (and_parts (is_plain b) (list_all is_plain t) h).1 i

plain_on_line : (t : List ℕ) → list_all is_plain t ≡ true → is_on_line t ≡ true
plain_on_line [] h = refl
plain_on_line (b ∷ t) h =
    let p = and_parts (is_plain b) (list_all is_plain t) h in
    and_from (is_text b) (is_on_line t) (and_parts (ltb b 128) (is_text b) p.0).1 (plain_on_line t p.1)

abbrev Bytes : List ℕ → Type 0
Bytes t = IsUtf8 t × (is_on_line t ≡ true)

bytes_append : (a b : List ℕ) → Bytes a → Bytes b → Bytes (a ++ b)
bytes_append a b x y = (IsUtf8-append a b x.0 y.0, on_line-append a b x.1 y.1)

prefix_bytes : (prefix : List ℕ) → IsPrefix prefix → Bytes prefix
prefix_bytes prefix p = (p.utf8, words-on_line prefix p.utf8 p.word)

slot_bytes : (prefix : List ℕ) (kinds : List Kind) (holes : List (List ℕ)) (s : Slot) → IsPrefix prefix → HolesFill prefix kinds holes → is_slot_in (length kinds) s ≡ true → Bytes (slot_text prefix holes s)
slot_bytes prefix kinds holes Nothing p f i = (IsUtf8-nil, refl)
slot_bytes prefix kinds holes Prefix p f i = prefix_bytes prefix p
slot_bytes prefix kinds holes (Hole k) p f i =
    let q = f k (ltb-true k (length kinds) i) in
    (q.0.0, fits-on_line prefix (kind_of kinds k) (get_or holes k []) (prefix_bytes prefix p).1 q.0.1)

line_bytes_are : (prefix : List ℕ) (kinds : List Kind) (holes : List (List ℕ)) (ps : List Piece) → IsPrefix prefix → HolesFill prefix kinds holes → is_plain_line (length kinds) ps ≡ true → Bytes (line_of prefix holes ps)
unfolding line_of
line_bytes_are prefix kinds holes [] p f i = (IsUtf8-nil, refl)
line_bytes_are prefix kinds holes (q ∷ ps) p f i =
    let a = and_parts (list_all is_plain q.0) _ i in
    let b = and_parts (is_slot_in (length kinds) q.1) (is_plain_line (length kinds) ps) a.1 in
    bytes_append (q.0 ++ slot_text prefix holes q.1) (line_of prefix holes ps)
    (bytes_append q.0 (slot_text prefix holes q.1) (IsUtf8-from_ascii q.0 (plain_ascii q.0 a.0), plain_on_line q.0 a.0) (slot_bytes prefix kinds holes q.1 p f b.0))
    (line_bytes_are prefix kinds holes ps p f b.1)

-- a line that passes the test counts
pub sound_counts : (prefix : List ℕ) (kinds : List Kind) (holes : List (List ℕ)) (ps : List Piece) → IsPrefix prefix → HolesFill prefix kinds holes → is_sound_line kinds ps ≡ true → Counts (line_of prefix holes ps)
sound_counts prefix kinds holes ps p f h =
    let a = and_parts (is_plain_line (length kinds) ps) (is_front kinds ps) h in
    let b = line_bytes_are prefix kinds holes ps p f a.0 in
    let l = line_fronted prefix kinds holes ps p f a.0 a.1 in
    (record { utf8 = b.0; on_line = b.1; shown = l.0.shown }, loose_counts (line_of prefix holes ps) l.1 l.0)
