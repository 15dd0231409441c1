-- The first bytes of texts: those that close no bracket.
use Rattle.std.proofs.Common.{◌≡◌, ℕ, ◌==◌, ◌<◌, zero, suc, Bool, true, false, ◌||◌, List, [], ◌∷◌, ◌++◌, length, replicate, codes, IsTrue, refl, sym, ap, ◌∙◌, subst, arith, eqb, inl, inr, ◌⊎◌, ⊎_elim}
use Rattle.std.specs.Prelude.{slice_index, not}
use Rattle.std.specs.List.{list_all, starts_with}
use Rattle.std.specs.Str.{is_utf8, chars, bytes_eq}
use Rattle.std.proofs.lemmas.Bool.{and_parts, and_from, or_cases, or_right, cases_Bool, cond-false, eqb-true, false_from_ne_true, both_ways}
use Rattle.std.proofs.lemmas.Slice.Eq.{bytes_eq-Decides}
use Rattle.unicode_ident.proofs.IdentLemmas.{is_xid_start-ascii}
use Rattle.lp_form.specs.declared.template.Kind.{Kind}
use Rattle.lp_form.specs.declared.template.Kind.TheVariants as kind
use Rattle.lp_repr.specs.Names.{same_text}
use Rattle.lp_tok.specs.Scans.{starts_word}
use Rattle.lp_texts.specs.Identifiers.{is_identifier, is_word}
use Rattle.lp_texts.specs.Brackets as bracket
use Rattle.lp_texts.specs.Brackets.Leads.{leads_none}
use Rattle.lp_texts.specs.OneLine.{IsOneLine, begins, is_wrong}
use Rattle.lp_texts.specs.OneLine.IsWrong.{outside}
use Rattle.lp_write.specs.Lines.{closes}
use Rattle.lp_spelling.specs.HoleEnds.{is_digit}
use Rattle.lp_spelling.specs.Fillings.{is_name, is_argument, is_escape, is_bare, is_element, has_shape, line_part, Fits, Fills}
use Rattle.lp_spelling.proofs.Reading.{starts_ok}
use Rattle.lp_reading_laws.specs.Printing.LevelTests.{is_firm_kind}
use Rattle.lp_reading_laws.proofs.Printing.Fronts.{ascii_begins}
use Rattle.lp_reading_laws.proofs.Printing.Sound.{IsPrefix, word_begins, number_begins, range_begins, are_joined_begin, empty_is}

-- no closing bracket in front
abbrev pub Firm : List ℕ → Type 0
Firm text = closes (slice_index text 0) ≡ false

pub firm-append : (a b : List ℕ) → Firm a → Firm b → Firm (a ++ b)
firm-append [] b h k = k
firm-append (c ∷ a) b h k = h

pub blanks_firm : (n : ℕ) → Firm (replicate n 32)
blanks_firm zero = refl
blanks_firm (suc n) = refl

-- closing brackets
closes_cases : (c : ℕ) → closes c ≡ true → (c ≡ 125) ⊎ ((c ≡ 93) ⊎ (c ≡ 41))
closes_cases c h = elim (or_cases (c == 125 || c == 93) (c == 41) h) [
  | inl r ↦ elim (or_cases (c == 125) (c == 93) r) [ inl e ↦ inl (eqb-true c 125 e) | inr e ↦ inr (inl (eqb-true c 93 e)) ]
  | inr e ↦ inr (inr (eqb-true c 41 e))
]

same_closes : (c : ℕ) → closes c ≡ true → bracket.closes c ≡ true
same_closes c h = elim (closes_cases c h) [
  | inl e ↦ ap bracket.closes e
  | inr r ↦ elim r [ inl e ↦ ap bracket.closes e | inr e ↦ ap bracket.closes e ]
]

-- a text whose front passes a test that no closing bracket passes
firm_by : (P : ℕ → Type 0) → (P 125 → ⊥) → (P 93 → ⊥) → (P 41 → ⊥) → (b : ℕ) (x : List ℕ) → P b → Firm (b ∷ x)
firm_by P f g k b x h = false_from_ne_true (closes b) (λ y. elim (closes_cases b y) [
  | inl e ↦ f (subst P e h)
  | inr r ↦ elim r [ inl e ↦ g (subst P e h) | inr e ↦ k (subst P e h) ]
])

firm_if : (test : ℕ → Bool) → test 125 ≡ false → test 93 ≡ false → test 41 ≡ false → (t : List ℕ) → begins test t ≡ true → Firm t
firm_if test f g k [] h = refl
firm_if test f g k (b ∷ x) h = firm_by (λ c. test c ≡ true) (both_ways (test 125) f) (both_ways (test 93) g) (both_ways (test 41) k) b x h

digit_firm : (t : List ℕ) → begins is_digit t ≡ true → Firm t
digit_firm = firm_if is_digit refl refl refl

no_word : (b : ℕ) (x : List ℕ) → b < 128 → starts_word b ≡ false → begins starts_word (chars (b ∷ x)) ≡ true → ⊥
no_word b x l n h = both_ways (starts_word b) n (sym (ascii_begins starts_word b x l) ∙ h)

word_firm : (t : List ℕ) → is_word (chars t) ≡ true → Firm t
word_firm [] h = refl
word_firm (b ∷ x) h =
    firm_by (λ c. begins starts_word (chars (c ∷ x)) ≡ true)
    (no_word 125 x (omega arith) (ap (λ y. y || (125 == 95)) (is_xid_start-ascii 125 (omega arith))))
    (no_word 93 x (omega arith) (ap (λ y. y || (93 == 95)) (is_xid_start-ascii 93 (omega arith))))
    (no_word 41 x (omega arith) (ap (λ y. y || (41 == 95)) (is_xid_start-ascii 41 (omega arith))))
    b x (word_begins (chars (b ∷ x)) h)

pub prefix_firm : (prefix : List ℕ) → IsPrefix prefix → Firm prefix
prefix_firm prefix p = word_firm prefix p.word

name_firm : (t : List ℕ) → is_name t ≡ true → Firm t
name_firm t h =
    let q = and_parts (is_utf8 t) (is_identifier t) h in
    word_firm t (and_parts (not (same_text t (codes "_"))) (is_word (chars t)) q.1).1

-- a text with a front of its own
front_firm : (b : ℕ) (s t : List ℕ) → closes b ≡ false → starts_with eqb t (b ∷ s) ≡ true → Firm t
front_firm b s t g h = subst Firm (sym (starts_ok (b ∷ s) t h)) g

argument_firm : (t : List ℕ) → is_argument t ≡ true → Firm t
argument_firm t h = elim (cases_Bool (starts_with eqb t (codes "&"))) [
  | inl y ↦ front_firm 38 [] t refl y
  | inr n ↦ name_firm t (sym (cond-false (starts_with eqb t (codes "&")) _ _ n) ∙ h)
]

escaped_firm : (t : List ℕ) → list_all is_escape t ≡ true → Firm t
escaped_firm [] h = refl
escaped_firm (b ∷ x) h = firm_if is_escape refl refl refl (b ∷ x) (and_parts (is_escape b) (list_all is_escape x) h).0

visibility_firm : (prefix t : List ℕ) → Fits prefix kind.Visibility t → Firm t
unfolding Fits has_shape line_part
visibility_firm prefix t f =
    ⊎_elim
    (λ b.
    ⊎_elim (λ e. subst Firm (sym (empty_is t e)) refl) (λ e. subst Firm (sym ((bytes_eq-Decides t (codes "pub ")).0 e)) refl)
    (or_cases (length t == 0) (bytes_eq t (codes "pub ")) b))
    (λ k. front_firm 112 (codes "ub(") t refl (and_parts (starts_with eqb t (codes "pub(")) _ k).0)
    (or_cases (is_bare t) _ f.0)

one_line_firm : (t : List ℕ) → IsOneLine t → Firm t
one_line_firm [] one = refl
one_line_firm (b ∷ x) one = false_from_ne_true (closes b) (λ y.
    let wrong : IsTrue (is_wrong false [] b x) = or_right _ _ (or_right _ _ (and_from (bracket.closes b) _ (same_closes b y) refl)) in
    one 0 (outside b x [] refl (leads_none (b ∷ x) []) wrong))

pub kind_firm : (prefix : List ℕ) (k : Kind) (t : List ℕ) → Fills prefix k t → is_firm_kind k ≡ true → Firm t
unfolding Fits has_shape line_part is_element
kind_firm prefix kind.Name t f h = name_firm t f.1.0
kind_firm prefix kind.PlainName t f h = name_firm t (and_parts (is_name t) _ f.1.0).0
kind_firm prefix kind.Number t f h = digit_firm t (number_begins t f.1.0)
kind_firm prefix kind.Numbers t f h = digit_firm t (are_joined_begin prefix _ (codes " | ") t (λ x e. number_begins x e) f.1.0)
kind_firm prefix kind.Ranges t f h = digit_firm t (are_joined_begin prefix _ (codes " | ") t (λ x e. range_begins x e) f.1.0)
kind_firm prefix kind.Argument t f h = argument_firm t f.1.0
kind_firm prefix kind.Attribute t f h = front_firm 35 (codes "![") t refl (and_parts (starts_with eqb t (codes "#![")) _ f.1.0).0
kind_firm prefix kind.Escaped t f h = escaped_firm t f.1.0
kind_firm prefix kind.Visibility t f h = visibility_firm prefix t f.1
kind_firm prefix kind.Text t f h = one_line_firm t f.1.1
kind_firm prefix kind.Pattern t f h = one_line_firm t f.1.1
kind_firm prefix kind.Patterns t f h = one_line_firm t f.1.1
kind_firm prefix _ t f h = absurd (both_ways false refl h)
