-- The last bytes of texts: those that open no bracket.
use Rattle.std.proofs.Common.{◌≡◌, ℕ, ◌-◌, ◌==◌, ◌<◌, ◌≤◌, zero, suc, true, false, cond, ◌||◌, List, [], ◌∷◌, ◌++◌, length, get_or, replicate, Option, Some, None, refl, ap, ◌∙◌, subst, arith, eqb, inl, inr, ◌⊎◌, append-nil, length-append}
use Rattle.std.proofs.Math.Dec.{leb}
use Rattle.std.proofs.Math.Seq.{get_or-append_right}
use Rattle.std.specs.List.{list_all}
use Rattle.std.proofs.lemmas.Bool.{and_parts, or_cases, cond_both, eqb-true, leb-true, false_from_ne_true, both_ways}
use Rattle.lp_tok.specs.Signs.{quote, apostrophe, backslash}
use Rattle.lp_tok.specs.Scans.{from_char, from_unescaped, past}
use Rattle.lp_texts.specs.Quotes.{Piece, Quote, Unended, Single, goes_on, after_character, quote_piece, character_piece, apostrophe_piece, piece}
use Rattle.lp_texts.specs.Brackets as bracket
use Rattle.lp_texts.specs.Brackets.{closer_of, open_after, Onward, step_over, Leads, leads_none}
use Rattle.lp_texts.specs.OneLine.{IsOneLine}
use Rattle.lp_texts.specs.OneLine.IsWrong.{open_quote, open_bracket}
use Rattle.lp_texts.proofs.Leading.{step_fewer, leads_more}
use Rattle.lp_write.specs.Lines.{opens}
use Rattle.lp_spelling.specs.HoleEnds.{is_digit}
use Rattle.lp_reading_laws.specs.Printing.LineTexts.{ends_open}

-- no opening bracket at the end
abbrev pub Steady : List ℕ → Type 0
Steady text = ends_open text ≡ false

abbrev last_of : List ℕ → ℕ
last_of text = get_or text (length text - 1) 0

last-append : (a b : List ℕ) → 0 < length b → last_of (a ++ b) ≡ last_of b
last-append a b h =
    let size = length-append a b in
    let place : length (a ++ b) - 1 - length a ≡ length b - 1 = omega (arith, size, h) in
    get_or-append_right a b (length (a ++ b) - 1) 0 (omega (arith, size, h)) ∙ ap (λ i. get_or b i 0) place

-- what a text ends with, whatever stands in front
pub open_behind : (a b : List ℕ) → 0 < length b → ends_open (a ++ b) ≡ ends_open b
open_behind a b h = ap opens (last-append a b h)

pub open_some : (t : List ℕ) → ends_open t ≡ true → 0 < length t
open_some [] h = absurd (both_ways false refl h)
open_some (b ∷ t) h = omega arith

pub steady-append : (a b : List ℕ) → Steady a → Steady b → Steady (a ++ b)
steady-append a [] h k = ap ends_open (append-nil a) ∙ h
steady-append a (c ∷ b) h k = open_behind a (c ∷ b) (omega arith) ∙ k

pub blanks_steady : (n : ℕ) → Steady (replicate n 32)
blanks_steady zero = refl
blanks_steady (suc n) = steady-append (32 ∷ []) (replicate n 32) refl (blanks_steady n)

-- opening brackets
opens_cases : (c : ℕ) → opens c ≡ true → (c ≡ 123) ⊎ ((c ≡ 91) ⊎ (c ≡ 40))
opens_cases c h = elim (or_cases (c == 123 || c == 91) (c == 40) h) [
  | inl r ↦ elim (or_cases (c == 123) (c == 91) r) [ inl e ↦ inl (eqb-true c 123 e) | inr e ↦ inr (inl (eqb-true c 91 e)) ]
  | inr e ↦ inr (inr (eqb-true c 40 e))
]

same_opens : (c : ℕ) → opens c ≡ true → bracket.opens c ≡ true
same_opens c h = elim (opens_cases c h) [
  | inl e ↦ ap bracket.opens e
  | inr r ↦ elim r [ inl e ↦ ap bracket.opens e | inr e ↦ ap bracket.opens e ]
]

-- digits
digit_steady : (b : ℕ) → is_digit b ≡ true → Steady (b ∷ [])
digit_steady b h =
    let q = and_parts (leb 48 b) (leb b 57) h in
    let lo = leb-true 48 b q.0 in
    let hi = leb-true b 57 q.1 in
    false_from_ne_true (opens b) (λ y. elim (opens_cases b y) [
      | inl e ↦ omega (arith, e, hi)
      | inr r ↦ elim r [ inl e ↦ omega (arith, e, hi) | inr e ↦ omega (arith, e, lo) ]
    ])

pub digits_steady : (t : List ℕ) → list_all is_digit t ≡ true → Steady t
digits_steady [] h = refl
digits_steady (b ∷ t) h =
    let q = and_parts (is_digit b) (list_all is_digit t) h in
    steady-append (b ∷ []) t (digit_steady b q.0) (digits_steady t q.1)

-- what is left of a text stands at its end
abbrev Suffix : List ℕ → List ℕ → Type 0
Suffix t s = (front : List ℕ) × (t ≡ front ++ s)

suffix_more : (c : ℕ) (t s : List ℕ) → Suffix t s → Suffix (c ∷ t) s
suffix_more c t s h = (c ∷ h.0, ap (λ (x : List ℕ). c ∷ x) h.1)

char_suffix : (c : ℕ) (cs : List ℕ) → Suffix cs (from_char c cs)
char_suffix c [] = ([], refl)
char_suffix c (d ∷ cs) = elim (eqb d c) as (λ b. Suffix (d ∷ cs) (cond b (d ∷ cs) (from_char c cs))) [
  | true ↦ ([], refl)
  | false ↦ suffix_more d cs (from_char c cs) (char_suffix c cs)
]

unescaped_suffix : (q : ℕ) (cs : List ℕ) → Suffix cs (from_unescaped q cs)
unescaped_suffix q [] = ([], refl)
unescaped_suffix q (c ∷ []) = elim (eqb c q) as (λ b. Suffix (c ∷ []) (cond b (c ∷ []) [])) [ true ↦ ([], refl) | false ↦ (c ∷ [], refl) ]
unescaped_suffix q (c ∷ d ∷ cs) =
    elim (eqb c q) as (λ b. Suffix (c ∷ d ∷ cs) (cond b (c ∷ d ∷ cs) (cond (eqb c backslash) (from_unescaped q cs) (from_unescaped q (d ∷ cs))))) [
      | true ↦ ([], refl)
      | false ↦ elim (eqb c backslash) as (λ b. Suffix (c ∷ d ∷ cs) (cond b (from_unescaped q cs) (from_unescaped q (d ∷ cs)))) [
        | true ↦ suffix_more c (d ∷ cs) (from_unescaped q cs) (suffix_more d cs (from_unescaped q cs) (unescaped_suffix q cs))
        | false ↦ suffix_more c (d ∷ cs) (from_unescaped q (d ∷ cs)) (unescaped_suffix q (d ∷ cs))
      ]
    ]

character_suffix : (cs : List ℕ) → Suffix cs (after_character cs)
character_suffix [] = ([], refl)
character_suffix (c ∷ cs) = elim (goes_on c) as (λ b. Suffix (c ∷ cs) (cond b (after_character cs) (c ∷ cs))) [
  | true ↦ suffix_more c cs (after_character cs) (character_suffix cs)
  | false ↦ ([], refl)
]

-- what a quote leaves stands behind its mark
record Behind (t after : List ℕ) : Type 0 where
  front : List ℕ
  mark : ℕ
  is : t ≡ front ++ mark ∷ after
  steady : opens mark ≡ false

past_behind : (q : ℕ) (t s : List ℕ) → opens q ≡ false → Suffix t s → (o : Option (List ℕ)) → past q s ≡ o → (after : List ℕ) → o ≡ Some after → Behind t after
past_behind q t [] n h o e after k = absurd cc
past_behind q t (d ∷ s) n h o e after k = elim (Rattle.std.proofs.lemmas.Bool.cases_Bool (eqb d q)) [
  | inl y ↦
      let there : past q (d ∷ s) ≡ Some s = Rattle.std.proofs.lemmas.Bool.cond-true (eqb d q) _ _ y in
      let same : s ≡ after = cc in
      record { front = h.0; mark = q; is = h.1 ∙ ap (λ x. h.0 ++ x ∷ s) (eqb-true d q y) ∙ ap (λ x. h.0 ++ q ∷ x) same; steady = n }
  | inr z ↦
      let there : past q (d ∷ s) ≡ None = Rattle.std.proofs.lemmas.Bool.cond-false (eqb d q) _ _ z in
      absurd cc
]

behind_more : (c : ℕ) (t after : List ℕ) → Behind t after → Behind (c ∷ t) after
behind_more c t after b = record { front = c ∷ b.front; mark = b.mark; is = ap (λ (x : List ℕ). c ∷ x) b.is; steady = b.steady }

-- the first piece of a text: a quote, one without an end, or a single byte
data View (c : ℕ) (cs : List ℕ) : Piece → Type 0 where
  view_quote : (after : List ℕ) → Behind (c ∷ cs) after → View c cs (Quote after)
  view_open : View c cs Unended
  view_single : View c cs (Single c cs)

quote_view : (c : ℕ) (cs : List ℕ) (o : Option (List ℕ)) → ((after : List ℕ) → o ≡ Some after → Behind (c ∷ cs) after) → View c cs (quote_piece o)
quote_view c cs None f = view_open
quote_view c cs (Some after) f = view_quote after (f after refl)

character_view : (c : ℕ) (cs : List ℕ) (o : Option (List ℕ)) → c ≡ apostrophe → ((after : List ℕ) → o ≡ Some after → Behind (c ∷ cs) after) → View c cs (character_piece cs o)
character_view c cs None e f = subst (λ x. View c cs (Single x cs)) e view_single
character_view c cs (Some after) e f = view_quote after (f after refl)

apostrophe_view : (c : ℕ) (cs : List ℕ) → c ≡ apostrophe → View c cs (apostrophe_piece cs)
apostrophe_view c [] e = subst (λ x. View c [] (Single x [])) e view_single
apostrophe_view c (d ∷ cs) e =
    cond_both (eqb d backslash) (quote_piece (past apostrophe (from_char apostrophe cs))) (character_piece (d ∷ cs) (past apostrophe (after_character cs))) (View c (d ∷ cs))
    (λ y. quote_view c (d ∷ cs) (past apostrophe (from_char apostrophe cs))
    (past_behind apostrophe (c ∷ d ∷ cs) (from_char apostrophe cs) refl (suffix_more c (d ∷ cs) _ (suffix_more d cs _ (char_suffix apostrophe cs))) _ refl))
    (λ n. character_view c (d ∷ cs) (past apostrophe (after_character cs)) e
    (past_behind apostrophe (c ∷ d ∷ cs) (after_character cs) refl (suffix_more c (d ∷ cs) _ (suffix_more d cs _ (character_suffix cs))) _ refl))

view : (c : ℕ) (cs : List ℕ) → View c cs (piece (c ∷ cs))
view c cs =
    cond_both (eqb c quote) (quote_piece (past quote (from_unescaped quote cs))) (cond (eqb c apostrophe) (apostrophe_piece cs) (Single c cs)) (View c cs)
    (λ y. quote_view c cs (past quote (from_unescaped quote cs)) (past_behind quote (c ∷ cs) (from_unescaped quote cs) refl (suffix_more c cs _ (unescaped_suffix quote cs)) _ refl))
    (λ n. cond_both (eqb c apostrophe) (apostrophe_piece cs) (Single c cs) (View c cs) (λ y. apostrophe_view c cs (eqb-true c apostrophe y)) (λ z. view_single))

-- a text of one line: what is left of it at any place outside quotes ends so
abbrev EndsSteady : List ℕ → ℕ → Type 0
EndsSteady text n = (rest o : List ℕ) → length rest ≤ n → Leads text [] rest o → Steady rest

last_single : (text : List ℕ) → IsOneLine text → (n : ℕ) → EndsSteady text n → (c : ℕ) (cs o : List ℕ) → length (c ∷ cs) ≤ suc n → Leads text [] cs (open_after o c) → Steady (c ∷ cs)
last_single text one n f c [] o le l = false_from_ne_true (opens c) (λ y.
    let pushed : open_after o c ≡ closer_of c ∷ o = Rattle.std.proofs.lemmas.Bool.cond-true (bracket.opens c) _ _ (same_opens c y) in
    one (length text) (open_bracket (closer_of c) o refl (subst (Leads text [] []) pushed l)))
last_single text one n f c (d ∷ cs) o le l = open_behind (c ∷ []) (d ∷ cs) (omega arith) ∙ f (d ∷ cs) (open_after o c) (omega arith) l

by_view : (text : List ℕ) → IsOneLine text → (n : ℕ) → EndsSteady text n → (c : ℕ) (cs o : List ℕ) → length (c ∷ cs) ≤ suc n → Leads text [] (c ∷ cs) o → (p : Piece) → piece (c ∷ cs) ≡ p → View c cs p → Steady (c ∷ cs)
by_view text one n f c cs o le l _ e (view_quote after b) =
    let step : step_over o (piece (c ∷ cs)) ≡ Onward after o = ap (step_over o) e in
    let fewer = step_fewer (c ∷ cs) o after o step in
    let more : Steady after = f after o (omega (arith, fewer)) (leads_more text [] (c ∷ cs) o after o l step) in
    ap ends_open b.is ∙ open_behind b.front (b.mark ∷ after) (omega arith) ∙ steady-append (b.mark ∷ []) after b.steady more
by_view text one n f c cs o le l _ e view_open = absurd (one (length text) (open_quote (c ∷ cs) o refl l e))
by_view text one n f c cs o le l _ e view_single = last_single text one n f c cs o le (leads_more text [] (c ∷ cs) o cs (open_after o c) l (ap (step_over o) e))

rest_steady : (text : List ℕ) → IsOneLine text → (n : ℕ) → EndsSteady text n
rest_steady text one n [] o le l = refl
rest_steady text one zero (c ∷ cs) o le l = absurd (omega arith)
rest_steady text one (suc n) (c ∷ cs) o le l = by_view text one n (rest_steady text one n) c cs o le l (piece (c ∷ cs)) refl (view c cs)

pub one_line_steady : (text : List ℕ) → IsOneLine text → Steady text
one_line_steady text one = rest_steady text one (length text) text [] (omega arith) (leads_none text [])
