-- The first wrong byte of a text of one line, piece by piece.
use Rattle.std.proofs.Common.{◌≡◌, ℕ, ◌+◌, ◌-◌, ◌<◌, ◌≤◌, Bool, true, false, List, [], ◌∷◌, length, drop, get_or, ◌⊎◌, inl, inr, ⊎_elim, Option, Some, None, refl, sym, ap, ◌∙◌, subst, arith, below_more, length-drop, eqb, reverse, IsTrue, is_some, not}
use Rattle.std.proofs.lemmas.List.{drop_more, drop_all, nil_from_length, length-reverse}
use Rattle.std.proofs.lemmas.Option.{slice_get-get_or, slice_get_past, get_or_from_slice_get}
use Rattle.std.proofs.lemmas.Bool.{false≢true, cases_eq, cases_lt, ne_eqb, eqb-true, eqb-false}
use Rattle.std.specs.Str.{chars}
use Rattle.std.specs.Char.{is_whitespace}
use Rattle.lp_tok.specs.Signs.{quote, apostrophe}
use Rattle.lp_texts.specs.Quotes.{Quote, Unended, Single, piece}
use Rattle.lp_texts.specs.Brackets.{open_after, step_over, Leads, leads_none}
use Rattle.lp_texts.specs.FirstWrong.{IsFirst}
use Rattle.lp_texts.specs.OneLine.{begins, ends_line, is_wrong, IsWrong, IsOneLine, blank, line_end, outside, open_quote, open_bracket}
use Rattle.lp_texts.specs.Places.{NoLineEnd}
use Rattle.lp_texts.proofs.Leading.{leads_more, same_place, no_place_inside, no_place_behind}

abbrev BeginsNoBlank : List ℕ → Type 0
BeginsNoBlank text = begins is_whitespace (chars text) ≡ false

-- pieces lead up to a place, and no byte before it is wrong
pub record IsScanned (pattern : Bool) (text : List ℕ) (at : ℕ) (brackets : List ℕ) : Type 0 where
  pub leads : Leads text [] (drop at text) brackets
  pub clean : (j : ℕ) → j < at → IsWrong pattern text j → ⊥
  pub within : at ≤ length text

pub scan_none : (pattern : Bool) (text : List ℕ) → IsScanned pattern text 0 []
scan_none pattern text = record { leads = leads_none text []; clean = λ j h w. omega (arith, h); within = omega arith }

-- where pieces lead to a byte it is right
abbrev RightOutside : Bool → List ℕ → ℕ → Type 0
RightOutside pattern text i = (c : ℕ) (cs o : List ℕ) → drop i text ≡ c ∷ cs → Leads text [] (c ∷ cs) o → is_wrong pattern o c cs ≡ false

not_wrong : (pattern : Bool) (text : List ℕ) (i : ℕ) → BeginsNoBlank text → i < length text → ends_line (get_or text i 0) ≡ false → RightOutside pattern text i → IsWrong pattern text i → ⊥
not_wrong pattern text i starts lt plain right (blank e b) = false≢true (sym starts ∙ b)
not_wrong pattern text i starts lt plain right (line_end c got ends) =
    let same = get_or_from_slice_get text i c 0 got in
    false≢true (sym plain ∙ ap ends_line same ∙ ends)
not_wrong pattern text i starts lt plain right (outside c cs o at leads wrong) = false≢true (sym (right c cs o at leads) ∙ wrong)
not_wrong pattern text i starts lt plain right (open_quote rest o e leads found) = omega arith
not_wrong pattern text i starts lt plain right (open_bracket c o e leads) = omega arith

-- what is known of the byte at a place where pieces lead
right_at : (pattern : Bool) (text : List ℕ) (at : ℕ) (brackets : List ℕ) → IsScanned pattern text at brackets → at < length text → is_wrong pattern brackets (get_or text at 0) (drop (at + 1) text) ≡ false → RightOutside pattern text at
right_at pattern text at brackets s lt right c cs o e leads =
    let split = drop_more text at 0 lt in
    let head : get_or text at 0 ≡ c = cc in
    let tail : drop (at + 1) text ≡ cs = cc in
    let same = same_place text [] (drop at text) brackets (c ∷ cs) o s.leads leads (ap length e) in
    subst (λ x. is_wrong pattern x c cs ≡ false) same.1
    (subst (λ x. is_wrong pattern brackets x cs ≡ false) head
    (subst (λ x. is_wrong pattern brackets (get_or text at 0) x ≡ false) tail right))

-- past a byte outside quotes
pub scan_single : (pattern : Bool) (text : List ℕ) (at : ℕ) (brackets : List ℕ) → begins is_whitespace (chars text) ≡ false → IsScanned pattern text at brackets → at < length text → piece (drop at text) ≡ Single (get_or text at 0) (drop (at + 1) text) → is_wrong pattern brackets (get_or text at 0) (drop (at + 1) text) ≡ false → ends_line (get_or text at 0) ≡ false → IsScanned pattern text (at + 1) (open_after brackets (get_or text at 0))
scan_single pattern text at brackets starts s lt found right plain = record {
  leads = leads_more text [] (drop at text) brackets (drop (at + 1) text) (open_after brackets (get_or text at 0)) s.leads (ap (step_over brackets) found);
  clean = below_more (λ j. IsWrong pattern text j → ⊥) at s.clean (not_wrong pattern text at starts lt plain (right_at pattern text at brackets s lt right));
  within = omega arith;
}

pub wrong_single : (pattern : Bool) (text : List ℕ) (at : ℕ) (brackets : List ℕ) → IsScanned pattern text at brackets → at < length text → is_wrong pattern brackets (get_or text at 0) (drop (at + 1) text) ≡ true → IsFirst (IsWrong pattern text) (Some at)
wrong_single pattern text at brackets s lt wrong =
    let split = drop_more text at 0 lt in
    (outside (get_or text at 0) (drop (at + 1) text) brackets split (subst (λ x. Leads text [] x brackets) split s.leads) wrong, s.clean)

pub wrong_line_end : (pattern : Bool) (text : List ℕ) (at : ℕ) (brackets : List ℕ) → IsScanned pattern text at brackets → at < length text → ends_line (get_or text at 0) ≡ true → IsFirst (IsWrong pattern text) (Some at)
wrong_line_end pattern text at brackets s lt ends = (line_end (get_or text at 0) (slice_get-get_or text at 0 lt) ends, s.clean)

-- a byte that isn't single is a quote mark
mark_cases : (c : ℕ) (cs : List ℕ) → (piece (c ∷ cs) ≡ Single c cs → ⊥) → (c ≡ quote) ⊎ (c ≡ apostrophe)
mark_cases c cs other =
    ⊎_elim
    (λ e. inl e)
    (λ no_quote. ⊎_elim
    (λ e. inr e)
    (λ no_apostrophe. absurd (other (rw (ne_eqb c quote no_quote, ne_eqb c apostrophe no_apostrophe) refl)))
    (cases_eq c apostrophe))
    (cases_eq c quote)

quote_right : (pattern : Bool) (o cs : List ℕ) → is_wrong pattern o quote cs ≡ false
quote_right true o cs = refl
quote_right false o cs = refl

apostrophe_right : (pattern : Bool) (o cs : List ℕ) → is_wrong pattern o apostrophe cs ≡ false
apostrophe_right true o cs = refl
apostrophe_right false o cs = refl

mark_right : (pattern : Bool) (c : ℕ) (cs o : List ℕ) → (piece (c ∷ cs) ≡ Single c cs → ⊥) → is_wrong pattern o c cs ≡ false
mark_right pattern c cs o other =
    ⊎_elim
    (λ e. subst (λ x. is_wrong pattern o x cs ≡ false) (sym e) (quote_right pattern o cs))
    (λ e. subst (λ x. is_wrong pattern o x cs ≡ false) (sym e) (apostrophe_right pattern o cs))
    (mark_cases c cs other)

-- no byte of a piece that begins with a quote mark is wrong, where no line ends in it and no place lies inside it
clean_inside : (pattern : Bool) (text : List ℕ) (at end : ℕ) (brackets : List ℕ) → BeginsNoBlank text → IsScanned pattern text at brackets → end ≤ length text → NoLineEnd text at end →
    ((c : ℕ) (cs : List ℕ) → drop at text ≡ c ∷ cs → piece (c ∷ cs) ≡ Single c cs → ⊥) →
    ((s p : List ℕ) → Leads text [] s p → length s < length (drop at text) → length text - end < length s → ⊥) →
    (j : ℕ) → j < end → IsWrong pattern text j → ⊥
clean_inside pattern text at end brackets starts s within plain mark apart j less =
    ⊎_elim
    (λ before. s.clean j before)
    (λ behind. not_wrong pattern text j starts (omega arith) (plain j (omega arith) less)
    (λ c cs o e leads.
    let size : length (drop j text) ≡ length (c ∷ cs) = ap length e in
    ⊎_elim
    (λ same. let here : drop at text ≡ c ∷ cs = subst (λ x. drop x text ≡ c ∷ cs) same e in mark_right pattern c cs o (mark c cs here))
    (λ other. absurd (apart (c ∷ cs) o leads (omega (arith, length-drop j text, length-drop at text, other, behind)) (omega (arith, length-drop j text))))
    (cases_eq j at)))
    (cases_lt j at)

-- past a quote
pub scan_quote : (pattern : Bool) (text : List ℕ) (at end : ℕ) (brackets : List ℕ) → begins is_whitespace (chars text) ≡ false → IsScanned pattern text at brackets → piece (drop at text) ≡ Quote (drop end text) → at < end → end ≤ length text → NoLineEnd text at end → IsScanned pattern text end brackets
scan_quote pattern text at end brackets starts s found less within plain =
    let step = ap (step_over brackets) found in
    record {
      leads = leads_more text [] (drop at text) brackets (drop end text) brackets s.leads step;
      clean = clean_inside pattern text at end brackets starts s within plain
          (λ c cs e single. let one : piece (drop at text) ≡ Single c cs = ap piece e ∙ single in cc)
          (λ r p leads shorter longer. no_place_inside text [] (drop at text) brackets (drop end text) brackets r p s.leads step leads shorter (omega (arith, length-drop end text)));
      within = within;
    }

-- a line end in a quote
pub wrong_in_quote : (pattern : Bool) (text : List ℕ) (at end i : ℕ) (brackets : List ℕ) → begins is_whitespace (chars text) ≡ false → IsScanned pattern text at brackets → piece (drop at text) ≡ Quote (drop end text) → end ≤ length text → at ≤ i → i < end → ends_line (get_or text i 0) ≡ true → NoLineEnd text at i → IsFirst (IsWrong pattern text) (Some i)
wrong_in_quote pattern text at end i brackets starts s found within from less ends plain =
    let step = ap (step_over brackets) found in (
      line_end (get_or text i 0) (slice_get-get_or text i 0 (omega arith)) ends,
      clean_inside pattern text at i brackets starts s (omega arith) plain
          (λ c cs e single. let one : piece (drop at text) ≡ Single c cs = ap piece e ∙ single in cc)
          (λ r p leads shorter longer. no_place_inside text [] (drop at text) brackets (drop end text) brackets r p s.leads step leads shorter (omega (arith, length-drop end text))),
    )

clean_unended : (pattern : Bool) (text : List ℕ) (at i : ℕ) (brackets : List ℕ) → BeginsNoBlank text → IsScanned pattern text at brackets → piece (drop at text) ≡ Unended → i ≤ length text → NoLineEnd text at i → (j : ℕ) → j < i → IsWrong pattern text j → ⊥
clean_unended pattern text at i brackets starts s found within plain =
    let step = ap (step_over brackets) found in
    clean_inside pattern text at i brackets starts s within plain
    (λ c cs e single. let one : piece (drop at text) ≡ Single c cs = ap piece e ∙ single in cc)
    (λ r p leads shorter longer. no_place_behind text [] (drop at text) brackets r p s.leads step leads shorter)

-- a line end in a quote without an end
pub wrong_in_unended : (pattern : Bool) (text : List ℕ) (at i : ℕ) (brackets : List ℕ) → begins is_whitespace (chars text) ≡ false → IsScanned pattern text at brackets → piece (drop at text) ≡ Unended → at ≤ i → i < length text → ends_line (get_or text i 0) ≡ true → NoLineEnd text at i → IsFirst (IsWrong pattern text) (Some i)
wrong_in_unended pattern text at i brackets starts s found from less ends plain = (line_end (get_or text i 0) (slice_get-get_or text i 0 less) ends, clean_unended pattern text at i brackets starts s found (omega arith) plain)

-- a quote is left open
pub wrong_unended : (pattern : Bool) (text : List ℕ) (at : ℕ) (brackets : List ℕ) → begins is_whitespace (chars text) ≡ false → IsScanned pattern text at brackets → piece (drop at text) ≡ Unended → NoLineEnd text at (length text) → IsFirst (IsWrong pattern text) (Some (length text))
wrong_unended pattern text at brackets starts s found plain = (open_quote (drop at text) brackets refl s.leads found, clean_unended pattern text at (length text) brackets starts s found (omega arith) plain)

at_end : (text : List ℕ) (at : ℕ) (brackets : List ℕ) → Leads text [] (drop at text) brackets → length text ≤ at → Leads text [] [] brackets
at_end text at brackets leads done = subst (λ x. Leads text [] x brackets) (drop_all at text done) leads

no_open_quote : (text rest o : List ℕ) → Leads text [] [] [] → Leads text [] rest o → piece rest ≡ Unended → ⊥
no_open_quote text [] o all leads found = cc
no_open_quote text (c ∷ cs) o all leads found = no_place_behind text [] (c ∷ cs) o [] [] leads (ap (step_over o) found) all (omega arith)

-- nothing is left open
past_end : (pattern : Bool) (text : List ℕ) (i : ℕ) → BeginsNoBlank text → Leads text [] [] [] → length text ≤ i → IsWrong pattern text i → ⊥
past_end pattern text i starts all done (blank e b) = false≢true (sym starts ∙ b)
past_end pattern text i starts all done (line_end c got ends) = let none = slice_get_past text i done in cc
past_end pattern text i starts all done (outside c cs o at leads wrong) = let none = drop_all i text done in cc
past_end pattern text i starts all done (open_quote rest o e leads found) = no_open_quote text rest o all leads found
past_end pattern text i starts all done (open_bracket c o e leads) = let same = same_place text [] [] [] [] (c ∷ o) all leads refl in let other = same.1 in cc

pub none_wrong : (pattern : Bool) (text : List ℕ) (at : ℕ) → begins is_whitespace (chars text) ≡ false → IsScanned pattern text at [] → length text ≤ at → IsFirst (IsWrong pattern text) None
none_wrong pattern text at starts s done i =
    ⊎_elim
    (λ before. s.clean i before)
    (λ behind. past_end pattern text i starts (at_end text at [] s.leads done) (omega (arith, behind)))
    (cases_lt i at)

-- a bracket is left open
pub wrong_bracket : (pattern : Bool) (text : List ℕ) (at c : ℕ) (brackets : List ℕ) → IsScanned pattern text at (c ∷ brackets) → length text ≤ at → IsFirst (IsWrong pattern text) (Some (length text))
wrong_bracket pattern text at c brackets s done = (open_bracket c brackets refl (at_end text at (c ∷ brackets) s.leads done), λ j less. s.clean j (omega arith))

-- a blank in front
pub wrong_blank : (pattern : Bool) (text : List ℕ) → begins is_whitespace (chars text) ≡ true → IsFirst (IsWrong pattern text) (Some 0)
wrong_blank pattern text starts = (blank refl starts, λ j less. absurd (omega (arith, less)))

pub none_open : (items : List ℕ) (n : ℕ) (b : Bool) → n ≡ length items → b ≡ eqb n 0 → b ≡ true → reverse items ≡ []
none_open items n b size test passes = let none : n ≡ 0 = eqb-true n 0 (sym test ∙ passes) in ap reverse (nil_from_length items (sym size ∙ none))

not_nil : (xs : List ℕ) → (length xs ≡ 0 → ⊥) → (c : ℕ) × (cs : List ℕ) × (xs ≡ c ∷ cs)
not_nil [] some = absurd (some refl)
not_nil (c ∷ cs) some = (c, cs, refl)

pub some_open : (items : List ℕ) (n : ℕ) (b : Bool) → n ≡ length items → b ≡ eqb n 0 → b ≡ false → (c : ℕ) × (cs : List ℕ) × (reverse items ≡ c ∷ cs)
some_open items n b size test fails = not_nil (reverse items) (λ none. eqb-false n 0 (sym test ∙ fails) (size ∙ sym (length-reverse items) ∙ none))

-- whether a text has no wrong byte
pub one_line : (text : List ℕ) (first : Option ℕ) (b : Bool) → is_some first ≡ not b → IsFirst (IsWrong false text) first → (IsTrue b → IsOneLine text) × (IsOneLine text → IsTrue b)
one_line text None true test first = (λ fits. first, λ line. refl)
one_line text None false test first = absurd (false≢true test)
one_line text (Some i) true test first = absurd (false≢true (sym test))
one_line text (Some i) false test first = (λ fits. absurd (false≢true fits), λ line. absurd (line i first.0))
