-- The first bar of a text, as a place and as what is left there.
use Rattle.std.proofs.Common.{◌≡◌, ℕ, zero, suc, ◌+◌, ◌-◌, ◌<◌, ◌≤◌, Bool, true, false, List, [], ◌∷◌, ◌++◌, length, drop, take, get_or, ⊎_elim, Option, Some, None, IsTrue, codes, nat_eq, refl, sym, ap, ◌∙◌, subst, arith, length-append, length-drop}
use Rattle.std.specs.Prelude.{if◌then◌else◌}
use Rattle.std.proofs.lemmas.List.{drop_all, nil_from_length, take-append-drop, drop-drop}
use Rattle.std.proofs.lemmas.List.Prefix.{front_rest, at_reads}
use Rattle.std.proofs.lemmas.Bool.{false≢true, cases_Bool, cases_lt}
use Rattle.std.proofs.lemmas.Slice.Eq.{bytes_eq-Decides}
use Rattle.std.specs.List.{starts_with}
use Rattle.std.specs.Str.{IsUtf8, IsCharBoundary}
use Rattle.std.proofs.lemmas.Str.{IsCharBoundary-after_ascii}
use Rattle.lp_texts.specs.Quotes.{piece}
use Rattle.lp_texts.specs.Brackets.{Step, Onward, Stuck, step_over, Leads, leads_none, leads_one}
use Rattle.lp_texts.specs.FirstWrong.{IsFirst}
use Rattle.lp_texts.specs.Bars.{IsBar}
use Rattle.lp_texts.proofs.Leading.{step_fewer}
use Rattle.lp_view.specs.Elements.{is_bar, bar_after, bar_within, from_bar, before_rest, behind_rest, before_bar, behind_bar}
use Rattle.lp_view.proofs.TextEnds.{leads_ends}

leads_fewer : (text before rest brackets : List ℕ) → Leads text before rest brackets → length rest ≤ length text
leads_fewer _ _ _ _ (leads_none text before) = omega arith
leads_fewer _ _ _ _ (leads_one text before mid within rest brackets first more) = omega (arith, leads_fewer mid within rest brackets more, step_fewer text before mid within first)

-- ---- what is found is the first bar

abbrev begins_bar : List ℕ → Bool
begins_bar s = starts_with nat_eq s (codes " | ")

abbrev next_bar : ℕ → Step → Option (List ℕ)
next_bar n st = bar_after (λ inner next. bar_within n inner next) st

bar_here : (before s : List ℕ) → is_bar before s ≡ true → (before ≡ []) × IsTrue (begins_bar s)
bar_here [] s h = (refl, h)
bar_here (b ∷ before) s h = absurd (false≢true h)

-- a bar where no bracket is open is found
here_bar : (before s : List ℕ) → before ≡ [] → IsTrue (begins_bar s) → is_bar before s ≡ true
here_bar before s none bar = ap (λ xs. is_bar xs s) none ∙ bar

found_here : (n : ℕ) (before s : List ℕ) → is_bar before s ≡ true → bar_within (suc n) before s ≡ Some s
found_here n before s at = ap (λ (b : Bool). if b then Some s else next_bar n (step_over before (piece s))) at

found_later : (n : ℕ) (before s : List ℕ) → is_bar before s ≡ false → bar_within (suc n) before s ≡ next_bar n (step_over before (piece s))
found_later n before s off = ap (λ (b : Bool). if b then Some s else next_bar n (step_over before (piece s))) off

-- what is found, is one
abbrev Found : List ℕ → List ℕ → List ℕ → Type 0
Found s before rest = Leads s before rest [] × IsTrue (begins_bar rest)

later_is : (n : ℕ) (before s rest : List ℕ) (st : Step) → step_over before (piece s) ≡ st → ((inner next : List ℕ) → bar_within n inner next ≡ Some rest → Found next inner rest) → next_bar n st ≡ Some rest → Found s before rest
later_is n before s rest (Onward next inner) step ih e = let there = ih inner next e in (leads_one s before next inner rest [] step there.0, there.1)
later_is n before s rest Stuck step ih e = absurd cc

bar_is : (n : ℕ) (before s rest : List ℕ) → bar_within n before s ≡ Some rest → Found s before rest
bar_is zero before s rest e = absurd cc
bar_is (suc n) before s rest e =
    ⊎_elim
    (λ at.
    let here = bar_here before s at in
    let same : s ≡ rest = (let both : Some s ≡ Some rest = sym (found_here n before s at) ∙ e in cc) in
    subst (λ x. Found s before x) same (subst (λ x. Leads s before s x) here.0 (leads_none s before), here.1))
    (λ off. later_is n before s rest (step_over before (piece s)) refl (λ inner next h. bar_is n inner next rest h) (sym (found_later n before s off) ∙ e))
    (cases_Bool (is_bar before s))

-- no bar comes before it
first_later : (n : ℕ) (before s t brackets rest : List ℕ) → Leads s before t brackets → brackets ≡ [] → IsTrue (begins_bar t) → is_bar before s ≡ false → ((inner next : List ℕ) → bar_within n inner next ≡ Some rest → Leads next inner t [] → length t ≤ length rest) → next_bar n (step_over before (piece s)) ≡ Some rest → length t ≤ length rest
first_later n _ _ _ _ rest (leads_none s before) none bar off ih e = absurd (false≢true (sym off ∙ here_bar before s none bar))
first_later n _ _ _ _ rest (leads_one s before mid within t brackets first more) none bar off ih e = ih within mid (sym (ap (next_bar n) first) ∙ e) (subst (λ x. Leads mid within t x) none more)

bar_first : (n : ℕ) (before s rest t : List ℕ) → bar_within n before s ≡ Some rest → Leads s before t [] → IsTrue (begins_bar t) → length t ≤ length rest
bar_first zero before s rest t e way bar = absurd cc
bar_first (suc n) before s rest t e way bar =
    ⊎_elim
    (λ at.
    let same : s ≡ rest = (let both : Some s ≡ Some rest = sym (found_here n before s at) ∙ e in cc) in
    subst (λ x. length t ≤ length x) same (leads_fewer s before t [] way))
    (λ off. first_later n before s t [] rest way refl bar off (λ inner next h on. bar_first n inner next rest t h on bar) (sym (found_later n before s off) ∙ e))
    (cases_Bool (is_bar before s))

-- where none is found, there is none
none_here : (before s t brackets : List ℕ) → Leads s before t brackets → length s ≡ 0 → IsTrue (begins_bar t) → ⊥
none_here _ _ _ _ (leads_none s before) short bar = false≢true (ap begins_bar (sym (nil_from_length s short)) ∙ bar)
none_here _ _ _ _ (leads_one s before mid within t brackets first more) short bar = omega (arith, step_fewer s before mid within first)

none_later : (n : ℕ) (before s t brackets : List ℕ) → Leads s before t brackets → brackets ≡ [] → IsTrue (begins_bar t) → is_bar before s ≡ false → ((inner next : List ℕ) → length next < length s → bar_within n inner next ≡ None → Leads next inner t [] → ⊥) → next_bar n (step_over before (piece s)) ≡ None → ⊥
none_later n _ _ _ _ (leads_none s before) none bar off ih e = false≢true (sym off ∙ here_bar before s none bar)
none_later n _ _ _ _ (leads_one s before mid within t brackets first more) none bar off ih e = ih within mid (step_fewer s before mid within first) (sym (ap (next_bar n) first) ∙ e) (subst (λ x. Leads mid within t x) none more)

bar_none : (n : ℕ) (before s t : List ℕ) → length s ≤ n → bar_within n before s ≡ None → Leads s before t [] → IsTrue (begins_bar t) → ⊥
bar_none zero before s t short e way bar = none_here before s t [] way (omega arith) bar
bar_none (suc n) before s t short e way bar =
    ⊎_elim
    (λ at. let both : Some s ≡ None = sym (found_here n before s at) ∙ e in absurd cc)
    (λ off. none_later n before s t [] way refl bar off (λ inner next fewer h on. bar_none n inner next t (omega arith) h on bar) (sym (found_later n before s off) ∙ e))
    (cases_Bool (is_bar before s))

-- ---- the same by its place

told_none : (s : List ℕ) (o : Option (List ℕ)) → from_bar s ≡ o → IsFirst (IsBar s) None → o ≡ None
told_none s None e h = refl
told_none s (Some rest) e h =
    let there = bar_is (length s) [] s rest e in
    let ends = leads_ends s [] rest [] there.0 in
    let at : drop (length ends.0) s ≡ rest = front_rest s ends.0 rest ends.1 in
    absurd (h (length ends.0) (subst (λ x. Leads s [] x []) (sym at) there.0, subst (λ x. IsTrue (begins_bar x)) (sym at) there.1))

bar_inside : (s : List ℕ) (i : ℕ) → IsTrue (begins_bar (drop i s)) → i < length s
bar_inside s i bar =
    ⊎_elim
    (λ less. less)
    (λ past. absurd (false≢true (ap begins_bar (sym (drop_all i s past)) ∙ bar)))
    (cases_lt i (length s))

told_some : (s : List ℕ) (i : ℕ) (o : Option (List ℕ)) → from_bar s ≡ o → IsFirst (IsBar s) (Some i) → o ≡ Some (drop i s)
told_some s i None e h = absurd (bar_none (length s) [] s (drop i s) (omega arith) e h.0.0 h.0.1)
told_some s i (Some rest) e h =
    let there = bar_is (length s) [] s rest e in
    let ends = leads_ends s [] rest [] there.0 in
    let k : ℕ = length ends.0 in
    let at : drop k s ≡ rest = front_rest s ends.0 rest ends.1 in
    let bar : IsBar s k = (subst (λ x. Leads s [] x []) (sym at) there.0, subst (λ x. IsTrue (begins_bar x)) (sym at) there.1) in
    let whole : length s ≡ k + length rest = ap length ends.1 ∙ length-append ends.0 rest in
    let inside : i < length s = bar_inside s i h.0.1 in
    let least : length s - i ≤ length rest = subst (λ m. m ≤ length rest) (length-drop i s) (bar_first (length s) [] s rest (drop i s) e h.0.0 h.0.1) in
    ⊎_elim
    (λ below. absurd (h.1 k below bar))
    (λ above. let same : k ≡ i = omega arith in ap Some (sym at ∙ ap (λ m. drop m s) same))
    (cases_lt k i)

-- a bar has three bytes
bar_front : (s : List ℕ) → IsTrue (begins_bar s) → s ≡ codes " | " ++ drop 3 s
bar_front s bar =
    let same : codes " | " ≡ take 3 s = (bytes_eq-Decides (codes " | ") (take 3 s)).0 bar in
    sym (take-append-drop 3 s) ∙ ap (λ xs. xs ++ drop 3 s) (sym same)

-- what a first bar tells of the texts before and behind it
pub record BarTold (s : List ℕ) (i : ℕ) : Type 0 where
  pub within : i + 3 ≤ length s
  pub before : take i s ≡ before_bar s
  pub behind : drop (i + 3) s ≡ behind_bar s
  pub first : get_or s i 0 ≡ 32
  pub last : get_or s (i + 2) 0 ≡ 32

bar_told : (s : List ℕ) (i : ℕ) → IsFirst (IsBar s) (Some i) → BarTold s i
bar_told s i h =
    let found : from_bar s ≡ Some (drop i s) = told_some s i (from_bar s) refl h in
    let inside : i < length s = bar_inside s i h.0.1 in
    let front : drop i s ≡ codes " | " ++ drop 3 (drop i s) = bar_front (drop i s) h.0.1 in
    let bytes : length (drop i s) ≡ 3 + length (drop 3 (drop i s)) = ap length front ∙ length-append (codes " | ") (drop 3 (drop i s)) in
    let lengths : length (drop i s) ≡ length s - i = length-drop i s in
    let here : length s - length (drop i s) ≡ i = omega arith in
    let at_front : i + 0 ≡ i = omega arith in
    record {
      within = omega arith;
      before = ap (λ m. take m s) (sym here) ∙ sym (ap (before_rest s) found);
      behind = sym (drop-drop 3 i s) ∙ sym (ap behind_rest found);
      first = subst (λ m. get_or s m 0 ≡ 32) at_front (at_reads 0 s (codes " | ") i (drop 3 (drop i s)) front 0 (omega arith));
      last = at_reads 0 s (codes " | ") i (drop 3 (drop i s)) front 2 (omega arith);
    }

no_bar_told : (s : List ℕ) → IsFirst (IsBar s) None → (s ≡ before_bar s) × ([] ≡ behind_bar s)
no_bar_told s h =
    let none : from_bar s ≡ None = told_none s (from_bar s) refl h in
    (sym (ap (before_rest s) none), sym (ap behind_rest none))

-- the same of a text whose bytes are looked at
pub bar_in : (bytes s : List ℕ) (i : ℕ) → bytes ≡ s → IsFirst (IsBar bytes) (Some i) → BarTold s i
bar_in bytes s i same h = subst (λ x. BarTold x i) same (bar_told bytes i h)

pub no_bar_in : (bytes s : List ℕ) → bytes ≡ s → IsFirst (IsBar bytes) None → (s ≡ before_bar s) × ([] ≡ behind_bar s)
no_bar_in bytes s same h = subst (λ x. (x ≡ before_bar x) × ([] ≡ behind_bar x)) same (no_bar_told bytes h)

-- a text may be cut behind a bar
pub bar_ends : (s : List ℕ) (i : ℕ) → IsUtf8 s → BarTold s i → IsCharBoundary s (i + 3)
bar_ends s i text told =
    let at : i + 2 < length s = omega (arith, told.within) in
    let ascii : get_or s (i + 2) 0 < 128 = omega (arith, told.last) in
    let same : i + 2 + 1 ≡ i + 3 = omega arith in
    subst (λ m. IsCharBoundary s m) same (IsCharBoundary-after_ascii s (i + 2) text at ascii)
