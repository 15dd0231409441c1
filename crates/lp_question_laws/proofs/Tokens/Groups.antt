-- Known terminals by number, and the groups of those with one variant and one number of captures.
use Rattle.std.proofs.Common.{inl, inr, ◌≡◌, ℕ, zero, suc, ◌+◌, ◌<◌, ◌==◌, Bool, true, false, cond, ◌&&◌, ◌||◌, List, [], ◌∷◌, ◌++◌, length, map, Option, Some, None, refl, sym, ap, subst, ◌∙◌, arith, if◌then◌else◌}
use Rattle.std.specs.Prelude.{slice_get}
use Rattle.std.specs.List.{fold, list_any, position_from}
use Rattle.std.proofs.lemmas.Bool.{eq-eqb, ne_eqb, eqb-true, and_parts}
use Rattle.std.proofs.lemmas.Bool.Decides.{nat_tests}
use Rattle.lp_repr.specs.Numbering.{terminals_of}
use Rattle.lp_repr.specs.Shown.{pattern_text}
use Rattle.lp_repr.specs.declared.repr.Grammar.{Grammar}
use Rattle.lp_repr.specs.declared.repr.TerminalString.{TerminalString}
use Rattle.lp_repr.specs.declared.repr.TokenPattern.{TokenPattern}
use Rattle.lp_machine.specs.declared.lookup.KnownTerminal.{KnownTerminal}
use Rattle.lp_machine.specs.GrammarTables.{known_among}
use Rattle.lp_table.specs.TokenLines.{Known, if_known, known_from, terminal_variant, group_of, same_group, with_group, groups_of, in_group, number_of, own_pattern}
use Rattle.lp_table.specs.declared.tokens.Group.{Group}
use Rattle.lp_question_laws.proofs.Tokens.Known.{AreKnown, IsEnd, IsKnown, known_first, no_own, none_known, own_there}

-- ---- known terminals, by number
-- a place that was found
pub found_at : {X : Type 0} (test : X → Bool) (n i : ℕ) (xs : List X) → position_from test n xs ≡ Some i → (j : ℕ) × (x : X) × (i ≡ n + j) × (slice_get xs j ≡ Some x) × (test x ≡ true)
found_at test n i [] h = absurd cc
found_at test n i (x ∷ xs) h = by (test x) refl h (found_at test (n + 1) i xs)
  where
    by : (b : Bool) → test x ≡ b → cond b (Some n) (position_from test (n + 1) xs) ≡ Some i → (position_from test (n + 1) xs ≡ Some i → (j : ℕ) × (y : _) × (i ≡ (n + 1) + j) × (slice_get xs j ≡ Some y) × (test y ≡ true))
        → (j : ℕ) × (y : _) × (i ≡ n + j) × (slice_get (x ∷ xs) j ≡ Some y) × (test y ≡ true)
    by true is e later = (let same : n ≡ i = cc in (0, x, omega arith, refl, is))
    by false is e later = (let r = later e in (suc r.0, r.1, (let at = r.2 in omega arith), r.3, r.4))

-- each is numbered in turn
abbrev pub AreNumbered : ℕ → List Known → Type 0
AreNumbered n [] = Unit {0}
AreNumbered n (k ∷ ks) = (k.0 ≡ n) × AreNumbered (n + 1) ks

module _ (g : Grammar) where
  pub known_cons : (n : ℕ) (t : TerminalString) (ts : List TerminalString) (k : IsKnown g t) → known_from g n (t ∷ ts) ≡ (n, terminal_variant g n, k.pattern) ∷ known_from g (n + 1) ts
  known_cons n t ts k = ap (λ (o : Option TokenPattern). if_known n (terminal_variant g n) o ++ known_from g (n + 1) ts) (own_there g t k)

  pub none_from : (n : ℕ) (t : TerminalString) (ts : List TerminalString) → IsEnd t ts → known_from g n (t ∷ ts) ≡ []
  none_from n t ts e = ap (λ (o : Option TokenPattern). if_known n (terminal_variant g n) o ++ known_from g (n + 1) ts) (no_own g t e.error) ∙ ap (known_from g (n + 1)) e.alone

  pub numbered : (n : ℕ) (ts : List TerminalString) → AreKnown g ts → AreNumbered n (known_from g n ts)
  numbered n [] a = tt
  numbered n (t ∷ ts) (inr e) = subst (AreNumbered n) (sym (none_from n t ts e)) tt
  numbered n (t ∷ ts) (inl a) = subst (AreNumbered n) (sym (known_cons n t ts a.0)) (refl, numbered (n + 1) ts a.1)

  -- the pattern of a number
  pub record PatternAt (n j : ℕ) (ts : List TerminalString) (k : KnownTerminal) : Type 0 where
    pub pattern : TokenPattern
    pub there : slice_get (known_from g n ts) j ≡ Some (n + j, terminal_variant g (n + j), pattern)
    pub form : k.form ≡ pattern_text pattern
    pub captures : k.captures ≡ length pattern.holes

  pub pattern_at : (n j : ℕ) (ts : List TerminalString) (k : KnownTerminal) → AreKnown g ts → slice_get (known_among g ts) j ≡ Some k → PatternAt n j ts k
  pattern_at n j [] k a h = absurd cc
  pattern_at n j (t ∷ ts) k (inr e) h = absurd (let none : slice_get (known_among g (t ∷ ts)) j ≡ None = ap (λ (ks : List KnownTerminal). slice_get ks j) (none_known g t ts e) in cc)
  pattern_at n zero (t ∷ ts) k (inl a) h =
      let first = known_first g t ts a.0 in
      let none : n + 0 ≡ n = omega arith in
      let same : slice_get (known_among g (t ∷ ts)) 0 ≡ Some _ = ap (λ (ks : List KnownTerminal). slice_get ks 0) first in
      let form : k.form ≡ pattern_text a.0.pattern = cc in
      let captures : k.captures ≡ length a.0.pattern.holes = cc in
      record {
        pattern = a.0.pattern;
        there = ap (λ (ks : List Known). slice_get ks 0) (known_cons n t ts a.0) ∙ ap (λ m. Some (m, terminal_variant g m, a.0.pattern)) (sym none);
        form = form;
        captures = captures;
      }
  pattern_at n (suc j) (t ∷ ts) k (inl a) h =
      let r = pattern_at (n + 1) j ts k a.1 (sym (ap (λ (ks : List KnownTerminal). slice_get ks (suc j)) (known_first g t ts a.0)) ∙ h) in
      let next : (n + 1) + j ≡ n + suc j = omega arith in
      record {
        pattern = r.pattern;
        there = ap (λ (ks : List Known). slice_get ks (suc j)) (known_cons n t ts a.0) ∙ r.there ∙ ap (λ m. Some (m, terminal_variant g m, r.pattern)) next;
        form = r.form;
        captures = r.captures;
      }

  -- each is the pattern of a terminal
  abbrev pub IsConverted : Known → Type 0
  IsConverted k = (i : ℕ) × (t : TerminalString) × (slice_get (terminals_of g) i ≡ Some t) × (own_pattern g t ≡ Some k.2)

  abbrev pub AreConverted : List Known → Type 0
  AreConverted [] = Unit {0}
  AreConverted (k ∷ ks) = IsConverted k × AreConverted ks

  converted_from : (n : ℕ) (ts : List TerminalString) → AreKnown g ts → ((j : ℕ) (t : TerminalString) → slice_get ts j ≡ Some t → slice_get (terminals_of g) (n + j) ≡ Some t) → AreConverted (known_from g n ts)
  converted_from n [] a h = tt
  converted_from n (t ∷ ts) (inr e) h = subst AreConverted (sym (none_from n t ts e)) tt
  converted_from n (t ∷ ts) (inl a) h =
      subst AreConverted (sym (known_cons n t ts a.0))
      ((n + 0, t, h 0 t refl, own_there g t a.0), converted_from (n + 1) ts a.1 (λ j u at. (let next : (n + 1) + j ≡ n + suc j = omega arith in ap (slice_get (terminals_of g)) next ∙ h (suc j) u at)))

  pub converted : AreKnown g (terminals_of g) → AreConverted (known_from g 0 (terminals_of g))
  converted a = converted_from 0 (terminals_of g) a (λ j t at. (let none : 0 + j ≡ j = omega arith in ap (slice_get (terminals_of g)) none ∙ at))

-- ---- the numbers of a group
abbrev pub has_number : ℕ → List Known → Bool
has_number i ks = list_any (λ (m : ℕ). m == i) (map number_of ks)

none_earlier : (group : Group) (n i : ℕ) (ks : List Known) → AreNumbered n ks → i < n → has_number i (in_group group ks) ≡ false
none_earlier group n i [] a lt = refl
none_earlier group n i (k ∷ ks) a lt = by (same_group group (group_of k)) (none_earlier group (n + 1) i ks a.1 (omega arith))
  where
    by : (b : Bool) → has_number i (in_group group ks) ≡ false → has_number i (cond b (k ∷ in_group group ks) (in_group group ks)) ≡ false
    by true rest = ap (λ t. t || has_number i (in_group group ks)) (ne_eqb k.0 i (λ e. omega (arith, a.0))) ∙ rest
    by false rest = rest

-- a number is one of a group's where its terminal is
pub has_its_number : (group : Group) (n j : ℕ) (ks : List Known) (k : Known) → AreNumbered n ks → slice_get ks j ≡ Some k → has_number (n + j) (in_group group ks) ≡ same_group group (group_of k)
has_its_number group n j [] k a h = absurd cc
has_its_number group n zero (x ∷ ks) k a h =
    let same : x ≡ k = cc in
    by (same_group group (group_of x)) ∙ ap (λ y. same_group group (group_of y)) same
  where
    here : (x.0 == n + 0) ≡ true
    here = eq-eqb x.0 (n + 0) (omega (arith, a.0))

    by : (b : Bool) → has_number (n + 0) (cond b (x ∷ in_group group ks) (in_group group ks)) ≡ b
    by true = ap (λ t. t || has_number (n + 0) (in_group group ks)) here
    by false = none_earlier group (n + 1) (n + 0) ks a.1 (omega arith)
has_its_number group n (suc j) (x ∷ ks) k a h =
    let next : (n + 1) + j ≡ n + suc j = omega arith in
    let rest : has_number (n + suc j) (in_group group ks) ≡ same_group group (group_of k) = subst (λ m. has_number m (in_group group ks) ≡ same_group group (group_of k)) next (has_its_number group (n + 1) j ks k a.1 h) in
    by (same_group group (group_of x)) ∙ rest
  where
    by : (b : Bool) → has_number (n + suc j) (cond b (x ∷ in_group group ks) (in_group group ks)) ≡ has_number (n + suc j) (in_group group ks)
    by true = ap (λ t. t || has_number (n + suc j) (in_group group ks)) (ne_eqb x.0 (n + suc j) (λ e. omega (arith, a.0)))
    by false = refl

-- ---- groups
-- groups that are the same are equal
pub group_is : (a b : Group) → same_group a b ≡ true → a ≡ b
group_is a b h =
    let r = and_parts (a.variant == b.variant) (a.captures == b.captures) h in
    let variants : a.variant ≡ b.variant = eqb-true a.variant b.variant r.0 in
    let captures : a.captures ≡ b.captures = eqb-true a.captures b.captures r.1 in
    ap (λ v. record { variant = v; captures = a.captures }) variants ∙ ap (λ c. record { variant = b.variant; captures = c }) captures

same_symm : (a b : Group) → same_group a b ≡ same_group b a
same_symm a b =
    let eq_symm : (m n : ℕ) → (m == n) ≡ (n == m) = λ m n. grind (arith, nat_tests) in
    ap (λ t. t && (a.captures == b.captures)) (eq_symm a.variant b.variant) ∙ ap (λ t. (b.variant == a.variant) && t) (eq_symm a.captures b.captures)

pub same_itself : (a : Group) → same_group a a ≡ true
same_itself a = ap (λ t. t && (a.captures == a.captures)) (eq-eqb a.variant a.variant refl) ∙ eq-eqb a.captures a.captures refl

abbrev pub has_group : Group → List Group → Bool
has_group x gs = list_any (λ (y : Group). same_group y x) gs

or_true : (a b : Bool) → b ≡ true → (a || b) ≡ true
or_true true b h = refl
or_true false b h = h

has_more : (x : Group) (gs hs : List Group) → has_group x gs ≡ true → has_group x (gs ++ hs) ≡ true
has_more x [] hs h = absurd cc
has_more x (y ∷ gs) hs h = by (same_group y x) h (has_more x gs hs)
  where
    by : (b : Bool) → (b || has_group x gs) ≡ true → (has_group x gs ≡ true → has_group x (gs ++ hs) ≡ true) → (b || has_group x (gs ++ hs)) ≡ true
    by true h later = refl
    by false h later = later h

has_end : (x : Group) (gs : List Group) → has_group x (gs ++ x ∷ []) ≡ true
has_end x [] = ap (λ t. t || false) (same_itself x)
has_end x (y ∷ gs) = or_true (same_group y x) (has_group x (gs ++ x ∷ [])) (has_end x gs)

has_swapped : (x : Group) (gs : List Group) → list_any (same_group x) gs ≡ has_group x gs
has_swapped x [] = refl
has_swapped x (y ∷ gs) = ap (λ t. t || list_any (same_group x) gs) (same_symm x y) ∙ ap (λ t. same_group y x || t) (has_swapped x gs)

kept_with : (x y : Group) (gs : List Group) → has_group x gs ≡ true → has_group x (with_group gs y) ≡ true
kept_with x y gs h = by (list_any (same_group y) gs)
  where
    by : (b : Bool) → has_group x (if b then gs else gs ++ y ∷ []) ≡ true
    by true = h
    by false = has_more x gs (y ∷ []) h

there_with : (x : Group) (gs : List Group) → has_group x (with_group gs x) ≡ true
there_with x gs = by (list_any (same_group x) gs) (has_swapped x gs)
  where
    by : (b : Bool) → b ≡ has_group x gs → has_group x (if b then gs else gs ++ x ∷ []) ≡ true
    by true h = sym h
    by false h = has_end x gs

kept_all : (x : Group) (gs ys : List Group) → has_group x gs ≡ true → has_group x (fold with_group gs ys) ≡ true
kept_all x gs [] h = h
kept_all x gs (y ∷ ys) h = kept_all x (with_group gs y) ys (kept_with x y gs h)

there_all : (gs : List Group) (ks : List Known) (j : ℕ) (k : Known) → slice_get ks j ≡ Some k → has_group (group_of k) (fold with_group gs (map group_of ks)) ≡ true
there_all gs [] j k h = absurd cc
there_all gs (x ∷ ks) zero k h =
    let same : x ≡ k = cc in
    subst (λ y. has_group (group_of y) (fold with_group gs (map group_of (x ∷ ks))) ≡ true) same (kept_all (group_of x) (with_group gs (group_of x)) (map group_of ks) (there_with (group_of x) gs))
there_all gs (x ∷ ks) (suc j) k h = there_all (with_group gs (group_of x)) ks j k h

-- each terminal's group is one of them
pub group_there : (ks : List Known) (j : ℕ) (k : Known) → slice_get ks j ≡ Some k → has_group (group_of k) (groups_of ks) ≡ true
group_there ks j k h = there_all [] ks j k h

-- a terminal is in its group
pub in_its_group : (group : Group) (ks : List Known) (j : ℕ) (k : Known) → slice_get ks j ≡ Some k → same_group group (group_of k) ≡ true → (i : ℕ) × (slice_get (in_group group ks) i ≡ Some k)
in_its_group group [] j k h is = absurd cc
in_its_group group (x ∷ ks) zero k h is =
    let same : x ≡ k = cc in
    (0, ap (λ b. slice_get (cond b (x ∷ in_group group ks) (in_group group ks)) 0) (ap (λ y. same_group group (group_of y)) same ∙ is) ∙ ap Some same)
in_its_group group (x ∷ ks) (suc j) k h is = by (same_group group (group_of x)) (in_its_group group ks j k h is)
  where
    by : (b : Bool) → ((i : ℕ) × (slice_get (in_group group ks) i ≡ Some k)) → (i : ℕ) × (slice_get (cond b (x ∷ in_group group ks) (in_group group ks)) i ≡ Some k)
    by true r = (suc r.0, r.1)
    by false r = r

-- what holds of each terminal and its group holds of those in a group
pub all_in_group : (P : Known → Type 0) (group : Group) (ks : List Known) → ((j : ℕ) (k : Known) → slice_get ks j ≡ Some k → same_group group (group_of k) ≡ true → P k) → (i : ℕ) (k : Known) → slice_get (in_group group ks) i ≡ Some k → P k
all_in_group P group [] h i k at = absurd cc
all_in_group P group (x ∷ ks) h i k at = by (same_group group (group_of x)) refl (λ i at. all_in_group P group ks (λ j. h (suc j)) i k at) i at
  where
    by : (b : Bool) → same_group group (group_of x) ≡ b → ((i : ℕ) → slice_get (in_group group ks) i ≡ Some k → P k) → (i : ℕ) → slice_get (cond b (x ∷ in_group group ks) (in_group group ks)) i ≡ Some k → P k
    by true is rest zero at = (let same : x ≡ k = cc in subst P same (h 0 x refl is))
    by true is rest (suc i) at = rest i at
    by false is rest i at = rest i at
