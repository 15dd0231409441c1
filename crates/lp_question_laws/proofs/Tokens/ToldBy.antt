-- The patterns of a valid grammar are told where their texts meet the rule, the printed ones are filled as they may be, and their holes are few.
use Rattle.std.proofs.Common.{◌≡◌, ℕ, zero, suc, ◌+◌, ◌-◌, ◌<◌, ◌^◌, ◌==◌, Bool, true, false, cond, ◌&&◌, List, [], ◌∷◌, ◌++◌, length, map, take, drop, Option, Some, None, IsTrue, inl, inr, refl, sym, ap, subst, ◌∙◌, arith, codes, nat_eq, append_assoc, append-nil}
use Rattle.std.specs.Prelude.{slice_get, slice_index_or, nat_lt, IfSome}
use Rattle.std.specs.BTreeMap.{get, values}
use Rattle.std.specs.List.{flat_map, list_all, starts_with}
use Rattle.std.specs.Map.{lookup, values_of}
use Rattle.std.specs.Str.{chars}
use Rattle.std.proofs.lemmas.Bool.{eqb-true, or_parts, false_from_ne_true, not-true}
use Rattle.std.proofs.lemmas.Map.Views.{IfSome-lookup_from_All}
use Rattle.std.proofs.lemmas.Option.{slice_get_within}
use Rattle.unicode_ident.specs.Ident.{is_xid_continue}
use Rattle.lp_repr.specs.NameOrder.{terminal_cmp}
use Rattle.lp_repr.specs.Numbering.{terminals_of, nonterminals_of}
use Rattle.lp_repr.specs.Shown.{pattern_text}
use Rattle.lp_repr.specs.declared.repr.Grammar.{Grammar}
use Rattle.lp_repr.specs.declared.repr.TerminalString.{TerminalString}
use Rattle.lp_repr.specs.declared.repr.TokenPattern.{TokenPattern}
use Rattle.lp_valid.specs.Places.{Then}
use Rattle.lp_valid.specs.PrefixRules.{holds_prefix, lacks, types_of, NonterminalsLack, ParametersLack, TypesAreClear, ReturnTypesAreClear, PatternsLack}
use Rattle.lp_valid.specs.TerminalRules.{is_pattern}
use Rattle.lp_valid.specs.ValidGrammar.{IsValidGrammar, prefixes}
use Rattle.lp_texts.specs.OneLine.{begins}
use Rattle.lp_texts.specs.Pattern.{joined, ends, is_beside_word, AnswersPattern}
use Rattle.lp_texts.specs.TextRules.{KindMeets}
use Rattle.lp_texts.specs.declared.faults.TextKind.TheVariants.{Pattern}
use Rattle.lp_build.specs.Built.{barred}
use Rattle.lp_spelling.specs.Fillings.{are_filled}
use Rattle.lp_spelling.specs.HoleEnds.{is_word}
use Rattle.lp_maker.specs.Texts as texts
use Rattle.lp_table.specs.TokenLines.{Known, known_from, known_terminals, terminal_variant, group_of, groups_of, in_group, named_pattern, own_pattern, pattern_of}
use Rattle.lp_table.specs.declared.tokens.Group.{Group}
use Rattle.lp_question_laws.specs.Tokens.Told.{StandsNowhere, AreFew, AreTold, IsTold}
use Rattle.lp_question_laws.proofs.Tokens.Apart.{HolesFree, AllNowhere, Filled, filled_at, holes_apart}
use Rattle.lp_question_laws.proofs.Tokens.Closed.{closed_named}
use Rattle.lp_question_laws.proofs.Tokens.FormOf.{underscored, words}
use Rattle.lp_question_laws.proofs.Tokens.Groups.{known_cons, has_group, group_there, in_its_group, same_itself}
use Rattle.lp_question_laws.proofs.Tokens.Known.{IsEnd, AreKnown, no_own, other_known, own_there, owns, terminals_known}

-- ---- the prefix stands in no piece
front_begins : (word u rest : List ℕ) → texts.begins word (u ++ rest) ≡ false → texts.begins word u ≡ false
front_begins [] u rest h = absurd cc
front_begins (n ∷ ns) [] rest h = refl
front_begins (n ∷ ns) (c ∷ cs) rest h = by (nat_eq n c) h (front_begins ns cs rest)
  where
    by : (b : Bool) → (b && texts.begins ns (cs ++ rest)) ≡ false → (texts.begins ns (cs ++ rest) ≡ false → texts.begins ns cs ≡ false) → (b && texts.begins ns cs) ≡ false
    by true h later = later h
    by false h later = refl

front_nowhere : (prefix q rest : List ℕ) → holds_prefix prefix (q ++ rest) ≡ false → StandsNowhere prefix q
front_nowhere prefix [] rest h = tt
front_nowhere prefix (c ∷ cs) rest h =
    let r = or_parts (starts_with nat_eq (c ∷ (cs ++ rest)) prefix) (holds_prefix prefix (cs ++ rest)) h in
    (front_begins prefix (c ∷ cs) rest r.0, front_nowhere prefix cs rest r.1)

rest_holds : (prefix q rest : List ℕ) → holds_prefix prefix (q ++ rest) ≡ false → holds_prefix prefix rest ≡ false
rest_holds prefix [] rest h = h
rest_holds prefix (c ∷ cs) rest h = rest_holds prefix cs rest (or_parts (starts_with nat_eq (c ∷ (cs ++ rest)) prefix) (holds_prefix prefix (cs ++ rest)) h).1

pieces_nowhere : (prefix : List ℕ) (pieces : List (List ℕ)) → holds_prefix prefix (underscored pieces) ≡ false → AllNowhere prefix pieces
pieces_nowhere prefix [] h = tt
pieces_nowhere prefix (q ∷ []) h = (front_nowhere prefix q [] h, tt)
pieces_nowhere prefix (q ∷ p ∷ ps) h =
    let more : underscored (q ∷ p ∷ ps) ≡ (q ++ codes "_") ++ underscored (p ∷ ps) = sym (append_assoc q (codes "_") (p ++ flat_map (λ y. codes "_" ++ y) ps)) in
    (front_nowhere prefix q (flat_map (λ y. codes "_" ++ y) (p ∷ ps)) h, pieces_nowhere prefix (p ∷ ps) (rest_holds prefix (q ++ codes "_") (underscored (p ∷ ps)) (ap (holds_prefix prefix) (sym more) ∙ h)))

-- ---- no word goes on behind a hole
free_from : (pieces : List (List ℕ)) → ((k : ℕ) → 0 < k → k < length pieces → begins is_xid_continue (chars (joined (drop k pieces))) ≡ false) → HolesFree pieces
free_from [] h = tt
free_from (q ∷ []) h = tt
free_from (q ∷ p ∷ ps) h = (h 1 (omega arith) (omega arith), free_from (p ∷ ps) (λ k low high. h (suc k) (omega arith) (omega arith)))

holes_free : (pieces : List (List ℕ)) → AnswersPattern pieces None → HolesFree pieces
holes_free pieces h =
    free_from pieces
    (λ k low high.
    let before = joined (take k pieces) in
    let behind = joined (drop k pieces) in
    let apart : is_beside_word before behind ≡ false = false_from_ne_true (is_beside_word before behind) (λ beside. h (length before) (inr (record { number = k; some_before = low; some_behind = high; place = refl; wrong = inl beside }))) in
    (or_parts (ends is_xid_continue (chars before)) (begins is_xid_continue (chars behind)) apart).1)

-- ---- what the rules say of a terminal's pattern
then_second : (n : ℕ) (First Second : ℕ → Type 0) → ((place : ℕ) → Then n First Second place) → (place : ℕ) → Second place
then_second n First Second h place = (let same : (n + place) - n ≡ place = omega arith in subst Second same ((h (n + place)).1 (omega arith)))

value_place : {K X : Type 0} (test : K → Bool) (es : List (K × X)) (x : X) → lookup test es ≡ Some x → (place : ℕ) × (slice_get (values_of es) place ≡ Some x)
value_place test [] x h = absurd cc
value_place test (e ∷ es) x h = by (test e.0) h (value_place test es x)
  where
    by : (b : Bool) → cond b (Some e.1) (lookup test es) ≡ Some x → (lookup test es ≡ Some x → (place : ℕ) × (slice_get (values_of es) place ≡ Some x)) → (place : ℕ) × (slice_get (values_of (e ∷ es)) place ≡ Some x)
    by true h later = (0, h)
    by false h later = (let r = later h in (suc r.0, r.1))

pub index_is : {X : Type 0} (xs : List X) (k : ℕ) (d x : X) → slice_get xs k ≡ Some x → slice_index_or xs k d ≡ x
index_is [] k d x h = absurd cc
index_is (y ∷ xs) zero d x h = cc
index_is (y ∷ xs) (suc k) d x h = index_is xs k d x h

if_some : {X : Type 0} (P : X → Type 0) (o : Option X) (x : X) → o ≡ Some x → IfSome o P → P x
if_some P None x is h = absurd cc
if_some P (Some y) x is h = (let same : y ≡ x = cc in subst P same h)

module _ (g : Grammar) where
  -- the place of a pattern among all
  pattern_place : (t : TerminalString) (p : TokenPattern) → get terminal_cmp g.conversions t ≡ Some p → (place : ℕ) × (slice_get (values g.conversions) place ≡ Some p)
  pattern_place t p h = value_place _ g.conversions.entries p h

  lacks_prefix : IsValidGrammar g → (place : ℕ) (p : TokenPattern) → slice_get (values g.conversions) place ≡ Some p → holds_prefix g.prefix (pattern_text p) ≡ false
  lacks_prefix valid place p at =
      let starts = values g.start_nonterminals in
      let a = then_second (length starts) _ (NonterminalsLack g) (valid prefixes) in
      let b = then_second (length (nonterminals_of g)) _ (ParametersLack g) a in
      let c = then_second (length g.parameters) _ (TypesAreClear g) b in
      let d = then_second (length (types_of g.types)) _ (ReturnTypesAreClear g) c in
      let e = then_second (length g.action_fn_defns) _ (PatternsLack g) d in
      let patterns = values g.conversions in
      not-true (holds_prefix g.prefix (pattern_text p)) (if_some (λ (p : TokenPattern). IsTrue (lacks g.prefix (pattern_text p))) (slice_get patterns place) p at ((e place).0 (slice_get_within patterns place p at)))

  meets_rule : KindMeets g Pattern → (place : ℕ) (p : TokenPattern) → slice_get (values g.conversions) place ≡ Some p → AnswersPattern p.pieces None
  meets_rule meets place p at = subst (λ (q : TokenPattern). AnswersPattern q.pieces None) (index_is (values g.conversions) place p p at) (meets place p (slice_get_within (values g.conversions) place p at))

  few_holes : AreFew g → (t : TerminalString) (p : TokenPattern) → get terminal_cmp g.conversions t ≡ Some p → length p.holes < 2 ^ 63
  few_holes few t p is = if_some HasFew (get terminal_cmp g.conversions t) p is (IfSome-lookup_from_All HasFew _ g.conversions.entries few)
    where
      HasFew : TokenPattern → Type 0
      HasFew q = length q.holes < 2 ^ 63

  -- the error terminal has none
  none_at : (x : TerminalString) (ts : List TerminalString) (i : ℕ) (t : TerminalString) (p : TokenPattern) → IsEnd x ts → slice_get (x ∷ ts) i ≡ Some t → own_pattern g t ≡ Some p → ⊥
  none_at x ts zero t p e at is =
      let same : x ≡ t = cc in
      let bad : None ≡ Some p = sym (no_own g x e.error) ∙ ap (own_pattern g) same ∙ is in
      cc
  none_at x ts (suc i) t p e at is =
      let none : slice_get ts i ≡ None = ap (λ (us : List TerminalString). slice_get us i) e.alone in
      cc

  -- the row of a terminal
  row_at : (n : ℕ) (ts : List TerminalString) (i : ℕ) (t : TerminalString) (p : TokenPattern) → AreKnown g ts → slice_get ts i ≡ Some t → own_pattern g t ≡ Some p → slice_get (known_from g n ts) i ≡ Some (n + i, terminal_variant g (n + i), p)
  row_at n [] i t p a at is = absurd cc
  row_at n (x ∷ ts) i t p (inr e) at is = absurd (none_at x ts i t p e at is)
  row_at n (x ∷ ts) zero t p (inl a) at is =
      let none : n + 0 ≡ n = omega arith in
      let same : x ≡ t = cc in
      let pattern : a.0.pattern ≡ p = (let both : Some a.0.pattern ≡ Some p = sym (own_there g x a.0) ∙ ap (own_pattern g) same ∙ is in cc) in
      let first : slice_get (known_from g n (x ∷ ts)) 0 ≡ Some (n, terminal_variant g n, a.0.pattern) = ap (λ (ks : List Known). slice_get ks 0) (known_cons g n x ts a.0) in
      let row : ℕ → TokenPattern → Option Known = λ m q. Some (m, terminal_variant g m, q) in
      first ∙ ap (row n) pattern ∙ ap (λ m. row m p) (sym none)
  row_at n (x ∷ ts) (suc i) t p (inl a) at is =
      let next : (n + 1) + i ≡ n + suc i = omega arith in
      ap (λ (ks : List Known). slice_get ks (suc i)) (known_cons g n x ts a.0) ∙ row_at (n + 1) ts i t p a.1 at is ∙ ap (λ m. Some (m, terminal_variant g m, p)) next

  -- the printed patterns of a group, joined, are filled as they may be
  abbrev pub AreFilled : Type 0
  AreFilled = (group : Group) → has_group group (groups_of (known_terminals g)) ≡ true → 0 < group.captures → are_filled g.prefix (barred (map (pattern_of g.prefix) (in_group group (known_terminals g)))) ≡ true

  patterns_at : (ks : List Known) (i : ℕ) (k : Known) → slice_get ks i ≡ Some k → slice_get (map (pattern_of g.prefix) ks) i ≡ Some (pattern_of g.prefix k)
  patterns_at [] i k at = absurd cc
  patterns_at (x ∷ ks) zero k at = (let same : x ≡ k = cc in ap (λ y. Some (pattern_of g.prefix y)) same)
  patterns_at (x ∷ ks) (suc i) k at = patterns_at ks i k at

  filled_pattern : AreFilled → AreKnown g (terminals_of g) → (i : ℕ) (t : TerminalString) (p : TokenPattern) → slice_get (terminals_of g) i ≡ Some t → own_pattern g t ≡ Some p → 0 < length p.holes → Filled g.prefix (named_pattern g.prefix p)
  filled_pattern filled known i t p at is some =
      let ks = known_terminals g in
      let k : Known = (0 + i, terminal_variant g (0 + i), p) in
      let there = row_at 0 (terminals_of g) i t p known at is in
      let group = group_of k in
      let place = in_its_group group ks i k there (same_itself group) in
      filled_at g.prefix (map (pattern_of g.prefix) (in_group group ks)) place.0 (named_pattern g.prefix p) (patterns_at (in_group group ks) place.0 k place.1) (filled group (group_there ks i k there) some)

  -- the prefix stands in no pattern's text
  pub text_nowhere : IsValidGrammar g → (t : TerminalString) (p : TokenPattern) → get terminal_cmp g.conversions t ≡ Some p → StandsNowhere g.prefix (pattern_text p)
  text_nowhere valid t p is =
      let place = pattern_place t p is in
      front_nowhere g.prefix (pattern_text p) [] (ap (holds_prefix g.prefix) (append-nil (pattern_text p)) ∙ lacks_prefix valid place.0 p place.1)

  -- a pattern is told whose holes are few, where it is filled as it may be
  pub told_by : IsValidGrammar g → KindMeets g Pattern → 0 < length g.prefix → list_all is_word g.prefix ≡ true → AreFew g → (i : ℕ) (t : TerminalString) (p : TokenPattern) → slice_get (terminals_of g) i ≡ Some t → own_pattern g t ≡ Some p → Filled g.prefix (named_pattern g.prefix p) → IsTold g.prefix p
  told_by valid meets some w few i t p at is filled =
      let k = other_known g valid i t at (owns g t p is) in
      let pattern : k.pattern ≡ p = (let both : Some k.pattern ≡ Some p = sym (own_there g t k) ∙ is in cc) in
      let there : get terminal_cmp g.conversions t ≡ Some p = k.there ∙ ap Some pattern in
      let shaped : is_pattern p ≡ true = ap is_pattern (sym pattern) ∙ k.shaped in
      let counted : length p.pieces ≡ length p.holes + 1 = eqb-true _ _ (both_first (length p.pieces == length p.holes + 1) (nat_lt 0 (length (pattern_text p))) shaped) in
      let place = pattern_place t p there in
      let rule = meets_rule meets place.0 p place.1 in
      let number = few_holes few t p there in
      let small : length p.pieces < 2 ^ 64 = omega (arith, number, counted) in
      record {
        counted = counted;
        few = number;
        apart = holes_apart g.prefix p.pieces some small (pieces_nowhere g.prefix p.pieces (lacks_prefix valid place.0 p place.1)) (holes_free p.pieces rule) filled;
        closed = closed_named g.prefix p.pieces some (words g.prefix w) small rule;
      }
    where
      both_first : (a b : Bool) → (a && b) ≡ true → a ≡ true
      both_first true b h = refl
      both_first false b h = absurd cc

  -- those of a program whose printed patterns are
  pub are_told : IsValidGrammar g → KindMeets g Pattern → 0 < length g.prefix → list_all is_word g.prefix ≡ true → AreFilled → AreFew g → AreTold g
  are_told valid meets some w filled few i t p at is holes = told_by valid meets some w few i t p at is (filled_pattern filled (terminals_known g valid) i t p at is holes)
