-- The printed lines of a state's shifts and reductions are its arms, and look for what these are taken on.
use Rattle.std.proofs.Common.{◌≡◌, ℕ, zero, suc, ◌+◌, ◌<◌, ◌==◌, not, Bool, true, false, ◌&&◌, ◌||◌, List, [], ◌∷◌, ◌++◌, length, map, Option, Some, None, slice_get, refl, sym, ap, ◌∙◌, subst, arith, append-nil}
use Rattle.std.specs.Prelude.{if◌then◌else◌}
use Rattle.std.specs.BTreeMap.{get}
use Rattle.std.specs.List.{flat_map, list_any, AllByRecursion}
use Rattle.std.specs.Ordering.{nat_cmp}
use Rattle.std.proofs.lemmas.List.Concat.{flat_map-cons}
use Rattle.std.proofs.lemmas.List.{map-append}
use Rattle.std.proofs.lemmas.Bool.Decides.{nat_tests}
use Rattle.lp_repr.specs.Numbering.{productions_of, terminals_of, rules_of}
use Rattle.lp_repr.specs.ValidTables.{IsTokenInRange}
use Rattle.lp_repr.specs.declared.lr1.Lr1State.{Lr1State}
use Rattle.lp_repr.specs.declared.lr1.Token.{Token}
use Rattle.lp_repr.specs.declared.lr1.Token.TheVariants.{Terminal}
use Rattle.lp_repr.specs.declared.repr.Grammar.{Grammar}
use Rattle.lp_repr.specs.declared.repr.Production.{Production}
use Rattle.lp_repr.specs.declared.repr.TerminalString.{TerminalString}
use Rattle.lp_repr.specs.declared.repr.TokenPattern.{TokenPattern}
use Rattle.lp_driver.specs.Values as values
use Rattle.lp_tree.specs.ProgramTree.{Item}
use Rattle.lp_view.specs.PartLists.{Form}
use Rattle.lp_machine.specs.declared.lookup.Act.TheVariants.{ReduceBy}
use Rattle.lp_machine.specs.Tables.{Tables}
use Rattle.lp_machine.specs.declared.lookup.KnownTerminal.{KnownTerminal}
use Rattle.lp_turn_laws.specs.Paths.Over.{IsOver}
use Rattle.lp_turn_laws.specs.Paths.Walks.{edge_from}
use Rattle.lp_turn_laws.proofs.Paths.Reductions.{all_at, at_within}
use Rattle.lp_question_laws.proofs.Gotos.Whole.{IsWhole, AreWhole, flat, flat-append, whole-append}
use Rattle.lp_ascent.specs.CallLines.{call_of}
use Rattle.lp_ascent.specs.ReduceLines.{arm_on, ends, first_popped, is_reduced, reduction_arm, reduction_line, reduction_lines, reduction_of, reductions_from, token_patterns}
use Rattle.lp_ascent.specs.ReduceLines as printed
use Rattle.lp_ascent.specs.ShiftLines as printed_shifts
use Rattle.lp_ascent.specs.ShiftLines.{pattern_at, pattern_for, shift_if, shift_line, shift_lines, shifted_pattern}
use Rattle.lp_ascent.specs.Slots.{Layout, count_of}
use Rattle.lp_repr.specs.declared.numbering.SymbolNumber.TheVariants as symbol
use Rattle.lp_back_end_laws.specs.Call.Arms.{Arm, shift_arm, arm_by, arms_by, arms_of, fits, has_form, is_seen}
use Rattle.lp_back_end_laws.specs.Call.Shifted.{AreShiftsRead, IsShiftRead}
use Rattle.lp_back_end_laws.specs.Call.Cases.{Sought, is_sought, AreSoughtBy, IsArmLine, line_soughts}
use Rattle.lp_back_end_laws.proofs.Call.Arms.{shift_edge}
use Rattle.lp_back_end_laws.proofs.Call.SoughtLines.{shift_soughts, shift_is_arm, pattern_sought, end_sought, by_soughts, arm_is_arm, below_whole, below_quiet}
use Rattle.lp_back_end_laws.proofs.Call.SoughtTokens.{IsReadAs, AreReadAs, token_sought, end_is_sought, some_patterns}

-- ---- which line is which arm's
-- a shift's line, or a reduction's by a production
pub data IsLineOf (g : Grammar) (ls : List Layout) (l : Layout) : Form → Arm → Type 0 where
  of_shift : (shift : ℕ × ℕ) (p : TokenPattern) → pattern_at g shift.0 ≡ Some p → IsLineOf g ls l (printed_shifts.shift_arm g.prefix (count_of l) p (call_of g ls l shift.1 false)) (shift_arm shift)
  of_reduction : (p : Production) (r : List Token × ℕ) → slice_get (productions_of g) r.1 ≡ Some p → IsLineOf g ls l (reduction_arm g l p r.0) (r.0, ReduceBy r.1)

abbrev pub AreLinesOf : Grammar → List Layout → Layout → List Form → List Arm → Type 0
AreLinesOf g ls l [] [] = Unit {0}
AreLinesOf g ls l [] (a ∷ arms) = ⊥
AreLinesOf g ls l (f ∷ fs) [] = ⊥
AreLinesOf g ls l (f ∷ fs) (a ∷ arms) = IsLineOf g ls l f a × AreLinesOf g ls l fs arms

-- the line of an arm
pub line_of_arm : (g : Grammar) (ls : List Layout) (l : Layout) (fs : List Form) (arms : List Arm) (i : ℕ) (arm : Arm) → AreLinesOf g ls l fs arms → slice_get arms i ≡ Some arm → (line : Form) × (slice_get fs i ≡ Some line) × IsLineOf g ls l line arm
line_of_arm g ls l [] [] i arm h at = absurd cc
line_of_arm g ls l [] (a ∷ arms) i arm h at = absurd h
line_of_arm g ls l (f ∷ fs) [] i arm h at = absurd h
line_of_arm g ls l (f ∷ fs) (a ∷ arms) zero arm h at = (let same : a ≡ arm = cc in (f, refl, subst (IsLineOf g ls l f) same h.0))
line_of_arm g ls l (f ∷ fs) (a ∷ arms) (suc i) arm h at = line_of_arm g ls l fs arms i arm h.1 at

lines_of_both : (g : Grammar) (ls : List Layout) (l : Layout) (fs gs : List Form) (xs ys : List Arm) → AreLinesOf g ls l fs xs → AreLinesOf g ls l gs ys → AreLinesOf g ls l (fs ++ gs) (xs ++ ys)
lines_of_both g ls l [] gs [] ys a b = b
lines_of_both g ls l [] gs (x ∷ xs) ys a b = absurd a
lines_of_both g ls l (f ∷ fs) gs [] ys a b = absurd a
lines_of_both g ls l (f ∷ fs) gs (x ∷ xs) ys a b = (a.0, lines_of_both g ls l fs gs xs ys a.1 b)

-- ---- two lists, one after another
sought_both : (test : Token → Bool) (look : Option values.Token) (gs hs : List (List Sought)) (xs ys : List Arm) → AreSoughtBy test look gs xs → AreSoughtBy test look hs ys → AreSoughtBy test look (gs ++ hs) (xs ++ ys)
sought_both test look [] hs [] ys a b = b
sought_both test look [] hs (x ∷ xs) ys a b = absurd a
sought_both test look (g ∷ gs) hs [] ys a b = absurd a
sought_both test look (g ∷ gs) hs (x ∷ xs) ys a b = (a.0, sought_both test look gs hs xs ys a.1 b)

lines_both : (fs gs : List Form) → AllByRecursion IsArmLine fs → AllByRecursion IsArmLine gs → AllByRecursion IsArmLine (fs ++ gs)
lines_both [] gs a b = b
lines_both (f ∷ fs) gs a b = (a.0, lines_both fs gs a.1 b)

-- the terminal of a number
read_at : (g : Grammar) (terminals : List KnownTerminal) (n m : ℕ) (ts : List TerminalString) (t : TerminalString) → AreReadAs g terminals n ts → slice_get ts m ≡ Some t → IsReadAs g terminals (n + m) t
read_at g terminals n m [] t h at = absurd cc
read_at g terminals n zero (u ∷ ts) t h at =
    let same : u ≡ t = cc in
    let none : n ≡ n + 0 = omega arith in
    subst (λ k. IsReadAs g terminals k t) none (subst (IsReadAs g terminals n) same h.0)
read_at g terminals n (suc m) (u ∷ ts) t h at =
    let next : (n + 1) + m ≡ n + suc m = omega arith in
    subst (λ k. IsReadAs g terminals k t) next (read_at g terminals (n + 1) m ts t h.1 at)

or_none : (b : Bool) → (b || false) ≡ b
or_none true = refl
or_none false = refl

module _ (g : Grammar) (ls : List Layout) (l : Layout) (terminals : List KnownTerminal) (read : AreReadAs g terminals 0 (terminals_of g)) (long : length terminals ≡ length (terminals_of g)) where
  -- printed items are the lines of these arms
  pub record ArmLines (printed : List Item) (arms : List Arm) : Type 0 where
    pub forms : List Form
    pub flattened : printed ≡ flat forms
    pub whole : AreWhole forms
    pub lines : AllByRecursion IsArmLine forms
    pub each : AreLinesOf g ls l forms arms
    pub sought : (look : Option values.Token) → AreSoughtBy (is_seen terminals look) look (map (line_soughts g.prefix) forms) arms

  no_lines : ArmLines [] []
  no_lines = record { forms = []; flattened = refl; whole = tt; lines = tt; each = tt; sought = λ look. tt }

  one_line : (form : Form) (arm : Arm) → IsWhole form → IsArmLine form → IsLineOf g ls l form arm → ((look : Option values.Token) → list_any (is_sought look) (line_soughts g.prefix form) ≡ fits (is_seen terminals look) arm) → ArmLines form (arm ∷ [])
  one_line form arm whole line is sought = record { forms = form ∷ []; flattened = sym (append-nil form); whole = (whole, tt); lines = (line, tt); each = (is, tt); sought = λ look. (sought look, tt) }

  both_lines : (is js : List Item) (xs ys : List Arm) → ArmLines is xs → ArmLines js ys → ArmLines (is ++ js) (xs ++ ys)
  both_lines is js xs ys a b = record {
    forms = a.forms ++ b.forms;
    flattened = ap (λ (ks : List Item). ks ++ js) a.flattened ∙ ap (λ ks. flat a.forms ++ ks) b.flattened ∙ sym (flat-append a.forms b.forms);
    whole = whole-append a.forms b.forms a.whole b.whole;
    lines = lines_both a.forms b.forms a.lines b.lines;
    each = lines_of_both g ls l a.forms b.forms xs ys a.each b.each;
    sought = λ look. subst (λ gs. AreSoughtBy (is_seen terminals look) look gs (xs ++ ys)) (sym (map-append (line_soughts g.prefix) a.forms b.forms)) (sought_both (is_seen terminals look) look (map (line_soughts g.prefix) a.forms) (map (line_soughts g.prefix) b.forms) xs ys (a.sought look) (b.sought look));
  }

  -- ---- shifts
  form_sought_so : (look : Option values.Token) (n : ℕ) (k : KnownTerminal) → slice_get terminals n ≡ Some k → list_any (is_sought look) (Some k.form ∷ []) ≡ fits (is_seen terminals look) (Terminal n ∷ [], (shift_arm (n, 0)).1)
  form_sought_so None n k at = refl
  form_sought_so (Some x) n k at = ap (λ o. has_form o x || false) (sym at)

  shift_form : (shift : ℕ × ℕ) → IsShiftRead g shift → ArmLines (shift_line g ls l shift) (shift_arm shift ∷ [])
  shift_form shift known =
      let w = at_within (terminals_of g) shift.0 known.0 in
      let zero_n : 0 + shift.0 ≡ shift.0 = omega arith in
      let r : IsReadAs g terminals shift.0 w.0 = subst (λ k. IsReadAs g terminals k w.0) zero_n (read_at g terminals 0 shift.0 (terminals_of g) w.0 read w.1) in
      let is : pattern_at g shift.0 ≡ Some r.pattern = ap (pattern_for g) w.1 ∙ r.there in
      let below = call_of g ls l shift.1 false in
      subst (λ (o : Option TokenPattern). ArmLines (shift_if g ls l shift.1 o) (shift_arm shift ∷ [])) (sym is)
      (one_line (shift_if g ls l shift.1 (Some r.pattern)) (shift_arm shift) refl (shift_is_arm g.prefix (count_of l) below r.pattern) (of_shift shift r.pattern is)
      (λ look. ap (list_any (is_sought look)) (shift_soughts g.prefix (count_of l) below r.pattern ∙ ap (λ form. Some form ∷ []) (known.1 r.pattern is ∙ r.listed)) ∙ form_sought_so look shift.0 r.known r.at))

  shift_forms : (shifts : List (ℕ × ℕ)) → AllByRecursion (IsShiftRead g) shifts → ArmLines (flat_map (shift_line g ls l) shifts) (map shift_arm shifts)
  shift_forms [] h = no_lines
  shift_forms (s ∷ shifts) h =
      subst (λ (is : List Item). ArmLines is (map shift_arm (s ∷ shifts))) (sym (flat_map-cons (shift_line g ls l) s shifts))
      (both_lines (shift_line g ls l s) (flat_map (shift_line g ls l) shifts) (shift_arm s ∷ []) (map shift_arm shifts) (shift_form s h.0) (shift_forms shifts h.1))

  -- ---- reductions
  abbrev InRange : List Token × ℕ → Type 0
  InRange r = AllByRecursion (IsTokenInRange (length (terminals_of g))) r.0

  tokens_sought : (look : Option values.Token) (tokens : List Token) → list_any (is_sought look) (map (pattern_sought g.prefix) (token_patterns g tokens) ++ end_sought (ends tokens)) ≡ list_any (is_seen terminals look) tokens
  tokens_sought None tokens = end_is_sought g.prefix terminals (token_patterns g tokens) tokens
  tokens_sought (Some x) tokens = token_sought g terminals x tokens read long

  reduction_form : (n : ℕ) (p : Production) (r : List Token × ℕ) → slice_get (productions_of g) n ≡ Some p → InRange r → ArmLines (reduction_line g l n p r) (arm_by n r)
  reduction_form n p r known range = by (is_reduced n r) refl
    where
      some : is_reduced n r ≡ true → 0 < length r.0
      some e = filled (r.1 == n) (length r.0) e
        where
          filled : (b : Bool) (k : ℕ) → (b && not (k == 0)) ≡ true → 0 < k
          filled true zero e = absurd cc
          filled false zero e = absurd cc
          filled b (suc k) e = omega arith

      by_this : is_reduced n r ≡ true → r.1 ≡ n
      by_this e = same (r.1 == n) refl e
        where
          same : (b : Bool) → (r.1 == n) ≡ b → (b && not (length r.0 == 0)) ≡ true → r.1 ≡ n
          same true f h = (let k : r.1 ≡ n = grind (arith, nat_tests) in k)
          same false f h = absurd cc

      arm_whole : (ps : List (List ℕ)) (last : Option (List ℕ)) (below : Form) → IsWhole (arm_on ps last below)
      arm_whole ps last below = refl

      by : (b : Bool) → is_reduced n r ≡ b → ArmLines (if b then reduction_arm g l p r.0 else []) (if b then (r.0, ReduceBy r.1) ∷ [] else [])
      by false e = no_lines
      by true e =
          let ps = token_patterns g r.0 in
          let below = reduction_of g l p in
          let whole = below_whole g.prefix g l p in
          let quiet = below_quiet g.prefix g l p in
          one_line (reduction_arm g l p r.0) (r.0, ReduceBy r.1) (arm_whole (printed.but_last (ends r.0) ps) (printed.last_pattern (ends r.0) ps) below) (arm_is_arm g.prefix below whole quiet (printed.but_last (ends r.0) ps) (printed.last_pattern (ends r.0) ps)) (of_reduction p r (ap (slice_get (productions_of g)) (by_this e) ∙ known))
          (λ look. ap (list_any (is_sought look)) (by_soughts g.prefix below whole quiet (ends r.0) ps (λ none. some_patterns g terminals r.0 read (some e) (λ i m at. all_at (IsTokenInRange (length (terminals_of g))) r.0 i (Terminal m) range at) none)) ∙ tokens_sought look r.0)

  -- those of one production
  reductions_by : (n : ℕ) (p : Production) (rs : List (List Token × ℕ)) → slice_get (productions_of g) n ≡ Some p → AllByRecursion InRange rs → ArmLines (flat_map (reduction_line g l n p) rs) (flat_map (arm_by n) rs)
  reductions_by n p [] known h = no_lines
  reductions_by n p (r ∷ rs) known h =
      subst (λ (is : List Item). ArmLines is (flat_map (arm_by n) (r ∷ rs))) (sym (flat_map-cons (reduction_line g l n p) r rs))
      (subst (ArmLines (reduction_line g l n p r ++ flat_map (reduction_line g l n p) rs)) (sym (flat_map-cons (arm_by n) r rs))
      (both_lines (reduction_line g l n p r) (flat_map (reduction_line g l n p) rs) (arm_by n r) (flat_map (arm_by n) rs) (reduction_form n p r known h.0) (reductions_by n p rs known h.1)))

  reductions_by_all : (rs : List (List Token × ℕ)) (n : ℕ) (ps : List Production) → ((k : ℕ) (p : Production) → slice_get ps k ≡ Some p → slice_get (productions_of g) (n + k) ≡ Some p) → AllByRecursion InRange rs → ArmLines (reductions_from g l rs n ps) (arms_by rs n ps)
  reductions_by_all rs n [] known h = no_lines
  reductions_by_all rs n (p ∷ ps) known h =
      let none : n ≡ n + 0 = omega arith in
      both_lines (flat_map (reduction_line g l n p) rs) (reductions_from g l rs (n + 1) ps) (flat_map (arm_by n) rs) (arms_by rs (n + 1) ps) (reductions_by n p rs (ap (slice_get (productions_of g)) none ∙ known 0 p refl) h)
      (reductions_by_all rs (n + 1) ps (λ k q at. (let next : (n + 1) + k ≡ n + suc k = omega arith in ap (slice_get (productions_of g)) next ∙ known (suc k) q at)) h)

  -- ---- the arms of a state
  pub state_lines : (s : Lr1State) → AllByRecursion (IsShiftRead g) s.shifts.entries → AllByRecursion InRange s.reductions → ArmLines (shift_lines g ls l s.shifts.entries ++ reduction_lines g l s.reductions) (arms_of g s)
  unfolding shift_lines reduction_lines
  state_lines s a b =
      both_lines (flat_map (shift_line g ls l) s.shifts.entries) (reductions_from g l s.reductions 0 (productions_of g)) (map shift_arm s.shifts.entries) (arms_by s.reductions 0 (productions_of g)) (shift_forms s.shifts.entries a) (reductions_by_all s.reductions 0 (productions_of g) (λ k p at. (let none : 0 + k ≡ k = omega arith in ap (slice_get (productions_of g)) none ∙ at)) b)

-- those of a state of valid tables
module _ {g : Grammar} {start : ℕ} {states : List Lr1State} {t : Tables} (over : IsOver g start states t) (q : ℕ) (s : Lr1State) (at : slice_get states q ≡ Some s) where
  pub shifts_in : AreShiftsRead g states → (es : List (ℕ × ℕ)) (k : ℕ) → ((i : ℕ) (e : ℕ × ℕ) → slice_get es i ≡ Some e → slice_get s.shifts.entries (k + i) ≡ Some e) → AllByRecursion (IsShiftRead g) es
  shifts_in forms [] k h = tt
  shifts_in forms (e ∷ es) k h =
      let edge = shift_edge over q (k + 0) e.0 e.1 s at (h 0 e refl) in
      let found : get nat_cmp s.shifts e.0 ≡ Some e.1 = sym (ap (λ o. edge_from o (symbol.Terminal e.0)) at) ∙ edge in
      (((((over.tables).each q s at).shifts_in_range e.0 e.1 found).0, forms e.0 (record { number = q; state = s; there = at; place = k + 0; target = e.1; entry = h 0 e refl })), shifts_in forms es (k + 1) (λ i f is. (let next : (k + 1) + i ≡ k + suc i = omega arith in ap (slice_get s.shifts.entries) next ∙ h (suc i) f is)))

  reductions_in : (rs : List (List Token × ℕ)) → AllByRecursion (λ r. (r.1 < length (rules_of g)) × AllByRecursion (IsTokenInRange (length (terminals_of g))) r.0) rs → AllByRecursion (λ r. AllByRecursion (IsTokenInRange (length (terminals_of g))) r.0) rs
  reductions_in [] h = tt
  reductions_in (r ∷ rs) h = (h.0.1, reductions_in rs h.1)

  pub valid_lines : (ls : List Layout) (l : Layout) (terminals : List KnownTerminal) (read : AreReadAs g terminals 0 (terminals_of g)) (long : length terminals ≡ length (terminals_of g)) → AreShiftsRead g states → ArmLines g ls l terminals read long (shift_lines g ls l s.shifts.entries ++ reduction_lines g l s.reductions) (arms_of g s)
  valid_lines ls l terminals read long forms =
      state_lines g ls l terminals read long s
      (shifts_in forms s.shifts.entries 0 (λ i e is. (let none : 0 + i ≡ i = omega arith in ap (slice_get s.shifts.entries) none ∙ is)))
      (reductions_in s.reductions ((over.tables).each q s at).reductions_in_range)
