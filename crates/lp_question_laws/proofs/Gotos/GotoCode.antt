-- The core code of the goto function's forms.
use Rattle.std.proofs.Common.{◌≡◌, ℕ, ◌+◌, ◌<◌, ◌≤◌, ◌==◌, ◌^◌, true, false, List, [], ◌∷◌, ◌++◌, length, map, Some, pos, refl, ap, sym, subst, ◌∙◌, arith, codes, decimal, append_assoc, append-nil, if◌then◌else◌}
use Rattle.std.proofs.lemmas.Bool.{eqb-true}
use Rattle.std.proofs.lemmas.Fmt.{decimal_nonempty}
use Rattle.lp_core.specs.declared.expr.Leaf.TheVariants as leaf
use Rattle.lp_core.specs.declared.expr.Test.{Test}
use Rattle.lp_core.specs.declared.expr.Test.TheVariants as test
use Rattle.lp_core.specs.declared.value.StateType.{StateType}
use Rattle.lp_core.specs.Numbers.{fitting}
use Rattle.lp_core.specs.Tree.{Tree, Plain}
use Rattle.lp_form.specs.declared.part.Part.TheVariants as part
use Rattle.lp_tree.specs.ProgramTree.{Item}
use Rattle.lp_tree.specs.ProgramTree as tree
use Rattle.lp_build.specs.Built as built
use Rattle.lp_build.specs.Built.{barred}
use Rattle.lp_state_parts.specs.declared.gotos.StateRange.{StateRange}
use Rattle.lp_state_parts.specs.declared.gotos.GotoArm.{GotoArm}
use Rattle.lp_state_parts.specs.declared.gotos.Gotos.{Gotos}
use Rattle.lp_state_parts.specs.declared.gotos.Gotos.TheVariants.{Nowhere, One, Several}
use Rattle.lp_state_parts.specs.Gotos.{arms_of, column_from}
use Rattle.lp_repr.specs.declared.lr1.Lr1State.{Lr1State}
use Rattle.lp_repr.specs.declared.repr.NonterminalString.{NonterminalString}
use Rattle.lp_table.specs.TableLines.{arm_row, gotos_lines, gotos_from, range_shown}
use Rattle.lp_view.specs.PartLists.{Form, over, parts_of}
use Rattle.lp_maker.specs.Numbers.{range_of, range_in, pair_of, wide_number_of}
use Rattle.lp_maker.specs.Texts.{pieces}
use Rattle.lp_maker.specs.Constructs.{state, fitted}
use Rattle.lp_bodies.specs.Arms.{Gathered, no_arms, with_case}
use Rattle.lp_bodies.specs.Tables.{found_range, range_cases, goto_row, goto_body, numbered_arm, goto_arm}
use Rattle.lp_bodies.specs.Arms as made
use Rattle.lp_question_laws.proofs.Gotos.Digits.{Lacks, decimal_lacks, wide_number_of_decimal}
use Rattle.lp_question_laws.proofs.Gotos.Cuts.{Apart, cut_none, cut_joined, pieces_joined}
use Rattle.lp_question_laws.proofs.Gotos.Whole.{AreWhole, flat, parts_over, flat-append, whole-append}
use Rattle.lp_question_laws.proofs.Gotos.Arms.{Arm, Shows, with_cases, with_arm, one_shown}
use Rattle.lp_question_laws.proofs.Gotos.GotoData.{RangesAre, ArmsAre, gotos_of}

-- ---- ranges

abbrev pub test_of : StateRange → Test
test_of r = test.Between (pos r.first) (pos r.last)

range_read : (r : StateRange) → r.first < 2 ^ 63 → r.last < 2 ^ 63 → range_of (range_shown r) ≡ Some (pos r.first, pos r.last)
range_read r f l =
    elim (r.first == r.last) as (λ b. (r.first == r.last) ≡ b → range_of (if b then decimal r.first else decimal r.first ++ (codes "..=" ++ decimal r.last)) ≡ Some (pos r.first, pos r.last)) [
      | true ↦ λ e. one (eqb-true r.first r.last e)
      | false ↦ λ e. ap (range_in (decimal r.first ++ (codes "..=" ++ decimal r.last))) (cut_joined 46 (46 ∷ 61 ∷ []) (decimal r.first) (decimal r.last) dots) ∙ both
    ] refl
  where
    dots : Lacks 46 (decimal r.first)
    dots = decimal_lacks 46 r.first (λ h. omega arith) (omega arith)

    both : pair_of (wide_number_of (decimal r.first)) (wide_number_of (decimal r.last)) ≡ Some (pos r.first, pos r.last)
    both = ap (λ o. pair_of o (wide_number_of (decimal r.last))) (wide_number_of_decimal r.first f) ∙ ap (pair_of (Some (pos r.first))) (wide_number_of_decimal r.last l)

    one : r.first ≡ r.last → range_of (decimal r.first) ≡ Some (pos r.first, pos r.last)
    one e = ap (range_in (decimal r.first)) (cut_none 46 (46 ∷ 61 ∷ []) (decimal r.first) dots) ∙ ap (λ o. pair_of o o) (wide_number_of_decimal r.first f) ∙ ap (λ m. Some (pos r.first, pos m)) e

pub lacks-append : (c : ℕ) (a b : List ℕ) → Lacks c a → Lacks c b → Lacks c (a ++ b)
lacks-append c [] b l m = m
lacks-append c (x ∷ a) b l m = (l.0, lacks-append c a b l.1 m)

shown_apart : (r : StateRange) → r.first < 2 ^ 63 → r.last < 2 ^ 63 → Apart 32 (range_shown r) []
shown_apart r f l =
    elim (r.first == r.last) as (λ b. Apart 32 (if b then decimal r.first else decimal r.first ++ (codes "..=" ++ decimal r.last)) []) [
      | true ↦ (blanks r.first (omega arith), decimal_nonempty r.first (omega arith))
      | false ↦ (
        lacks-append 32 (decimal r.first) (codes "..=" ++ decimal r.last) (blanks r.first (omega arith)) (λ e. omega arith, (λ e. omega arith, (λ e. omega arith, blanks r.last (omega arith)))),
        long (decimal r.first) (codes "..=" ++ decimal r.last) (decimal_nonempty r.first (omega arith)),
      )
    ]
  where
    blanks : (n : ℕ) → n < 2 ^ 64 → Lacks 32 (decimal n)
    blanks n h = decimal_lacks 32 n (λ h. omega arith) h

    long : (a b : List ℕ) → 0 < length a → 0 < length (a ++ b)
    long [] b h = absurd (omega arith)
    long (x ∷ a) b h = omega arith

abbrev Small : ℕ → Type 0
Small n = n < 2 ^ 63

all_apart : (r : StateRange) (rs : List StateRange) → RangesAre Small (r ∷ rs) → Apart 32 (range_shown r) (map range_shown rs)
all_apart r [] a = shown_apart r a.0 a.1
all_apart r (s ∷ rs) a = ((shown_apart r a.0 a.1).0, all_apart s rs a.2)

ranges_read : (rs : List StateRange) → RangesAre Small rs → pieces (codes " | ") (barred (map range_shown rs)) ≡ map range_shown rs
ranges_read [] a = refl
ranges_read (r ∷ rs) a = pieces_joined 32 (124 ∷ 32 ∷ []) (range_shown r) (map range_shown rs) (all_apart r rs a)

cases_read : (rs : List StateRange) (a : Gathered) → RangesAre Small rs → range_cases a (map range_shown rs) ≡ with_cases (map test_of rs) a
cases_read [] a h = refl
cases_read (r ∷ rs) a h = ap (λ o. range_cases (found_range a o) (map range_shown rs)) (range_read r h.0 h.1) ∙ cases_read rs (with_case (test_of r) a) h.2

-- ---- what holds of the numbers of states

-- a number that is a state of this type
pub record IsState (kind : StateType) (n : ℕ) : Type 0 where
  pub small : n < 2 ^ 63
  pub fits : fitting kind (pos n) ≡ Some (pos n)

abbrev pub number : StateType → ℕ → Tree
number kind n = Plain (leaf.State kind (pos n))

ranges_small : (kind : StateType) (rs : List StateRange) → RangesAre (IsState kind) rs → RangesAre Small rs
ranges_small kind [] a = tt
ranges_small kind (r ∷ rs) a = (a.0.small, a.1.small, ranges_small kind rs a.2)

pub number_read : (kind : StateType) (n : ℕ) → IsState kind n → state (Some kind) (wide_number_of (decimal n)) ≡ number kind n
number_read kind n h = ap (state (Some kind)) (wide_number_of_decimal n h.small) ∙ ap (fitted kind) h.fits

-- ---- the states of a target

abbrev pub row_arm : StateType → GotoArm → Arm
row_arm kind m = (map test_of m.ranges, number kind m.target)

row_read : (kind : StateType) (m : GotoArm) (a : Gathered) → IsState kind m.target → RangesAre (IsState kind) m.ranges → goto_row (Some kind) a (arm_row m ∷ []) ≡ with_arm (row_arm kind m) a
row_read kind m a t r =
    let small = ranges_small kind m.ranges r in
    ap (λ e. made.with_body e (range_cases a (pieces (codes " | ") (barred (map range_shown m.ranges))))) (number_read kind m.target t)
    ∙ ap (λ ts. made.with_body (number kind m.target) (range_cases a ts)) (ranges_read m.ranges small)
    ∙ ap (made.with_body (number kind m.target)) (cases_read m.ranges a small)

abbrev pub row_forms : List GotoArm → List Form
row_forms arms = map (λ m. arm_row m ∷ []) arms

pub rows_shown : (kind : StateType) (arms : List GotoArm) (a : Gathered) (ms : List Arm) → ArmsAre (IsState kind) arms → Shows a ms → Shows (over (goto_row (Some kind)) a (row_forms arms)) (ms ++ map (row_arm kind) arms)
rows_shown kind [] a ms h s = subst (Shows a) (sym (append-nil ms)) s
rows_shown kind (m ∷ arms) a ms h s =
    let one = rows_shown kind arms (with_arm (row_arm kind m) a) (ms ++ row_arm kind m ∷ []) h.2 (one_shown a ms (row_arm kind m) s) in
    let e = row_read kind m a h.0 h.1 in
    subst (λ b. Shows (over (goto_row (Some kind)) b (row_forms arms)) (ms ++ map (row_arm kind) (m ∷ arms))) (sym e)
    (subst (Shows (over (goto_row (Some kind)) (with_arm (row_arm kind m) a) (row_forms arms))) (append_assoc ms (row_arm kind m ∷ []) (map (row_arm kind) arms)) one)

-- ---- the forms of nonterminals

rows_flat : (arms : List GotoArm) → flat (row_forms arms) ≡ map arm_row arms
rows_flat [] = refl
rows_flat (m ∷ arms) = ap (λ t. arm_row m ∷ t) (rows_flat arms)

rows_whole : (arms : List GotoArm) → AreWhole (row_forms arms)
rows_whole [] = tt
rows_whole (m ∷ arms) = (refl, rows_whole arms)

abbrev pub match_form : ℕ → List GotoArm → ℕ → Form
match_form n rest other = built.over part.GotoMatch (decimal n ∷ decimal other ∷ []) (map arm_row rest)

abbrev pub one_form : ℕ → ℕ → Form
one_form n t = tree.leaf part.GotoOne (decimal n ∷ decimal t ∷ [])

abbrev pub gotos_forms : ℕ → Gotos → List Form
gotos_forms n Nowhere = []
gotos_forms n (One t) = one_form n t ∷ []
gotos_forms n (Several rest other) = match_form n rest other ∷ []

-- the parts of a match are its rows
pub match_parts : (n other : ℕ) (rest : List GotoArm) → parts_of (match_form n rest other) ≡ row_forms rest
match_parts n other rest =
    ap (λ below. parts_of (built.over part.GotoMatch (decimal n ∷ decimal other ∷ []) below)) (sym (rows_flat rest))
    ∙ parts_over part.GotoMatch (decimal n ∷ decimal other ∷ []) (row_forms rest) (rows_whole rest)

-- the printed lines of a nonterminal are its forms
lines_flat : (n : ℕ) (arms : List GotoArm) → gotos_lines n arms ≡ flat (gotos_forms n (gotos_of arms))
lines_flat n [] = refl
lines_flat n (a ∷ []) = refl
lines_flat n (a ∷ b ∷ arms) = sym (append-nil (gotos_lines n (a ∷ b ∷ arms)))

lines_whole : (n : ℕ) (g : Gotos) → AreWhole (gotos_forms n g)
lines_whole n Nowhere = tt
lines_whole n (One t) = (refl, tt)
lines_whole n (Several rest other) = (refl, tt)

module _ (states : List Lr1State) where
  -- the gotos on a nonterminal
  abbrev pub gotos_at : ℕ → Gotos
  gotos_at n = gotos_of (arms_of (column_from n 0 states))

  abbrev pub forms_from : ℕ → List NonterminalString → List Form
  forms_from n [] = []
  forms_from n (name ∷ names) = gotos_forms n (gotos_at n) ++ forms_from (n + 1) names

  from_flat : (n : ℕ) (names : List NonterminalString) → gotos_from states n names ≡ flat (forms_from n names)
  from_flat n [] = refl
  from_flat n (name ∷ names) =
      ap (λ t. gotos_lines n (arms_of (column_from n 0 states)) ++ t) (from_flat (n + 1) names)
      ∙ ap (λ t. t ++ flat (forms_from (n + 1) names)) (lines_flat n (arms_of (column_from n 0 states)))
      ∙ sym (flat-append (gotos_forms n (gotos_at n)) (forms_from (n + 1) names))

  from_whole : (n : ℕ) (names : List NonterminalString) → AreWhole (forms_from n names)
  from_whole n [] = tt
  from_whole n (name ∷ names) = whole-append (gotos_forms n (gotos_at n)) (forms_from (n + 1) names) (lines_whole n (gotos_at n)) (from_whole (n + 1) names)

  -- the parts below the goto function's form
  pub goto_parts : (text : List ℕ) (n : ℕ) (names : List NonterminalString) → parts_of (built.over part.GotoFn (text ∷ []) (gotos_from states n names)) ≡ forms_from n names
  goto_parts text n names =
      ap (λ below. parts_of (built.over part.GotoFn (text ∷ []) below)) (from_flat n names)
      ∙ parts_over part.GotoFn (text ∷ []) (forms_from n names) (from_whole n names)

-- ---- the arms of nonterminals

abbrev pub number_arm : StateType → ℕ → Form → Arm
number_arm kind n f = (test.Between (pos n) (pos n) ∷ [], goto_body (Some kind) f)

abbrev pub arms_at : StateType → ℕ → Gotos → List Arm
arms_at kind n g = map (number_arm kind n) (gotos_forms n g)

arms_shown_at : (kind : StateType) (n : ℕ) (g : Gotos) (a : Gathered) (ms : List Arm) → n < 2 ^ 63 → Shows a ms → Shows (over (goto_arm (Some kind)) a (gotos_forms n g)) (ms ++ arms_at kind n g)
arms_shown_at kind n Nowhere a ms h s = subst (Shows a) (sym (append-nil ms)) s
arms_shown_at kind n (One t) a ms h s =
    let f = one_form n t in
    subst (λ o. Shows (numbered_arm o (goto_body (Some kind) f) a) (ms ++ number_arm kind n f ∷ [])) (sym (wide_number_of_decimal n h)) (one_shown a ms (number_arm kind n f) s)
arms_shown_at kind n (Several rest other) a ms h s =
    let f = match_form n rest other in
    subst (λ o. Shows (numbered_arm o (goto_body (Some kind) f) a) (ms ++ number_arm kind n f ∷ [])) (sym (wide_number_of_decimal n h)) (one_shown a ms (number_arm kind n f) s)

pub over-append : {S : Type 0} (step : S → Form → S) (s : S) (fs gs : List Form) → over step s (fs ++ gs) ≡ over step (over step s fs) gs
over-append step s [] gs = refl
over-append step s (f ∷ fs) gs = over-append step (step s f) fs gs

module _ (states : List Lr1State) (kind : StateType) where
  abbrev pub arms_from : ℕ → List NonterminalString → List Arm
  arms_from n [] = []
  arms_from n (name ∷ names) = arms_at kind n (gotos_at states n) ++ arms_from (n + 1) names

  pub arms_shown : (n : ℕ) (names : List NonterminalString) (a : Gathered) (ms : List Arm) → n + length names ≤ 2 ^ 63 → Shows a ms →
      Shows (over (goto_arm (Some kind)) a (forms_from states n names)) (ms ++ arms_from n names)
  arms_shown n [] a ms h s = subst (Shows a) (sym (append-nil ms)) s
  arms_shown n (name ∷ names) a ms h s =
      let g = gotos_at states n in
      let here = arms_shown_at kind n g a ms (omega arith) s in
      let rest = arms_shown (n + 1) names (over (goto_arm (Some kind)) a (gotos_forms n g)) (ms ++ arms_at kind n g) (omega arith) here in
      subst (λ b. Shows b (ms ++ (arms_at kind n g ++ arms_from (n + 1) names))) (sym (over-append (goto_arm (Some kind)) a (gotos_forms n g) (forms_from states (n + 1) names)))
      (subst (Shows (over (goto_arm (Some kind)) (over (goto_arm (Some kind)) a (gotos_forms n g)) (forms_from states (n + 1) names))) (append_assoc ms (arms_at kind n g) (arms_from (n + 1) names)) rest)
