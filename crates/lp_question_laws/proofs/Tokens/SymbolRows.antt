-- The rows of the function from a token to its symbol: an arm for each group, which tests for the numbers of its terminals.
use Rattle.std.proofs.Common.{◌≡◌, ℕ, ◌+◌, ◌<◌, ◌≤◌, ◌^◌, ◌==◌, Bool, true, false, cond, ◌||◌, List, [], ◌∷◌, ◌++◌, length, map, pos, Some, refl, sym, ap, subst, ◌∙◌, arith, codes, decimal, append_assoc, append-nil}
use Rattle.std.specs.List.{list_any}
use Rattle.std.proofs.lemmas.Bool.Decides.{nat_tests}
use Rattle.std.proofs.lemmas.Fmt.{decimal_nonempty}
use Rattle.lp_core.specs.declared.expr.Test.{Test}
use Rattle.lp_core.specs.declared.expr.Test.TheVariants as test
use Rattle.lp_core.specs.CaseMeaning.{between}
use Rattle.lp_core.specs.Numbers.{index}
use Rattle.lp_core.specs.Store.{Program}
use Rattle.lp_form.specs.declared.part.Part.TheVariants as part
use Rattle.lp_build.specs.Built.{barred}
use Rattle.lp_build.specs.Tables as build
use Rattle.lp_view.specs.PartLists.{Form, is_a, over}
use Rattle.lp_maker.specs.Constructs.{stuck}
use Rattle.lp_maker.specs.Making.{Making}
use Rattle.lp_maker.specs.Slots.{Names}
use Rattle.lp_maker.specs.Texts.{pieces}
use Rattle.lp_bodies.specs.Arms.{Gathered, with_names, with_case, with_found_case}
use Rattle.lp_bodies.specs.Reductions.{Done}
use Rattle.lp_bodies.specs.Tables.{Reading, reading_of, symbol_arm, symbol_row, number_cases, with_done}
use Rattle.lp_question_laws.proofs.Gotos.Arms.{Arm, Shows, with_cases, with_arm, one_shown, picked, pick_if, passes_any, or_else}
use Rattle.lp_question_laws.proofs.Gotos.Cuts.{Apart, pieces_joined}
use Rattle.lp_question_laws.proofs.Gotos.Digits.{decimal_lacks, wide_number_of_decimal}
use Rattle.lp_question_laws.proofs.Gotos.LinkGrows.{Extends, same, both, either, symbol_extends}
use Rattle.lp_question_laws.proofs.Gotos.Whole.{IsWhole, AreWhole}
use Rattle.lp_table.specs.Pieces.{variant_text}
use Rattle.lp_table.specs.TokenLines.{Known, group_of, same_group, in_group, number_of, group_patterns, captured_value, group_arm}
use Rattle.lp_table.specs.declared.tokens.Group.{Group}
use Rattle.lp_question_laws.proofs.Tokens.Groups.{AreNumbered, has_number, has_group, group_is}

-- ---- printed numbers
abbrev pub AllSmall : List ℕ → Type 0
AllSmall [] = Unit {0}
AllSmall (n ∷ ns) = (n < 2 ^ 63) × AllSmall ns

abbrev pub number_test : ℕ → Test
number_test n = test.Between (pos n) (pos n)

decimals_apart : (n : ℕ) (ns : List ℕ) → AllSmall (n ∷ ns) → Apart 32 (decimal n) (map decimal ns)
decimals_apart n [] h = (decimal_lacks 32 n (λ r. omega arith) (let a = h.0 in omega arith), decimal_nonempty n (let a = h.0 in omega arith))
decimals_apart n (m ∷ ns) h = (decimal_lacks 32 n (λ r. omega arith) (let a = h.0 in omega arith), decimals_apart m ns h.1)

numbers_read : (ns : List ℕ) → AllSmall ns → pieces (codes " | ") (barred (map decimal ns)) ≡ map decimal ns
numbers_read [] h = refl
numbers_read (n ∷ ns) h = pieces_joined 32 (124 ∷ 32 ∷ []) (decimal n) (map decimal ns) (decimals_apart n ns h)

cases_read : (ns : List ℕ) (a : Gathered) → AllSmall ns → number_cases a (map decimal ns) ≡ with_cases (map number_test ns) a
cases_read [] a h = refl
cases_read (n ∷ ns) a h = ap (λ o. number_cases (with_found_case o a) (map decimal ns)) (wide_number_of_decimal n h.0) ∙ cases_read ns (with_case (number_test n) a) h.1

-- a number passes where it is one of them
pub numbers_pass : (p : Program) (i : ℕ) (ns : List ℕ) → passes_any p (map number_test ns) (index i) ≡ Some (list_any (λ (m : ℕ). m == i) ns)
numbers_pass p i [] = refl
numbers_pass p i (n ∷ ns) =
    ap (or_else (Some (between (pos n) (pos n) (pos i)))) (numbers_pass p i ns)
    ∙ ap (λ b. or_else (Some b) (Some (list_any (λ (m : ℕ). m == i) ns))) (one n i)
    ∙ by (n == i) (list_any (λ (m : ℕ). m == i) ns)
  where
    one : (n i : ℕ) → between (pos n) (pos n) (pos i) ≡ (n == i)
    one n i = grind (arith, nat_tests)

    by : (b c : Bool) → or_else (Some b) (Some c) ≡ Some (b || c)
    by true c = refl
    by false c = refl

names_kept : (ts : List Test) (a : Gathered) → ((with_cases ts a).names ≡ a.names) × ((with_cases ts a).params ≡ a.params)
names_kept [] a = (refl, refl)
names_kept (t ∷ ts) a = names_kept ts (with_case t a)

-- the same names, and slots behind them
pub record Slots (old new : Names) : Type 0 where
  pub known : new.known ≡ old.known
  pub next : old.next ≤ new.next

pub slots_same : (names : Names) → Slots names names
slots_same names = record { known = refl; next = omega arith }

pub slots_both : (a b c : Names) → Slots a b → Slots b c → Slots a c
slots_both a b c f g = record { known = g.known ∙ f.known; next = omega (arith, f.next, g.next) }

-- ---- the numbers of a group are small
pub numbers_small : (group : Group) (n : ℕ) (ks : List Known) → AreNumbered n ks → n + length ks ≤ 2 ^ 63 → AllSmall (map number_of (in_group group ks))
numbers_small group n [] a le = tt
numbers_small group n (k ∷ ks) a le = by (same_group group (group_of k)) (numbers_small group (n + 1) ks a.1 (omega arith))
  where
    by : (b : Bool) → AllSmall (map number_of (in_group group ks)) → AllSmall (map number_of (cond b (k ∷ in_group group ks) (in_group group ks)))
    by true rest = (omega (arith, a.0), rest)
    by false rest = rest

-- ---- rows
module _ (prefix : List ℕ) (ks : List Known) where
  abbrev pub group_form : Group → Form
  group_form group = group_arm prefix ks group

  abbrev pub numbers : Group → List ℕ
  numbers group = map number_of (in_group group ks)

  form_whole : (ns : List ℕ) (ps : List (List ℕ)) (variant captures : List ℕ) → IsWhole (build.symbol_row ns ps variant captures)
  form_whole ns [] variant captures = refl
  form_whole ns (p ∷ ps) variant captures = refl

  pub forms_whole : (groups : List Group) → AreWhole (map group_form groups)
  forms_whole [] = tt
  forms_whole (group ∷ groups) = (form_whole (numbers group) (group_patterns prefix group.captures (in_group group ks)) (variant_text group.variant) (captured_value prefix group.captures), forms_whole groups)

  -- what a group's row is made into
  abbrev pub done : Reading → Group → Done
  done s group = symbol_arm s.made s.arms.names (group_form group)

  abbrev pub arm_of : Reading → Group → Arm
  arm_of s group = (map number_test (numbers group), (done s group).value)

  -- the arms of groups, each made after those before it
  abbrev pub arms_of : Reading → List Group → List Arm
  arms_of s [] = []
  arms_of s (group ∷ groups) = arm_of s group ∷ arms_of (symbol_row s (group_form group)) groups

  row_done : (s : Reading) (ns : List ℕ) (ps : List (List ℕ)) (variant captures : List ℕ) →
      (let form = build.symbol_row ns ps variant captures in symbol_row s form ≡ with_done (pieces (codes " | ") (barred (map decimal ns))) s.arms (symbol_arm s.made s.arms.names form))
  row_done s ns [] variant captures = refl
  row_done s ns (p ∷ ps) variant captures = refl

  after_is : (s : Reading) (group : Group) → AllSmall (numbers group) → symbol_row s (group_form group) ≡ reading_of (with_arm (arm_of s group) (with_names (done s group).names s.arms)) (done s group).made
  after_is s group small =
      let d = done s group in
      row_done s (numbers group) (group_patterns prefix group.captures (in_group group ks)) (variant_text group.variant) (captured_value prefix group.captures)
      ∙ ap (λ ts. with_done ts s.arms d) (numbers_read (numbers group) small)
      ∙ ap (λ (a : Gathered). reading_of (record a { bodies = a.bodies ++ d.value ∷ [] }) d.made) (cases_read (numbers group) (with_names d.names s.arms) small)

  -- a row gives at most a slot to a name of its own
  done_slots : (m : Making) (names : Names) (form : Form) → Slots names (symbol_arm m names form).names
  done_slots m names form = either (λ (d : Done). Slots names d.names) (is_a part.SymbolArm form) _ _ (slots_same names) (record { known = refl; next = omega arith })

  -- what rows keep
  pub record Kept (s t : Reading) : Type 0 where
    pub slots : Slots s.arms.names t.arms.names
    pub params : t.arms.params ≡ s.arms.params
    pub made : Extends s.made t.made

  kept_same : (s : Reading) → Kept s s
  kept_same s = record { slots = slots_same s.arms.names; params = refl; made = same s.made }

  kept_both : (s t u : Reading) → Kept s t → Kept t u → Kept s u
  kept_both s t u f g = record { slots = slots_both s.arms.names t.arms.names u.arms.names f.slots g.slots; params = g.params ∙ f.params; made = both s.made t.made u.made f.made g.made }

  -- a reading after a row
  abbrev pub after : Reading → Group → Reading
  after s group = symbol_row s (group_form group)

  abbrev pub after_all : Reading → List Group → Reading
  after_all s groups = over symbol_row s (map group_form groups)

  module _ (small : (group : Group) → AllSmall (numbers group)) where
    named : (s : Reading) (group : Group) → (after s group).arms.names ≡ (done s group).names
    named s group = ap (λ (r : Reading). r.arms.names) (after_is s group (small group)) ∙ (names_kept (map number_test (numbers group)) (with_names (done s group).names s.arms)).0

    made_so : (s : Reading) (group : Group) → (after s group).made ≡ (done s group).made
    made_so s group = ap (λ (r : Reading). r.made) (after_is s group (small group))

    row_kept : (s : Reading) (group : Group) → Kept s (after s group)
    row_kept s group = record {
      slots = subst (Slots s.arms.names) (sym (named s group)) (done_slots s.made s.arms.names (group_form group));
      params = ap (λ (r : Reading). r.arms.params) (after_is s group (small group)) ∙ (names_kept (map number_test (numbers group)) (with_names (done s group).names s.arms)).1;
      made = subst (Extends s.made) (sym (made_so s group)) (symbol_extends s.made s.arms.names (group_form group));
    }

    pub rows_kept : (groups : List Group) (s : Reading) → Kept s (after_all s groups)
    rows_kept [] s = kept_same s
    rows_kept (group ∷ groups) s = kept_both s (after s group) (after_all (after s group) groups) (row_kept s group) (rows_kept groups (after s group))

    pub rows_shown : (groups : List Group) (s : Reading) (ms : List Arm) → Shows s.arms ms → Shows (after_all s groups).arms (ms ++ arms_of s groups)
    rows_shown [] s ms h = subst (Shows s.arms) (sym (append-nil ms)) h
    rows_shown (group ∷ groups) s ms h =
        let t = after s group in
        let arm = arm_of s group in
        let here : Shows t.arms (ms ++ arm ∷ []) = subst (λ (r : Reading). Shows r.arms (ms ++ arm ∷ [])) (sym (after_is s group (small group))) (one_shown (with_names (done s group).names s.arms) ms arm (record { cases = h.cases; bodies = h.bodies })) in
        subst (Shows (after_all t groups).arms) (append_assoc ms (arm ∷ []) (arms_of t groups)) (rows_shown groups t (ms ++ arm ∷ []) here)

    -- where a number's group is read
    pub record Reached (p : Program) (i : ℕ) (group : Group) (s : Reading) (groups : List Group) : Type 0 where
      pub reading : Reading
      pub sooner : Kept s reading
      pub picks : picked p (index i) (arms_of s groups) stuck ≡ Some (done reading group).value
      pub later : Extends (done reading group).made (after_all s groups).made
      pub room : Slots (done reading group).names (after_all s groups).arms.names

    reached_here : (p : Program) (i : ℕ) (group : Group) (groups : List Group) (s : Reading) → passes_any p (map number_test (numbers group)) (index i) ≡ Some true → Reached p i group s (group ∷ groups)
    reached_here p i group groups s passed =
        let t = after s group in
        let rest = rows_kept groups t in
        record {
          reading = s;
          sooner = kept_same s;
          picks = ap (pick_if (done s group).value (picked p (index i) (arms_of t groups) stuck)) passed;
          later = subst (λ (m : Making). Extends m (after_all t groups).made) (made_so s group) rest.made;
          room = subst (λ (names : Names). Slots names (after_all t groups).arms.names) (named s group) rest.slots;
        }

    reached_later : (p : Program) (i : ℕ) (x group : Group) (groups : List Group) (s : Reading) → passes_any p (map number_test (numbers group)) (index i) ≡ Some false → Reached p i x (after s group) groups → Reached p i x s (group ∷ groups)
    reached_later p i x group groups s passed r = record {
      reading = r.reading;
      sooner = kept_both s (after s group) r.reading (row_kept s group) r.sooner;
      picks = ap (pick_if (done s group).value (picked p (index i) (arms_of (after s group) groups) stuck)) passed ∙ r.picks;
      later = r.later;
      room = r.room;
    }

    pub reached : (p : Program) (i : ℕ) (x : Group) → ((group : Group) → has_number i (in_group group ks) ≡ same_group group x) → (groups : List Group) (s : Reading) → has_group x groups ≡ true → Reached p i x s groups
    reached p i x numbered [] s h = absurd cc
    reached p i x numbered (group ∷ groups) s h = by (same_group group x) refl h (λ h. reached p i x numbered groups (after s group) h)
      where
        by : (b : Bool) → same_group group x ≡ b → (b || has_group x groups) ≡ true → (has_group x groups ≡ true → Reached p i x (after s group) groups) → Reached p i x s (group ∷ groups)
        by true is h next = subst (λ y. Reached p i y s (group ∷ groups)) (group_is group x is) (reached_here p i group groups s (numbers_pass p i (numbers group) ∙ ap Some (numbered group ∙ is)))
        by false is h next = reached_later p i x group groups s (numbers_pass p i (numbers group) ∙ ap Some (numbered group ∙ is)) (next h)
