-- The arms of the function that reduces, by number.
use Rattle.std.proofs.Common.{◌≡◌, ℕ, suc, ◌+◌, ◌<◌, ◌≤◌, ◌^◌, Bool, true, if◌then◌else◌, List, [], ◌∷◌, ◌++◌, length, Some, pos, refl, sym, ap, subst, ◌∙◌, arith, decimal, append_assoc, append-nil}
use Rattle.std.proofs.lemmas.Bool.{eq-eqb, ne_eqb}
use Rattle.lp_core.specs.declared.expr.Test.TheVariants as test
use Rattle.lp_core.specs.Numbers.{number_of}
use Rattle.lp_core.specs.Store.{Program}
use Rattle.lp_core.specs.Tree.{Tree}
use Rattle.lp_core.specs.Val.{Val}
use Rattle.lp_view.specs.PartLists.{Form, hole_of, over}
use Rattle.lp_maker.specs.Numbers.{wide_number_of}
use Rattle.lp_bodies.specs.Arms.{with_case, with_body, with_found_case, with_names, with_header}
use Rattle.lp_bodies.specs.Reductions.{Arming, arming_of, reduce_arm, reduce_row, is_arm, vec_type}
use Rattle.lp_question_laws.proofs.Gotos.Digits.{wide_number_of_decimal}
use Rattle.lp_question_laws.proofs.Gotos.LinkGrows.{Extends, same, both, arm_extends}
use Rattle.lp_question_laws.proofs.Gotos.Arms.{Arm, Shows, one_shown, picked, pick_if, passes_any}
use Rattle.lp_question_laws.proofs.Gotos.Simulate.{one_passed}
use Rattle.lp_question_laws.proofs.Reductions.Scopes.{Widens, widens_none, widens_both, arm_widens}

-- a row is the arm of a number
pub record IsArmOf (n : ℕ) (row : Form) : Type 0 where
  pub is : is_arm row ≡ true
  pub number : hole_of 0 row ≡ decimal n

abbrev pub AreArms : ℕ → List Form → Type 0
AreArms n [] = Unit {0}
AreArms n (row ∷ rows) = IsArmOf n row × AreArms (n + 1) rows

abbrev pub number_test : ℕ → Tree → Arm
number_test n e = (test.Between (pos n) (pos n) ∷ [], e)

-- arms of these numbers
abbrev pub AreNumbered : ℕ → List Arm → Type 0
AreNumbered n [] = Unit {0}
AreNumbered n (m ∷ ms) = (m.0 ≡ test.Between (pos n) (pos n) ∷ []) × AreNumbered (n + 1) ms

-- an arm goes on
abbrev pub armed_next : ℕ → Form → Arming → Arming
armed_next n row s =
    let d = reduce_arm s.made s.arms.names row in arming_of (with_body d.value (with_case (test.Between (pos n) (pos n)) (with_names d.names s.arms))) s.kind d.made

pub arm_next : (n : ℕ) (row : Form) (s : Arming) → IsArmOf n row → n < 2 ^ 63 → reduce_row s row ≡ armed_next n row s
arm_next n row s a small =
    let d = reduce_arm s.made s.arms.names row in
    ap (λ (b : Bool). if b then arming_of (with_body d.value (with_found_case (wide_number_of (hole_of 0 row)) (with_names d.names s.arms))) s.kind d.made else arming_of (with_header s.made.prefix row s.arms) (vec_type s.made.prefix row) s.made) a.is
    ∙ ap (λ (ds : List ℕ). arming_of (with_body d.value (with_found_case (wide_number_of ds) (with_names d.names s.arms))) s.kind d.made) a.number
    ∙ ap (λ o. arming_of (with_body d.value (with_found_case o (with_names d.names s.arms))) s.kind d.made) (wide_number_of_decimal n small)

-- what some arms add
pub record Gathers (n : ℕ) (rows : List Form) (s t : Arming) (ms : List Arm) : Type 0 where
  pub added : List Arm
  pub numbered : AreNumbered n added
  pub many : length added ≡ length rows
  pub shows : Shows t.arms (ms ++ added)
  pub names : Widens s.arms.names t.arms.names
  pub params : t.arms.params ≡ s.arms.params
  pub kind : t.kind ≡ s.kind
  pub made : Extends s.made t.made

pub all_gathered : (n : ℕ) (rows : List Form) (s : Arming) (ms : List Arm) → AreArms n rows → n + length rows ≤ 2 ^ 63 → Shows s.arms ms → Gathers n rows s (over reduce_row s rows) ms
all_gathered n [] s ms a small h =
    record { added = []; numbered = tt; many = refl; shows = subst (Shows s.arms) (sym (append-nil ms)) h; names = widens_none s.arms.names; params = refl; kind = refl; made = same s.made }
all_gathered n (row ∷ rows) s ms a small h =
    let d = reduce_arm s.made s.arms.names row in
    let m = number_test n d.value in
    let t = armed_next n row s in
    let one : Shows t.arms (ms ++ m ∷ []) = one_shown (with_names d.names s.arms) ms m (record { cases = h.cases; bodies = h.bodies }) in
    let rest = all_gathered (n + 1) rows t (ms ++ m ∷ []) a.1 (omega arith) one in
    subst (λ (u : Arming). Gathers n (row ∷ rows) s (over reduce_row u rows) ms) (sym (arm_next n row s a.0 (omega arith))) (record {
      added = m ∷ rest.added;
      numbered = (refl, rest.numbered);
      many = ap suc rest.many;
      shows = subst (Shows (over reduce_row t rows).arms) (append_assoc ms (m ∷ []) rest.added) rest.shows;
      names = widens_both (arm_widens s.made s.arms.names row) rest.names;
      params = rest.params;
      kind = rest.kind;
      made = both s.made d.made (over reduce_row t rows).made (arm_extends s.made s.arms.names row) rest.made;
    })

-- ---- the arm that is picked

module _ (p : Program) where
  passed_over : (n i : ℕ) (v : Val) (ms rest : List Arm) (last : Tree) → number_of v ≡ Some (pos i) → AreNumbered n ms → n + length ms ≤ i → picked p v (ms ++ rest) last ≡ picked p v rest last
  passed_over n i v [] rest last e a le = refl
  passed_over n i v (m ∷ ms) rest last e a le =
      ap (pick_if m.1 (picked p v (ms ++ rest) last)) (ap (λ ts. passes_any p ts v) a.0 ∙ one_passed p n i v e ∙ ap Some (ne_eqb n i (λ same. omega arith)))
      ∙ passed_over (n + 1) i v ms rest last e a.1 (omega arith)

  -- the arm of a number is picked
  pub arm_picked : (i : ℕ) (v : Val) (ms later : List Arm) (e last : Tree) → number_of v ≡ Some (pos i) → AreNumbered 0 ms → length ms ≡ i → picked p v (ms ++ number_test i e ∷ later) last ≡ Some e
  arm_picked i v ms later e last is a many =
      passed_over 0 i v ms (number_test i e ∷ later) last is a (omega arith)
      ∙ ap (pick_if e (picked p v later last)) (one_passed p i i v is ∙ ap Some (eq-eqb i i refl))
