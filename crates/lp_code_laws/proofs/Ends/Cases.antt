-- Which body a value chooses, among cases of any number.
use Rattle.std.proofs.Common.{◌≡◌, ℕ, true, List, [], ◌∷◌, ◌++◌, Some, refl, ap, ◌∙◌}
use Rattle.lp_core.specs.declared.expr.Case.{Case}
use Rattle.lp_core.specs.Val.{Val}
use Rattle.lp_core.specs.Store.{Program}
use Rattle.lp_core.specs.CaseMeaning.{fits, chosen, chosen_if, last_body}
use Rattle.lp_code_laws.specs.Ends.Cases.{NoneFit}

module _ (p : Program) (v : Val) (bodies : ℕ) where
  -- cases that don't fit are passed over
  pub passed_over : (before after : List Case) → NoneFit p v before → chosen p (before ++ after) bodies v ≡ chosen p after bodies v
  passed_over [] after none = refl
  passed_over (case ∷ before) after none = ap (chosen_if case.body (chosen p (before ++ after) bodies v)) none.0 ∙ passed_over before after none.1

  -- the first case that fits
  pub first_chosen : (before : List Case) (case : Case) (after : List Case) → NoneFit p v before → fits p case v ≡ Some true → chosen p (before ++ case ∷ after) bodies v ≡ Some case.body
  first_chosen before case after none is = passed_over before (case ∷ after) none ∙ ap (chosen_if case.body (chosen p after bodies v)) is

  -- no case fits: the last body
  pub none_chosen : (cases : List Case) → NoneFit p v cases → chosen p cases bodies v ≡ last_body bodies
  none_chosen [] none = refl
  none_chosen (case ∷ cases) none = ap (chosen_if case.body (chosen p cases bodies v)) none.0 ∙ none_chosen cases none.1
