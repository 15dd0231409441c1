-- A program that has the functions of a grammar's actions among its parts.
use Rattle.std.specs.Prelude.{◌≡◌, ℕ, ◌+◌, true, false, List, [], ◌∷◌, ◌++◌}
use Rattle.lp_repr.specs.declared.repr.ActionFnDefn.{ActionFnDefn}
use Rattle.lp_repr.specs.declared.repr.Grammar.{Grammar}
use Rattle.lp_view.specs.PartLists.{Form, parts_of}
use Rattle.lp_run.specs.Promised.{is_action, is_source}
use Rattle.lp_question_laws.specs.Actions.Stands.{IsActionForm}

-- the form of an action, which is taken for one
pub record IsAction (g : Grammar) (n : ℕ) (a : ActionFnDefn) (form : Form) : Type 0 where
  pub is : IsActionForm g n a form
  pub taken : is_action form ≡ true
  pub no_source : is_source form ≡ false

-- the forms of actions from a number on
abbrev pub AreActions : Grammar → ℕ → List ActionFnDefn → List Form → Type 0
AreActions g n [] [] = Unit {0}
AreActions g n (a ∷ rest) (f ∷ fs) = IsAction g n a f × AreActions g (n + 1) rest fs
AreActions g n [] (f ∷ fs) = ⊥
AreActions g n (a ∷ rest) [] = ⊥

-- no form of an action
abbrev pub AreNone : List Form → Type 0
AreNone [] = Unit {0}
AreNone (f ∷ fs) = (is_action f ≡ false) × AreNone fs

-- those of all actions stand side by side, and no others
pub record HasForms (g : Grammar) (program : Form) : Type 0 where
  pub before : List Form
  pub forms : List Form
  pub after : List Form
  pub parts : parts_of program ≡ before ++ (forms ++ after)
  pub none_before : AreNone before
  pub none_after : AreNone after
  pub each : AreActions g 0 g.action_fn_defns forms
