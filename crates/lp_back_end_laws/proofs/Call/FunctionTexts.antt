-- The texts that a state's arms make are the forms that they look for.
use Rattle.std.proofs.Common.{◌≡◌, ℕ, ◌+◌, List, [], ◌∷◌, ◌++◌, length, slice_get, refl, sym, ap, ◌∙◌, append_assoc, append-nil}
use Rattle.std.specs.List.{flat_map, AllByRecursion}
use Rattle.std.proofs.lemmas.List.Concat.{flat_map-cons}
use Rattle.lp_core.specs.Store.{Program}
use Rattle.lp_view.specs.PartLists.{Form, over}
use Rattle.lp_code_laws.proofs.Ends.Lists.{get_first}
use Rattle.lp_ascent_bodies.specs.declared.ascent.Lines.{Lines as Shared}
use Rattle.lp_ascent_bodies.specs.AscentArms.{Arming}
use Rattle.lp_ascent_bodies.specs.AscentStates.{arm_of}
use Rattle.lp_turn_laws.proofs.Paths.Numbered.{at_right}
use Rattle.lp_question_laws.proofs.Tokens.Forms.{AreTexts}
use Rattle.lp_back_end_laws.specs.Call.Cases.{IsArmLine, line_soughts, forms_sought}
use Rattle.lp_back_end_laws.proofs.Call.ArmCases.{arm_read, forms_both}
use Rattle.lp_back_end_laws.proofs.Call.CaseBodies.{next_arming}
use Rattle.lp_back_end_laws.proofs.Call.FunctionGrows.{arm_grows}

module _ (p : Program) where
  arm_texts : (shared : Shared) (line : Form) (a : Arming) → IsArmLine line → (arm_of shared line a).made.texts ≡ a.made.texts ++ forms_sought (line_soughts a.made.prefix line)
  arm_texts shared line a h =
      let forms = forms_sought (line_soughts a.made.prefix line) in
      (arm_read (record p { texts = a.made.texts ++ forms }) shared line a h (λ j f at. at_right a.made.texts forms (length a.made.texts + j) j f refl at)).texts

  pub lines_texts : (shared : Shared) (prefix : List ℕ) (lines : List Form) (a : Arming) → a.made.prefix ≡ prefix → AllByRecursion IsArmLine lines → (over (next_arming shared) a lines).made.texts ≡ a.made.texts ++ forms_sought (flat_map (line_soughts prefix) lines)
  lines_texts shared prefix [] a same h = sym (append-nil a.made.texts)
  lines_texts shared prefix (line ∷ lines) a same h =
      let b = arm_of shared line a in
      let ss = line_soughts prefix line in
      let more = flat_map (line_soughts prefix) lines in
      let one : b.made.texts ≡ a.made.texts ++ forms_sought ss = arm_texts shared line a h.0 ∙ ap (λ r. a.made.texts ++ forms_sought (line_soughts r line)) same in
      lines_texts shared prefix lines b ((arm_grows shared line a).prefix ∙ same) h.1
      ∙ ap (λ ts. ts ++ forms_sought more) one
      ∙ append_assoc a.made.texts (forms_sought ss) (forms_sought more)
      ∙ ap (λ fs. a.made.texts ++ fs) (sym (forms_both ss more))
      ∙ ap (λ us. a.made.texts ++ forms_sought us) (sym (flat_map-cons (line_soughts prefix) line lines))

  -- where a program has the texts that were made behind some, it has these
  pub texts_there : (made forms more : List (List ℕ)) → p.texts ≡ (made ++ forms) ++ more → AreTexts p.texts (length made) forms
  texts_there made forms more is j f at = ap (λ ts. slice_get ts (length made + j)) is ∙ get_first (made ++ forms) more (length made + j) (at_right made forms (length made + j) j f refl at)
