-- The rows of a printed loop over gotos: the check of the top slot, an arm for each goto, and one for other symbols.
use Rattle.std.proofs.Common.{◌≡◌, ℕ, ◌+◌, Bool, true, false, List, [], ◌∷◌, ◌++◌, length, map, decimal, Option, Some, None, refl, sym, ap, ◌∙◌, append_assoc}
use Rattle.std.specs.Prelude.{nat_lt}
use Rattle.std.specs.List.{flat_map}
use Rattle.std.proofs.lemmas.List.Concat.{flat_map-cons}
use Rattle.lp_repr.specs.declared.repr.Grammar.{Grammar}
use Rattle.lp_core.specs.Tree.{Tree}
use Rattle.lp_form.specs.declared.part.Part.TheVariants as part
use Rattle.lp_tree.specs.ProgramTree.{Item, leaf}
use Rattle.lp_build.specs.Ascent.{check_lines}
use Rattle.lp_build.specs.Built.{leaf_if}
use Rattle.lp_build.specs.Built as built
use Rattle.lp_view.specs.PartLists.{Form, parts_of, over}
use Rattle.lp_maker.specs.Slots.{Names, after_slots}
use Rattle.lp_maker.specs.Making.{Making}
use Rattle.lp_ascent_bodies.specs.declared.ascent.Lines.{Lines as Shared}
use Rattle.lp_ascent_bodies.specs.AscentGotos.{Going, no_gotos, empty_check, goto_other, going_row, goto_done, goto_loop}
use Rattle.lp_question_laws.proofs.Gotos.Whole.{AreWhole, flat, flat-append, parts_over, whole-append}
use Rattle.lp_ascent.specs.AnswerLines.{answer_names}
use Rattle.lp_ascent.specs.GotoLines.{goto_arm, gotos_of, optional_top}
use Rattle.lp_ascent.specs.Slots.{Layout}

-- ---- what is printed
abbrev pub check_forms : Option ℕ → List Form
check_forms None = []
check_forms (Some slot) = leaf part.EmptyCheck (decimal slot ∷ []) ∷ []

abbrev pub other_forms : Bool → List Form
other_forms true = leaf part.GotoOther [] ∷ []
other_forms false = []

checks_flat : (top : Option ℕ) → check_lines top ≡ flat (check_forms top)
checks_flat None = refl
checks_flat (Some slot) = refl

checks_whole : (top : Option ℕ) → AreWhole (check_forms top)
checks_whole None = tt
checks_whole (Some slot) = (refl, tt)

others_flat : (b : Bool) → leaf_if b part.GotoOther ≡ flat (other_forms b)
others_flat true = refl
others_flat false = refl

others_whole : (b : Bool) → AreWhole (other_forms b)
others_whole true = (refl, tt)
others_whole false = tt

module _ (g : Grammar) (ls : List Layout) (l : Layout) where
  abbrev pub goto_forms : List (List ℕ × ℕ) → List Form
  goto_forms gotos = map (goto_arm g ls l) gotos

  arms_flat : (gotos : List (List ℕ × ℕ)) → flat_map (goto_arm g ls l) gotos ≡ flat (goto_forms gotos)
  arms_flat [] = refl
  arms_flat (x ∷ gotos) = flat_map-cons (goto_arm g ls l) x gotos ∙ ap (λ (es : List Item). goto_arm g ls l x ++ es) (arms_flat gotos)

  arms_whole : (gotos : List (List ℕ × ℕ)) → AreWhole (goto_forms gotos)
  arms_whole [] = tt
  arms_whole (x ∷ gotos) = (refl, arms_whole gotos)

  -- some nonterminal has no goto
  abbrev pub lacks_some : List (List ℕ × ℕ) → Bool
  lacks_some gotos = nat_lt (length gotos) (length (answer_names g))

  abbrev pub loop_forms : List (List ℕ × ℕ) → List Form
  loop_forms gotos = check_forms (optional_top l) ++ (goto_forms gotos ++ other_forms (lacks_some gotos))

  pub loop_parts : (x : List ℕ × ℕ) (gotos : List (List ℕ × ℕ)) → parts_of (gotos_of g ls l (x ∷ gotos)) ≡ loop_forms (x ∷ gotos)
  loop_parts x gotos =
      let top = optional_top l in
      let b = lacks_some (x ∷ gotos) in
      let arms = goto_forms (x ∷ gotos) in
      let items : (check_lines top ++ flat_map (goto_arm g ls l) (x ∷ gotos)) ++ leaf_if b part.GotoOther ≡ flat (loop_forms (x ∷ gotos)) =
      append_assoc (check_lines top) (flat_map (goto_arm g ls l) (x ∷ gotos)) (leaf_if b part.GotoOther)
      ∙ ap (λ (es : List Item). es ++ (flat_map (goto_arm g ls l) (x ∷ gotos) ++ leaf_if b part.GotoOther)) (checks_flat top)
      ∙ ap (λ (es : List Item). flat (check_forms top) ++ (es ++ leaf_if b part.GotoOther)) (arms_flat (x ∷ gotos))
      ∙ ap (λ (es : List Item). flat (check_forms top) ++ (flat arms ++ es)) (others_flat b)
      ∙ ap (λ (es : List Item). flat (check_forms top) ++ es) (sym (flat-append arms (other_forms b)))
      ∙ sym (flat-append (check_forms top) (arms ++ other_forms b)) in
      ap (λ (es : List Item). parts_of (built.over part.GotoLoop [] es)) items
      ∙ parts_over part.GotoLoop [] (loop_forms (x ∷ gotos)) (whole-append (check_forms top) (arms ++ other_forms b) (checks_whole top) (whole-append arms (other_forms b) (arms_whole (x ∷ gotos)) (others_whole b)))

-- ---- what is gathered of it
over_append : {S : Type 0} (step : S → Form → S) (s : S) (a b : List Form) → over step s (a ++ b) ≡ over step (over step s a) b
over_append step s [] b = refl
over_append step s (f ∷ a) b = over_append step (step s f) a b

module _ (shared : Shared) (token made : ℕ) where
  abbrev pub check_trees : Names → Option ℕ → List Tree
  check_trees names None = []
  check_trees names (Some slot) = empty_check shared names (leaf part.EmptyCheck (decimal slot ∷ [])) ∷ []

  checks_are : (names : Names) (m : Making) (top : Option ℕ) → over (going_row shared token made) (no_gotos names m) (check_forms top) ≡ record (no_gotos names m) { checks = check_trees names top }
  checks_are names m None = refl
  checks_are names m (Some slot) = refl

  abbrev pub other_tree : Bool → Tree → Tree
  other_tree true other = goto_other token made
  other_tree false other = other

  others_are : (s : Going) (b : Bool) → over (going_row shared token made) s (other_forms b) ≡ record s { other = other_tree b s.other }
  others_are s true = refl
  others_are s false = refl

-- what is gathered of the checks and the arms, and of all rows
abbrev pub checked : Shared → Names → Making → Layout → Going
checked shared names m l = record (no_gotos (after_slots 2 names) m) { checks = check_trees shared names.next (names.next + 1) (after_slots 2 names) (optional_top l) }

abbrev pub armed : Grammar → List Layout → Layout → Shared → Names → Making → List (List ℕ × ℕ) → Going
armed g ls l shared names m gotos = over (going_row shared names.next (names.next + 1)) (checked shared names m l) (goto_forms g ls l gotos)

abbrev pub all_rows : Grammar → List Layout → Layout → Shared → Names → Making → List (List ℕ × ℕ) → Going
all_rows g ls l shared names m gotos =
    let s = armed g ls l shared names m gotos in
    record s { other = other_tree shared names.next (names.next + 1) (lacks_some g ls l gotos) s.other }

-- the loop is made of these
pub loop_is : (g : Grammar) (ls : List Layout) (l : Layout) (shared : Shared) (names : Names) (m : Making) (x : List ℕ × ℕ) (gotos : List (List ℕ × ℕ))
    → goto_loop shared m names (gotos_of g ls l (x ∷ gotos)) ≡ goto_done shared (length names.known) names.next (names.next + 1) (all_rows g ls l shared names m (x ∷ gotos))
loop_is g ls l shared names m x gotos =
    let step = going_row shared names.next (names.next + 1) in
    let none = no_gotos (after_slots 2 names) m in
    let arms = goto_forms g ls l (x ∷ gotos) in
    let b = lacks_some g ls l (x ∷ gotos) in
    let rows : over step none (parts_of (gotos_of g ls l (x ∷ gotos))) ≡ all_rows g ls l shared names m (x ∷ gotos) =
    ap (over step none) (loop_parts g ls l x gotos)
    ∙ over_append step none (check_forms (optional_top l)) (arms ++ other_forms b)
    ∙ ap (λ (s : Going). over step s (arms ++ other_forms b)) (checks_are shared names.next (names.next + 1) (after_slots 2 names) m (optional_top l))
    ∙ over_append step (checked shared names m l) arms (other_forms b)
    ∙ others_are shared names.next (names.next + 1) (armed g ls l shared names m (x ∷ gotos)) b in
    ap (goto_done shared (length names.known) names.next (names.next + 1)) rows
