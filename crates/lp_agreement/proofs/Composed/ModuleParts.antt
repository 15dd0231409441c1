-- The parts of a module: its uses and its items, and what a name enters where it is that of their parser.
use Rattle.std.proofs.Common.{◌≡◌, Bool, true, false, List, [], ◌∷◌, ◌++◌, map, ℕ, Some, None, refl, ap, ◌∙◌}
use Rattle.std.specs.Prelude.{if◌then◌else◌}
use Rattle.std.specs.Str.{bytes_eq}
use Rattle.lp_form.specs.declared.part.Part.TheVariants as part
use Rattle.lp_repr.specs.declared.repr.Grammar.{Grammar}
use Rattle.lp_tree.specs.ProgramTree.{leaf}
use Rattle.lp_build.specs.Built as built
use Rattle.lp_view.specs.PartLists.{Form, hole_of, parts_of, first_that}
use Rattle.lp_table.specs.FrameLines.{inner_uses, is_interned, token_use_lines, use_lines}
use Rattle.lp_run.specs.Named.{is_items, parser_of, named_by, named_items, entered_by}
use Rattle.lp_question_laws.proofs.Gotos.Whole.{IsWhole}
use Rattle.lp_agreement.proofs.Composed.Rows.{AreForms, one_form, forms_then, forms_flat, parts_are, PassNone, found_behind, pass-append, pass_map}

-- ---- its uses
module _ (g : Grammar) where
  fronts : List Form
  fronts = (map use_lines g.uses ++ leaf part.StandardUses [] ∷ []) ++ token_use_lines g ∷ []

  fronts_are : AreForms (inner_uses g ++ token_use_lines g) fronts
  unfolding inner_uses fronts
  fronts_are = forms_then (forms_then (forms_flat use_lines (λ text. refl) g.uses) (one_form (leaf part.StandardUses []) refl)) (one_form (token_use_lines g) refl)

  token_use_no_items : (b : Bool) → is_items (leaf (if b then part.TokenUseInterned else part.TokenUsePlain) []) ≡ false
  token_use_no_items true = refl
  token_use_no_items false = refl

  fronts_no_items : PassNone is_items fronts
  unfolding fronts
  fronts_no_items =
      pass-append is_items (map use_lines g.uses ++ leaf part.StandardUses [] ∷ []) (token_use_lines g ∷ [])
      (pass-append is_items (map use_lines g.uses) (leaf part.StandardUses [] ∷ []) (pass_map is_items use_lines (λ text. refl) g.uses) (refl, tt)) (token_use_no_items (is_interned g), tt)

-- ---- a module over items
module _ (g : Grammar) (nonterminal : List ℕ) (items : Form) where
  abbrev pub module_of_items : Form
  module_of_items = built.over part.ParseModule (nonterminal ∷ []) ((inner_uses g ++ token_use_lines g) ++ items)

  items_found : IsWhole items → is_items items ≡ true → first_that is_items (parts_of module_of_items) ≡ Some items
  items_found whole is = ap (first_that is_items) (parts_are part.ParseModule (nonterminal ∷ []) (forms_then (fronts_are g) (one_form items whole))) ∙ found_behind is_items (fronts g) items [] (fronts_no_items g) is

  -- a name enters the items where it is that of their parser
  pub entered_over : IsWhole items → is_items items ≡ true → (parser : Form) → parser_of items ≡ Some parser → (name : List ℕ) → hole_of 1 parser ≡ name
      → (start : List ℕ) → entered_by start module_of_items ≡ (if bytes_eq name start then Some items else None)
  entered_over whole is parser found name named start =
      ap (named_items start) (items_found whole is) ∙ ap (named_by start items) found ∙ ap (λ (n : List ℕ). if bytes_eq n start then Some items else None) named
