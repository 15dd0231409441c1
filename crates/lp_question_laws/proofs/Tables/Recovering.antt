-- What the machine says of errors as it is printed: whether they are mended, and an error's symbol, which is a variant of the error terminal's type.
use Rattle.std.proofs.Common.{◌≡◌, ℕ, suc, ◌-◌, true, false, List, [], ◌∷◌, ◌++◌, length, map, Option, Some, None, refl, sym, ap, ◌∙◌, arith}
use Rattle.std.specs.Prelude.{slice_get, is_some, unwrap_or, Bool, if◌then◌else◌}
use Rattle.std.specs.Option.{option_map}
use Rattle.std.proofs.lemmas.List.{length-map}
use Rattle.lp_repr.specs.Numbering.{terminals_of}
use Rattle.lp_repr.specs.declared.lr1.Lr1State.{Lr1State}
use Rattle.lp_repr.specs.declared.numbering.SymbolNumber.TheVariants as by_number
use Rattle.lp_repr.specs.declared.repr.Grammar.{Grammar}
use Rattle.lp_repr.specs.declared.repr.TypeRepr.{TypeRepr}
use Rattle.lp_core.specs.declared.expr.Leaf.TheVariants as leaf
use Rattle.lp_core.specs.declared.expr.Op.TheVariants as op
use Rattle.lp_core.specs.Tree as tree
use Rattle.lp_form.specs.declared.part.Part.TheVariants as part
use Rattle.lp_tree.specs.ProgramTree.{leaf as form_leaf}
use Rattle.lp_build.specs.Machine.{recovery_lines, last_terminal}
use Rattle.lp_build.specs.Built.{text_rows}
use Rattle.lp_build.specs.Built as built
use Rattle.lp_view.specs.PartLists.{Form, parts_of, over}
use Rattle.lp_maker.specs.Constructs.{stuck, take_slot}
use Rattle.lp_maker.specs.Making.{Making, variant_tag, with_variant}
use Rattle.lp_bodies.specs.MachineMethods.{Recovering, recovering_of, recovery_row, recovery_rows}
use Rattle.lp_parts.specs.Texts.{error_text, location_text, symbol_parameters_text, token_text}
use Rattle.lp_parts.specs.Variants.{terminal_type, terminal_types, terminal_variants, variant_numbers, with_type}
use Rattle.lp_table.specs.Headers.{names_of}
use Rattle.lp_table.specs.Machines.{machine_clauses_text, machine_generics_text}
use Rattle.lp_table.specs.MachineLines.{implementation, phantom_text, recovery_variant}
use Rattle.lp_table.specs.Pieces.{variant_text}
use Rattle.lp_table.specs.ReductionLines.{variant_at}
use Rattle.lp_table.specs.Starts.{Start, state_text}
use Rattle.lp_machine.specs.GrammarTables.{error_of}
use Rattle.lp_valid.specs.ValidGrammar.{IsValidGrammar}
use Rattle.lp_turn_laws.proofs.Paths.Reductions.{at_within}
use Rattle.lp_question_laws.proofs.Gotos.Whole.{AreWhole, flat, parts_over}
use Rattle.lp_question_laws.proofs.Tables.Errors.{error_last, errors_mended}

-- rows of fields change nothing
abbrev field_forms : List (List ℕ) → List Form
field_forms names = map (λ n. form_leaf part.SelfRow (n ∷ [])) names

fields_flat : (names : List (List ℕ)) → text_rows part.SelfRow names ≡ flat (field_forms names)
fields_flat [] = refl
fields_flat (n ∷ names) = ap (λ t. (part.SelfRow, n ∷ [], [], 0) ∷ t) (fields_flat names)

fields_whole : (names : List (List ℕ)) → AreWhole (field_forms names)
fields_whole [] = tt
fields_whole (n ∷ names) = (refl, fields_whole names)

fields_pass : (s : Recovering) (names : List (List ℕ)) → over recovery_row s (field_forms names) ≡ s
fields_pass s [] = refl
fields_pass s (n ∷ names) = fields_pass s names

-- with a variant errors are mended, and an error's symbol is of it
abbrev pub recovered : Making → Option (List ℕ) → Recovering
recovered m None = recovering_of (tree.Plain (leaf.Bool false)) stuck m
recovered m (Some variant) = recovering_of (tree.Plain (leaf.Bool true)) (tree.Apply (op.Wrap (variant_tag variant m)) (take_slot 0)) (with_variant variant m)

rows_of : (m : Making) (holes : List (List ℕ)) (names : List (List ℕ)) (line : Form) → AreWhole (line ∷ []) → recovery_rows m (built.over part.MachineImpl holes (line ++ text_rows part.SelfRow names)) ≡ recovery_row (recovering_of stuck stuck m) line
rows_of m holes names line whole =
    let first = recovering_of stuck stuck m in
    ap (λ below. over recovery_row first (parts_of (built.over part.MachineImpl holes (line ++ below)))) (fields_flat names)
    ∙ ap (over recovery_row first) (parts_over part.MachineImpl holes (line ∷ field_forms names) (whole.0, fields_whole names))
    ∙ fields_pass (recovery_row first line) names

rows_are : (m : Making) (holes : List (List ℕ)) (names : List (List ℕ)) (o : Option (List ℕ)) → recovery_rows m (built.over part.MachineImpl holes (recovery_lines o ++ text_rows part.SelfRow names)) ≡ recovered m o
rows_are m holes names None = rows_of m holes names (form_leaf part.RecoveryOff []) (refl, tt)
rows_are m holes names (Some variant) = rows_of m holes names (form_leaf part.RecoveryOn (variant ∷ [])) (refl, tt)

pub recovers : (m : Making) (g : Grammar) (states : List Lr1State) (st : Start) → recovery_rows m (implementation g states st) ≡ recovered m (recovery_variant g)
unfolding implementation
recovers m g states st =
    rows_are m (machine_generics_text g ∷ machine_clauses_text g ∷ location_text g ∷ error_text g ∷ token_text g ∷ symbol_parameters_text g ∷ st.ty ∷ state_text g states ∷ phantom_text g ∷ last_terminal (length g.terminals.all) ∷ []) (names_of g) (recovery_variant g)

recovered_uses : (m : Making) (o : Option (List ℕ)) → (recovered m o).uses ≡ tree.Plain (leaf.Bool (is_some o))
recovered_uses m None = refl
recovered_uses m (Some variant) = refl

pub mends : (m : Making) (g : Grammar) (states : List Lr1State) (st : Start) → (recovery_rows m (implementation g states st)).uses ≡ tree.Plain (leaf.Bool (is_some (recovery_variant g)))
mends m g states st = ap (λ (r : Recovering). r.uses) (recovers m g states st) ∙ recovered_uses m (recovery_variant g)

-- ---- the variant
variants_length : (types others : List TypeRepr) → length (variant_numbers types others) ≡ length others
variants_length types [] = refl
variants_length types (ty ∷ others) = ap suc (variants_length (with_type types ty) others)

pub terminals_varied : (g : Grammar) → length (terminal_variants g) ≡ length (terminals_of g)
unfolding terminal_variants
terminals_varied g = variants_length [] (terminal_types g) ∙ length-map (terminals_of g) (terminal_type g)

module _ (g : Grammar) (rules : IsValidGrammar g) where
  -- it is the error terminal's
  pub error_variant : (e : ℕ) → error_of g ≡ Some e → recovery_variant g ≡ Some (variant_text (variant_at g (Some (by_number.Terminal e))))
  error_variant e is =
      let last = error_last g rules e is in
      let count = terminals_varied g in
      let k = at_within (terminal_variants g) e (omega (arith, last, count)) in
      let place : length (terminal_variants g) - 1 ≡ e = omega (arith, last, count) in
      let used : g.uses_error_recovery ≡ true = errors_mended g rules ∙ ap is_some is in
      ap (λ (b : Bool). if b then option_map variant_text (slice_get (terminal_variants g) (length (terminal_variants g) - 1)) else None) used
      ∙ ap (λ (i : ℕ). option_map variant_text (slice_get (terminal_variants g) i)) place
      ∙ ap (option_map variant_text) k.1
      ∙ sym (ap (λ (o : Option ℕ). Some (variant_text (unwrap_or o 0))) k.1)

  -- there is one where errors are mended
  pub varied_mended : is_some (recovery_variant g) ≡ is_some (error_of g)
  varied_mended = by (error_of g) refl
    where
      by : (o : Option ℕ) → error_of g ≡ o → is_some (recovery_variant g) ≡ is_some o
      by None is =
          let used : g.uses_error_recovery ≡ false = errors_mended g rules ∙ ap is_some is in
          ap (λ (b : Bool). is_some (if b then option_map variant_text (slice_get (terminal_variants g) (length (terminal_variants g) - 1)) else None)) used
      by (Some e) is = ap is_some (error_variant e is)
