-- The fields of the machine of the built module are parameters of the grammar.
use Rattle.std.proofs.Common.{◌≡◌, ℕ, Bool, true, false, if◌then◌else◌, append-nil, List, [], ◌∷◌, ◌++◌, map, Option, Some, refl, sym, ap, ◌∙◌, subst, append_assoc}
use Rattle.lp_form.specs.declared.part.Part.TheVariants as part
use Rattle.lp_repr.specs.declared.lr1.Lr1State.{Lr1State}
use Rattle.lp_repr.specs.declared.repr.Grammar.{Grammar}
use Rattle.lp_repr.specs.declared.repr.Parameter.{Parameter}
use Rattle.lp_core.specs.Val.{Val}
use Rattle.lp_tree.specs.ProgramTree.{leaf}
use Rattle.lp_view.specs.PartLists.{Form, is_a, parts_of, over, first_that}
use Rattle.lp_maker.specs.Making.{Making}
use Rattle.lp_maker.specs.Slots.{Names, no_names, slot_of}
use Rattle.lp_maker.specs.declared.methods.Methods.{Methods}
use Rattle.lp_table.specs.Headers.{header_lines}
use Rattle.lp_table.specs.Headers as header
use Rattle.lp_table.specs.MachineLines.{drive_call, phantom_text}
use Rattle.lp_table.specs.FrameLines.{is_interned, parse_header, source_lines, table_parser}
use Rattle.lp_table.specs.Starts.{Start}
use Rattle.lp_turns.specs.Readings.{field_values}
use Rattle.lp_run.specs.Entered.{module_made, made_after}
use Rattle.lp_run.specs.ParseMethod.{Parsing, By_driver, Fields, fields_of, field_row, fields, driving, called, parser_called, parse_made, parameters_of}
use Rattle.lp_question_laws.proofs.Gotos.GotoAnswered.{built_items}
use Rattle.lp_question_laws.proofs.Gotos.LinkHeaders.{IsWordy}
use Rattle.lp_question_laws.proofs.Gotos.LinkModule.{complete}
use Rattle.lp_question_laws.proofs.Gotos.LinkTable.{items_driven, parser_found, parser_rows}
use Rattle.lp_agreement.proofs.Composed.Parameters.{ArePlain, AreThere, all_bound, parameters_are, row_form, rows_are, slots_in, slots_there, values_there}
use Rattle.lp_agreement.proofs.Composed.Rows.{parts_are, found_behind}
use Rattle.lp_agreement.proofs.Composed.Runs.{own_fields, own_methods, drives}

same_fields : (a b : Methods) (x y : List (Option ℕ)) → By_driver a x ≡ By_driver b y → x ≡ y
same_fields a b x y e = cc

-- the fields that a driver's call has
rows_numbers : (names : Names) (f : Fields) (texts : List (List ℕ)) → (over (field_row names) f (map (row_form part.DriveRow) texts)).numbers ≡ f.numbers ++ map (λ q. slot_of q names) texts
rows_numbers names f [] = sym (append-nil f.numbers)
rows_numbers names f (text ∷ texts) = rows_numbers names (field_row names f (row_form part.DriveRow text)) texts ∙ append_assoc f.numbers (slot_of text names ∷ []) (map (λ q. slot_of q names) texts)

module _ (g : Grammar) where
  drive_rows : parts_of (drive_call g) ≡ map (row_form part.DriveRow) (header.names_of g)
  unfolding drive_call
  drive_rows = parts_are part.Drive (phantom_text g ∷ []) (rows_are part.DriveRow (header.names_of g))

  slots_map : (names : Names) (ps : List Parameter) → map (λ q. slot_of q names) (map (λ (p : Parameter). p.name) ps) ≡ slots_in names ps
  slots_map names [] = refl
  slots_map names (p ∷ ps) = ap (λ (os : List (Option ℕ)). slot_of p.name names ∷ os) (slots_map names ps)

  drive_numbers : (names : Names) → (fields names (drive_call g)).numbers ≡ slots_in names g.parameters
  drive_numbers names =
      ap (λ (fs : List Form). (over (field_row names) (fields_of [] no_names) fs).numbers) drive_rows ∙ rows_numbers names (fields_of [] no_names) (header.names_of g) ∙ slots_map names g.parameters

module _ (prefix : List ℕ) (program : Form) (g : Grammar) (states : List Lr1State) (st : Start) where
  abbrev items : Form
  items = built_items g states st

  source_no_drive : is_a part.Drive (source_lines g) ≡ false
  unfolding source_lines
  source_no_drive = by (is_interned g)
    where
      by : (b : Bool) → is_a part.Drive (leaf (if b then part.TokenSourceInterned else part.TokenSourcePlain) []) ≡ false
      by true = refl
      by false = refl

  header_no_drive : is_a part.Drive (parse_header g st) ≡ false
  unfolding parse_header header_lines
  header_no_drive = refl

  drive_is : is_a part.Drive (drive_call g) ≡ true
  unfolding drive_call
  drive_is = refl

  drive_found : first_that (is_a part.Drive) (parts_of (table_parser g st (drive_call g))) ≡ Some (drive_call g)
  drive_found = ap (first_that (is_a part.Drive)) (parser_rows g states st) ∙ found_behind (is_a part.Drive) (parse_header g st ∷ source_lines g ∷ []) (drive_call g) [] (header_no_drive, (source_no_drive, tt)) drive_is

  parse_is : (m : Making) (names : Names) → parse_made m items names ≡ driving m (fields names (drive_call g)) (Some (items_driven g states st).machine)
  unfolding parse_made
  parse_is m names =
      ap (parser_called m items names) (parser_found g states st) ∙ ap (called m items names (table_parser g st (drive_call g))) drive_found
      ∙ ap (driving m (fields names (drive_call g))) (items_driven g states st).is_machine

  made_parse : (module_made prefix program items).parse ≡ (parse_made (complete prefix program items) items (parameters_of prefix items)).parse
  unfolding complete module_made made_after
  made_parse = refl

  fields_are : own_fields prefix program g states st ≡ (fields (parameters_of prefix items) (drive_call g)).numbers
  fields_are =
      let whole = ap (λ (p : Parsing). p.parse) (parse_is (complete prefix program items) (parameters_of prefix items)) in
      same_fields (own_methods prefix program g states st) _ (own_fields prefix program g states st) (fields (parameters_of prefix items) (drive_call g)).numbers (sym (drives prefix program g states st) ∙ made_parse ∙ whole)

-- each field has a value
pub fields_valued : (program : Form) (g : Grammar) (states : List Lr1State) (st : Start) → IsWordy g.prefix → ArePlain g.prefix g.parameters → (vs : List Val) × (field_values [] (own_fields g.prefix program g states st) ≡ Some vs)
fields_valued program g states st wordy are =
    let names = parameters_of g.prefix (built_items g states st) in
    let is : own_fields g.prefix program g states st ≡ slots_in (all_bound no_names g.parameters) g.parameters =
    fields_are g.prefix program g states st ∙ drive_numbers g names ∙ ap (λ (n : Names). slots_in n g.parameters) (parameters_are g states st wordy are) in
    values_there (own_fields g.prefix program g states st) [] (subst AreThere (sym is) (slots_there g.parameters no_names))
