-- The names of a grammar's parameters are plain words, where the texts of a built program fit.
use Rattle.std.proofs.Common.{◌≡◌, ◌⊎◌, inl, inr, ℕ, zero, suc, ◌<◌, ◌==◌, nat_lt, nat_eq, Bool, true, false, not, List, [], ◌∷◌, ◌++◌, length, map, codes, chars, All, IsUtf8, Option, Some, slice_get, refl, sym, ap, subst, arith}
use Rattle.std.specs.List.{starts_with}
use Rattle.std.proofs.lemmas.Bool.{and_parts, both_ways, cases_Bool, cond-true, false_from_ne_true, or_right, eqb-true, eqb-false, lt-ltb}
use Rattle.std.specs.Str.{is_utf8}
use Rattle.std.proofs.lemmas.List.Elements.{All-head, All-tail}
use Rattle.std.proofs.lemmas.Option.{slice_get_within}
use Rattle.std.proofs.lemmas.Str.{chars-nil}
use Rattle.lp_form.specs.Templates.{holes_of}
use Rattle.lp_form.specs.declared.part.Part.TheVariants as part
use Rattle.lp_form.specs.declared.template.Kind.TheVariants as kind
use Rattle.lp_repr.specs.Names.{same_text}
use Rattle.lp_repr.specs.declared.lr1.Lr1State.{Lr1State}
use Rattle.lp_repr.specs.declared.lr1.StartStates.{StartStates}
use Rattle.lp_repr.specs.declared.repr.Grammar.{Grammar}
use Rattle.lp_repr.specs.declared.repr.LrCodeGeneration.TheVariants.{RecursiveAscent}
use Rattle.lp_repr.specs.declared.repr.NonterminalString.{NonterminalString}
use Rattle.lp_repr.specs.declared.repr.Parameter.{Parameter}
use Rattle.lp_tree.specs.ProgramTree.{Item, item, leaf, program_items}
use Rattle.lp_tree.specs.declared.tree.Entry.{Entry}
use Rattle.lp_tree.specs.declared.tree.Program.{Program}
use Rattle.lp_build.specs.Built as built
use Rattle.lp_build.specs.Built.{text_rows}
use Rattle.lp_view.specs.PartLists.{Form}
use Rattle.lp_assembly.specs.Built.{IsBuilt, triple_lines}
use Rattle.lp_fitting.specs.Fitting.{HolesFit, IsFitting}
use Rattle.lp_reading_laws.proofs.Holes.Holding.{name_words}
use Rattle.lp_reading_laws.specs.Printing.WellFormed.{HolesFill}
use Rattle.lp_spelling.specs.Fillings.{Fits, has_shape, holds, is_name}
use Rattle.lp_spelling.specs.HoleEnds.{first_at, place}
use Rattle.lp_texts.specs.Identifiers.{is_identifier}
use Rattle.lp_texts.specs.Identifiers as identifiers
use Rattle.lp_maker.specs.Texts.{begins}
use Rattle.lp_ascent.specs.BuiltAscent.{built_ascent}
use Rattle.lp_table.specs.BuiltTable.{built_table, table_items, with_machine, with_tables}
use Rattle.lp_table.specs.FrameLines.{inner_uses, module_parts, parse_header, parser_parts, source_lines, table_parser, token_use_lines}
use Rattle.lp_table.specs.Headers as header
use Rattle.lp_table.specs.MachineLines.{acceptance, definition, drive_call, expected_list, implementation, simulation, symbol_values}
use Rattle.lp_table.specs.TokenLines.{token_numbers, token_symbols}
use Rattle.lp_table.specs.ReductionLines.{pop_functions, reduce_function, reduce_functions}
use Rattle.lp_table.specs.Starts.{Start, start_for}
use Rattle.lp_question_laws.proofs.Gotos.Whole.{flat, flat-append}
use Rattle.lp_agreement.proofs.Composed.Modules.{module_by, module_forms, module_of_ascent, module_of_tables, reexport_form, start_forms}
use Rattle.lp_agreement.proofs.Composed.Names.{IsPlainName}
use Rattle.lp_agreement.proofs.Composed.Parameters.{ArePlain}
use Rattle.lp_agreement.proofs.Composed.Programs.{action_forms, front_forms, program_flat, program_forms, token_forms}
use Rattle.lp_agrees.specs.Emission.{IsByTables}

-- ---- what holds of each part
abbrev pub Each : (Item → Type 0) → List Item → Type 0
Each P [] = Unit {0}
Each P (i ∷ items) = P i × Each P items

pub each_front : (P : Item → Type 0) (xs ys : List Item) → Each P (xs ++ ys) → Each P xs
each_front P [] ys e = tt
each_front P (x ∷ xs) ys e = (e.0, each_front P xs ys e.1)

pub each_behind : (P : Item → Type 0) (xs ys : List Item) → Each P (xs ++ ys) → Each P ys
each_behind P [] ys e = e
each_behind P (x ∷ xs) ys e = each_behind P xs ys e.1

each_map : (P : Item → Type 0) (Q : Entry → Type 0) → ((e : Entry) → Q e → P (item e)) → (es : List Entry) → All Q es → Each P (map item es)
each_map P Q to [] all = tt
each_map P Q to (e ∷ es) all = (to e (All-head Q e es all), each_map P Q to es (All-tail Q e es all))

-- ---- the module of a start among the parts of the program
module _ (P : Item → Type 0) (g : Grammar) (states : List StartStates) where
  front_modules : (n : ℕ) (forms : List Form) → Each P (flat (module_forms g states n ++ forms)) → Each P (flat (module_forms g states n))
  front_modules n forms e = each_front P (flat (module_forms g states n)) (flat forms) (subst (Each P) (flat-append (module_forms g states n) forms) e)

  module _ (i : ℕ) (names : NonterminalString × NonterminalString) (list : StartStates) (at : slice_get g.start_nonterminals.entries i ≡ Some names) (has : slice_get states i ≡ Some list) where
    abbrev its_module : Form
    its_module = module_by g.algorithm.codegen g list.states (start_for g names.0 names.1)

    start_each : Each P (flat (start_forms g (slice_get g.start_nonterminals.entries i) (slice_get states i))) → Each P its_module
    start_each e =
        let here : Each P (flat (start_forms g (Some names) (Some list))) =
        subst (λ (o : Option StartStates). Each P (flat (start_forms g (Some names) o))) has (subst (λ (o : Option (NonterminalString × NonterminalString)). Each P (flat (start_forms g o (slice_get states i)))) at e) in
        each_front P its_module (flat (reexport_form g names ∷ [])) here

    module_each : (n : ℕ) → i < n → Each P (flat (module_forms g states n)) → Each P its_module
    module_each zero l e = absurd (omega arith)
    module_each (suc n) l e = by (module_each n) (cases_Bool (i == n))
      where
        by : (i < n → Each P (flat (module_forms g states n)) → Each P its_module) → ((i == n) ≡ true) ⊎ ((i == n) ≡ false) → Each P its_module
        by more (inl same) =
            let m : i ≡ n = eqb-true i n same in
            let last : Each P (flat (start_forms g (slice_get g.start_nonterminals.entries n) (slice_get states n))) =
            each_behind P (flat (module_forms g states n)) (flat (start_forms g (slice_get g.start_nonterminals.entries n) (slice_get states n))) (subst (Each P) (flat-append (module_forms g states n) (start_forms g (slice_get g.start_nonterminals.entries n) (slice_get states n))) e) in
            start_each (subst (λ (k : ℕ). Each P (flat (start_forms g (slice_get g.start_nonterminals.entries k) (slice_get states k)))) (sym m) last)
        by more (inr other) =
            let m : (i ≡ n → ⊥) = eqb-false i n other in
            more (omega (arith, m)) (front_modules n (start_forms g (slice_get g.start_nonterminals.entries n) (slice_get states n)) e)

    pub program_each : i < length g.start_nonterminals.entries → Each P (flat (program_forms g states)) → Each P its_module
    program_each l e =
        let n = length g.start_nonterminals.entries in
        let modules = module_forms g states n in
        let tokens = token_forms g g.intern_token in
        let actions = action_forms g 0 g.action_fn_defns in
        let split = λ (xs ys : List Form) (h : Each P (flat (xs ++ ys))). each_front P (flat xs) (flat ys) (subst (Each P) (flat-append xs ys) h) in
        let front = split (front_forms g ++ modules) tokens (split ((front_forms g ++ modules) ++ tokens) actions (split (((front_forms g ++ modules) ++ tokens) ++ actions) (triple_lines g ∷ []) e)) in
        module_each n l (each_behind P (flat (front_forms g)) (flat modules) (subst (Each P) (flat-append (front_forms g) modules) front))

-- ---- the fields of the machine in the module
module _ (P : Item → Type 0) (g : Grammar) (states : List Lr1State) (st : Start) where
  items_each : Each P (built_table g states st) → Each P (table_items g states st)
  unfolding module_parts
  items_each e = (each_behind P (inner_uses g ++ token_use_lines g) (built.over part.TableItems [] (table_items g states st)) e.1).1

  abbrev before : List Item
  before = with_machine g states st (with_tables g states (symbol_values g))

  with_parser : Each P (table_items g states st) → Each P (before ++ table_parser g st (drive_call g))
  with_parser e =
      let a = before ++ table_parser g st (drive_call g) in
      let b = a ++ acceptance g states in
      let c = b ++ reduce_function g states st in
      let d = c ++ leaf part.Mismatch [] in
      each_front P a (acceptance g states) (each_front P b (reduce_function g states st) (each_front P c (leaf part.Mismatch []) (each_front P d (pop_functions g) (each_front P (d ++ pop_functions g) (reduce_functions g st) e))))

  parser_each : Each P (table_items g states st) → Each P (table_parser g st (drive_call g))
  parser_each e = each_behind P before (table_parser g st (drive_call g)) (with_parser e)

  drive_each : Each P (table_parser g st (drive_call g)) → Each P (drive_call g)
  unfolding table_parser parser_parts
  drive_each e = each_behind P (parse_header g st ++ source_lines g) (drive_call g) e.1

  fields_each : Each P (drive_call g) → Each P (text_rows part.DriveRow (header.names_of g))
  unfolding drive_call
  fields_each e = e.1

  pub fields_in : Each P (built_table g states st) → Each P (text_rows part.DriveRow (header.names_of g))
  fields_in e = fields_each (drive_each (parser_each (items_each e)))

  -- and the function from a token to its symbol
  pub symbols_in : Each P (built_table g states st) → Each P (token_symbols g)
  symbols_in e =
      let m = (((with_tables g states (symbol_values g) ++ expected_list g states) ++ definition g) ++ implementation g states st) ++ token_numbers g in
      each_behind P m (token_symbols g) (each_front P (m ++ token_symbols g) (simulation g states st) (each_front P before (table_parser g st (drive_call g)) (with_parser (items_each e))))

-- ---- names that fit
pub record ItemFits (prefix : List ℕ) (i : Item) : Type 0 where
  pub fills : HolesFill prefix (holes_of i.0) i.1
  pub utf8 : All IsUtf8 i.1

entry_item : (prefix : List ℕ) (e : Entry) → HolesFit prefix e → ItemFits prefix (item e)
entry_item prefix e fits = record { fills = fits.fills; utf8 = fits.utf8 }

pub fitting_each : (prefix : List ℕ) (es : List Entry) → All (HolesFit prefix) es → Each (ItemFits prefix) (map item es)
fitting_each prefix es all = each_map (ItemFits prefix) (HolesFit prefix) (entry_item prefix) es all

not_false : (b : Bool) → not b ≡ true → b ≡ false
not_false true h = absurd cc
not_false false h = refl

no_name : is_name [] ≡ true → ⊥
no_name h =
    let p = and_parts (is_utf8 []) (is_identifier []) h in
    let q = and_parts (not (same_text [] (codes "_"))) (identifiers.is_word (chars [])) p.1 in
    both_ways (identifiers.is_word (chars [])) (ap identifiers.is_word chars-nil) q.1

name_some : (name : List ℕ) → is_name name ≡ true → 0 < length name
name_some [] h = absurd (no_name h)
name_some (b ∷ bs) h = omega arith

name_named : (name : List ℕ) → is_name name ≡ true → name ≡ codes "_" → ⊥
name_named name h e =
    let p = and_parts (is_utf8 name) (is_identifier name) h in
    let q = and_parts (not (same_text name (codes "_"))) (identifiers.is_word (chars name)) p.1 in
    both_ways (not (same_text name (codes "_"))) (ap (λ (n : List ℕ). not (same_text n (codes "_"))) e) q.0

-- a text at the front of another stands in it
held_front : (prefix name : List ℕ) → 0 < length name → begins prefix name ≡ true → holds prefix name ≡ true
unfolding holds first_at
held_front prefix [] some h = absurd (omega (arith, some))
held_front prefix (b ∷ bs) some h =
    let at : place prefix (b ∷ bs) ≡ 0 = cond-true (starts_with nat_eq (b ∷ bs) prefix) _ _ h in
    or_right (length prefix == 0) (nat_lt (place prefix (b ∷ bs)) (length (b ∷ bs))) (lt-ltb (place prefix (b ∷ bs)) (length (b ∷ bs)) (omega (arith, at)))

not_front : (prefix name : List ℕ) → 0 < length name → holds prefix name ≡ false → begins prefix name ≡ false
not_front prefix name some h = false_from_ne_true (begins prefix name) (λ e. both_ways (holds prefix name) h (held_front prefix name some e))

plain_fits : (prefix name : List ℕ) → Fits prefix kind.PlainName name → IsPlainName prefix name
unfolding Fits has_shape
plain_fits prefix name fits =
    let p = and_parts (is_name name) (not (holds prefix name)) fits.0 in
    let some = name_some name p.0 in
    record { words = name_words name p.0; some = some; named = name_named name p.0; apart = not_front prefix name some (not_false (holds prefix name) p.1) }

row_plain : (prefix name : List ℕ) → ItemFits prefix (part.DriveRow, name ∷ [], [], 0) → IsPlainName prefix name
unfolding holes_of
row_plain prefix name fits = plain_fits prefix name (fits.fills 0 (omega arith)).0.1

rows_plain : (prefix : List ℕ) (ps : List Parameter) → Each (ItemFits prefix) (text_rows part.DriveRow (map (λ (p : Parameter). p.name) ps)) → ArePlain prefix ps
rows_plain prefix [] e = tt
rows_plain prefix (p ∷ ps) e = (row_plain prefix p.name e.0, rows_plain prefix ps e.1)

module _ (g : Grammar) (states : List StartStates) (program : Program) (is_built : IsBuilt g states program) (fits : IsFitting program) (i : ℕ) (names : NonterminalString × NonterminalString) (list : StartStates) (at : slice_get g.start_nonterminals.entries i ≡ Some names)
    (has : slice_get states i ≡ Some list) where
  -- where the texts of a program fit that was built with a module, those of the module do
  pub start_fits : Each (ItemFits g.prefix) (module_by g.algorithm.codegen g list.states (start_for g names.0 names.1))
  start_fits =
      let P = ItemFits g.prefix in
      let all : Each P (program_items program) = subst (λ (p : List ℕ). Each (ItemFits p) (program_items program)) is_built.prefix (fitting_each program.prefix program.entries.items fits.parts) in
      let parts : Each P (flat (program_forms g states)) = (subst (Each P) (program_flat g states program is_built) all).1 in
      program_each P g states i names list at has (slice_get_within g.start_nonterminals.entries i names at) parts

  -- by recursive ascent
  pub ascent_fits : g.algorithm.codegen ≡ RecursiveAscent → Each (ItemFits g.prefix) (built_ascent g list.states (start_for g names.0 names.1))
  ascent_fits is = subst (Each (ItemFits g.prefix)) (module_of_ascent g.algorithm.codegen g list.states (start_for g names.0 names.1) is) start_fits

module _ (g : Grammar) (states : List StartStates) (program : Program) (is_built : IsBuilt g states program) (by : IsByTables g.algorithm.codegen) (fits : IsFitting program) (i : ℕ) (names : NonterminalString × NonterminalString) (list : StartStates) (at : slice_get g.start_nonterminals.entries i ≡ Some names)
    (has : slice_get states i ≡ Some list) where
  -- by tables
  pub module_fits : Each (ItemFits g.prefix) (built_table g list.states (start_for g names.0 names.1))
  module_fits = subst (Each (ItemFits g.prefix)) (module_of_tables g.algorithm.codegen g list.states (start_for g names.0 names.1) by) (start_fits g states program is_built fits i names list at has)

  -- and the names of parameters are plain
  pub parameters_plain : ArePlain g.prefix g.parameters
  parameters_plain = rows_plain g.prefix g.parameters (fields_in (ItemFits g.prefix) g list.states (start_for g names.0 names.1) module_fits)
