-- The parameters of the built module: there are as many as the grammar has, and each field of the machine is one of them.
use Rattle.std.proofs.Common.{◌≡◌, ℕ, ◌+◌, Bool, true, false, List, [], ◌∷◌, ◌++◌, length, map, Option, Some, None, codes, nat_eq, refl, sym, ap, ◌∙◌, arith, append_assoc, length-append}
use Rattle.std.specs.Prelude.{if◌then◌else◌}
use Rattle.std.specs.Cmp.Lexicographic.{pointwise}
use Rattle.std.specs.Option.{option_and_then}
use Rattle.std.specs.Str.{bytes_eq}
use Rattle.std.proofs.lemmas.Slice.Eq.{bytes_eq-Decides}
use Rattle.lp_form.specs.declared.part.Part.TheVariants as part
use Rattle.lp_repr.specs.ShownTypes.{type_text}
use Rattle.lp_repr.specs.declared.lr1.Lr1State.{Lr1State}
use Rattle.lp_repr.specs.declared.repr.Grammar.{Grammar}
use Rattle.lp_repr.specs.declared.repr.Parameter.{Parameter}
use Rattle.lp_core.specs.Val.{Val}
use Rattle.lp_tree.specs.ProgramTree.{Item, leaf}
use Rattle.lp_build.specs.Built as built
use Rattle.lp_build.specs.Built.{text_rows, row}
use Rattle.lp_build.specs.Functions.{clause_lines, name_holes, name_part, result_line}
use Rattle.lp_build.specs.declared.functions.FunctionName.TheVariants as name
use Rattle.lp_view.specs.PartLists.{Form, is_a, parts_of, over, first_that}
use Rattle.lp_maker.specs.Slots.{Names, no_names, bound, slot_after, slot_among, slot_of}
use Rattle.lp_maker.specs.Texts.{bound_of}
use Rattle.lp_ascent.specs.BuiltAscent.{ascent_parser, first_call}
use Rattle.lp_table.specs.FrameLines.{is_interned, parse_answer, parse_generics, parse_header, parse_parameters, source_lines, table_parser}
use Rattle.lp_table.specs.Headers.{clauses_of, declared_text, declared_texts, header_lines}
use Rattle.lp_table.specs.MachineLines.{drive_call}
use Rattle.lp_table.specs.Starts.{Start}
use Rattle.lp_turns.specs.Readings.{field_values, param_val, with_value}
use Rattle.lp_run.specs.Named.{parser_of}
use Rattle.lp_run.specs.ParseMethod.{with_parameter, with_binding, parameter_row, header_names, parser_names, parameters_of}
use Rattle.lp_question_laws.proofs.Gotos.GotoAnswered.{built_items}
use Rattle.lp_question_laws.proofs.Gotos.GotoCode.{over-append, lacks-append}
use Rattle.lp_question_laws.proofs.Gotos.LinkHeaders.{IsWordy, wordy_by, named_bound, prefixed_plain, IsName}
use Rattle.lp_question_laws.proofs.Gotos.LinkTable.{parser_found, parser_rows}
use Rattle.lp_agreement.proofs.Composed.AscentModules.{ascent_form}
use Rattle.lp_agreement.proofs.Composed.AscentModules.{parser_found as ascent_found, parser_rows as ascent_rows}
use Rattle.lp_agreement.proofs.Composed.Names.{IsPlainName, plain_bound, plain_stays, no_tokens}
use Rattle.lp_form.specs.declared.part.Part.{Part}
use Rattle.std.proofs.lemmas.List.{map-append}
use Rattle.lp_agreement.proofs.Composed.Rows.{AreForms, no_form, one_form, forms_then, parts_are, found_behind}

-- ---- the parts of a header
abbrev pub row_form : Part → List ℕ → Form
row_form p text = row p (text ∷ []) ∷ []

pub rows_are : (p : Part) (texts : List (List ℕ)) → AreForms (text_rows p texts) (map (row_form p) texts)
rows_are p [] = no_form
rows_are p (text ∷ texts) = forms_then (one_form (row_form p text) refl) (rows_are p texts)

-- forms over which a step goes without a change
pub record Idles {S : Type 0} (step : S → Form → S) (items : List Item) : Type 0 where
  pub forms : List Form
  pub are : AreForms items forms
  pub idles : (s : S) → over step s forms ≡ s

module _ (prefix : List ℕ) where
  result_idles : (answer : List ℕ) → Idles (parameter_row prefix) (result_line answer)
  result_idles answer = by (pointwise nat_eq answer (codes "()"))
    where
      by : (b : Bool) → Idles (parameter_row prefix) (if b then leaf part.ResultUnit [] else leaf part.ResultType (answer ∷ []))
      by true = record { forms = leaf part.ResultUnit [] ∷ []; are = one_form (leaf part.ResultUnit []) refl; idles = λ s. refl }
      by false = record { forms = leaf part.ResultType (answer ∷ []) ∷ []; are = one_form (leaf part.ResultType (answer ∷ [])) refl; idles = λ s. refl }

  clauses_idle : (clauses : List (List ℕ)) → Idles (parameter_row prefix) (clause_lines clauses)
  clauses_idle [] = record { forms = []; are = no_form; idles = λ s. refl }
  clauses_idle (c ∷ cs) = record {
    forms = built.over part.Clauses [] (text_rows part.ClauseRow (c ∷ cs)) ∷ [];
    are = one_form (built.over part.Clauses [] (text_rows part.ClauseRow (c ∷ cs))) refl;
    idles = λ s. refl;
  }

  types_idle : (s : Names) (texts : List (List ℕ)) → over (parameter_row prefix) s (map (row_form part.TypeRow) texts) ≡ s
  types_idle s [] = refl
  types_idle s (text ∷ texts) = types_idle s texts

  -- the names of a header are those of its parameters
  pub header_named : (n : _) (generics params : List (List ℕ)) (answer : List ℕ) (clauses : List (List ℕ)) → header_names prefix (Some (header_lines n generics params answer clauses)) ≡ over (parameter_row prefix) no_names (map (row_form part.ParameterRow) params)
  unfolding header_lines
  header_named n generics params answer clauses =
      let r = result_idles answer in
      let c = clauses_idle clauses in
      let step = parameter_row prefix in
      let types = map (row_form part.TypeRow) generics in
      let own = map (row_form part.ParameterRow) params in
      ap (over step no_names) (parts_are (name_part n) (name_holes n) (forms_then (forms_then (forms_then (rows_are part.TypeRow generics) (rows_are part.ParameterRow params)) r.are) c.are))
      ∙ over-append step no_names ((types ++ own) ++ r.forms) c.forms ∙ c.idles (over step no_names ((types ++ own) ++ r.forms))
      ∙ over-append step no_names (types ++ own) r.forms ∙ r.idles (over step no_names (types ++ own))
      ∙ over-append step no_names types own ∙ ap (λ (s : Names). over step s own) (types_idle no_names generics)

-- ---- the names
-- each name is bound, one after another
abbrev pub all_bound : Names → List Parameter → Names
all_bound names [] = names
all_bound names (p ∷ ps) = all_bound (bound p.name names) ps

abbrev pub ArePlain : List ℕ → List Parameter → Type 0
ArePlain prefix [] = Unit {0}
ArePlain prefix (p ∷ ps) = IsPlainName prefix p.name × ArePlain prefix ps

module _ (prefix : List ℕ) where
  one_bound : (p : Parameter) (names : Names) → IsPlainName prefix p.name → parameter_row prefix names (row_form part.ParameterRow (declared_text p)) ≡ bound p.name names
  one_bound p names is =
      ap (with_binding prefix names) (plain_bound prefix p.name is (32 ∷ type_text p.ty))
      ∙ ap (λ (n : List ℕ). with_parameter n names) (plain_stays prefix p.name is)
      ∙ ap (λ (b : Bool). if b then names else bound p.name names) (no_tokens prefix p.name is)

  declared_bound : (ps : List Parameter) (names : Names) → ArePlain prefix ps → over (parameter_row prefix) names (map (row_form part.ParameterRow) (map declared_text ps)) ≡ all_bound names ps
  declared_bound [] names are = refl
  declared_bound (p ∷ ps) names are =
      ap (λ (n : Names). over (parameter_row prefix) n (map (row_form part.ParameterRow) (map declared_text ps))) (one_bound p names are.0) ∙ declared_bound ps (bound p.name names) are.1

  -- the tokens are no parameter
  tokens_idle : (rest : List ℕ) (names : Names) → IsWordy prefix → parameter_row prefix names (row_form part.ParameterRow (prefix ++ (codes "tokens0" ++ 58 ∷ rest))) ≡ names
  tokens_idle rest names wordy =
      let word : IsWordy (codes "tokens0") = wordy_by (codes "tokens0") refl refl refl in
      let is : IsName (prefix ++ codes "tokens0") = record {
        no_and = lacks-append 38 prefix (codes "tokens0") wordy.no_and word.no_and;
        no_open = lacks-append 40 prefix (codes "tokens0") wordy.no_open word.no_open;
        no_colon = lacks-append 58 prefix (codes "tokens0") wordy.no_colon word.no_colon;
        long = (let e : length (prefix ++ codes "tokens0") ≡ length prefix + 7 = length-append prefix (codes "tokens0") in omega (arith, e));
      } in
      ap (λ (t : List ℕ). with_binding prefix names (bound_of t)) (sym (append_assoc prefix (codes "tokens0") (58 ∷ rest)))
      ∙ ap (with_binding prefix names) (named_bound (prefix ++ codes "tokens0") rest is)
      ∙ ap (λ (n : List ℕ). with_parameter n names) (prefixed_plain prefix (codes "tokens0") is.no_and)

-- those of `parse` are the grammar's
parse_bound : (g : Grammar) → IsWordy g.prefix → ArePlain g.prefix g.parameters → over (parameter_row g.prefix) no_names (map (row_form part.ParameterRow) (parse_parameters g)) ≡ all_bound no_names g.parameters
parse_bound g wordy are = by (is_interned g)
  where
    same : over (parameter_row g.prefix) no_names (map (row_form part.ParameterRow) (codes "&self" ∷ declared_texts g)) ≡ all_bound no_names g.parameters
    same = declared_bound g.prefix g.parameters no_names are

    by : (b : Bool) → over (parameter_row g.prefix) no_names (map (row_form part.ParameterRow) (if b then codes "&self" ∷ declared_texts g else (codes "&self" ∷ declared_texts g) ++ (g.prefix ++ (codes "tokens0: " ++ (g.prefix ++ codes "TOKENS"))) ∷ [])) ≡ all_bound no_names g.parameters
    by true = same
    by false =
        let step = parameter_row g.prefix in
        let last = row_form part.ParameterRow (g.prefix ++ (codes "tokens0: " ++ (g.prefix ++ codes "TOKENS"))) in
        ap (over step no_names) (map-append (row_form part.ParameterRow) (codes "&self" ∷ declared_texts g) ((g.prefix ++ (codes "tokens0: " ++ (g.prefix ++ codes "TOKENS"))) ∷ []))
        ∙ over-append step no_names (map (row_form part.ParameterRow) (codes "&self" ∷ declared_texts g)) (last ∷ [])
        ∙ ap (λ (n : Names). step n last) same
        ∙ tokens_idle g.prefix (32 ∷ (g.prefix ++ codes "TOKENS")) (all_bound no_names g.parameters) wordy

-- ---- the parameters of the built module
module _ (g : Grammar) (st : Start) where
  header_is : is_a part.HeaderParse (parse_header g st) ≡ true
  unfolding parse_header header_lines
  header_is = refl

  header_names_are : header_names g.prefix (Some (parse_header g st)) ≡ over (parameter_row g.prefix) no_names (map (row_form part.ParameterRow) (parse_parameters g))
  unfolding parse_header
  header_names_are = header_named g.prefix (name.Parse st.visibility) (parse_generics g) (parse_parameters g) (parse_answer g st) (clauses_of g)

  -- those of items whose parser begins with this header
  pub parameters_under : (items parser : Form) (rest : List Form) → parser_of items ≡ Some parser → parts_of parser ≡ parse_header g st ∷ rest → IsWordy g.prefix → ArePlain g.prefix g.parameters → parameters_of g.prefix items ≡ all_bound no_names g.parameters
  unfolding parameters_of
  parameters_under items parser rest found parts wordy are =
      ap (parser_names g.prefix) found
      ∙ ap (λ (fs : List Form). header_names g.prefix (first_that (is_a part.HeaderParse) fs)) parts
      ∙ ap (header_names g.prefix) (found_behind (is_a part.HeaderParse) [] (parse_header g st) rest tt header_is)
      ∙ header_names_are ∙ parse_bound g wordy are

module _ (g : Grammar) (states : List Lr1State) (st : Start) where
  -- by tables, and by recursive ascent
  pub parameters_are : IsWordy g.prefix → ArePlain g.prefix g.parameters → parameters_of g.prefix (built_items g states st) ≡ all_bound no_names g.parameters
  parameters_are = parameters_under g st (built_items g states st) (table_parser g st (drive_call g)) (source_lines g ∷ drive_call g ∷ []) (parser_found g states st) (parser_rows g states st)

  pub ascent_parameters_are : IsWordy g.prefix → ArePlain g.prefix g.parameters → parameters_of g.prefix (ascent_form g states st) ≡ all_bound no_names g.parameters
  ascent_parameters_are = parameters_under g st (ascent_form g states st) (ascent_parser g states st) (source_lines g ∷ first_call g states st ∷ []) (ascent_found g states st) (ascent_rows g states st)

-- as many as the grammar has
bound_count : (ps : List Parameter) (names : Names) → (all_bound names ps).next ≡ names.next + length ps
bound_count [] names = omega arith
bound_count (p ∷ ps) names = (let e = bound_count ps (bound p.name names) in omega (arith, e))

all_count : (g : Grammar) → (all_bound no_names g.parameters).next ≡ length g.parameters
all_count g = (let e = bound_count g.parameters no_names in omega (arith, e))

pub parameters_counted : (g : Grammar) (states : List Lr1State) (st : Start) → IsWordy g.prefix → ArePlain g.prefix g.parameters → (parameters_of g.prefix (built_items g states st)).next ≡ length g.parameters
parameters_counted g states st wordy are = ap (λ (n : Names). n.next) (parameters_are g states st wordy are) ∙ all_count g

pub ascent_parameters_counted : (g : Grammar) (states : List Lr1State) (st : Start) → IsWordy g.prefix → ArePlain g.prefix g.parameters → (parameters_of g.prefix (ascent_form g states st)).next ≡ length g.parameters
ascent_parameters_counted g states st wordy are = ap (λ (n : Names). n.next) (ascent_parameters_are g states st wordy are) ∙ all_count g

-- ---- fields
-- each of some numbers is there
abbrev pub AreThere : List (Option ℕ) → Type 0
AreThere [] = Unit {0}
AreThere (o ∷ os) = ((n : ℕ) × (o ≡ Some n)) × AreThere os

pub values_there : (os : List (Option ℕ)) (vs : List Val) → AreThere os → (all : List Val) × (field_values vs os ≡ Some all)
values_there [] vs there = (vs, refl)
values_there (o ∷ os) vs there =
    let more = values_there os (with_value vs (param_val there.0.0)) there.1 in
    (more.0, ap (λ (x : Option ℕ). option_and_then (λ n. field_values (with_value vs (param_val n)) os) x) there.0.1 ∙ more.1)

slot_end : (q : List ℕ) (found : Option ℕ) (known : List (List ℕ × ℕ)) (e : List ℕ × ℕ) → slot_among q found (known ++ e ∷ []) ≡ slot_after q (slot_among q found known) e
slot_end q found [] e = refl
slot_end q found (k ∷ known) e = slot_end q (slot_after q found k) known e

-- a name that has a slot
abbrev HasSlot : List ℕ → Names → Type 0
HasSlot q names = (n : ℕ) × (slot_of q names ≡ Some n)

slot_kept : (q name : List ℕ) (names : Names) → HasSlot q names → HasSlot q (bound name names)
slot_kept q name names has = by (bytes_eq name q) refl
  where
    by : (b : Bool) → bytes_eq name q ≡ b → HasSlot q (bound name names)
    by true e = (names.next, slot_end q None names.known (name, names.next) ∙ ap (λ (b : Bool). if b then Some names.next else slot_of q names) e)
    by false e = (has.0, slot_end q None names.known (name, names.next) ∙ ap (λ (b : Bool). if b then Some names.next else slot_of q names) e ∙ has.1)

slot_new : (q : List ℕ) (names : Names) → HasSlot q (bound q names)
slot_new q names = (names.next, slot_end q None names.known (q, names.next) ∙ ap (λ (b : Bool). if b then Some names.next else slot_of q names) ((bytes_eq-Decides q q).1 refl))

slots_kept : (q : List ℕ) (ps : List Parameter) (names : Names) → HasSlot q names → HasSlot q (all_bound names ps)
slots_kept q [] names has = has
slots_kept q (p ∷ ps) names has = slots_kept q ps (bound p.name names) (slot_kept q p.name names has)

-- the slots of parameters among names
abbrev pub slots_in : Names → List Parameter → List (Option ℕ)
slots_in names ps = map (λ (p : Parameter). slot_of p.name names) ps

-- each parameter has a slot among all
pub slots_there : (ps : List Parameter) (names : Names) → AreThere (slots_in (all_bound names ps) ps)
slots_there [] names = tt
slots_there (p ∷ ps) names = (slots_kept p.name ps (bound p.name names) (slot_new p.name names), slots_there ps (bound p.name names))
