-- The fields of the built machine: which parameters they are, and how the method hands them on.
use Rattle.std.proofs.Common.{◌≡◌, ℕ, Bool, true, false, ◌&&◌, if◌then◌else◌, List, [], ◌∷◌, ◌++◌, length, map, Option, Some, None, refl, sym, ap, subst, ◌∙◌, codes, append_assoc, append-nil}
use Rattle.std.specs.Prelude.{unwrap_or}
use Rattle.std.specs.Str.{bytes_eq}
use Rattle.std.proofs.lemmas.Bool.{ne_eqb}
use Rattle.std.proofs.lemmas.Slice.Eq.{bytes_eq-Decides}
use Rattle.lp_repr.specs.ShownTypes.{type_text}
use Rattle.lp_repr.specs.declared.lr1.Lr1State.{Lr1State}
use Rattle.lp_repr.specs.declared.repr.Grammar.{Grammar}
use Rattle.lp_repr.specs.declared.repr.Parameter.{Parameter}
use Rattle.lp_form.specs.declared.part.Part.TheVariants as part
use Rattle.lp_tree.specs.ProgramTree.{leaf}
use Rattle.lp_build.specs.Built as built
use Rattle.lp_build.specs.Built.{row, text_rows}
use Rattle.lp_build.specs.Machine.{recovery_lines, last_terminal}
use Rattle.lp_build.specs.Functions.{result_line}
use Rattle.lp_build.specs.declared.functions.FunctionName.TheVariants as name
use Rattle.lp_core.specs.Tree.{Tree}
use Rattle.lp_parts.specs.Texts.{error_text, location_text, symbol_parameters_text, token_text}
use Rattle.lp_table.specs.FrameLines.{is_interned, parse_answer, parse_generics, parse_header, parse_parameters, source_lines, tokens_parameter}
use Rattle.lp_table.specs.Headers.{header_lines, clauses_of, declared_text}
use Rattle.lp_table.specs.Machines.{machine_clauses_text, machine_generics_text}
use Rattle.lp_table.specs.MachineLines.{drive_call, implementation, phantom_text, recovery_variant}
use Rattle.lp_table.specs.Starts.{Start, state_text}
use Rattle.lp_view.specs.PartLists.{Form, first_that, hole_of, is_a, over}
use Rattle.lp_maker.specs.Slots.{Names, no_names, after_slots, bound, slot_of}
use Rattle.lp_maker.specs.Texts.{Binding, Nothing, Triple, Named, bound_of, plain}
use Rattle.lp_maker.specs.Making.{read_name}
use Rattle.lp_bodies.specs.MachineMethods as methods
use Rattle.lp_bodies.specs.MachineMethods.{field_rows}
use Rattle.lp_run.specs.ParseMethod.{Fields, fields_of, field_row, fields, with_parameter, with_binding, parameter_row, header_names, parser_names, parameters_of}
use Rattle.lp_code_laws.proofs.Slots.Names.{named_this, named_other}
use Rattle.lp_question_laws.proofs.Gotos.GotoAnswered.{built_items}
use Rattle.lp_question_laws.proofs.Gotos.GotoCode.{over-append}
use Rattle.lp_question_laws.proofs.Gotos.LinkGrows.{either}
use Rattle.lp_question_laws.proofs.Gotos.LinkHeaders.{type_forms, parameter_forms}
use Rattle.lp_question_laws.proofs.Gotos.LinkTable.{parser_found, parser_rows}
use Rattle.lp_question_laws.proofs.Gotos.Whole.{IsWhole, AreWhole, flat, parts_over}
use Rattle.lp_question_laws.specs.Reductions.Arguments.{reads}
use Rattle.lp_question_laws.proofs.Reductions.Parameters.{AllAgree, Agrees, bound_each}
use Rattle.lp_question_laws.proofs.Reductions.Texts.{AllKeys, IsKey, names_of, key_bound, key_plain}
use Rattle.lp_question_laws.proofs.Reductions.Types.{clause_forms, header_parts, result_whole}

-- ---- the rows of the machine, and of the call of the driver

abbrev self_forms : List (List ℕ) → List Form
self_forms qs = map (λ q. leaf part.SelfRow (q ∷ [])) qs

self_flat : (qs : List (List ℕ)) → (text_rows part.SelfRow qs ≡ flat (self_forms qs)) × AreWhole (self_forms qs)
self_flat [] = (refl, tt)
self_flat (q ∷ qs) = let r = self_flat qs in (ap (λ t. row part.SelfRow (q ∷ []) ∷ t) r.0, (refl, r.1))

recovery_whole : (o : Option (List ℕ)) → IsWhole (recovery_lines o)
recovery_whole None = refl
recovery_whole (Some v) = refl

-- a line on recovery hands nothing on
recovery_passed : (names : Names) (args : List Tree) (o : Option (List ℕ)) → methods.field_row names args (recovery_lines o) ≡ args
recovery_passed names args None = refl
recovery_passed names args (Some v) = refl

selves_read : (names : Names) (args : List Tree) (qs : List (List ℕ)) → over (methods.field_row names) args (self_forms qs) ≡ args ++ reads names qs
selves_read names args [] = sym (append-nil args)
selves_read names args (q ∷ qs) = selves_read names (args ++ read_name names q ∷ []) qs ∙ append_assoc args (read_name names q ∷ []) (reads names qs)

pub fields_read : (g : Grammar) (states : List Lr1State) (s : Start) (names : Names) → field_rows names (implementation g states s) ≡ reads names (names_of g.parameters)
unfolding implementation
fields_read g states s names =
    let qs = names_of g.parameters in
    let o = recovery_variant g in
    let holes = machine_generics_text g ∷ machine_clauses_text g ∷ location_text g ∷ error_text g ∷ token_text g ∷ symbol_parameters_text g ∷ s.ty ∷ state_text g states ∷ phantom_text g ∷ last_terminal (length g.terminals.all) ∷ [] in
    ap (λ t. field_rows names (built.over part.MachineImpl holes (recovery_lines o ++ t))) (self_flat qs).0
    ∙ ap (over (methods.field_row names) []) (parts_over part.MachineImpl holes (recovery_lines o ∷ self_forms qs) (recovery_whole o, (self_flat qs).1))
    ∙ ap (λ args. over (methods.field_row names) args (self_forms qs)) (recovery_passed names [] o)
    ∙ selves_read names [] qs

abbrev drive_forms : List (List ℕ) → List Form
drive_forms qs = map (λ q. leaf part.DriveRow (q ∷ [])) qs

drive_flat : (qs : List (List ℕ)) → (text_rows part.DriveRow qs ≡ flat (drive_forms qs)) × AreWhole (drive_forms qs)
drive_flat [] = (refl, tt)
drive_flat (q ∷ qs) = let r = drive_flat qs in (ap (λ t. row part.DriveRow (q ∷ []) ∷ t) r.0, (refl, r.1))

drives_read : (names : Names) (qs : List (List ℕ)) (f : Fields) → over (field_row names) f (drive_forms qs) ≡ fields_of (f.numbers ++ map (λ q. slot_of q names) qs) (bound_each f.names qs)
drives_read names [] f = ap (λ ns. fields_of ns f.names) (sym (append-nil f.numbers))
drives_read names (q ∷ qs) f =
    drives_read names qs (field_row names f (leaf part.DriveRow (q ∷ []))) ∙ ap (λ ns. fields_of ns (bound_each (bound q f.names) qs)) (append_assoc f.numbers (slot_of q names ∷ []) (map (λ q. slot_of q names) qs))

pub driven_fields : (g : Grammar) (names : Names) → fields names (drive_call g) ≡ fields_of (map (λ q. slot_of q names) (names_of g.parameters)) (bound_each no_names (names_of g.parameters))
unfolding drive_call
driven_fields g names =
    let qs = names_of g.parameters in
    ap (λ t. fields names (built.over part.Drive (phantom_text g ∷ []) t)) (drive_flat qs).0
    ∙ ap (over (field_row names) (fields_of [] no_names)) (parts_over part.Drive (phantom_text g ∷ []) (drive_forms qs) (drive_flat qs).1)
    ∙ drives_read names qs (fields_of [] no_names)

-- ---- each is a parameter of `parse`

abbrev Known : List ℕ → Names → Type 0
Known q names = (k : ℕ) × (slot_of q names ≡ Some k)

known_bound : (q n : List ℕ) (names : Names) → Known q names → Known q (bound n names)
known_bound q n names h = by (bytes_eq n q) refl
  where
    by : (b : Bool) → bytes_eq n q ≡ b → Known q (bound n names)
    by true is = (names.next, subst (λ k. slot_of k (bound n names) ≡ Some names.next) ((bytes_eq-Decides n q).0 is) (named_this n names.next (after_slots 1 names)))
    by false is = (h.0, named_other q n names.next (after_slots 1 names) is ∙ h.1)

known_binding : (prefix q : List ℕ) (names : Names) (b : Binding) → Known q names → Known q (with_binding prefix names b)
known_binding prefix q names Nothing h = h
known_binding prefix q names Triple h = h
known_binding prefix q names (Named n) h = either (Known q) (bytes_eq (plain prefix n) (codes "~tokens0")) _ _ h (known_bound q (plain prefix n) names h)

abbrev pub bind_texts : List ℕ → Names → List (List ℕ) → Names
bind_texts prefix names [] = names
bind_texts prefix names (t ∷ texts) = bind_texts prefix (with_binding prefix names (bound_of t)) texts

known_texts : (prefix q : List ℕ) (texts : List (List ℕ)) (names : Names) → Known q names → Known q (bind_texts prefix names texts)
known_texts prefix q [] names h = h
known_texts prefix q (t ∷ texts) names h = known_texts prefix q texts (with_binding prefix names (bound_of t)) (known_binding prefix q names (bound_of t) h)

pub no_tokens : (prefix q : List ℕ) → IsKey prefix q → bytes_eq q (codes "~tokens0") ≡ false
no_tokens prefix [] h = refl
no_tokens prefix (b ∷ bs) h = ap (λ t. t && bytes_eq bs (codes "tokens0")) (ne_eqb b 126 h.no_mark.0)

known_here : (prefix q rest : List ℕ) (names : Names) → IsKey prefix q → Known q (with_binding prefix names (bound_of (q ++ 58 ∷ rest)))
known_here prefix q rest names h =
    let same : with_binding prefix names (bound_of (q ++ 58 ∷ rest)) ≡ bound q names =
    ap (with_binding prefix names) (key_bound prefix q rest h) ∙ ap (λ k. with_parameter k names) (key_plain prefix q h) ∙ ap (λ (b : Bool). if b then names else bound q names) (no_tokens prefix q h) in
    subst (Known q) (sym same) (names.next, named_this q names.next (after_slots 1 names))

-- all of some names
abbrev AllKnown : List (List ℕ) → Names → Type 0
AllKnown [] names = Unit {0}
AllKnown (q ∷ qs) names = Known q names × AllKnown qs names

declared_known : (prefix : List ℕ) (ps : List Parameter) (names : Names) (later : List (List ℕ)) → AllKeys prefix (names_of ps) → AllKnown (names_of ps) (bind_texts prefix names (map declared_text ps ++ later))
declared_known prefix [] names later a = tt
declared_known prefix (p ∷ ps) names later a =
    let now = with_binding prefix names (bound_of (declared_text p)) in
    (known_texts prefix p.name (map declared_text ps ++ later) now (known_here prefix p.name (32 ∷ type_text p.ty) names a.0), declared_known prefix ps now later a.1)

module _ (prefix : List ℕ) where
  over_texts : (names : Names) (texts : List (List ℕ)) → over (parameter_row prefix) names (parameter_forms texts) ≡ bind_texts prefix names texts
  over_texts names [] = refl
  over_texts names (t ∷ texts) = over_texts (with_binding prefix names (bound_of t)) texts

  over_types : (names : Names) (texts : List (List ℕ)) → over (parameter_row prefix) names (type_forms texts) ≡ names
  over_types names [] = refl
  over_types names (t ∷ texts) = over_types names texts

  over_clauses : (names : Names) (clauses : List (List ℕ)) → over (parameter_row prefix) names (clause_forms clauses) ≡ names
  over_clauses names [] = refl
  over_clauses names (c ∷ cs) = refl

  over_result : (names : Names) (answer : List ℕ) → parameter_row prefix names (result_line answer) ≡ names
  over_result names answer = ap (λ (b : Bool). if b then with_binding prefix names (bound_of (hole_of 0 (result_line answer))) else names) (result_whole answer).1

  header_bound : (visibility : List ℕ) (generics params : List (List ℕ)) (answer : List ℕ) (clauses : List (List ℕ)) → header_names prefix (Some (header_lines (name.Parse visibility) generics params answer clauses)) ≡ bind_texts prefix no_names params
  header_bound visibility generics params answer clauses =
      let step = parameter_row prefix in
      let t = type_forms generics in
      let p = parameter_forms params in
      let r = result_line answer ∷ [] in
      let c = clause_forms clauses in
      ap (over step no_names) (header_parts (name.Parse visibility) generics params answer clauses)
      ∙ over-append step no_names ((t ++ p) ++ r) c
      ∙ over_clauses (over step no_names ((t ++ p) ++ r)) clauses
      ∙ over-append step no_names (t ++ p) r
      ∙ over_result (over step no_names (t ++ p)) answer
      ∙ over-append step no_names t p
      ∙ ap (λ n. over step n p) (over_types no_names generics)
      ∙ over_texts no_names params

module _ (g : Grammar) (states : List Lr1State) (s : Start) where
  header_is : is_a part.HeaderParse (parse_header g s) ≡ true
  unfolding parse_header header_lines
  header_is = refl

  names_are : (prefix : List ℕ) → header_names prefix (Some (parse_header g s)) ≡ bind_texts prefix no_names (parse_parameters g)
  unfolding parse_header
  names_are prefix = header_bound prefix s.visibility (parse_generics g) (parse_parameters g) (parse_answer g s) (clauses_of g)

  pub parameters_are : (prefix : List ℕ) → parameters_of prefix (built_items g states s) ≡ bind_texts prefix no_names (parse_parameters g)
  unfolding parameters_of
  parameters_are prefix =
      ap (parser_names prefix) (parser_found g states s)
      ∙ ap (λ fs. header_names prefix (first_that (is_a part.HeaderParse) fs)) (parser_rows g states s)
      ∙ ap (λ (b : Bool). header_names prefix (if b then Some (parse_header g s) else first_that (is_a part.HeaderParse) (source_lines g ∷ drive_call g ∷ []))) header_is
      ∙ names_are prefix

  all_known : AllKeys g.prefix (names_of g.parameters) → AllKnown (names_of g.parameters) (parameters_of g.prefix (built_items g states s))
  all_known a =
      subst (AllKnown (names_of g.parameters)) (sym (parameters_are g.prefix))
      (either (λ (ts : List (List ℕ)). AllKnown (names_of g.parameters) (bind_texts g.prefix no_names ts)) (is_interned g) _ _
      (subst (λ (ts : List (List ℕ)). AllKnown (names_of g.parameters) (bind_texts g.prefix no_names ts)) (append-nil (map declared_text g.parameters)) (declared_known g.prefix g.parameters no_names [] a))
      (declared_known g.prefix g.parameters no_names (tokens_parameter g ∷ []) a))

-- their numbers
agree_by : (f : List ℕ → ℕ) (q : List ℕ) (qs : List (List ℕ)) → Agrees q (f q) qs (map f qs)
agree_by f q [] = tt
agree_by f q (p ∷ qs) = (λ same. ap f same, agree_by f q qs)

all_agree_by : (f : List ℕ → ℕ) (qs : List (List ℕ)) → AllAgree qs (map f qs)
all_agree_by f [] = tt
all_agree_by f (q ∷ qs) = (agree_by f q qs, all_agree_by f qs)

found_by : (names : Names) (qs : List (List ℕ)) → AllKnown qs names → map (λ q. slot_of q names) qs ≡ map Some (map (λ q. unwrap_or (slot_of q names) 0) qs)
found_by names [] a = refl
found_by names (q ∷ qs) a =
    let one : slot_of q names ≡ Some (unwrap_or (slot_of q names) 0) = a.0.1 ∙ ap (λ o. Some (unwrap_or o 0)) (sym a.0.1) in
    ap (λ o. o ∷ map (λ q. slot_of q names) qs) one ∙ ap (λ r. Some (unwrap_or (slot_of q names) 0) ∷ r) (found_by names qs a.1)

-- the numbers of a grammar's parameters, as the fields have them
pub record Numbers (g : Grammar) (fields : List (Option ℕ)) : Type 0 where
  pub numbers : List ℕ
  pub are : fields ≡ map Some numbers
  pub agree : AllAgree (names_of g.parameters) numbers

pub fields_numbered : (g : Grammar) (states : List Lr1State) (s : Start) → AllKeys g.prefix (names_of g.parameters) → Numbers g (map (λ q. slot_of q (parameters_of g.prefix (built_items g states s))) (names_of g.parameters))
fields_numbered g states s a =
    let names = parameters_of g.prefix (built_items g states s) in
    record { numbers = map (λ q. unwrap_or (slot_of q names) 0) (names_of g.parameters); are = found_by names (names_of g.parameters) (all_known g states s a); agree = all_agree_by (λ q. unwrap_or (slot_of q names) 0) (names_of g.parameters) }
