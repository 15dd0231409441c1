-- The driver's question for a reduction is answered by the tables.
use Rattle.std.proofs.Common.{◌≡◌, ℕ, ◌+◌, List, [], ◌∷◌, ◌++◌, length, map, Option, Some, sym, ap, ◌∙◌, append_assoc, append-nil}
use Rattle.std.specs.Prelude.{slice_get}
use Rattle.std.proofs.lemmas.List.{length-map}
use Rattle.lp_repr.specs.declared.lr1.Lr1State.{Lr1State}
use Rattle.lp_repr.specs.declared.repr.Grammar.{Grammar}
use Rattle.lp_core.specs.declared.expr.Function.{Function}
use Rattle.lp_core.specs.Val.{Val}
use Rattle.lp_table.specs.Starts.{Start}
use Rattle.lp_view.specs.PartLists.{Form}
use Rattle.lp_maker.specs.declared.methods.Methods.{Methods}
use Rattle.lp_maker.specs.Constructs.{called, take_slot}
use Rattle.lp_maker.specs.Slots.{Names, no_names, slot_of}
use Rattle.lp_bodies.specs.MachineMethods.{methods_of, reduce_arguments, with_methods}
use Rattle.lp_bodies.specs.Source.{function}
use Rattle.lp_run.specs.Entered.{module_made}
use Rattle.lp_run.specs.ParseMethod.{By_driver, fields, parameters_of}
use Rattle.lp_turns.specs.Asking.{Asking}
use Rattle.lp_turns.specs.Readings.{field_values, param_val}
use Rattle.lp_question_laws.proofs.Gotos.GotoAnswered.{built_items}
use Rattle.lp_question_laws.proofs.Gotos.LinkModule.{ModuleMade, finished_there, module_fields, module_is_made}
use Rattle.lp_question_laws.proofs.Gotos.LinkTable.{drive_is, items_driven, machine_is}
use Rattle.lp_question_laws.proofs.Tables.Built.{RunsBuilt}
use Rattle.lp_question_laws.specs.Reductions.Arguments.{reads}
use Rattle.lp_question_laws.proofs.Reductions.Parameters.{agree_length, bound_each}
use Rattle.lp_question_laws.proofs.Reductions.Texts.{AllKeys, names_of}
use Rattle.lp_question_laws.proofs.Reductions.Fields.{Numbers, fields_read, driven_fields, fields_numbered}
use Rattle.lp_question_laws.proofs.Reductions.Handing.{reduce_method}
use Rattle.lp_question_laws.proofs.Reductions.Linked.{last, p, HasReduce}

-- the values of the fields
pub values_are : (vs : List Val) (ns : List ℕ) → field_values vs (map Some ns) ≡ Some (vs ++ map param_val ns)
values_are vs [] = ap Some (sym (append-nil vs))
values_are vs (n ∷ ns) = values_are (vs ++ param_val n ∷ []) ns ∙ ap Some (append_assoc vs (param_val n ∷ []) (map param_val ns))

module _ {prefix : List ℕ} {program : Form} {g : Grammar} {states : List Lr1State} {st : Start} {asked : Asking} {methods : Methods} (runs : RunsBuilt prefix program g states st asked methods) (same : prefix ≡ g.prefix) (keys : AllKeys g.prefix (names_of g.parameters)) where
  abbrev qs : List (List ℕ)
  qs = names_of g.parameters

  abbrev pub slots : List (Option ℕ)
  slots = map (λ q. slot_of q (parameters_of prefix (built_items g states st))) qs

  abbrev made : ModuleMade (module_made prefix program (built_items g states st)) (last runs) (items_driven g states st).machine
  made = module_is_made prefix program (built_items g states st) (items_driven g states st)

  -- the machine's fields
  machine_fields : (made.names ≡ bound_each no_names qs) × (made.fields ≡ slots)
  machine_fields =
      let m = module_fields prefix program (built_items g states st) (items_driven g states st) in
      let names = parameters_of prefix (built_items g states st) in
      let whole = ap (fields names) (drive_is g states st) ∙ driven_fields g names in
      (m.0 ∙ ap (λ f. f.names) whole, m.1 ∙ ap (λ f. f.numbers) whole)

  fields_same : runs.fields ≡ made.fields
  fields_same = (let e : By_driver methods runs.fields ≡ By_driver (methods_of (items_driven g states st).machine made.names (length made.fields) (last runs)) made.fields = sym runs.parses ∙ made.parses in cc)

  methods_same : methods ≡ methods_of (items_driven g states st).machine made.names (length made.fields) (last runs)
  methods_same = (let e : By_driver methods runs.fields ≡ By_driver (methods_of (items_driven g states st).machine made.names (length made.fields) (last runs)) made.fields = sym runs.parses ∙ made.parses in cc)

  -- the fields are the slots of the parameters' names
  pub fields_slots : runs.fields ≡ slots
  fields_slots = fields_same ∙ machine_fields.1

  -- the fields are parameters, by number
  pub fields_are : Numbers g runs.fields
  fields_are =
      let n = fields_numbered g states st keys in
      record { numbers = n.numbers; are = fields_slots ∙ ap (λ q. map (λ k. slot_of k (parameters_of q (built_items g states st))) qs) same ∙ n.are; agree = n.agree }

  abbrev pub ns : List ℕ
  ns = fields_are.numbers

  -- they are the slots of the parameters' names
  pub slots_are : slots ≡ map Some ns
  slots_are = sym (fields_same ∙ machine_fields.1) ∙ fields_are.are

  abbrev pub params : List Val
  params = map param_val ns

  params_many : length params ≡ length qs
  params_many = length-map ns param_val ∙ sym (agree_length qs ns fields_are.agree)

  pub reduce_runs : (h : HasReduce runs) → slice_get (p runs).functions methods.reduce ≡ Some (function (length params + 4) 0 (called (reads (bound_each no_names qs) qs ++ take_slot (length params) ∷ take_slot (length params + 1) ∷ take_slot (length params + 2) ∷ take_slot (length params + 3) ∷ []) (Some h.number)))
  reduce_runs h =
      let is = made in
      let form = (items_driven g states st).machine in
      let numbers = methods_of form is.names (length is.fields) (last runs) in
      let count : length is.fields ≡ length params = ap length machine_fields.1 ∙ length-map qs (λ q. slot_of q (parameters_of prefix (built_items g states st))) ∙ sym params_many in
      let code : Names → ℕ → Form → Option Function = λ names n f. Some (function (n + 4) 0 (called (reduce_arguments names n f) (Some h.number))) in
      ap (λ (m : Methods). slice_get (p runs).functions m.reduce) methods_same
      ∙ ap (λ fs. slice_get fs numbers.reduce) (runs.functions ∙ is.functions)
      ∙ finished_there (with_methods form is.names (length is.fields) (last runs)).functions numbers.reduce _ (reduce_method form is.names (length is.fields) (last runs) h.number h.named)
      ∙ ap (λ names. code names (length is.fields) form) machine_fields.0
      ∙ ap (λ n. code (bound_each no_names qs) n form) count
      ∙ ap (code (bound_each no_names qs) (length params)) (machine_is g states st)
      ∙ ap (λ ts. Some (function (length params + 4) 0 (called (ts ++ take_slot (length params) ∷ take_slot (length params + 1) ∷ take_slot (length params + 2) ∷ take_slot (length params + 3) ∷ []) (Some h.number)))) (fields_read g states st (bound_each no_names qs))
