-- The struct that the driver asks, and the values of symbols.
use Rattle.std.proofs.Common.{ℕ, ◌+◌, List, [], ◌∷◌, codes, Option, Some, None, refl}
use Rattle.lp_form.specs.Classes.{members_of}
use Rattle.lp_form.specs.Templates.{steps_of, holes_of}
use Rattle.lp_form.specs.declared.class.Class.TheVariants as class
use Rattle.lp_form.specs.declared.part.Part.TheVariants as part
use Rattle.lp_form.specs.declared.template.Step.TheVariants as step
use Rattle.lp_repr.specs.Numbering.{productions_of}
use Rattle.lp_repr.specs.declared.lr1.Lr1State.{Lr1State}
use Rattle.lp_repr.specs.declared.repr.Grammar.{Grammar}
use Rattle.lp_repr.specs.declared.repr.Production.{Production}
use Rattle.lp_tree.specs.declared.tree.Reduced.{Reduced}
use Rattle.lp_build.specs.Built.{text_if}
use Rattle.lp_build.specs.Machine.{recovery_lines, simulated}
use Rattle.lp_build.specs.declared.functions.FunctionName.TheVariants as name
use Rattle.lp_parts.specs.MachineParameters.{machine_fields}
use Rattle.lp_parts.specs.Texts.{symbol_clauses_text}
use Rattle.lp_table.specs.Headers.{names_of}
use Rattle.lp_table.specs.Machines.{machine_clause_texts, machine_generics, tree_line}
use Rattle.lp_table.specs.MachineLines.{acceptance, definition, drive_call, error_state_parameter, expected_list, implementation, index_parameter, integer_parameter, phantom_parameter, recovery_variant, reduced_of, simulated_answer, simulated_from, simulation, states_parameter, strings_type, symbol_values, variant_rows}
use Rattle.lp_table.specs.Pieces.{unless_empty, variant_types_shown}
use Rattle.lp_table.specs.Starts.{Start}
use Rattle.lp_emitted.proofs.Headers.{header_one}
use Rattle.lp_emitted.proofs.Rows.{Told, Takes, beside, many_map, many_more, many_none, many_one, one_leaf, optional_none, optional_one, over_one, text_many}

-- where clauses on one line
pub where_optional : {T : Told} (text : Option (List ℕ)) → Takes T (step.Optional class.WhereLine ∷ []) (text_if part.WhereLine text)
unfolding steps_of holes_of members_of
where_optional None = optional_none class.WhereLine
where_optional (Some text) = optional_one (one_leaf class.WhereLine part.WhereLine _ _ refl)

variants_many : {T : Told} (n : ℕ) (types : List (List ℕ)) → Takes T (step.Many class.VariantRow ∷ []) (variant_rows n types)
unfolding steps_of holes_of members_of
variants_many n [] = many_none class.VariantRow
variants_many n (ty ∷ types) = many_more (many_one (one_leaf class.VariantRow part.VariantRow _ _ refl)) (variants_many (n + 1) types)

pub symbol_values_one : {T : Told} (g : Grammar) → Takes T (step.One class.SymbolEnum ∷ []) (symbol_values g)
unfolding steps_of holes_of members_of symbol_values
symbol_values_one g = over_one class.SymbolEnum part.SymbolEnum refl refl
    (beside (where_optional (unless_empty (symbol_clauses_text g))) (variants_many 0 (variant_types_shown g)))

pub definition_one : {T : Told} (g : Grammar) → Takes T (step.One class.MachineStruct ∷ []) (definition g)
unfolding steps_of holes_of members_of definition
definition_one g = over_one class.MachineStruct part.MachineStruct refl refl
    (many_map class.FieldRow tree_line (λ f. one_leaf class.FieldRow part.FieldRow _ _ refl) (machine_fields g))

recovery_one : {T : Told} (variant : Option (List ℕ)) → Takes T (step.One class.RecoveryMethods ∷ []) (recovery_lines variant)
unfolding steps_of holes_of members_of
recovery_one None = one_leaf class.RecoveryMethods part.RecoveryOff _ _ refl
recovery_one (Some variant) = one_leaf class.RecoveryMethods part.RecoveryOn _ _ refl

pub implementation_one : {T : Told} (g : Grammar) (states : List Lr1State) (s : Start) → Takes T (step.One class.MachineImpl ∷ []) (implementation g states s)
unfolding steps_of holes_of members_of implementation
implementation_one g states s = over_one class.MachineImpl part.MachineImpl refl refl
    (beside (recovery_one (recovery_variant g)) (text_many class.SelfRow part.SelfRow refl (names_of g)))

pub expected_list_one : {T : Told} (g : Grammar) (states : List Lr1State) → Takes T (step.One class.ExpectedFromStates ∷ []) (expected_list g states)
unfolding steps_of holes_of members_of expected_list
expected_list_one g states = over_one class.ExpectedFromStates part.ExpectedFromStates refl refl
    (header_one class.HeaderExpectedFromStates name.ExpectedTokensFromStates (machine_generics g) (states_parameter g states ∷ phantom_parameter g ∷ []) strings_type (machine_clause_texts g) refl)

simulated_one : {T : Told} (n : ℕ) (reduced : Option Reduced) → Takes T (step.One class.SimulateRow ∷ []) (simulated n reduced ∷ [])
unfolding steps_of holes_of members_of
simulated_one n None = one_leaf class.SimulateRow part.SimulateAccept _ _ refl
simulated_one n (Some r) = one_leaf class.SimulateRow part.SimulateArm _ _ refl

simulated_many : {T : Told} (g : Grammar) (s : Start) (n : ℕ) (ps : List Production) → Takes T (step.Many class.SimulateRow ∷ []) (simulated_from g s n ps)
simulated_many g s n [] = many_none class.SimulateRow
simulated_many g s n (p ∷ ps) = many_more (many_one (simulated_one n (reduced_of g s p))) (simulated_many g s (n + 1) ps)

pub simulation_one : {T : Told} (g : Grammar) (states : List Lr1State) (s : Start) → Takes T (step.One class.SimulateReduce ∷ []) (simulation g states s)
unfolding steps_of holes_of members_of simulation
simulation_one g states s = over_one class.SimulateReduce part.SimulateReduce {holes = []} refl refl
    (beside (header_one class.HeaderSimulateReduce name.SimulateReduce (machine_generics g) (index_parameter g states ∷ phantom_parameter g ∷ []) (simulated_answer g) (machine_clause_texts g) refl)
    (simulated_many g s 0 (productions_of g)))

pub acceptance_one : {T : Told} (g : Grammar) (states : List Lr1State) → Takes T (step.One class.Accepts ∷ []) (acceptance g states)
unfolding steps_of holes_of members_of acceptance
acceptance_one g states = over_one class.Accepts part.Accepts refl refl
    (header_one class.HeaderAccepts name.Accepts (machine_generics g) (error_state_parameter g states ∷ states_parameter g states ∷ integer_parameter g ∷ phantom_parameter g ∷ []) (codes "bool") (machine_clause_texts g) refl)

pub drive_one : {T : Told} (g : Grammar) → Takes T (step.One class.Drive ∷ []) (drive_call g)
unfolding steps_of holes_of members_of drive_call
drive_one g = over_one class.Drive part.Drive refl refl (text_many class.DriveRow part.DriveRow refl (names_of g))
