-- The tables of a module.
use Rattle.std.proofs.Common.{ℕ, ◌+◌, ◌==◌, List, [], ◌∷◌, length, map, refl}
use Rattle.lp_form.specs.Classes.{members_of}
use Rattle.lp_form.specs.Templates.{steps_of, holes_of}
use Rattle.lp_form.specs.declared.class.Class.TheVariants as class
use Rattle.lp_form.specs.declared.part.Part.TheVariants as part
use Rattle.lp_form.specs.declared.template.Step.TheVariants as step
use Rattle.lp_repr.specs.Numbering.{nonterminals_of, terminals_of}
use Rattle.lp_repr.specs.declared.lr1.Lr1State.{Lr1State}
use Rattle.lp_repr.specs.declared.repr.Grammar.{Grammar}
use Rattle.lp_repr.specs.declared.repr.NonterminalString.{NonterminalString}
use Rattle.lp_parts.specs.Entries.{action_entries, end_entries}
use Rattle.lp_state_parts.specs.Gotos.{arms_of, column_from}
use Rattle.lp_state_parts.specs.declared.gotos.GotoArm.{GotoArm}
use Rattle.lp_table.specs.TableLines.{action_lookup, action_table, arm_row, end_table, expected_lines, goto_function, gotos_from, gotos_lines, terminal_lines, terminal_name, terminal_names}
use Rattle.std.specs.List.{flat_map}
use Rattle.lp_emitted.proofs.Rows.{Told, Takes, either, many_map, many_more, many_none, many_one, one_leaf, over_one, text_many, told_leaf}

-- what is asked of the tables of these states
pub record TablesTold (T : Told) (g : Grammar) (states : List Lr1State) : Type 0 where
  pub actions : T.table (action_entries (length (terminals_of g)) states)
  pub ends : T.table (end_entries states)

pub action_table_one : {T : Told} (g : Grammar) (states : List Lr1State) → TablesTold T g states → Takes T (step.One class.ActionTable ∷ []) (action_table g states)
unfolding steps_of holes_of members_of action_table
action_table_one g states t = told_leaf class.ActionTable part.ActionTable _ _ refl (tt, (t.actions, (tt, tt)))

pub end_table_one : {T : Told} (g : Grammar) (states : List Lr1State) → TablesTold T g states → Takes T (step.One class.EofTable ∷ []) (end_table g states)
unfolding steps_of holes_of members_of end_table
end_table_one g states t = told_leaf class.EofTable part.EofTable _ _ refl (tt, (t.ends, (tt, tt)))

pub action_lookup_one : {T : Told} (g : Grammar) (states : List Lr1State) → Takes T (step.One class.ActionLookup ∷ []) (action_lookup g states)
unfolding steps_of holes_of members_of action_lookup
action_lookup_one g states = either (length (terminals_of g) == 1) (one_leaf class.ActionLookup part.ActionLookupOne _ _ refl) (one_leaf class.ActionLookup part.ActionLookup _ _ refl)

arms_many : {T : Told} (arms : List GotoArm) → Takes T (step.Many class.GotoRange ∷ []) (map arm_row arms)
unfolding steps_of holes_of members_of
arms_many arms = many_map class.GotoRange arm_row (λ arm. one_leaf class.GotoRange part.GotoRange _ _ refl) arms

gotos_many : {T : Told} (n : ℕ) (arms : List GotoArm) → Takes T (step.Many class.Goto ∷ []) (gotos_lines n arms)
unfolding steps_of holes_of members_of
gotos_many n [] = many_none class.Goto
gotos_many n (a ∷ []) = many_one (one_leaf class.Goto part.GotoOne _ _ refl)
gotos_many n (a ∷ (b ∷ arms)) = many_one (over_one class.Goto part.GotoMatch refl refl (arms_many _))

all_gotos : {T : Told} (states : List Lr1State) (n : ℕ) (names : List NonterminalString) → Takes T (step.Many class.Goto ∷ []) (gotos_from states n names)
all_gotos states n [] = many_none class.Goto
all_gotos states n (name ∷ names) = many_more (gotos_many n (arms_of (column_from n 0 states))) (all_gotos states (n + 1) names)

pub goto_function_one : {T : Told} (g : Grammar) (states : List Lr1State) → Takes T (step.One class.GotoFn ∷ []) (goto_function g states)
unfolding steps_of holes_of members_of goto_function
goto_function_one g states = over_one class.GotoFn part.GotoFn refl refl (all_gotos states 0 (nonterminals_of g))

pub terminal_names_one : {T : Told} (g : Grammar) → Takes T (step.One class.TerminalList ∷ []) (terminal_names g)
unfolding steps_of holes_of members_of terminal_lines
terminal_names_one g = over_one class.TerminalList part.TerminalList {holes = []} refl refl (text_many class.TerminalRow part.TerminalRow refl (flat_map terminal_name (terminals_of g)))

pub expected_one : {T : Told} (g : Grammar) (states : List Lr1State) → Takes T (step.One class.Expected ∷ []) (expected_lines g states)
unfolding steps_of holes_of members_of
expected_one g states = one_leaf class.Expected part.Expected _ _ refl
