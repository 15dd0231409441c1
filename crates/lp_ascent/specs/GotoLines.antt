-- What a frame does after a callee returned.
use Rattle.std.specs.Prelude.{ℕ, ◌-◌, ◌==◌, ◌&&◌, ◌||◌, not, nat_lt, Bool, true, false, List, [], ◌∷◌, ◌++◌, length, slice_get, decimal, Option, Some, None, if◌then◌else◌}
use Rattle.std.specs.BTreeMap.{values}
use Rattle.std.specs.List.{flat_map, list_any}
use Rattle.lp_form.specs.declared.part.Part.TheVariants as part
use Rattle.lp_repr.specs.Numbering.{productions_of}
use Rattle.lp_repr.specs.declared.lr1.Lr1State.{Lr1State}
use Rattle.lp_repr.specs.declared.lr1.Token.{Token}
use Rattle.lp_repr.specs.declared.repr.Grammar.{Grammar}
use Rattle.lp_repr.specs.declared.repr.Production.{Production}
use Rattle.lp_tree.specs.ProgramTree.{Item, leaf}
use Rattle.lp_build.specs.Ascent.{check_lines}
use Rattle.lp_build.specs.Built.{leaf_if, over}
use Rattle.lp_ascent.specs.AnswerLines.{answer_names}
use Rattle.lp_ascent.specs.CallLines.{call_of}
use Rattle.lp_ascent.specs.Slots.{Layout, count_of, is_cell, layout_at}

-- a frame may go on: a state that is shifted to has one fixed slot, or an empty production is reduced
abbrev pub has_one_fixed : List Layout → ℕ → Bool
has_one_fixed ls n = (layout_at ls n).fixed == 1

abbrev pub pops_nothing : Option Production → Bool
pops_nothing None = false
pops_nothing (Some p) = length p.symbols == 0

abbrev pub is_empty_reduction : List Production → List Token × ℕ → Bool
is_empty_reduction productions reduction =
    not (length reduction.0 == 0) && pops_nothing (slice_get productions reduction.1)

unfoldable pub goes_on : Grammar → List Layout → Lr1State → Bool
goes_on g ls state =
    list_any (has_one_fixed ls) (values state.shifts) || list_any (is_empty_reduction (productions_of g)) state.reductions

-- a goto on the nonterminal of a number, by the name of that
abbrev pub goto_if : ℕ → Option (List ℕ) → List (List ℕ × ℕ)
goto_if target None = []
goto_if target (Some name) = (name, target) ∷ []

abbrev pub named_goto : List (List ℕ) → ℕ × ℕ → List (List ℕ × ℕ)
named_goto names goto = goto_if goto.1 (slice_get names goto.0)

abbrev pub named_gotos : List (List ℕ) → List (ℕ × ℕ) → List (List ℕ × ℕ)
named_gotos names gotos = flat_map (named_goto names) gotos

-- the goto calls the function of the new state
abbrev pub goto_call : Grammar → List Layout → Layout → List ℕ × ℕ → List Item
goto_call g ls l goto = call_of g ls l goto.1 true

abbrev pub goto_arm : Grammar → List Layout → Layout → List ℕ × ℕ → List Item
goto_arm g ls l goto = over part.GotoArm (goto.0 ∷ decimal (count_of l) ∷ []) (goto_call g ls l goto)

-- the top slot where it is a cell
abbrev pub optional_top : Layout → Option ℕ
optional_top l = if nat_lt 0 (count_of l) && is_cell l (count_of l - 1) then Some (count_of l - 1) else None

-- the frame's gotos; without any it answers what the callee answered
abbrev pub gotos_of : Grammar → List Layout → Layout → List (List ℕ × ℕ) → List Item
gotos_of g ls l [] = leaf part.GotoReturn []
gotos_of g ls l (goto ∷ gotos) =
    over part.GotoLoop []
    ((check_lines (optional_top l) ++ flat_map (goto_arm g ls l) (goto ∷ gotos))
    ++ leaf_if (nat_lt (length (goto ∷ gotos)) (length (answer_names g))) part.GotoOther)

unfoldable pub goto_lines : Grammar → List Layout → Layout → List (ℕ × ℕ) → List Item
goto_lines g ls l gotos = gotos_of g ls l (named_gotos (answer_names g) gotos)
