-- The call of another state's function.
use Rattle.std.specs.Prelude.{ℕ, ◌+◌, ◌-◌, nat_lt, Bool, List, [], ◌∷◌, ◌++◌, filter, map, codes, decimal, if◌then◌else◌}
use Rattle.std.specs.List.{range_with_len}
use Rattle.lp_form.specs.declared.part.Part.TheVariants as part
use Rattle.lp_repr.specs.declared.repr.Grammar.{Grammar}
use Rattle.lp_tree.specs.ProgramTree.{Item}
use Rattle.lp_build.specs.Built.{leaf_if, over, text_rows}
use Rattle.lp_parts.specs.Texts.{arguments_of, comma_list}
use Rattle.lp_table.specs.MachineLines.{phantom_text}
use Rattle.lp_table.specs.ReductionLines.{symbol_name}
use Rattle.lp_ascent.specs.Slots.{Layout, count_of, is_cell, layout_at}

-- the names of the slots from one to before another
abbrev pub slot_names : List ℕ → ℕ → ℕ → List (List ℕ)
slot_names prefix first end = map (symbol_name prefix) (range_with_len first (end - first))

abbrev pub slot_list : List ℕ → ℕ → ℕ → List ℕ
slot_list prefix first end = comma_list (slot_names prefix first end)

-- what is handed on: after a goto the lookahead, then slots
abbrev pub handed_on : List ℕ → Bool → ℕ → ℕ → List ℕ
handed_on prefix after_goto first end =
    if after_goto then prefix ++ (codes "lookahead, " ++ slot_list prefix first end) else slot_list prefix first end

-- the cells from a slot on
abbrev pub cells_from : Layout → ℕ → List ℕ
cells_from l first = filter (is_cell l) (range_with_len first (count_of l - first))

-- their contents are taken
abbrev pub taken_lines : Layout → ℕ → List Item
taken_lines l first = text_rows part.TakeLine (map decimal (cells_from l first))

-- how many slots there are with the symbol above them
abbrev pub with_symbol : Layout → ℕ
with_symbol l = count_of l + 1

-- the call of the function of a state that has these slots: it is handed its slots, and its fixed ones are taken from cells;
-- a frame whose own slot is taken then answers what the callee answered
abbrev pub call_with : Grammar → Layout → Layout → ℕ → Bool → List Item
call_with g l callee n after_goto =
    over part.Transition
    (decimal n ∷ arguments_of g.parameters ∷ handed_on g.prefix after_goto (with_symbol l - count_of callee) (with_symbol l) ∷ phantom_text g ∷ [])
    (taken_lines l (with_symbol l - callee.fixed) ++ leaf_if (nat_lt 1 callee.fixed) part.ReturnLine)

-- the call of the function of the state of a number
unfoldable pub call_of : Grammar → List Layout → Layout → ℕ → Bool → List Item
call_of g ls l n after_goto = call_with g l (layout_at ls n) n after_goto
