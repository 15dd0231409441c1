-- The slots of states: the values of the symbols that their functions are handed.
use Rattle.std.specs.Prelude.{ℕ, ◌-◌, ◌==◌, ◌&&◌, ◌||◌, not, nat_lt, Bool, true, false, List, [], length, map, slice_get, unwrap_or, Option, Some, None, if◌then◌else◌}
use Rattle.std.specs.BTreeMap.{values}
use Rattle.std.specs.List.{list_all, list_any}
use Rattle.lp_repr.specs.Numbering.{productions_of}
use Rattle.lp_repr.specs.StateParts.{max_prefix_of, will_pop_of}
use Rattle.lp_repr.specs.declared.lr1.Lr1State.{Lr1State}
use Rattle.lp_repr.specs.declared.repr.Grammar.{Grammar}
use Rattle.lp_repr.specs.declared.repr.Symbol.{Symbol}
use Rattle.lp_repr.specs.declared.repr.Symbol.TheVariants.{Nonterminal, Terminal}
use Rattle.lp_ascent.specs.Ranges.{is_in_range}
use Rattle.lp_ascent.specs.declared.slots.Slots.{Slots}

-- the symbols, the deepest first; how many of them, the last ones, are handed over by value; and whether the function puts
-- those into cells
pub record Layout : Type 0 where
  pub symbols : List Symbol
  pub fixed : ℕ
  pub made_optional : Bool

-- what these slots are
abbrev pub layout_of : Slots → Layout
layout_of s = record { symbols = s.symbols.now; fixed = s.fixed; made_optional = s.made_optional }

abbrev pub count_of : Layout → ℕ
count_of l = length l.symbols

-- how many a callee may have taken
abbrev pub optional_of : Layout → ℕ
optional_of l = count_of l - l.fixed

-- a slot is a cell inside the function
abbrev pub is_cell : Layout → ℕ → Bool
is_cell l slot = l.made_optional || nat_lt slot (optional_of l)

-- a symbol is a terminal
abbrev pub is_terminal : Option Symbol → Bool
is_terminal None = false
is_terminal (Some (Nonterminal name)) = false
is_terminal (Some (Terminal terminal)) = true

-- the function is handed the lookahead: its last slot isn't that of a terminal
abbrev pub has_lookahead : Layout → Bool
has_lookahead l = not (is_terminal (slice_get l.symbols (count_of l - 1)))

-- a frame goes on after its callee: the callee has one fixed slot above optional ones
abbrev pub needs_cells : Layout → Bool
needs_cells l = (l.fixed == 1) && nat_lt 0 (optional_of l)

abbrev pub no_slots : Layout
no_slots = record { symbols = []; fixed = 0; made_optional = false }

-- the slots of a state are its longest part before a dot, and its shortest part that isn't empty tells how many are fixed
abbrev pub item_slots : Grammar → Lr1State → Layout
item_slots g state =
    record { symbols = max_prefix_of g state.items; fixed = length (will_pop_of g state.items); made_optional = false }

-- none where an item is out of range
abbrev pub plain_slots : Grammar → Lr1State → Layout
plain_slots g state = if list_all (is_in_range (productions_of g)) state.items then item_slots g state else no_slots

-- the slots of the state of a number
abbrev pub layout_at : List Layout → ℕ → Layout
layout_at ls n = unwrap_or (slice_get ls n) no_slots

-- a state leads to one that needs cells
abbrev pub needs_cells_at : List Layout → ℕ → Bool
needs_cells_at ls n = needs_cells (layout_at ls n)

abbrev pub leads_to_cells : List Layout → Lr1State → Bool
leads_to_cells ls state = list_any (needs_cells_at ls) (values state.shifts) || list_any (needs_cells_at ls) (values state.gotos)

-- slots that become cells where this is so
abbrev pub made_cells : Bool → Layout → Layout
made_cells cells l = record { symbols = l.symbols; fixed = l.fixed; made_optional = cells }

abbrev pub slots_for : Grammar → List Layout → Lr1State → Layout
slots_for g ls state = made_cells (leads_to_cells ls state) (plain_slots g state)

-- those of all states
unfoldable pub layouts_of : Grammar → List Lr1State → List Layout
layouts_of g states = map (slots_for g (map (plain_slots g) states)) states
