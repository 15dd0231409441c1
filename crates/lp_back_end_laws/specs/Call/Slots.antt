-- The slots of the states of tables, by number.
use Rattle.std.specs.Prelude.{ℕ, List}
use Rattle.lp_ascent.specs.Slots.{Layout, layout_at, layouts_of}
use Rattle.lp_repr.specs.declared.lr1.Lr1State.{Lr1State}
use Rattle.lp_repr.specs.declared.repr.Grammar.{Grammar}

-- the slots of a state, none where there is no state
abbrev pub layout : Grammar → List Lr1State → ℕ → Layout
layout g states s = layout_at (layouts_of g states) s
