-- What a valid grammar says of its actions: how many symbols they take, and whether they can fail.
use Rattle.std.specs.Prelude.{ℕ, ◌==◌, Bool, true, false, not, ◌&&◌, ◌||◌, List, length, sum_by, slice_get}
use Rattle.std.specs.List.{list_any, list_all}
use Rattle.std.specs.Option.{option_map_or}
use Rattle.lp_repr.specs.declared.repr.ActionFnDefn.{ActionFnDefn}
use Rattle.lp_repr.specs.declared.repr.ActionFnDefnKind.{ActionFnDefnKind}
use Rattle.lp_repr.specs.declared.repr.ActionFnDefnKind.TheVariants as kind
use Rattle.lp_repr.specs.declared.repr.InlinedSymbol.{InlinedSymbol}
use Rattle.lp_repr.specs.declared.repr.InlinedSymbol.TheVariants as part

-- for how many symbols a part of an inline stands
abbrev pub symbol_count : InlinedSymbol → ℕ
symbol_count (part.Original symbol) = 1
symbol_count (part.Inlined action symbols) = length symbols

-- an action of this kind takes so many symbols, an inline those of its parts counted each
abbrev pub kind_takes : ActionFnDefnKind → ℕ → Bool
kind_takes (kind.User patterns types code) count = length types == count
kind_takes (kind.Lookaround which) count = count == 0
kind_takes (kind.Inline outer parts) count = sum_by symbol_count parts == count

-- the action of this number takes so many symbols
abbrev pub takes : List ActionFnDefn → ℕ → ℕ → Bool
takes actions action count = option_map_or (λ a. kind_takes a.kind count) (slice_get actions action) false

-- the action of a part takes as many symbols as it is given
abbrev pub part_takes : List ActionFnDefn → InlinedSymbol → Bool
part_takes actions (part.Original symbol) = true
part_takes actions (part.Inlined action symbols) = takes actions action (length symbols)

-- a user action has as many argument names as types; an inline's parts take as many symbols as they are given, its outer action as many as its parts
abbrev pub kind_has_counts : List ActionFnDefn → ActionFnDefnKind → Bool
kind_has_counts actions (kind.User patterns types code) = length patterns == length types
kind_has_counts actions (kind.Lookaround which) = true
kind_has_counts actions (kind.Inline outer parts) = takes actions outer (length parts) && list_all (part_takes actions) parts

-- the action of this number can fail
abbrev pub is_fallible : List ActionFnDefn → ℕ → Bool
is_fallible actions action = option_map_or (λ a. a.fallible) (slice_get actions action) false

-- the action of a part can fail
abbrev pub part_is_fallible : List ActionFnDefn → InlinedSymbol → Bool
part_is_fallible actions (part.Original symbol) = false
part_is_fallible actions (part.Inlined action symbols) = is_fallible actions action

-- an inline is fallible where its outer action or a part is; a lookaround isn't fallible
abbrev pub kind_may_fail : List ActionFnDefn → Bool → ActionFnDefnKind → Bool
kind_may_fail actions fallible (kind.User patterns types code) = true
kind_may_fail actions fallible (kind.Lookaround which) = not fallible
kind_may_fail actions fallible (kind.Inline outer parts) = fallible || not (is_fallible actions outer || list_any (part_is_fallible actions) parts)
