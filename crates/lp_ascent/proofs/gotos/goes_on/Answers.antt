use Rattle.std.proofs.Common.{◌≡◌, ℕ, Bool, false, List, map, ap, sym, ◌∙◌}
use Rattle.std.specs.Prelude.{◌||◌}
use Rattle.std.specs.BTreeMap.{values}
use Rattle.std.specs.List.{list_any}
use Rattle.lp_repr.specs.Numbering.{productions_of}
use Rattle.lp_repr.specs.declared.lr1.Token.{Token}
use Rattle.lp_ascent.specs.GotoLines.{goes_on, has_one_fixed, is_empty_reduction}
use Rattle.lp_ascent.specs.Slots.{layout_of}
use Rattle.lp_ascent.specs.declared.slots.Slots.{Slots}
use Rattle.lp_ascent.proofs.gotos.goes_on.Goals as goal

pub returns-else-shifts_to_one : goal.returns-else-shifts_to_one
unfolding goes_on
returns-else-shifts_to_one c =
    let state = c.args.state.now in
    let reduces : List (List Token × ℕ) → Bool = λ rs. list_any (is_empty_reduction (productions_of c.args.states.now.shared.grammar.now)) rs in
    let shifts : List Slots → Bool = λ all. list_any (has_one_fixed (map layout_of all)) (values state.shifts) in
    let none : shifts c.args.states.now.slots.items ≡ false =
    ap shifts (sym c.as_slice-slots.ensures.value) ∙ (sym c.shifts_to_one.ensures ∙ c.if-shifts_to_one.false) in
    c.reduces_nothing.ensures
    ∙ (ap reduces c.as_slice-reductions.ensures ∙ ap (λ (b : Bool). b || reduces state.reductions) (sym none))
