use Rattle.std.proofs.Common.{◌≡◌, ℕ, ◌+◌, List, [], ◌∷◌, ◌++◌, drop, ap, ◌∙◌}
use Rattle.lp_ascent.specs.StateLines.{slot_parameters}
use Rattle.lp_ascent.proofs.Steps.{slots_next}
use Rattle.lp_ascent.proofs.headers.add_slots.Goals as goal

pub loop-slot-preserved : goal.loop-slot-preserved
loop-slot-preserved c =
    let g = c.args.shared.now.grammar.now in
    let n = c.loop-slot.slot in
    let rest = slot_parameters g c.args.optional (n + 1) (drop (n + 1) c.args.symbols.now) in
    let pushed : c.push.new.self.items ≡ c.loop-slot.parameters.items ++ c.in_ok-slot_parameter.field-0 ∷ [] = c.in_ok-push.ensures.items in
    ap (λ (xs : List (List ℕ)). xs ++ rest) pushed
    ∙ (slots_next g c.args.optional n c.loop-slot.parameters.items c.args.symbols.now c.index-symbols-slot.result c.in_ok-slot_parameter.field-0
    c.loop-slot-test.true c.index-symbols-slot.is c.in_ok-slot_parameter.ensures
    ∙ c.loop-slot.invariant)
