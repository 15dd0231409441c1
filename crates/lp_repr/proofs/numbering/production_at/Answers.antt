use Rattle.std.proofs.Common.{◌≡◌, ◌-◌, ◌∷◌, length, sym, ap, ◌∙◌, arith}
use Rattle.std.specs.List.{slice_get, flat_map}
use Rattle.std.proofs.lemmas.Map.Iter.{rest_more}
use Rattle.lp_repr.proofs.Lists.{slice_get_past_left}
use Rattle.lp_repr.specs.declared.repr.NonterminalData.{NonterminalData}
use Rattle.lp_repr.proofs.numbering.production_at.Goals as goal

pub loop-data-preserved : goal.loop-data-preserved
loop-data-preserved c =
    let own = c.in-Some.data.now.productions in
    let rest = flat_map (λ (d : NonterminalData). d.productions) c.next.new.self in
    let e : c.loop-data.data-iterator ≡ c.in-Some.data.now ∷ c.next.new.self = rest_more _ _ _ _ _ c.in-Some.is c.next.ensures.steps in
    let n : length c.as_slice-productions.result.now ≡ length own = ap length c.as_slice-productions.ensures in
    sym (slice_get_past_left own rest c.loop-data.left (c.loop-data.left - length c.as_slice-productions.result.now) (omega arith))
    ∙ ap (λ xs. slice_get (flat_map (λ (d : NonterminalData). d.productions) xs) c.loop-data.left) (sym e) ∙ c.loop-data.invariant
