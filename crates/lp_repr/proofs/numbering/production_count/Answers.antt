use Rattle.std.proofs.Common.{◌≡◌, ◌+◌, [], length, sym, ap, ◌∙◌, arith}
use Rattle.std.specs.Prelude.{min}
use Rattle.std.proofs.Math.Nat.{min-eq_left}
use Rattle.std.specs.List.{flat_map}
use Rattle.std.proofs.lemmas.Map.Iter.{rest_all}
use Rattle.lp_repr.specs.declared.repr.NonterminalData.{NonterminalData}
use Rattle.lp_repr.proofs.numbering.production_count.Goals as goal

pub returns : goal.returns
returns c =
    let e : c.loop-data.data-iterator ≡ [] = rest_all _ _ _ _ c.in-None.is c.next.ensures.steps in
    let none : c.loop-data.count ≡ c.loop-data.count + 0 = omega arith in
    sym (min-eq_left c.loop-data.invariant.0)
    ∙ ap (λ n. min n 18446744073709551615) none
    ∙ ap (λ l. min (c.loop-data.count + length (flat_map (λ (d : NonterminalData). d.productions) l)) 18446744073709551615) (sym e)
    ∙ c.loop-data.invariant.1
