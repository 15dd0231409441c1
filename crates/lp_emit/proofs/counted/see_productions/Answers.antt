use Rattle.std.proofs.Common.{All, subst}
use Rattle.std.specs.Map.Iter.{deref}
use Rattle.std.proofs.lemmas.List.Elements.{All-map}
use Rattle.lp_back_end_laws.specs.Filled.InMemory.{IsProductionInMemory}
use Rattle.lp_emit.proofs.counted.see_productions.Goals as goal

pub returns : goal.returns
returns c =
    let referred = c.in_ok-productions.productions.items in
    subst (All IsProductionInMemory) c.in_ok-productions.ensures
    (All-map IsProductionInMemory deref referred (subst (All (λ p. IsProductionInMemory p.now)) c.as_slice.ensures.value c.see_symbols.ensures))
