use Rattle.std.proofs.Common.{[], ◌∷◌, ◌++◌, map, sym, ap, ◌∙◌}
use Rattle.std.proofs.lemmas.List.{map-append}
use Rattle.lp_lower.specs.Productions.{production_of}
use Rattle.lp_lower.proofs.productions.productions.Goals as goal

pub loop-one-preserved : goal.loop-one-preserved
loop-one-preserved c =
    let made = production_of c.args.name.now in
    let before = c.loop-one.yielded in
    c.in_ok-push.ensures
    ∙ (ap (λ l. l ++ c.in_ok-production.production ∷ []) c.loop-one.invariant
    ∙ (ap (λ p. map made before ++ p ∷ []) c.in_ok-production.ensures ∙ sym (map-append made before (c.in-Some.one ∷ []))))
