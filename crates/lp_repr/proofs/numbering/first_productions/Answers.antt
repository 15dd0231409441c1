use Rattle.std.proofs.Common.{◌≡◌, ◌∷◌, ◌++◌, length, ap, ◌∙◌, map}
use Rattle.std.specs.Map.Iter.{deref}
use Rattle.std.proofs.lemmas.Map.Iter.{rest_more}
use Rattle.lp_repr.proofs.Numbers.{length_more, firsts_more}
use Rattle.lp_repr.proofs.numbering.first_productions.Goals as goal

pub loop-data-preserved : goal.loop-data-preserved
loop-data-preserved c =
    let own = c.in-Some.data.now.productions in
    let e : c.loop-data.data-iterator ≡ c.in-Some.data.now ∷ c.next.new.self = rest_more _ _ _ _ _ c.in-Some.is c.next.ensures.steps in
    let pushed : map deref c.push_references.new.all.items ≡ map deref c.loop-data.before.items ++ own = c.in_ok-push_references.ensures ∙ ap (λ xs. map deref c.loop-data.before.items ++ xs) c.as_slice.ensures in
    let m = length_more deref c.push_references.new.all.items c.loop-data.before.items own pushed in
    let r = firsts_more c.loop-data.firsts.items (length c.loop-data.before.items) (length c.push_references.new.all.items) c.in-Some.data.now c.next.new.self c.loop-data.data-iterator _ e m c.loop-data.invariant in
    rw (c.in_ok-push.ensures.items, c.len.ensures, c.loop-data.before.ok.0) r
