use Rattle.std.proofs.Common.{◌≡◌, ◌↔◌, ◌∙◌, length, refl, ap, sym, subst, IfSome, IsTrue, Some, slice_get}
use Rattle.std.proofs.lemmas.Option.{slice_get_read}
use Rattle.lp_repr.specs.declared.numbering.Rule.{Rule}
use Rattle.lp_tables.specs.ItemSets.{has}
use Rattle.lp_tables.proofs.reductions.is_complete.Goals as goal

pub returns-in-Some : goal.returns-in-Some
returns-in-Some c =
    let rules = c.args.rules.now.all.items in
    let p = c.args.production in
    let r = c.in-Some.rule.now in
    let found = c.in-Some.ensures.lookup in
    let at : slice_get rules p ≡ Some r = subst (λ xs. slice_get xs p ≡ Some r) c.deref.ensures.value (slice_get_read c.deref.result.now _ p r refl found.3.0 found.1) in
    let e : c.contains.result ≡ has c.args.set.now p (length r.right) = c.contains.ensures ∙ ap (λ xs. has c.args.set.now p (length xs)) c.as_slice.ensures in
    subst (λ o. IsTrue c.contains.result ↔ IfSome o (λ (rule : Rule). IsTrue (has c.args.set.now p (length rule.right)))) (sym at) (λ yes. sym e ∙ yes, λ h. e ∙ h)
