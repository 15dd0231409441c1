use Rattle.std.proofs.Common.{◌≡◌, ◌∙◌, ap, sym, ◌++◌, List, length, ◌==◌}
use Rattle.std.specs.Option.{is_none}
use Rattle.std.proofs.lemmas.List.Elements.{same_from_all_zip}
use Rattle.lp_repr.specs.Closure.{next_symbol}
use Rattle.lp_repr.specs.declared.lr1.Token.{Token}
use Rattle.lp_states.proofs.ReductionSteps.{Reduction, reductions_more, reduces, reduces_not_empty, reduces_not_open, none_more, is_none_from}
use Rattle.lp_states.proofs.state.reductions.Goals as goal
use Rattle.lp_states.proofs.state.reductions.Goals.{then-complete+then-not-is_empty+in_ok-clone+in_ok-push, else-complete, else-complete-via-then-complete+else-not-is_empty, else-complete-via-else-complete}

pub loop-item-preserved : goal.loop-item-preserved
loop-item-preserved c =
    let rules = c.args.rules.now.all.items in
    let items = c.args.items.now in
    let i = c.loop-item.item-index in
    let x = c.item-item.result in
    let old = c.loop-item.reductions.items in
    let open_is : is_none (next_symbol rules x.production x.index) ≡ c.is_none-complete.result = is_none_from c.next.result (next_symbol rules x.production x.index) c.is_none-complete.result c.is_none-complete.ensures c.next.ensures in
    elim c.if-complete.branch [ then-complete+then-not-is_empty+in_ok-clone+in_ok-push w ↦ rw w.reductions-is (reductions_more rules items i x old w.push.new.self.items c.loop-item-test.true c.item-item.is (w.in_ok-push.ensures.items ∙ ap (λ (rs : List Reduction). old ++ rs) (sym (reduces rules x w.in_ok-clone.field-0 (open_is ∙ w.if-complete.true) (sym (ap (λ (ts : List Token). length ts == 0) w.as_slice.ensures) ∙ sym w.is_empty.ensures ∙ w.if-not-is_empty.true) (same_from_all_zip _ x.lookahead w.in_ok-clone.field-0 w.in_ok-clone.ensures.cases (λ a b h. h))))) c.loop-item.invariant) | else-complete w ↦ rw w.reductions-is (reductions_more rules items i x old old c.loop-item-test.true c.item-item.is (none_more rules x old (elim w.else-complete.branch [ else-complete-via-then-complete+else-not-is_empty v ↦ reduces_not_empty rules x c.is_none-complete.result open_is (sym (ap (λ (ts : List Token). length ts == 0) v.as_slice.ensures) ∙ sym v.is_empty.ensures ∙ v.if-not-is_empty.false) | else-complete-via-else-complete v ↦ reduces_not_open rules x (open_is ∙ v.if-complete.false) ])) c.loop-item.invariant) ]
