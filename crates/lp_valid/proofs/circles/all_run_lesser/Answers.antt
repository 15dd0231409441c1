use Rattle.std.proofs.Common.{◌≡◌, ◌∙◌, length, refl, sym, subst, arith, nat_lt, Some, IfSome, IsTrue, slice_get, below_more, ⊎_elim}
use Rattle.std.specs.List.{list_all}
use Rattle.std.proofs.lemmas.Bool.{cases_lt}
use Rattle.std.proofs.lemmas.Option.{slice_get_read, slice_get_past}
use Rattle.lp_valid.specs.InlineRules.{kind_runs}
use Rattle.lp_valid.proofs.circles.all_run_lesser.Goals as goal

pub loop-place-preserved : goal.loop-place-preserved
loop-place-preserved c =
    let xs = c.args.actions.now in
    let a = c.index-actions-place.result in
    let at : slice_get xs c.loop-place.place ≡ Some a = slice_get_read xs _ c.loop-place.place a refl (omega arith) c.index-actions-place.is in
    below_more _ _ c.loop-place.invariant (subst (λ o. IfSome o (λ a. IsTrue (list_all (λ b. nat_lt b c.loop-place.place) (kind_runs a.kind)))) (sym at) (sym c.runs_lesser.ensures ∙ c.if-not-runs_lesser.false))

pub returns : goal.returns
returns c = λ _ k.
    ⊎_elim (λ less. c.loop-place.invariant k (omega arith))
    (λ past. subst (λ o. IfSome o (λ a. IsTrue (list_all (λ b. nat_lt b k) (kind_runs a.kind)))) (sym (slice_get_past c.args.actions.now k past)) tt) (cases_lt k (length c.args.actions.now))
