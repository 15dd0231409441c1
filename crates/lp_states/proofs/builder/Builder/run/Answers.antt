use Rattle.std.proofs.Common.{◌≡◌, [], length, sym, subst, rules}
use Rattle.lp_states.specs.declared.closure.Closing.{Closing}
use Rattle.lp_states.specs.Building.{IsBuilt, paths_of}
use Rattle.lp_states.proofs.BuilderSteps.{start_stops, step_start, states_built}
use Rattle.lp_states.proofs.Faults.{no_states}
use Rattle.lp_states.proofs.Results.{err_is, both_on_ok}
use Rattle.lp_states.proofs.StartKernels.{none_begun, some_begun}
use Rattle.lp_states.proofs.builder.Builder.run.Goals as goal

pub returns-then-is_empty-clause-states : goal.returns-then-is_empty-clause-states
returns-then-is_empty-clause-states c =
    let all = c.args.self.now.closing.rules.all.items in
    let n = c.args.nonterminal in
    let empty : length c.in_ok-kernel.kernel.entries ≡ 0 = search rules in
    ([], rw c.requires.empty.1 (no_states all n (none_begun all n c.in_ok-kernel.kernel c.in_ok-kernel.ensures empty)))

pub returns-in_err-number-clause-stop : goal.returns-in_err-number-clause-stop
returns-in_err-number-clause-stop c =
    let self = c.args.self.now in
    let all = self.closing.rules.all.items in
    let n = c.args.nonterminal in
    let kernel = c.in_ok-kernel.kernel in
    let some = some_begun all n kernel c.in_ok-kernel.ensures (λ e. search rules) in
    let empty = c.requires.empty in
    err_is c.from_residual-in_err-number.result _ _ c.from_residual-in_err-number.ensures.1 (λ stop same. rw same (start_stops all n self c.number.new.self kernel c.in_ok-kernel.ensures some empty.0 empty.1 empty.2 empty.3 c.in_err-number.field-0.0 c.in_err-number.ensures.stop))

pub walk-requires-clause-built : goal.walk-requires-clause-built
walk-requires-clause-built c =
    let self = c.args.self.now in
    let all = self.closing.rules.all.items in
    let n = c.args.nonterminal in
    let kernel = c.in_ok-kernel.kernel in
    let some = some_begun all n kernel c.in_ok-kernel.ensures (λ e. search rules) in
    let empty = c.requires.empty in
    subst (λ (k : Closing). IsBuilt k.rules.all.items n [] c.number.new.self) (sym c.in_ok-number.ensures.closing) (step_start all n self c.number.new.self kernel c.in_ok-kernel.ensures some empty.0 empty.1 empty.2 empty.3 c.in_ok-number.ensures.numbered)

pub returns-clause-states : goal.returns-clause-states
returns-clause-states c =
    let n = c.args.nonterminal in
    let new = c.walk.new.self in
    both_on_ok c.walk.result (λ built none. let b = subst (λ (k : Closing). IsBuilt k.rules.all.items n [] new) c.in_ok-number.ensures.closing built in (paths_of new.origins.items, states_built c.args.self.now.closing.rules.all.items n new b none)) c.walk.ensures.built c.walk.ensures.empty
