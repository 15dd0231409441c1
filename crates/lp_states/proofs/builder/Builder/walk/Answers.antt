use Rattle.std.proofs.Common.{[], refl, sym, subst, ◌∙◌}
use Rattle.lp_states.specs.declared.builder.Builder.{Builder}
use Rattle.lp_states.specs.declared.closure.Closing.{Closing}
use Rattle.lp_states.specs.Building.{IsBuilt, IsStopped}
use Rattle.lp_states.proofs.Edges.{popped, popped_kernel, nothing_popped}
use Rattle.lp_states.proofs.Results.{err_is}
use Rattle.lp_states.proofs.builder.Builder.walk.Goals as goal

pub loop-init : goal.loop-init
loop-init c = record { closing = refl; built = c.requires.built }

pub returns-in-None-clause-built : goal.returns-in-None-clause-built
returns-in-None-clause-built c =
    let old = c.loop.self in
    let new : Builder = record { closing = old.closing; numbers = old.numbers; origins = old.origins; states = old.states; edges = c.pop_front.new.self } in
    let built = subst (λ (k : Closing). IsBuilt k.rules.all.items c.args.nonterminal [] old) c.loop.invariant.closing c.loop.invariant.built in
    nothing_popped c.args.self.now.closing.rules.all.items c.args.nonterminal old new c.in-None.ensures.items refl refl refl built

pub returns-in_err-follow-in-Some-clause-stop : goal.returns-in_err-follow-in-Some-clause-stop
returns-in_err-follow-in-Some-clause-stop c =
    let old = c.loop.self in
    let rules = old.closing.rules.all.items in
    let n = c.args.nonterminal in
    let e = c.in-Some.edge in
    let mid : Builder = record { closing = old.closing; numbers = old.numbers; origins = old.origins; states = old.states; edges = c.pop_front.new.self } in
    let built = popped rules n old mid e c.in-Some.ensures.items refl refl refl c.loop.invariant.built in
    let k = popped_kernel rules n old mid e c.in-Some.ensures.items refl refl refl c.loop.invariant.built in
    err_is c.from_residual.result _ _ c.from_residual.ensures.1 (λ stop same. rw same (subst (λ (x : Closing). IsStopped x.rules.all.items n c.follow.new.self c.in_err-follow-in-Some.field-0.0) c.loop.invariant.closing (c.in_err-follow-in-Some.ensures.stop n k.0 built k.1 k.2)))

pub loop-preserved : goal.loop-preserved
loop-preserved c =
    let old = c.loop.self in
    let rules = old.closing.rules.all.items in
    let n = c.args.nonterminal in
    let e = c.in-Some.edge in
    let mid : Builder = record { closing = old.closing; numbers = old.numbers; origins = old.origins; states = old.states; edges = c.pop_front.new.self } in
    let built = popped rules n old mid e c.in-Some.ensures.items refl refl refl c.loop.invariant.built in
    let k = popped_kernel rules n old mid e c.in-Some.ensures.items refl refl refl c.loop.invariant.built in
    record {
      closing = c.in_ok-follow-in-Some.ensures.closing ∙ c.loop.invariant.closing;
      built = subst (λ (x : Closing). IsBuilt x.rules.all.items n [] c.follow.new.self) (sym c.in_ok-follow-in-Some.ensures.closing) (c.in_ok-follow-in-Some.ensures.built n k.0 built k.1 k.2);
    }
