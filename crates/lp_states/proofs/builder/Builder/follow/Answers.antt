use Rattle.std.proofs.Common.{◌≡◌, ◌<◌, ◌+◌, None, Some, [], ◌∷◌, List, length, sym, ap, ◌∙◌, length-append, arith}
use Rattle.std.specs.BTreeMap.{get}
use Rattle.std.proofs.lemmas.Result.{on_ok_weaker}
use Rattle.lp_repr.specs.declared.lr1.Lr1State.{Lr1State}
use Rattle.lp_states.specs.Building.{kernel_cmp}
use Rattle.lp_states.proofs.BuilderSteps.{step_found, step_stops, step_new, same_origins, same_edges, put_kept}
use Rattle.lp_states.proofs.Edges.{edge_within}
use Rattle.lp_states.proofs.Results.{err_is}
use Rattle.lp_states.proofs.builder.Builder.follow.Goals as goal

pub returns-in_err-number-in-None-clause-stop : goal.returns-in_err-number-in-None-clause-stop
returns-in_err-number-in-None-clause-stop c =
    let old = c.args.self.now in
    let e = c.args.edge in
    let none : get kernel_cmp old.numbers e.kernel ≡ None = sym c.get.ensures.value ∙ sym c.copied.ensures ∙ c.in-None.is in
    err_is c.from_residual.result _ _ c.from_residual.ensures.1 (λ stop same start u built at after. rw same (step_stops old.closing.rules.all.items start old e.from e.over built u at e.kernel after none c.number.new.self c.in_err-number-in-None.field-0.0 c.in_err-number-in-None.ensures.stop))

pub returns-in_err-insert-in-None-clause-stop : goal.returns-in_err-insert-in-None-clause-stop
returns-in_err-insert-in-None-clause-stop c =
    err_is c.from_residual-in_err-insert-in-None.result _ _ c.from_residual-in_err-insert-in-None.ensures.1 (λ stop same start u built at after. rw same tt)

pub returns-in-Some-clause-built : goal.returns-in-Some-clause-built
returns-in-Some-clause-built c =
    let old = c.args.self.now in
    let e = c.args.edge in
    let rules = old.closing.rules.all.items in
    let found : get kernel_cmp old.numbers e.kernel ≡ Some c.in-Some.number = sym c.get.ensures.value ∙ sym c.copied.ensures ∙ c.in-Some.is in
    on_ok_weaker c.note.result (λ noted start u built at after. step_found rules start old e.from e.over built u at e.kernel after c.in-Some.number found c.note.new.self (noted (edge_within rules start e.from e.over old u built at)) c.note.ensures.origins c.note.ensures.numbers c.note.ensures.edges) c.note.ensures.noted

pub returns-in_ok-insert-in-None-clause-built : goal.returns-in_ok-insert-in-None-clause-built
returns-in_ok-insert-in-None-clause-built c =
    let old = c.args.self.now in
    let mid = c.number.new.self in
    let new = c.note-in-None.new.self in
    let e = c.args.edge in
    let rules = old.closing.rules.all.items in
    let more = c.in_ok-number-in-None.ensures.numbered in
    let none : get kernel_cmp old.numbers e.kernel ≡ None = sym c.get.ensures.value ∙ sym c.copied.ensures ∙ c.in-None.is in
    let number : c.len-number.result ≡ length old.states.items = omega (arith, c.len-number.ensures, old.states.ok.0) in
    let count : length mid.states.items ≡ length old.states.items + 1 = ap (λ (ss : List Lr1State). length ss) more.states_are ∙ length-append old.states.items (more.state ∷ []) in
    on_ok_weaker c.note-in-None.result (λ noted start u built at after. let within = edge_within rules start e.from e.over old u built at in let there : e.from < length mid.states.items = omega (arith, within, count) in step_new rules start old e.from e.over built u at e.kernel after none mid new more (rw number at (noted there)) (put_kept old.numbers mid.numbers c.insert.new.self new.numbers e.kernel c.len-number.result (length old.states.items) more.numbers_same c.note-in-None.ensures.numbers number c.in_ok-insert-in-None.ensures.updates.0) (same_origins new mid c.note-in-None.ensures.origins) (same_edges new mid c.note-in-None.ensures.edges)) c.note-in-None.ensures.noted
