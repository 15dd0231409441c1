use Rattle.std.proofs.Common.{Some, refl, sym, ap, ◌∙◌}
use Rattle.std.proofs.lemmas.Option.{slice_get-get_or}
use Rattle.lp_repr.specs.declared.lr1.Lr1State.{Lr1State}
use Rattle.lp_repr.specs.declared.numbering.SymbolNumber.TheVariants.{Terminal, Nonterminal}
use Rattle.lp_states.proofs.AskingLemmas.{put_here}
use Rattle.lp_states.proofs.NotedStates.{noted_state, shift_others, goto_others}
use Rattle.lp_states.proofs.builder.Builder.note.Goals as goal

pub returns-in_ok-insert-in-Terminal-clause-noted :
    goal.returns-in_ok-insert-in-Terminal-clause-noted
returns-in_ok-insert-in-Terminal-clause-noted c =
    let states = c.args.self.now.states.items in
    let r = c.index_mut-state.result.now in
    let s : Lr1State = record { items = r.items; shifts = c.insert.new.self; reductions = r.reductions; gotos = r.gotos } in
    let n = c.in-Terminal.number in
    let put = c.in_ok-insert-in-Terminal.ensures.updates.0 in
    λ l. rw c.in-Terminal.is (noted_state states c.args.from r s (slice_get-get_or states c.args.from r l ∙ ap Some (sym c.index_mut-state.ensures.value)) refl refl (Terminal n) c.args.target (put_here r.shifts c.insert.new.self n c.args.target put) (shift_others r s n c.args.target put refl))

pub returns-in_ok-insert-in-Nonterminal-clause-noted :
    goal.returns-in_ok-insert-in-Nonterminal-clause-noted
returns-in_ok-insert-in-Nonterminal-clause-noted c =
    let states = c.args.self.now.states.items in
    let r = c.index_mut-state.result.now in
    let s : Lr1State = record { items = r.items; shifts = r.shifts; reductions = r.reductions; gotos = c.insert-in-Nonterminal.new.self } in
    let n = c.in-Nonterminal.number in
    let put = c.in_ok-insert-in-Nonterminal.ensures.updates.0 in
    λ l. rw c.in-Nonterminal.is (noted_state states c.args.from r s (slice_get-get_or states c.args.from r l ∙ ap Some (sym c.index_mut-state.ensures.value)) refl refl (Nonterminal n) c.args.target (put_here r.gotos c.insert-in-Nonterminal.new.self n c.args.target put) (goto_others r s n c.args.target put refl))
