use Rattle.std.proofs.Common.{◌≡◌, ◌<◌, ◌+◌, ◌++◌, ◌∷◌, [], ap, subst, sym, ◌∙◌, length, take, arith, w32}
use Rattle.std.proofs.lemmas.Int.{to_z-of_z}
use Rattle.std.proofs.lemmas.List.{take_more, map-append}
use Rattle.lp_parts.specs.Entries.{EntriesFit, end_entries, end_entry}
use Rattle.lp_parts.proofs.entries.end_table_entries.Goals as goal

pub end_entry_of-requires : goal.end_entry_of-requires
end_entry_of-requires c =
    let lt : c.loop-state.state-index < length c.args.states.now = omega arith in
    subst EntriesFit (sym c.state-item.is) (c.requires c.loop-state.state-index c.state-item.result lt)

pub loop-state-preserved : goal.loop-state-preserved
loop-state-preserved c =
    let lt : c.loop-state.state-index < length c.args.states.now = omega arith in
    let taken : take (c.loop-state.state-index + 1) c.args.states.now ≡ take c.loop-state.state-index c.args.states.now ++ c.state-item.result ∷ [] =
    take_more c.args.states.now c.loop-state.state-index c.state-item.result lt
    ∙ ap (λ s. take c.loop-state.state-index c.args.states.now ++ s ∷ []) (sym c.state-item.is) in
    c.in_ok-push_entry.ensures
    ∙ (ap (λ e. c.loop-state.entries.items ++ e ∷ []) (to_z-of_z w32 c.end_entry_of.result c.end_entry_of.ensures.fits)
    ∙ (ap (λ xs. xs ++ c.end_entry_of.result ∷ []) c.loop-state.invariant
    ∙ (ap (λ e. end_entries (take c.loop-state.state-index c.args.states.now) ++ e ∷ []) c.end_entry_of.ensures.value
    ∙ (sym (map-append end_entry (take c.loop-state.state-index c.args.states.now) (c.state-item.result ∷ []))
    ∙ ap end_entries (sym taken)))))
