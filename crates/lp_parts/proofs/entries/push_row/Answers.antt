use Rattle.std.proofs.Common.{◌≡◌, ◌+◌, ◌++◌, ◌∷◌, [], ap, sym, ◌∙◌, map, append_assoc, arith, w32}
use Rattle.std.proofs.lemmas.Int.{to_z-of_z}
use Rattle.std.specs.List.{range_with_len}
use Rattle.std.proofs.lemmas.List.FromFn.{map-range_with_len_more}
use Rattle.lp_parts.specs.Entries.{action_entry}
use Rattle.lp_parts.proofs.entries.push_row.Goals as goal

pub loop-terminal-preserved : goal.loop-terminal-preserved
loop-terminal-preserved c =
    let at : 0 + c.loop-terminal.terminal ≡ c.loop-terminal.terminal = omega arith in
    c.in_ok-push_entry.ensures
    ∙ (ap (λ e. c.loop-terminal.entries.items ++ e ∷ []) (to_z-of_z w32 c.entry_at.result c.entry_at.ensures.fits)
    ∙ (ap (λ xs. xs ++ c.entry_at.result ∷ []) c.loop-terminal.invariant
    ∙ (append_assoc c.args.entries.now.items (map (action_entry c.args.state.now) (range_with_len 0 c.loop-terminal.terminal)) (c.entry_at.result ∷ [])
    ∙ ap (λ r. c.args.entries.now.items ++ r)
    (ap (λ e. map (action_entry c.args.state.now) (range_with_len 0 c.loop-terminal.terminal) ++ e ∷ []) c.entry_at.ensures.value
    ∙ sym (map-range_with_len_more (action_entry c.args.state.now) 0 c.loop-terminal.terminal c.loop-terminal.terminal at)))))
