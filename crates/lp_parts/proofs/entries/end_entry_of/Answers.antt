use Rattle.std.proofs.Common.{◌<◌, ap, sym, ◌∙◌, arith}
use Rattle.lp_parts.specs.Entries.{is_eof, reduced_on}
use Rattle.lp_parts.proofs.Reductions.{reduced_on_below}
use Rattle.lp_parts.proofs.entries.end_entry_of.Goals as goal

pub entry-requires-clause-production : goal.entry-requires-clause-production
entry-requires-clause-production c = λ p e.
    let below : p < 2147483647 =
    reduced_on_below 2147483647 is_eof c.args.state.now.reductions c.requires.reductions p
    (ap (reduced_on is_eof) (sym c.as_slice.ensures) ∙ (sym c.reduced_at_end.ensures ∙ e)) in
    omega arith
