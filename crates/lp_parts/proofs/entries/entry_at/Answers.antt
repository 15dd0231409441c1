use Rattle.std.proofs.Common.{◌<◌, sym, ◌∙◌, arith}
use Rattle.lp_parts.specs.Entries.{is_terminal}
use Rattle.lp_parts.proofs.Reductions.{reduced_on_below}
use Rattle.lp_parts.proofs.entries.entry_at.Goals as goal

pub entry-requires-clause-production : goal.entry-requires-clause-production
entry-requires-clause-production c = λ p e.
    let below : p < 2147483647 =
    reduced_on_below 2147483647 (is_terminal c.args.terminal) c.args.state.now.reductions c.requires.fits.reductions p
    (sym c.requires.reduced ∙ e) in
    omega arith
