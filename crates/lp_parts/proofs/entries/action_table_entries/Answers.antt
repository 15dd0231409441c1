use Rattle.std.proofs.Common.{◌<◌, subst, sym, length, arith}
use Rattle.lp_parts.specs.Entries.{EntriesFit}
use Rattle.lp_parts.proofs.entries.action_table_entries.Goals as goal

pub push_row-requires : goal.push_row-requires
push_row-requires c =
    let lt : c.loop-state.state-index < length c.args.states.now = omega arith in
    subst EntriesFit (sym c.state-item.is) (c.requires c.loop-state.state-index c.state-item.result lt)
