use Rattle.lp_starts.specs.Tables.{HasNoTables}
use Rattle.lp_states.proofs.Results.{err_is}
use Rattle.lp_starts.proofs.Steps.{first_more, valid_more, fault_after}
use Rattle.lp_starts.proofs.tables.tables_of.Goals as goal

pub returns-in_err-table-clause-fault : goal.returns-in_err-table-clause-fault
returns-in_err-table-clause-fault c =
    let found = fault_after c.args.grammar.now c.loop-start.start c.loop-start.tables.items c.in_err-table.field-0.0 c.in_ok-check.ensures c.loop-start.invariant.first c.in_err-table.ensures.fault in
    err_is c.from_residual-in_err-table.result (HasNoTables c.args.grammar.now) _ c.from_residual-in_err-table.ensures.1 (λ fault same. rw same found)

pub loop-start-preserved : goal.loop-start-preserved
loop-start-preserved c =
    rw (c.in_ok-push.ensures.items) (record {
      first = first_more c.args.grammar.now c.loop-start.start c.loop-start.tables.items c.in_ok-table.table c.loop-start.invariant.first c.in_ok-table.ensures.table;
      valid = valid_more c.args.grammar.now c.loop-start.start c.loop-start.tables.items c.in_ok-table.table c.loop-start.invariant.first.0 c.loop-start.invariant.valid c.in_ok-table.ensures.valid;
    })
