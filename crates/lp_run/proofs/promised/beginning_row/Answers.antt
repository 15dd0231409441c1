use Rattle.std.proofs.Common.{sym, ◌∙◌}
use Rattle.std.proofs.lemmas.Result.{on_ok_weaker}
use Rattle.lp_view.specs.PartLists.{listed}
use Rattle.lp_maker.specs.Making.{making}
use Rattle.lp_run.specs.Promised.{promises_of, promising_of}
use Rattle.lp_run.proofs.Rows.{action_row}
use Rattle.lp_run.proofs.promised.beginning_row.Goals as goal

pub returns-then-is_action : goal.returns-then-is_action
returns-then-is_action c =
    let s = promising_of (promises_of c.args.begun.now.actions.items) (making c.args.maker.now) in
    let t = promising_of (promises_of c.promise.new.promises.items) (making c.promise.new.maker) in
    on_ok_weaker c.promise.result
    (action_row c.args.begun.now.located s t c.header_number-number.result.now (listed c.args.form) (sym c.is_source.ensures ∙ c.if-is_source.false) (sym c.is_action.ensures ∙ c.if-is_action.true) c.header_number-number.ensures)
    c.promise.ensures
