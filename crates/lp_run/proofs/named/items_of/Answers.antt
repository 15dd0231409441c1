use Rattle.std.proofs.Common.{sym, ◌∙◌}
use Rattle.lp_view.specs.PartLists.{listed, parts_of, first_that}
use Rattle.lp_run.specs.Named.{is_items}
use Rattle.lp_view.proofs.Firsts.{that_found, that_passed, that_missed}
use Rattle.lp_run.proofs.named.items_of.Goals as goal

pub loop-row-preserved : goal.loop-row-preserved
loop-row-preserved c =
    let at = c.loop-row in
    that_passed is_items (first_that is_items (parts_of (listed c.args.form))) c.next.result c.in-Some.row at.row-iterator c.next.new.self c.in-Some.is c.next.ensures.steps (sym c.is_items.ensures ∙ c.if-is_items.false) at.invariant

pub returns-then-is_items : goal.returns-then-is_items
returns-then-is_items c =
    let at = c.loop-row in
    that_found is_items (first_that is_items (parts_of (listed c.args.form))) c.next.result c.in-Some.row at.row-iterator c.next.new.self c.in-Some.is c.next.ensures.steps (sym c.is_items.ensures ∙ c.if-is_items.true) at.invariant

pub returns : goal.returns
returns c =
    let at = c.loop-row in
    that_missed is_items (first_that is_items (parts_of (listed c.args.form))) c.next.result at.row-iterator c.next.new.self c.in-None.is c.next.ensures.steps at.invariant
