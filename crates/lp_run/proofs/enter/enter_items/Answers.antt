use Rattle.std.proofs.Common.{◌≡◌, ℕ, List, ap, ◌∙◌}
use Rattle.lp_core.specs.declared.expr.Table.{Table}
use Rattle.lp_tree.specs.ProgramTree.{program_items}
use Rattle.lp_view.specs.PartLists.{Form, listed}
use Rattle.lp_maker.specs.Slots.{Names}
use Rattle.lp_maker.specs.Making.{making, entries_of}
use Rattle.std.specs.Prelude.{map}
use Rattle.lp_run.specs.Promised.{promises_of, beginning_of, beginning}
use Rattle.lp_run.specs.ParseMethod.{parse_of, parsing_of, parameters_of}
use Rattle.lp_run.specs.Entered.{ready_of}
use Rattle.lp_run.proofs.Whole.{finished_is, entered_known}
use Rattle.lp_run.proofs.enter.enter_items.Goals as goal

pub returns : goal.returns
returns c =
    let items = listed c.args.items in
    let program = c.args.program.now in
    let prefix = c.as_str-prefix.result.now in
    let same : prefix ≡ program.prefix = c.as_str-prefix.ensures in
    let start = making c.new-maker.result in
    let b = beginning_of c.in_ok-begun.begun.located (promises_of c.in_ok-begun.begun.actions.items) (making c.beginning.new.maker) in
    let r = ready_of c.in_ok-parser.closure (parsing_of (parse_of c.in_ok-parser.parser) (making c.made_after.new.maker)) in
    let code = c.in_ok-code.code in
    let whole = c.as_part.ensures ∙ c.root.ensures in
    let begun : b ≡ beginning start (program_items program) = c.in_ok-begun.ensures ∙ ap (λ (f : Form). beginning start f) whole in
    let is = finished_is code.functions.items (map entries_of code.tables.items) code.texts.items c.slots-params.result c.in_ok-names.names.next b.located r c.in_ok-code.ensures.functions c.in_ok-code.ensures.tables c.in_ok-code.ensures.texts c.slots-params.ensures in
    record {
      params = c.slots-params.ensures ∙ ap (λ (n : Names). n.next) (c.in_ok-names.ensures ∙ ap (λ (p : List ℕ). parameters_of p items) same);
      code = entered_known prefix program.prefix (program_items program) items start c.in_ok-names.names b r _ same c.new-maker.ensures c.in_ok-names.ensures begun is c.in_ok-parser.ensures;
    }
