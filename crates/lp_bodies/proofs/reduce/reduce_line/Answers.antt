use Rattle.std.proofs.Common.{◌≡◌, false, ap, sym, ◌∙◌}
use Rattle.std.proofs.lemmas.Result.{on_ok_weaker}
use Rattle.lp_form.specs.declared.part.Part.TheVariants as part
use Rattle.lp_view.specs.PartLists.{listed, is_a}
use Rattle.lp_maker.specs.Making.{making}
use Rattle.lp_bodies.specs.Lines.{Lines, lines_of}
use Rattle.lp_bodies.specs.Reductions.{work_of}
use Rattle.lp_bodies.proofs.Branches.{quiet_by}
use Rattle.lp_bodies.proofs.reduce.reduce_line.Goals as goal

pub returns-else-is_a-2 : goal.returns-else-is_a-2
returns-else-is_a-2 c =
    let m = making c.args.maker.now in
    let line = listed c.args.line in
    let full : is_a part.SpanEmpty line ≡ false = sym c.is_a.ensures ∙ c.if-is_a.false in
    let kept : is_a part.OutcomePush line ≡ false = sym c.is_a-else-is_a.ensures ∙ c.if-is_a-2.false in
    on_ok_weaker c.quiet_line.result (λ e. ap (λ (x : Lines). work_of x m) e ∙ sym (quiet_by (work_of (lines_of c.args.scope.now c.args.parts.now.items) m) line full kept)) c.quiet_line.ensures
