use Rattle.std.proofs.Common.{◌≡◌, List, [], ap, ◌∙◌}
use Rattle.lp_core.specs.Tree.{Tree}
use Rattle.lp_view.specs.PartLists.{listed}
use Rattle.lp_maker.specs.Constructs.{one_after_another}
use Rattle.lp_maker.specs.Making.{making}
use Rattle.lp_bodies.specs.Lines.{lines_of}
use Rattle.lp_bodies.specs.Reductions.{done_of}
use Rattle.lp_ascent_bodies.specs.AscentStarts.{start_lines, lookahead_slot, states_slot}
use Rattle.lp_ascent_bodies.proofs.Behind.{start_by}
use Rattle.lp_ascent_bodies.proofs.ascent.start.Goals as goal

pub returns : goal.returns
returns c =
    let m = making c.args.maker.now in
    let names = c.args.scope.now in
    let form = listed c.args.form in
    let after = c.start_lines.new.scope in
    let made = making c.start_end.new.maker in
    let slots = c.in_ok-slots.slots in
    let whole = start_lines m (lines_of names []) in
    let lines : lines_of after c.start_lines.new.parts.items ≡ whole =
    c.in_ok-slots.ensures.lines ∙ ap (λ (ts : List Tree). start_lines m (lines_of names ts)) c.new-parts.ensures.items in
    ap (λ (x : Tree). done_of x c.start_end.new.scope made) (c.block.ensures ∙ ap one_after_another c.in_ok-push.ensures.items)
    ∙ start_by m form after c.start_answer.new.scope c.start_lines.new.parts.items slots.0 slots.1 (lookahead_slot names) (states_slot names) c.in_ok-answer.answer (done_of c.in_ok-last.last c.start_end.new.scope made) whole lines c.in_ok-slots.ensures.lookahead c.in_ok-slots.ensures.states c.in_ok-answer.ensures.value c.in_ok-answer.ensures.names c.in_ok-last.ensures
