use Rattle.std.proofs.Common.{◌+◌, refl, arith, subst, ap, sym, ◌∙◌, map}
use Rattle.lp_form.specs.Templates.{piece, holes_of}
use Rattle.lp_spelling.specs.Lines.{line_of}
use Rattle.lp_spelling.specs.Cursors.{left}
use Rattle.lp_program.specs.Nearby.{next_number}
use Rattle.lp_program.specs.Reads.{TakesLines}
use Rattle.lp_program.specs.Telling.{told}
use Rattle.lp_program.proofs.Growing.{grows_none, grows_then, becomes_before, lines_more}
use Rattle.lp_program.proofs.Begun.{look_same}
use Rattle.lp_program.proofs.LinesBegun.{lines_begun}
use Rattle.lp_program.proofs.Telling.{all_of, not_of, on_of, start_of}
use Rattle.lp_program.proofs.read.growing.lines_step.Goals as goal

pub loop-i-init : goal.loop-i-init
loop-i-init c = record {
  kinds = c.requires;
  same = refl;
  grows = grows_none c.args.scope.prefix.now c.args.growing.now;
  takes = λ content m. refl;
  tells = λ m le. start_of _ _ _ m (told c.args.growing.now) c.args.cursor;
  begun = λ blanks. look_same (next_number c.args.cursor) (next_number c.args.cursor) c.args.cursor _ (omega arith);
}

pub line_step-requires : goal.line_step-requires
line_step-requires c = c.loop-i.invariant.kinds

pub loop-i-preserved : goal.loop-i-preserved
loop-i-preserved c =
    let prefix = c.args.scope.prefix.now in
    let pieces = map piece c.args.pieces.now in
    let i = c.loop-i.invariant in
    let step = rw c.in-Some.is at c.in_ok-next.ensures in
    record {
      kinds = i.kinds ∙ ap holes_of (sym step.grows.part_is);
      same = step.same ∙ i.same;
      grows = grows_then prefix c.args.growing.now c.loop-i.growing _ i.grows step.grows;
      takes = λ content m. lines_more c.loop-i._i (line_of prefix content.holes pieces) _ _ _ (i.takes content (becomes_before prefix c.loop-i.growing _ content step.grows m)) (step.takes content m);
      tells = λ m le. on_of prefix _ pieces m c.loop-i._i (told c.args.growing.now) (told c.loop-i.growing) _ c.args.cursor c.loop-i.place _ (omega (arith, le)) i.same (i.tells m (omega (arith, le))) step.same step.tells;
      begun = lines_begun prefix _ c.args.growing.now c.args.count c.loop-i._i pieces (told c.loop-i.growing) _ c.args.cursor c.loop-i.place c.in-Some.next c.requires (omega arith) i.same (i.tells (c.loop-i._i + 1) (omega arith)) step.same step.tells i.begun;
    }

-- a line isn't there: only the text stays the same
pub returns-in_default : goal.returns-in_default
returns-in_default c =
    let none = rw c.in_default.is at c.in_ok-next.ensures in
    record {
      same = c.loop-i.invariant.same;
      grows = tt;
      takes = tt;
      tells = not_of _ _ _ c.args.count c.loop-i._i (told c.args.growing.now) (told c.loop-i.growing) c.line_step.new.growing c.args.cursor c.loop-i.place (omega arith) (c.loop-i.invariant.tells c.args.count (omega arith)) none.tells;
      begun = c.loop-i.invariant.begun;
    }

pub returns : goal.returns
returns c = record {
  same = c.loop-i.invariant.same;
  grows = c.loop-i.invariant.grows;
  takes = λ content m.
      subst (λ n. TakesLines n (line_of c.args.scope.prefix.now content.holes (map piece c.args.pieces.now)) (left c.args.cursor) (left c.loop-i.place)) (omega arith)
      (c.loop-i.invariant.takes content m);
  tells = all_of _ _ _ c.args.count c.loop-i._i (told c.args.growing.now) c.loop-i.growing c.args.cursor c.loop-i.place (omega arith) (c.loop-i.invariant.tells c.args.count (omega arith));
  begun = c.loop-i.invariant.begun;
}
