use Rattle.std.proofs.Common.{map, refl, rules}
use Rattle.std.proofs.lemmas.Bool.{OnTrue_at}
use Rattle.lp_form.specs.Templates.{piece}
use Rattle.lp_spelling.proofs.Reading.{reads_true}
use Rattle.lp_spelling.specs.Cursors.{left}
use Rattle.lp_program.specs.Telling.{told}
use Rattle.lp_program.proofs.Growing.{grows_line, line_taken}
use Rattle.lp_program.proofs.Telling.{line_not, line_told, no_line}
use Rattle.lp_program.proofs.read.growing.line_step.Goals as goal

pub returns-in_default : goal.returns-in_default
returns-in_default c = record { same = tt; grows = tt; takes = tt; tells = no_line _ _ _ (told c.args.growing.now) (left c.args.cursor) c.in_default.ensures }

pub returns-then-not-branch : goal.returns-then-not-branch
returns-then-not-branch c =
    let tells = line_not _ _ _ (told c.args.growing.now) _ c.in-Some.line.now (left c.args.cursor) _ c.if-not-branch.true c.in-Some.ensures.0 c.in_ok-read_line.ensures.exact in
    record { same = tt; grows = tt; takes = tt; tells = tells }

pub returns : goal.returns
returns c =
    let prefix = c.args.scope.prefix.now in
    let pieces = map piece c.args.pieces.now in
    let spelled = OnTrue_at c.if-not-branch.false c.in_ok-read_line.ensures.spelled in
    let exact = reads_true _ _ _ _ _ _ c.if-not-branch.false c.in_ok-read_line.ensures.exact in
    let line = c.in-Some.ensures in
    record {
      same = c.after_line.ensures.text;
      grows = grows_line prefix c.args.scope.kinds.now _ _ pieces c.in-Some.line.now (search rules) (search rules) (search rules) c.requires exact spelled;
      takes = λ content m. line_taken prefix _ _ content pieces c.in-Some.line.now _ _ m spelled line.0 line.1 c.after_line.ensures.rest;
      tells = line_told prefix _ pieces (told c.args.growing.now) _ c.in-Some.line.now (left c.args.cursor) _ _ c.if-not-branch.false line.0 line.1 c.after_line.ensures.rest refl c.in_ok-read_line.ensures.exact;
    }
