use Rattle.std.proofs.lemmas.Bool.{OnTrue_from}
use Rattle.lp_form.specs.declared.part.Part.TheVariants as part
use Rattle.lp_program.specs.Adding.{IsPart}
use Rattle.lp_program.proofs.Adding.{brings_at, whole_read}
use Rattle.lp_program.proofs.Looking.{same_place}
use Rattle.lp_program.proofs.Whole.{whole_answers, whole_not}
use Rattle.lp_program.proofs.Begun.{begun_over}
use Rattle.lp_program.proofs.read.reader.Reader.read_whole.Goals as goal

pub returns-clause-reads : goal.returns-clause-reads
returns-clause-reads c =
    OnTrue_from c.at_end.result _
    (λ e. whole_read c.args.self.now _ _ (brings_at (IsPart part.Program) _ _ _ _ c.if-not-branch.false c.in_ok-read_part.ensures.reads) c.at_end.ensures.kept (c.at_end.ensures.none e))

pub returns-clause-chosen : goal.returns-clause-chosen
returns-clause-chosen c =
    whole_answers c.args.self.now _ _ c.at_end.result _ c.if-not-branch.false c.in_ok-read_part.ensures.chosen (same_place _ _ c.at_end.ensures.kept c.at_end.ensures.looked) c.at_end.ensures.exact

pub returns-then-not-branch-clause-chosen : goal.returns-then-not-branch-clause-chosen
returns-then-not-branch-clause-chosen c = whole_not c.args.self.now _ _ c.if-not-branch.true c.in_ok-read_part.ensures.chosen

pub returns-clause-begun : goal.returns-clause-begun
returns-clause-begun c =
    begun_over 16 part.Program c.args.self.now c.read_part.new.self c.at_end.new.self _ c.if-not-branch.false c.in_ok-read_part.ensures.chosen c.at_end.ensures.looked c.in_ok-read_part.ensures.begun c.at_end.ensures.begun
