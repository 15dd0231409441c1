use Rattle.std.proofs.Common.{◌≡◌, ℕ, inl, ◌++◌, length, take, None, Some, arith, refl, sym, ap, ◌∙◌, subst}
use Rattle.std.proofs.Math.Seq.{take-append_seam}
use Rattle.std.proofs.lemmas.Bool.{OnTrue_at}
use Rattle.std.proofs.lemmas.List.{drop_all}
use Rattle.std.proofs.lemmas.Result.{IfOk-weaker, on_ok_weaker}
use Rattle.lp_form.specs.Templates.{steps_of}
use Rattle.lp_form.specs.declared.class.Class.TheVariants as class
use Rattle.lp_form.specs.declared.part.Part.{Part}
use Rattle.lp_form.specs.declared.part.Part.TheVariants as part
use Rattle.lp_form.specs.declared.template.Step.TheVariants as step
use Rattle.lp_spelling.specs.Cursors.{left}
use Rattle.lp_program.specs.declared.read.reader.Parameters.TheVariants as parameters
use Rattle.lp_program.specs.Adding.{IsPair, IsPart, MayHave}
use Rattle.lp_program.specs.Answering.{held}
use Rattle.lp_program.specs.Choosing.{Reading, ClassChosen, InlinedChosen, PairChosen, PartChosen}
use Rattle.lp_program.specs.Starting.{MemberStarts, OfNewLook, PairStarts, Starts}
use Rattle.lp_program.specs.Starting.Goal.{below_step, one_part}
use Rattle.lp_program.specs.declared.read.reader.Reader.{Reader}
use Rattle.lp_program.specs.Trees.Forest.{bare}
use Rattle.lp_program.proofs.Adding.{many_may, pairs_may, brings_as, brings_at, brings_from, brings_none, brings_not, brings_still, brings_then, brings_when, extends_same, many_more, none_below, one_may, optional_may, pair_may, pairs_more, part_not, part_read, part_start, part_step, reread_no, reread_yes, some_may, step_brings, step_count, step_not, steps_all, steps_not}
use Rattle.lp_program.proofs.Answering.{answers_yes, answers_no, answers_looked, none_at}
use Rattle.lp_program.proofs.Beginning.{step_drop}
use Rattle.lp_program.proofs.Begun.{begun_over, below_begun, look_as, look_same, many_begun, member_begun, no_looked, on_ok_both, one_below, opened_begun, optional_below, pair_begun, pair_from, pairs_begun, pairs_begun_first, parts_from, so_far_more, so_far_none, some_begun, some_first, step_begun, steps_look, steps_more, steps_none}
use Rattle.lp_program.proofs.ChosenReads.{class_reads, part_reads}
use Rattle.lp_program.proofs.Chosen.{part_once}
use Rattle.lp_program.proofs.Found.{any_begun, below_as, below_none, body_as, either_answers, inlined_added, inlined_answers, inlined_not, member_answers, member_none, optional_answers, optional_none, pair_not, pair_read, some_not, some_read}
use Rattle.lp_program.proofs.Looking.{inline_body, same_place, user_body}
use Rattle.lp_program.proofs.Many.{EachPair, EachPart, pairs_ends, pairs_goes, pairs_stays, pairs_stops, parts_ends, parts_goes, parts_stays, parts_stops, seen_from}
use Rattle.lp_program.proofs.Opened.{part_chosen, part_unread, part_untold}
use Rattle.lp_program.proofs.Steps.{part_begun, part_done, part_goes, part_stops, step_chosen, step_unread, too_deep}
use Rattle.lp_program.proofs.read.reader.Reader.+reading.Goals as goal

-- before the first step, behind each, and behind the last
pub read_steps-loop-step-init : goal.read_steps-loop-step-init
read_steps-loop-step-init t c =
    let part = c.args.growing.now.part in
    record {
      reads = part_start part c.args.growing.now c.args.self.now refl (ap (λ o. o.holes) c.requires.none);
      chosen = (bare, part_begun c.args.depth c.args.self.now.prefix.now part c.args.growing.now c.args.self.now c.requires.none);
      begun = steps_none c.args.self.now.prefix.now part c.args.growing.now c.args.self.now c.requires.none;
    }

pub read_steps-loop-step-preserved : goal.read_steps-loop-step-preserved
read_steps-loop-step-preserved t c =
    let part = c.args.growing.now.part in
    let so = c.loop-step.invariant in
    let next = step_drop c.steps-step-items.result.now (steps_of part) c.loop-step.step-index _ c.steps-step-items.ensures c.loop-step-test.true in
    record {
      reads = part_step part c.steps-step-items.result.now c.loop-step.step-index c.args.at _ c.loop-step.growing _ c.args.self.now c.loop-step.self _ _
          so.reads c.requires.at c.steps-step-items.ensures c.loop-step-test.true c.if-not-branch.false c.in_ok-read_step.ensures.reads;
      chosen = part_goes c.args.depth c.args.self.now.prefix.now c.loop-step.self.prefix.now part c.loop-step.growing.part c.loop-step.step-index c.args.at _ c.loop-step.growing _ so.chosen.0 c.args.self.now
          c.loop-step.self _ _ so.chosen.1 so.reads.prefix_is so.reads.so_far.part_is c.requires.at next c.if-not-branch.false c.in_ok-read_step.ensures.chosen;
      begun = steps_more c.args.depth c.args.self.now.prefix.now c.loop-step.self.prefix.now part c.loop-step.growing.part c.loop-step.step-index c.args.at _ c.loop-step.growing _ c.args.self.now
          c.loop-step.self _ _ so.begun so.reads.prefix_is so.reads.so_far.part_is so.reads.so_far.part_is c.requires.at next c.if-not-branch.false c.in_ok-read_step.ensures.chosen c.in_ok-read_step.ensures.begun;
    }

pub read_steps-returns-clause-reads : goal.read_steps-returns-clause-reads
read_steps-returns-clause-reads t c =
    let count = step_count c.steps-step-items.result.now _ c.steps-step-items.ensures in
    steps_all c.args.growing.now.part c.loop-step.step-index c.loop-step.growing c.args.self.now c.loop-step.self c.loop-step.invariant.reads (omega (arith, count))

pub read_steps-returns-clause-chosen : goal.read_steps-returns-clause-chosen
read_steps-returns-clause-chosen t c =
    let part = c.args.growing.now.part in
    let so = c.loop-step.invariant.chosen in
    let count = step_count c.steps-step-items.result.now _ c.steps-step-items.ensures in
    part_done c.args.depth c.args.self.now.prefix.now part c.loop-step.step-index c.loop-step.growing so.0 c.args.self.now c.loop-step.self so.1
    (drop_all c.loop-step.step-index (steps_of part) (omega (arith, count)))

pub read_steps-returns-then-not-branch-clause-reads : goal.read_steps-returns-then-not-branch-clause-reads
read_steps-returns-then-not-branch-clause-reads t c =
    steps_not c.args.growing.now.part c.loop-step.step-index c.args.at _ c.loop-step.growing _ c.args.self.now c.loop-step.self _ _ c.loop-step.invariant.reads c.in_ok-read_step.ensures.reads

pub read_steps-returns-then-not-branch-clause-chosen : goal.read_steps-returns-then-not-branch-clause-chosen
read_steps-returns-then-not-branch-clause-chosen t c =
    let part = c.args.growing.now.part in
    let so = c.loop-step.invariant in
    let next = step_drop c.steps-step-items.result.now (steps_of part) c.loop-step.step-index _ c.steps-step-items.ensures c.loop-step-test.true in
    part_stops c.args.depth c.args.self.now.prefix.now c.loop-step.self.prefix.now part c.loop-step.growing.part c.loop-step.step-index c.args.at _ c.loop-step.growing c.read_step.new.growing so.chosen.0 c.args.self.now
    c.loop-step.self _ _ so.chosen.1 so.reads.prefix_is so.reads.so_far.part_is c.requires.at next c.if-not-branch.true c.in_ok-read_step.ensures.chosen

-- a step: what it takes itself, and what it has below
pub read_step-returns-then-not-branch-clause-reads : goal.read_step-returns-then-not-branch-clause-reads
read_step-returns-then-not-branch-clause-reads t c = step_not c.args.at _ _ _ c.args.self.now _ c.in_ok-read_own.ensures.kept

pub read_step-returns-clause-reads : goal.read_step-returns-clause-reads
read_step-returns-clause-reads t c =
    let taken = OnTrue_at c.if-not-branch.false c.in_ok-read_own.ensures.takes in
    IfOk-weaker c.read_below.result _ _ (λ b x. step_brings c.args.at _ _ _ c.args.self.now _ b _ c.in_ok-read_own.ensures.kept taken x) c.read_below.ensures.reads

pub read_step-returns-then-not-branch-clause-chosen : goal.read_step-returns-then-not-branch-clause-chosen
read_step-returns-then-not-branch-clause-chosen t c =
    step_unread c.args.depth c.args.at _ c.args.growing.now c.read_own.new.growing c.args.self.now c.read_own.new.self _ c.if-not-branch.true c.in_ok-read_own.ensures.looked c.in_ok-read_own.ensures.tells

pub read_step-returns-clause-chosen : goal.read_step-returns-clause-chosen
read_step-returns-clause-chosen t c =
    IfOk-weaker c.read_below.result _ _
    (λ b x. step_chosen c.args.depth c.args.at _ c.args.growing.now c.read_own.new.growing c.args.self.now c.read_own.new.self _ b _ c.in_ok-read_own.ensures.kept c.in_ok-read_own.ensures.looked c.if-not-branch.false c.in_ok-read_own.ensures.tells x) c.read_below.ensures.chosen

pub read_part-returns-then-depth-eq0-clause-chosen : goal.read_part-returns-then-depth-eq0-clause-chosen
read_part-returns-then-depth-eq0-clause-chosen t c = too_deep c.args.depth c.args.self.now.prefix.now c.args.part c.args.self.now (omega arith)

pub read_part-returns-then-not-branch-clause-reads : goal.read_part-returns-then-not-branch-clause-reads
read_part-returns-then-not-branch-clause-reads t c = part_not c.args.part _ _ _ c.args.self.now _ _ _ c.in_ok-growing.ensures c.in_ok-read_steps.ensures.reads

pub read_part-returns-then-not-is_told-clause-reads : goal.read_part-returns-then-not-is_told-clause-reads
read_part-returns-then-not-is_told-clause-reads t c = part_not c.args.part _ _ _ c.args.self.now _ _ _ c.in_ok-growing.ensures c.in_ok-read_steps.ensures.reads

pub read_part-returns-then-not-branch-clause-chosen : goal.read_part-returns-then-not-branch-clause-chosen
read_part-returns-then-not-branch-clause-chosen t c =
    part_unread c.args.depth c.args.part _ _ c.args.self.now _ _ _ c.in_ok-growing.ensures (omega arith) c.if-not-branch.true c.in_ok-read_steps.ensures.chosen

pub read_part-returns-then-not-is_told-clause-chosen : goal.read_part-returns-then-not-is_told-clause-chosen
read_part-returns-then-not-is_told-clause-chosen t c =
    part_untold c.args.depth c.args.part _ _ c.args.self.now _ _ _ c.in_ok-growing.ensures (omega arith) c.if-not-branch.false c.in_ok-read_steps.ensures.reads c.in_ok-read_steps.ensures.chosen
    (sym c.is_told.ensures ∙ c.if-not-is_told.true)

-- a part: it was added, its steps were read, and what they told was put in
pub read_part-returns-clause-reads : goal.read_part-returns-clause-reads
read_part-returns-clause-reads t c =
    part_read c.args.part c.len-at.result _ _ c.args.self.now _ _ _ _ c.in_ok-growing.ensures (omega (arith, c.args.self.now.entries.ok.0)) c.in_ok-read_steps.ensures.reads c.if-not-branch.false
    (sym c.is_told.ensures ∙ c.if-not-is_told.false) c.finish.ensures.kept c.finish.ensures.filled

pub read_part-returns-clause-chosen : goal.read_part-returns-clause-chosen
read_part-returns-clause-chosen t c =
    part_chosen c.args.depth c.args.part c.len-at.result _ _ c.args.self.now _ _ _ _ c.in_ok-growing.ensures (omega (arith, c.args.self.now.entries.ok.0)) (omega arith) c.if-not-branch.false
    c.in_ok-read_steps.ensures.reads c.in_ok-read_steps.ensures.chosen (sym c.is_told.ensures ∙ c.if-not-is_told.false) c.finish.ensures.kept c.finish.ensures.filled

pub read_below-returns-in-Line-clause-reads : goal.read_below-returns-in-Line-clause-reads
read_below-returns-in-Line-clause-reads t c = none_below c.args.step _ c.args.self.now c.in-Line.is refl

pub read_below-returns-in-Line-clause-chosen : goal.read_below-returns-in-Line-clause-chosen
read_below-returns-in-Line-clause-chosen t c = below_none c.args.depth c.args.self.now.prefix.now c.args.step _ (held c.args.at c.args.self.now) c.args.self.now c.in-Line.is (λ text. (refl, refl))

pub read_below-returns-in-Each-clause-reads : goal.read_below-returns-in-Each-clause-reads
read_below-returns-in-Each-clause-reads t c = none_below c.args.step _ c.args.self.now c.in-Each.is refl

pub read_below-returns-in-Each-clause-chosen : goal.read_below-returns-in-Each-clause-chosen
read_below-returns-in-Each-clause-chosen t c = below_none c.args.depth c.args.self.now.prefix.now c.args.step _ (held c.args.at c.args.self.now) c.args.self.now c.in-Each.is (λ text. (refl, refl))

pub read_below-returns-in-Empty-clause-reads : goal.read_below-returns-in-Empty-clause-reads
read_below-returns-in-Empty-clause-reads t c = none_below c.args.step _ c.args.self.now c.in-Empty.is refl

pub read_below-returns-in-Empty-clause-chosen : goal.read_below-returns-in-Empty-clause-chosen
read_below-returns-in-Empty-clause-chosen t c = below_none c.args.depth c.args.self.now.prefix.now c.args.step _ (held c.args.at c.args.self.now) c.args.self.now c.in-Empty.is (λ text. (refl, refl))

pub read_below-returns-in-Note-clause-reads : goal.read_below-returns-in-Note-clause-reads
read_below-returns-in-Note-clause-reads t c = none_below c.args.step _ c.args.self.now c.in-Note.is refl

pub read_below-returns-in-Note-clause-chosen : goal.read_below-returns-in-Note-clause-chosen
read_below-returns-in-Note-clause-chosen t c = below_none c.args.depth c.args.self.now.prefix.now c.args.step _ (held c.args.at c.args.self.now) c.args.self.now c.in-Note.is (λ text. (refl, refl))

pub read_below-returns-in-NoteAlways-clause-reads : goal.read_below-returns-in-NoteAlways-clause-reads
read_below-returns-in-NoteAlways-clause-reads t c = none_below c.args.step _ c.args.self.now c.in-NoteAlways.is refl

pub read_below-returns-in-NoteAlways-clause-chosen : goal.read_below-returns-in-NoteAlways-clause-chosen
read_below-returns-in-NoteAlways-clause-chosen t c = below_none c.args.depth c.args.self.now.prefix.now c.args.step _ (held c.args.at c.args.self.now) c.args.self.now c.in-NoteAlways.is (λ text. (refl, refl))

pub read_below-returns-in-Use-clause-reads : goal.read_below-returns-in-Use-clause-reads
read_below-returns-in-Use-clause-reads t c = none_below c.args.step _ c.args.self.now c.in-Use.is refl

pub read_below-returns-in-Use-clause-chosen : goal.read_below-returns-in-Use-clause-chosen
read_below-returns-in-Use-clause-chosen t c = below_none c.args.depth c.args.self.now.prefix.now c.args.step _ (held c.args.at c.args.self.now) c.args.self.now c.in-Use.is (λ text. (refl, refl))

pub read_below-returns-in-Code-clause-reads : goal.read_below-returns-in-Code-clause-reads
read_below-returns-in-Code-clause-reads t c = none_below c.args.step _ c.args.self.now c.in-Code.is refl

pub read_below-returns-in-Code-clause-chosen : goal.read_below-returns-in-Code-clause-chosen
read_below-returns-in-Code-clause-chosen t c = below_none c.args.depth c.args.self.now.prefix.now c.args.step _ (held c.args.at c.args.self.now) c.args.self.now c.in-Code.is (λ text. (refl, refl))

pub read_below-returns-in-Entries-clause-reads : goal.read_below-returns-in-Entries-clause-reads
read_below-returns-in-Entries-clause-reads t c = none_below c.args.step _ c.args.self.now c.in-Entries.is refl

pub read_below-returns-in-Entries-clause-chosen : goal.read_below-returns-in-Entries-clause-chosen
read_below-returns-in-Entries-clause-chosen t c = below_none c.args.depth c.args.self.now.prefix.now c.args.step _ (held c.args.at c.args.self.now) c.args.self.now c.in-Entries.is (λ text. (refl, refl))

pub read_below-returns-in-Many-clause-chosen : goal.read_below-returns-in-Many-clause-chosen
read_below-returns-in-Many-clause-chosen t c =
    IfOk-weaker c.read_many.result _ _ (λ b x. below_as c.args.depth c.args.self.now.prefix.now c.args.step _ (held c.args.at c.args.self.now) c.args.self.now b c.read_many.new.self c.in-Many.is x) c.read_many.ensures.chosen

-- the body of an action
pub read_body-returns-in-User-clause-reads : goal.read_body-returns-in-User-clause-reads
read_body-returns-in-User-clause-reads t c =
    IfOk-weaker c.read_part.result _ _
    (λ b x. brings_as (IsPart part.UserBody) (MayHave (step.One class.ActionBody)) c.args.self.now b c.read_part.new.self (one_may class.ActionBody part.UserBody user_body) x)
    c.read_part.ensures.reads

pub read_body-returns-in-Inlined-clause-reads : goal.read_body-returns-in-Inlined-clause-reads
read_body-returns-in-Inlined-clause-reads t c =
    IfOk-weaker c.read_part-in-Inlined.result _ _
    (λ b x. brings_as (IsPart part.InlineBody) (MayHave (step.One class.ActionBody)) c.args.self.now b c.read_part-in-Inlined.new.self (one_may class.ActionBody part.InlineBody inline_body) x)
    c.read_part-in-Inlined.ensures.reads

pub read_body-returns-in-User-clause-chosen : goal.read_body-returns-in-User-clause-chosen
read_body-returns-in-User-clause-chosen t c =
    IfOk-weaker c.read_part.result _ _ (λ b x. body_as (PartChosen c.args.depth c.args.self.now.prefix.now) _ parameters.User c.args.self.now b c.read_part.new.self (sym c.in-User.is ∙ c.last_parameter.ensures) x) c.read_part.ensures.chosen

pub read_body-returns-in-Inlined-clause-chosen : goal.read_body-returns-in-Inlined-clause-chosen
read_body-returns-in-Inlined-clause-chosen t c =
    IfOk-weaker c.read_part-in-Inlined.result _ _
    (λ b x. body_as (PartChosen c.args.depth c.args.self.now.prefix.now) _ parameters.Inlined c.args.self.now b c.read_part-in-Inlined.new.self (sym c.in-Inlined.is ∙ c.last_parameter.ensures) x) c.read_part-in-Inlined.ensures.chosen

pub read_body-returns-in-None-clause-chosen : goal.read_body-returns-in-None-clause-chosen
read_body-returns-in-None-clause-chosen t c =
    IfOk-weaker c.read_either.result _ _ (λ b x. body_as (PartChosen c.args.depth c.args.self.now.prefix.now) _ parameters.None c.args.self.now b c.read_either.new.self (sym c.in-None.is ∙ c.last_parameter.ensures) x) c.read_either.ensures.chosen

pub read_either-returns-then-branch-clause-chosen : goal.read_either-returns-then-branch-clause-chosen
read_either-returns-then-branch-clause-chosen t c =
    let Parts : Part → Reading = PartChosen c.args.depth c.args.self.now.prefix.now in
    inlined_added Parts c.args.self.now c.read_inlined.new.self (answers_yes (InlinedChosen Parts) c.args.self.now _ c.read_inlined.new.self c.if-branch.true c.in_ok-read_inlined.ensures.chosen)

pub read_either-returns-clause-chosen : goal.read_either-returns-clause-chosen
read_either-returns-clause-chosen t c =
    let Parts : Part → Reading = PartChosen c.args.depth c.args.self.now.prefix.now in
    let same = reread_no (IsPart part.InlineBody) c.args.self.now _ c.read_inlined.new.self c.if-branch.false c.in_ok-read_inlined.ensures.reads in
    let none = answers_no (InlinedChosen Parts) c.args.self.now _ c.read_inlined.new.self c.if-branch.false c.in_ok-read_inlined.ensures.chosen in
    IfOk-weaker c.read_part.result _ _ (λ b x. either_answers c.args.depth c.args.self.now c.read_inlined.new.self b c.read_part.new.self same none x) c.read_part.ensures.chosen

pub read_either-returns-then-branch-clause-reads : goal.read_either-returns-then-branch-clause-reads
read_either-returns-then-branch-clause-reads t c =
    brings_as (IsPart part.InlineBody) (MayHave (step.One class.ActionBody)) c.args.self.now _ c.read_inlined.new.self (one_may class.ActionBody part.InlineBody inline_body)
    (reread_yes (IsPart part.InlineBody) c.args.self.now _ c.read_inlined.new.self c.if-branch.true c.in_ok-read_inlined.ensures.reads)

pub read_either-returns-clause-reads : goal.read_either-returns-clause-reads
read_either-returns-clause-reads t c =
    let same = reread_no (IsPart part.InlineBody) c.args.self.now _ c.read_inlined.new.self c.if-branch.false c.in_ok-read_inlined.ensures.reads in
    IfOk-weaker c.read_part.result _ _
    (λ b x. brings_as (IsPart part.UserBody) (MayHave (step.One class.ActionBody)) c.args.self.now b c.read_part.new.self (one_may class.ActionBody part.UserBody user_body)
    (brings_from (IsPart part.UserBody) c.args.self.now c.read_inlined.new.self b c.read_part.new.self same x))
    c.read_part.ensures.reads

-- a reader that is where it was
pub read_inlined-returns-clause-reads : goal.read_inlined-returns-clause-reads
read_inlined-returns-clause-reads t c =
    let old = c.args.self.now in
    let Inlined : Reading = InlinedChosen (PartChosen c.args.depth old.prefix.now) in
    let tried = c.in_ok-read_closed.ensures.reads.extends in
    let count : c.len-count.result ≡ length old.entries.items = omega (arith, old.entries.ok.0) in
    record {
      prefix_is = tried.prefix_is;
      cursor_is = refl;
      looked = answers_looked Inlined old _ c.read_closed.new.self c.in_ok-read_closed.ensures.chosen;
      entries_are = c.truncate.ensures.items ∙ ap (λ es. take c.len-count.result es) tried.entries_are ∙ ap (λ n. take n (old.entries.items ++ tried.more)) count ∙ take-append_seam old.entries.items tried.more;
    }

pub read_inlined-returns-clause-chosen : goal.read_inlined-returns-clause-chosen
read_inlined-returns-clause-chosen t c =
    let Inlined : Reading = InlinedChosen (PartChosen c.args.depth c.args.self.now.prefix.now) in
    none_at Inlined c.args.self.now c.read_closed.new.self _ refl (answers_no Inlined c.args.self.now _ c.read_closed.new.self c.if-branch.false c.in_ok-read_closed.ensures.chosen)

-- inlined actions, up to a `}`
pub read_closed-returns-then-not-branch-clause-reads : goal.read_closed-returns-then-not-branch-clause-reads
read_closed-returns-then-not-branch-clause-reads t c = brings_at (IsPart part.InlineBody) c.args.self.now _ _ _ c.if-not-branch.true c.in_ok-read_part.ensures.reads

pub read_closed-returns-then-not-branch-clause-chosen : goal.read_closed-returns-then-not-branch-clause-chosen
read_closed-returns-then-not-branch-clause-chosen t c =
    inlined_not (PartChosen c.args.depth c.args.self.now.prefix.now) c.args.self.now _ _ c.if-not-branch.true c.in_ok-read_part.ensures.chosen

pub read_closed-returns-clause-reads : goal.read_closed-returns-clause-reads
read_closed-returns-clause-reads t c =
    let first = brings_at (IsPart part.InlineBody) c.args.self.now _ _ c.read_part.new.self c.if-not-branch.false c.in_ok-read_part.ensures.reads in
    brings_when (IsPart part.InlineBody) c.args.self.now c.closes.result _
    (brings_still (IsPart part.InlineBody) c.args.self.now c.read_part.new.self _ first (same_place c.read_part.new.self _ c.closes.ensures.kept c.closes.ensures.looked))

pub read_closed-returns-clause-chosen : goal.read_closed-returns-clause-chosen
read_closed-returns-clause-chosen t c =
    let prefix = c.args.self.now.prefix.now in
    inlined_answers (PartChosen c.args.depth prefix) c.args.self.now _ c.read_part.new.self c.closes.result _ (part_once c.args.depth prefix) c.if-not-branch.false c.in_ok-read_part.ensures.chosen
    (same_place c.read_part.new.self _ c.closes.ensures.kept c.closes.ensures.looked) c.closes.ensures.exact

-- parts of a class, one after another
pub read_many-parts-init : goal.read_many-parts-init
read_many-parts-init t c = record {
  reads = none_below (step.Many c.args.class) _ c.args.self.now refl refl;
  chosen = any_begun c.args.depth c.args.self.now.prefix.now (EachPart c.args.depth c.args.self.now.prefix.now) c.args.class c.args.self.now;
  begun = (so_far_none c.args.self.now.prefix.now (MayHave (step.Many c.args.class)) c.args.self.now refl, look_same c.args.self.now.looked c.args.self.now.looked c.args.self.now.cursor _ (omega arith));
}

pub read_many-parts-preserved : goal.read_many-parts-preserved
read_many-parts-preserved t c =
    let old = c.args.self.now in
    let member = rw c.in-Some.is at c.in_ok-part.ensures.member in
    let same = same_place c.parts.self _ c.in_ok-part.ensures.kept c.in_ok-part.ensures.looked in
    let e = c.parts.invariant.reads.extends.prefix_is in
    let seen = seen_from c.args.depth c.args.class (Some c.in-Some.part) old c.parts.self _ e same (rw c.in-Some.is at c.in_ok-part.ensures.exact) in
    let was = ap length c.ahead-ahead.ensures in
    let is = ap length c.ahead.ensures in
    let at : length (left c.pick.new.self.cursor) ≡ length (left c.parts.self.cursor) = ap (λ k. length (left k)) same.cursor_is in
    let looked = answers_looked (PartChosen c.args.depth c.pick.new.self.prefix.now c.in-Some.part) c.pick.new.self _ c.read_part.new.self c.in_ok-read_part.ensures.chosen in
    record {
      reads = many_more c.args.class c.in-Some.part old c.parts.self _ _ _ c.parts.invariant.reads same member (brings_at (IsPart c.in-Some.part) _ _ _ _ c.if-not-branch.false c.in_ok-read_part.ensures.reads);
      chosen = parts_goes c.args.depth c.args.class c.in-Some.part old c.parts.self _ _ _ e c.parts.invariant.chosen same seen c.if-not-branch.false c.in_ok-read_part.ensures.chosen (omega (arith, was, is, at));
      begun = (
        so_far_more old.prefix.now (MayHave (step.Many c.args.class)) (IsPart c.in-Some.part) (MayHave (step.Many c.args.class)) (PartChosen c.args.depth c.pick.new.self.prefix.now c.in-Some.part) old c.parts.self c.pick.new.self c.read_part.new.self
            (many_may c.args.class c.in-Some.part member) (parts_from c.args.depth c.in-Some.part c.pick.new.self.prefix.now old.prefix.now (same.prefix_is ∙ e)) c.parts.invariant.begun.0 same
            (answers_yes (PartChosen c.args.depth c.pick.new.self.prefix.now c.in-Some.part) c.pick.new.self _ c.read_part.new.self c.if-not-branch.false c.in_ok-read_part.ensures.chosen),
        many_begun c.args.class old c.parts.self _ e (omega (arith, same.looked, looked)) c.parts.invariant.begun.0 c.parts.invariant.begun.1
            (member_begun c.args.class c.in-Some.part c.parts.self c.pick.new.self c.read_part.new.self member same looked c.in_ok-part.ensures.begun c.in_ok-read_part.ensures.begun),
      );
    }

pub read_many-returns-in_default-clause-begun : goal.read_many-returns-in_default-clause-begun
read_many-returns-in_default-clause-begun t c =
    let e = c.parts.invariant.reads.extends.prefix_is in
    many_begun c.args.class c.args.self.now c.parts.self _ e c.in_ok-part.ensures.looked c.parts.invariant.begun.0 c.parts.invariant.begun.1 c.in_ok-part.ensures.begun

pub read_many-returns-then-ahead-clause-begun : goal.read_many-returns-then-ahead-clause-begun
read_many-returns-then-ahead-clause-begun t c =
    let same = same_place c.parts.self _ c.in_ok-part.ensures.kept c.in_ok-part.ensures.looked in
    let e = c.parts.invariant.reads.extends.prefix_is in
    let member = rw c.in-Some.is at c.in_ok-part.ensures.member in
    let looked = answers_looked (PartChosen c.args.depth c.pick.new.self.prefix.now c.in-Some.part) c.pick.new.self _ c.read_part.new.self c.in_ok-read_part.ensures.chosen in
    many_begun c.args.class c.args.self.now c.parts.self _ e (omega (arith, same.looked, looked)) c.parts.invariant.begun.0 c.parts.invariant.begun.1
    (member_begun c.args.class c.in-Some.part c.parts.self c.pick.new.self c.read_part.new.self member same looked c.in_ok-part.ensures.begun c.in_ok-read_part.ensures.begun)

pub read_many-returns-then-not-branch-clause-begun : goal.read_many-returns-then-not-branch-clause-begun
read_many-returns-then-not-branch-clause-begun t c =
    let same = same_place c.parts.self _ c.in_ok-part.ensures.kept c.in_ok-part.ensures.looked in
    let e = c.parts.invariant.reads.extends.prefix_is in
    let member = rw c.in-Some.is at c.in_ok-part.ensures.member in
    let looked = answers_looked (PartChosen c.args.depth c.pick.new.self.prefix.now c.in-Some.part) c.pick.new.self _ c.read_part.new.self c.in_ok-read_part.ensures.chosen in
    many_begun c.args.class c.args.self.now c.parts.self _ e (omega (arith, same.looked, looked)) c.parts.invariant.begun.0 c.parts.invariant.begun.1
    (member_begun c.args.class c.in-Some.part c.parts.self c.pick.new.self c.read_part.new.self member same looked c.in_ok-part.ensures.begun c.in_ok-read_part.ensures.begun)

pub read_many-returns-in_default-clause-reads : goal.read_many-returns-in_default-clause-reads
read_many-returns-in_default-clause-reads t c =
    brings_still (MayHave (step.Many c.args.class)) c.args.self.now c.parts.self _ c.parts.invariant.reads (same_place c.parts.self _ c.in_ok-part.ensures.kept c.in_ok-part.ensures.looked)

pub read_many-returns-in_default-clause-chosen : goal.read_many-returns-in_default-clause-chosen
read_many-returns-in_default-clause-chosen t c =
    let old = c.args.self.now in
    let same = same_place c.parts.self _ c.in_ok-part.ensures.kept c.in_ok-part.ensures.looked in
    let e = c.parts.invariant.reads.extends.prefix_is in
    let seen = seen_from c.args.depth c.args.class None old c.parts.self _ e same (rw c.in_default.is at c.in_ok-part.ensures.exact) in
    parts_ends c.args.depth c.args.class old c.parts.self _ c.parts.invariant.chosen same seen

pub read_many-returns-then-ahead-clause-chosen : goal.read_many-returns-then-ahead-clause-chosen
read_many-returns-then-ahead-clause-chosen t c =
    let old = c.args.self.now in
    let same = same_place c.parts.self _ c.in_ok-part.ensures.kept c.in_ok-part.ensures.looked in
    let e = c.parts.invariant.reads.extends.prefix_is in
    let seen = seen_from c.args.depth c.args.class (Some c.in-Some.part) old c.parts.self _ e same (rw c.in-Some.is at c.in_ok-part.ensures.exact) in
    let was = ap length c.ahead-ahead.ensures in
    let is = ap length c.ahead.ensures in
    let at : length (left c.pick.new.self.cursor) ≡ length (left c.parts.self.cursor) = ap (λ k. length (left k)) same.cursor_is in
    parts_stays c.args.depth c.args.class c.in-Some.part old c.parts.self _ _ _ e c.parts.invariant.chosen same seen c.if-not-branch.false c.in_ok-read_part.ensures.chosen (omega (arith, was, is, at))

pub read_many-returns-then-not-branch-clause-reads : goal.read_many-returns-then-not-branch-clause-reads
read_many-returns-then-not-branch-clause-reads t c =
    let member = rw c.in-Some.is at c.in_ok-part.ensures.member in
    many_more c.args.class c.in-Some.part c.args.self.now c.parts.self _ _ _ c.parts.invariant.reads (same_place c.parts.self _ c.in_ok-part.ensures.kept c.in_ok-part.ensures.looked) member
    (brings_at (IsPart c.in-Some.part) _ _ _ _ c.if-not-branch.true c.in_ok-read_part.ensures.reads)

pub read_many-returns-then-not-branch-clause-chosen : goal.read_many-returns-then-not-branch-clause-chosen
read_many-returns-then-not-branch-clause-chosen t c =
    let old = c.args.self.now in
    let same = same_place c.parts.self _ c.in_ok-part.ensures.kept c.in_ok-part.ensures.looked in
    let e = c.parts.invariant.reads.extends.prefix_is in
    let seen = seen_from c.args.depth c.args.class (Some c.in-Some.part) old c.parts.self _ e same (rw c.in-Some.is at c.in_ok-part.ensures.exact) in
    parts_stops c.args.depth c.args.class c.in-Some.part old c.parts.self _ _ _ e c.parts.invariant.chosen same seen c.if-not-branch.true c.in_ok-read_part.ensures.chosen

-- one part of a class, if there is one
pub read_member-returns-in-Some-clause-reads : goal.read_member-returns-in-Some-clause-reads
read_member-returns-in-Some-clause-reads t c =
    let member = rw c.in-Some.is at c.in_ok-part.ensures.member in
    IfOk-weaker c.read_part.result _ _
    (λ b x. brings_as (IsPart c.in-Some.part) (MayHave (step.One c.args.class)) c.args.self.now b c.read_part.new.self (one_may c.args.class c.in-Some.part member)
    (brings_from (IsPart c.in-Some.part) c.args.self.now _ b c.read_part.new.self (same_place c.args.self.now _ c.in_ok-part.ensures.kept c.in_ok-part.ensures.looked) x))
    c.read_part.ensures.reads

pub read_member-returns-in-None-clause-reads : goal.read_member-returns-in-None-clause-reads
read_member-returns-in-None-clause-reads t c =
    brings_not (MayHave (step.One c.args.class)) c.args.self.now _ (extends_same c.args.self.now _ (same_place c.args.self.now _ c.in_ok-part.ensures.kept c.in_ok-part.ensures.looked))

pub read_member-returns-in-Some-clause-chosen : goal.read_member-returns-in-Some-clause-chosen
read_member-returns-in-Some-clause-chosen t c =
    let all = rw c.in-Some.is at c.in_ok-part.ensures.exact in
    IfOk-weaker c.read_part.result _ _
    (λ b x. member_answers c.args.depth c.args.class c.in-Some.part c.args.self.now _ b c.read_part.new.self (same_place c.args.self.now _ c.in_ok-part.ensures.kept c.in_ok-part.ensures.looked) all x) c.read_part.ensures.chosen

pub read_member-returns-in-None-clause-chosen : goal.read_member-returns-in-None-clause-chosen
read_member-returns-in-None-clause-chosen t c =
    let all = rw c.in-None.is at c.in_ok-part.ensures.exact in
    member_none c.args.depth c.args.class c.args.self.now _ (same_place c.args.self.now _ c.in_ok-part.ensures.kept c.in_ok-part.ensures.looked) all

pub read_optional-returns-in-Some-clause-chosen : goal.read_optional-returns-in-Some-clause-chosen
read_optional-returns-in-Some-clause-chosen t c =
    let old = c.args.self.now in
    let all = rw c.in-Some.is at c.in_ok-part.ensures.exact in
    IfOk-weaker c.read_part.result _ _
    (λ b x. optional_answers c.args.depth c.args.class c.in-Some.part old _ b c.read_part.new.self (same_place old _ c.in_ok-part.ensures.kept c.in_ok-part.ensures.looked) all x) c.read_part.ensures.chosen

pub read_optional-returns-in-None-clause-chosen : goal.read_optional-returns-in-None-clause-chosen
read_optional-returns-in-None-clause-chosen t c =
    let old = c.args.self.now in
    let all = rw c.in-None.is at c.in_ok-part.ensures.exact in
    optional_none c.args.depth old.prefix.now (PartChosen c.args.depth old.prefix.now) c.args.class old _ (same_place old _ c.in_ok-part.ensures.kept c.in_ok-part.ensures.looked) all

pub read_optional-returns-in-Some-clause-reads : goal.read_optional-returns-in-Some-clause-reads
read_optional-returns-in-Some-clause-reads t c =
    let member = rw c.in-Some.is at c.in_ok-part.ensures.member in
    IfOk-weaker c.read_part.result _ _
    (λ b x. brings_as (IsPart c.in-Some.part) (MayHave (step.Optional c.args.class)) c.args.self.now b c.read_part.new.self (optional_may c.args.class c.in-Some.part member)
    (brings_from (IsPart c.in-Some.part) c.args.self.now _ b c.read_part.new.self (same_place c.args.self.now _ c.in_ok-part.ensures.kept c.in_ok-part.ensures.looked) x))
    c.read_part.ensures.reads

pub read_optional-returns-in-None-clause-reads : goal.read_optional-returns-in-None-clause-reads
read_optional-returns-in-None-clause-reads t c =
    brings_none (MayHave (step.Optional c.args.class)) c.args.self.now _ refl (same_place c.args.self.now _ c.in_ok-part.ensures.kept c.in_ok-part.ensures.looked)

pub read_some-returns-clause-reads : goal.read_some-returns-clause-reads
read_some-returns-clause-reads t c =
    let first = brings_at (MayHave (step.One c.args.class)) c.args.self.now _ _ c.read_class.new.self c.if-not-branch.false c.in_ok-read_class.ensures.reads in
    IfOk-weaker c.read_many.result _ _
    (λ b x. brings_then (MayHave (step.One c.args.class)) (MayHave (step.Many c.args.class)) (MayHave (step.Some c.args.class)) c.args.self.now c.read_class.new.self b c.read_many.new.self (some_may c.args.class) first x)
    c.read_many.ensures.reads

pub read_some-returns-then-not-branch-clause-chosen : goal.read_some-returns-then-not-branch-clause-chosen
read_some-returns-then-not-branch-clause-chosen t c = some_not c.args.depth c.args.class c.args.at c.args.self.now _ _ c.if-not-branch.true c.in_ok-read_class.ensures.chosen

pub read_some-returns-clause-chosen : goal.read_some-returns-clause-chosen
read_some-returns-clause-chosen t c =
    IfOk-weaker c.read_many.result _ _
    (λ b x. some_read c.args.depth c.args.class c.args.at c.args.self.now c.read_class.new.self _ b c.read_many.new.self c.in_ok-read_class.ensures.reads.extends.prefix_is c.if-not-branch.false c.in_ok-read_class.ensures.chosen x)
    c.read_many.ensures.chosen

-- pairs, one after another
pub read_pair-returns-clause-reads : goal.read_pair-returns-clause-reads
read_pair-returns-clause-reads t c =
    let first = brings_at (IsPart c.args.part) c.args.self.now _ _ c.read_part.new.self c.if-not-branch.false c.in_ok-read_part.ensures.reads in
    IfOk-weaker c.read_class.result _ _
    (λ b x. brings_then (IsPart c.args.part) (MayHave (step.One c.args.second)) (IsPair c.args.part c.args.second) c.args.self.now c.read_part.new.self b c.read_class.new.self (pair_may c.args.part c.args.second) first x)
    c.read_class.ensures.reads

pub read_pair-returns-then-not-branch-clause-chosen : goal.read_pair-returns-then-not-branch-clause-chosen
read_pair-returns-then-not-branch-clause-chosen t c =
    pair_not c.args.depth c.args.self.now.prefix.now c.args.second c.args.part c.args.at c.args.self.now _ _ c.if-not-branch.true c.in_ok-read_part.ensures.chosen

pub read_pair-returns-clause-chosen : goal.read_pair-returns-clause-chosen
read_pair-returns-clause-chosen t c =
    IfOk-weaker c.read_class.result _ _
    (λ b x. pair_read c.args.depth c.args.second c.args.part c.args.at c.args.self.now c.read_part.new.self _ b c.read_class.new.self c.requires c.in_ok-read_part.ensures.reads.extends.prefix_is c.if-not-branch.false
    c.in_ok-read_part.ensures.chosen x)
    c.read_class.ensures.chosen

pub read_pairs-pairs-init : goal.read_pairs-pairs-init
read_pairs-pairs-init t c =
    let old = c.args.self.now in
    record {
      reads = none_below (step.Pairs c.args.first c.args.second) _ old refl refl;
      begun = (so_far_none old.prefix.now (MayHave (step.Pairs c.args.first c.args.second)) old refl, look_same old.looked old.looked old.cursor _ (omega arith));
      chosen = any_begun c.args.depth old.prefix.now (EachPair c.args.depth old.prefix.now (held c.args.at old) c.args.second) c.args.first old;
    }

pub read_pairs-pairs-preserved : goal.read_pairs-pairs-preserved
read_pairs-pairs-preserved t c =
    let old = c.args.self.now in
    let member = rw c.in-Some.is at c.in_ok-part.ensures.member in
    let same = same_place c.pairs.self _ c.in_ok-part.ensures.kept c.in_ok-part.ensures.looked in
    let e = c.pairs.invariant.reads.extends.prefix_is in
    let seen = seen_from c.args.depth c.args.first (Some c.in-Some.part) old c.pairs.self _ e same (rw c.in-Some.is at c.in_ok-part.ensures.exact) in
    let was = ap length c.ahead-ahead.ensures in
    let is = ap length c.ahead.ensures in
    let at : length (left c.pick.new.self.cursor) ≡ length (left c.pairs.self.cursor) = ap (λ k. length (left k)) same.cursor_is in
    let PairRead : Reading = PairChosen c.args.depth c.pick.new.self.prefix.now (PartChosen c.args.depth c.pick.new.self.prefix.now) (held c.args.at c.pick.new.self) c.args.second c.in-Some.part in
    let looked = answers_looked PairRead c.pick.new.self _ c.read_pair.new.self c.in_ok-read_pair.ensures.chosen in
    record {
      reads = pairs_more c.args.first c.args.second c.in-Some.part old c.pairs.self _ _ _ c.pairs.invariant.reads same member (brings_at (IsPair c.in-Some.part c.args.second) _ _ _ _ c.if-not-branch.false c.in_ok-read_pair.ensures.reads);
      chosen = pairs_goes c.args.depth c.args.at c.args.first c.args.second c.in-Some.part old c.pairs.self _ _ _ c.requires e c.pairs.invariant.chosen same seen c.if-not-branch.false c.in_ok-read_pair.ensures.chosen (omega (arith, was, is, at));
      begun = (
        so_far_more old.prefix.now (MayHave (step.Pairs c.args.first c.args.second)) (IsPair c.in-Some.part c.args.second) (MayHave (step.Pairs c.args.first c.args.second)) PairRead old c.pairs.self c.pick.new.self c.read_pair.new.self
            (pairs_may c.args.first c.args.second c.in-Some.part member)
            (pair_from c.args.depth c.in-Some.part c.args.second (held c.args.at c.pick.new.self) c.pick.new.self.prefix.now old.prefix.now (same.prefix_is ∙ e)) c.pairs.invariant.begun.0 same
            (answers_yes PairRead c.pick.new.self _ c.read_pair.new.self c.if-not-branch.false c.in_ok-read_pair.ensures.chosen),
        pairs_begun c.args.first c.args.second c.in-Some.part old c.pairs.self c.pick.new.self c.read_pair.new.self e member same looked c.pairs.invariant.begun.0 c.pairs.invariant.begun.1 c.in_ok-part.ensures.begun c.in_ok-read_pair.ensures.begun,
      );
    }

pub read_pairs-returns-in_default-clause-reads : goal.read_pairs-returns-in_default-clause-reads
read_pairs-returns-in_default-clause-reads t c =
    brings_still (MayHave (step.Pairs c.args.first c.args.second)) c.args.self.now c.pairs.self _ c.pairs.invariant.reads (same_place c.pairs.self _ c.in_ok-part.ensures.kept c.in_ok-part.ensures.looked)

pub read_pairs-returns-in_default-clause-chosen : goal.read_pairs-returns-in_default-clause-chosen
read_pairs-returns-in_default-clause-chosen t c =
    let old = c.args.self.now in
    let same = same_place c.pairs.self _ c.in_ok-part.ensures.kept c.in_ok-part.ensures.looked in
    let e = c.pairs.invariant.reads.extends.prefix_is in
    let seen = seen_from c.args.depth c.args.first None old c.pairs.self _ e same (rw c.in_default.is at c.in_ok-part.ensures.exact) in
    pairs_ends c.args.depth c.args.at c.args.first c.args.second old c.pairs.self _ c.pairs.invariant.chosen same seen

pub read_pairs-returns-then-ahead-clause-chosen : goal.read_pairs-returns-then-ahead-clause-chosen
read_pairs-returns-then-ahead-clause-chosen t c =
    let old = c.args.self.now in
    let same = same_place c.pairs.self _ c.in_ok-part.ensures.kept c.in_ok-part.ensures.looked in
    let e = c.pairs.invariant.reads.extends.prefix_is in
    let seen = seen_from c.args.depth c.args.first (Some c.in-Some.part) old c.pairs.self _ e same (rw c.in-Some.is at c.in_ok-part.ensures.exact) in
    let was = ap length c.ahead-ahead.ensures in
    let is = ap length c.ahead.ensures in
    let at : length (left c.pick.new.self.cursor) ≡ length (left c.pairs.self.cursor) = ap (λ k. length (left k)) same.cursor_is in
    pairs_stays c.args.depth c.args.at c.args.first c.args.second c.in-Some.part old c.pairs.self _ _ _ c.requires e c.pairs.invariant.chosen same seen c.if-not-branch.false c.in_ok-read_pair.ensures.chosen (omega (arith, was, is, at))

pub read_pairs-returns-then-not-branch-clause-reads : goal.read_pairs-returns-then-not-branch-clause-reads
read_pairs-returns-then-not-branch-clause-reads t c =
    let member = rw c.in-Some.is at c.in_ok-part.ensures.member in
    pairs_more c.args.first c.args.second c.in-Some.part c.args.self.now c.pairs.self _ _ _ c.pairs.invariant.reads (same_place c.pairs.self _ c.in_ok-part.ensures.kept c.in_ok-part.ensures.looked) member
    (brings_at (IsPair c.in-Some.part c.args.second) _ _ _ _ c.if-not-branch.true c.in_ok-read_pair.ensures.reads)

pub read_pairs-returns-then-not-branch-clause-chosen : goal.read_pairs-returns-then-not-branch-clause-chosen
read_pairs-returns-then-not-branch-clause-chosen t c =
    let old = c.args.self.now in
    let same = same_place c.pairs.self _ c.in_ok-part.ensures.kept c.in_ok-part.ensures.looked in
    let e = c.pairs.invariant.reads.extends.prefix_is in
    let seen = seen_from c.args.depth c.args.first (Some c.in-Some.part) old c.pairs.self _ e same (rw c.in-Some.is at c.in_ok-part.ensures.exact) in
    pairs_stops c.args.depth c.args.at c.args.first c.args.second c.in-Some.part old c.pairs.self _ _ _ c.requires e c.pairs.invariant.chosen same seen c.if-not-branch.true c.in_ok-read_pair.ensures.chosen

pub read_pairs-returns-in_default-clause-begun : goal.read_pairs-returns-in_default-clause-begun
read_pairs-returns-in_default-clause-begun t c =
    let e = c.pairs.invariant.reads.extends.prefix_is in
    pairs_begun_first c.args.first c.args.second c.args.self.now c.pairs.self _ e c.in_ok-part.ensures.looked c.pairs.invariant.begun.0 c.pairs.invariant.begun.1 c.in_ok-part.ensures.begun

pub read_pairs-returns-then-ahead-clause-begun : goal.read_pairs-returns-then-ahead-clause-begun
read_pairs-returns-then-ahead-clause-begun t c =
    let old = c.args.self.now in
    let same = same_place c.pairs.self _ c.in_ok-part.ensures.kept c.in_ok-part.ensures.looked in
    let e = c.pairs.invariant.reads.extends.prefix_is in
    let member = rw c.in-Some.is at c.in_ok-part.ensures.member in
    let PairRead : Reading = PairChosen c.args.depth c.pick.new.self.prefix.now (PartChosen c.args.depth c.pick.new.self.prefix.now) (held c.args.at c.pick.new.self) c.args.second c.in-Some.part in
    let looked = answers_looked PairRead c.pick.new.self _ c.read_pair.new.self c.in_ok-read_pair.ensures.chosen in
    pairs_begun c.args.first c.args.second c.in-Some.part old c.pairs.self c.pick.new.self c.read_pair.new.self e member same looked c.pairs.invariant.begun.0 c.pairs.invariant.begun.1 c.in_ok-part.ensures.begun c.in_ok-read_pair.ensures.begun

pub read_pairs-returns-then-not-branch-clause-begun : goal.read_pairs-returns-then-not-branch-clause-begun
read_pairs-returns-then-not-branch-clause-begun t c =
    let old = c.args.self.now in
    let same = same_place c.pairs.self _ c.in_ok-part.ensures.kept c.in_ok-part.ensures.looked in
    let e = c.pairs.invariant.reads.extends.prefix_is in
    let member = rw c.in-Some.is at c.in_ok-part.ensures.member in
    let PairRead : Reading = PairChosen c.args.depth c.pick.new.self.prefix.now (PartChosen c.args.depth c.pick.new.self.prefix.now) (held c.args.at c.pick.new.self) c.args.second c.in-Some.part in
    let looked = answers_looked PairRead c.pick.new.self _ c.read_pair.new.self c.in_ok-read_pair.ensures.chosen in
    pairs_begun c.args.first c.args.second c.in-Some.part old c.pairs.self c.pick.new.self c.read_pair.new.self e member same looked c.pairs.invariant.begun.0 c.pairs.invariant.begun.1 c.in_ok-part.ensures.begun c.in_ok-read_pair.ensures.begun

-- what the lines that were looked at begin
pub read_steps-returns-clause-begun : goal.read_steps-returns-clause-begun
read_steps-returns-clause-begun t c = c.loop-step.invariant.begun.begun

pub read_steps-returns-then-not-branch-clause-begun : goal.read_steps-returns-then-not-branch-clause-begun
read_steps-returns-then-not-branch-clause-begun t c =
    let part = c.args.growing.now.part in
    let so = c.loop-step.invariant in
    let next = step_drop c.steps-step-items.result.now (steps_of part) c.loop-step.step-index _ c.steps-step-items.ensures c.loop-step-test.true in
    steps_look c.args.self.now.prefix.now c.loop-step.self.prefix.now part c.loop-step.step-index c.args.at _ c.loop-step.growing c.args.self.now c.loop-step.self _ so.begun so.reads.prefix_is so.reads.so_far.part_is c.requires.at next
    (no_looked _ _ c.loop-step.self _ c.read_step.new.self c.if-not-branch.true c.in_ok-read_step.ensures.chosen) c.in_ok-read_step.ensures.begun

pub read_step-returns-clause-begun : goal.read_step-returns-clause-begun
read_step-returns-clause-begun t c =
    let below = c.read_below.ensures in
    on_ok_both c.read_below.result _ _ _
    (λ b x y. step_begun c.args.at _ c.args.growing.now c.read_own.new.growing c.args.self.now c.read_own.new.self c.read_below.new.self _ c.in_ok-read_own.ensures.kept c.if-not-branch.false c.in_ok-read_own.ensures.tells
    (answers_looked _ c.read_own.new.self b c.read_below.new.self x) c.in_ok-read_own.ensures.begun y) below.chosen below.begun

pub read_part-returns-then-depth-eq0-clause-begun : goal.read_part-returns-then-depth-eq0-clause-begun
read_part-returns-then-depth-eq0-clause-begun t c = look_same c.args.self.now.looked c.args.self.now.looked c.args.self.now.cursor _ (omega arith)

pub read_part-returns-then-not-branch-clause-begun : goal.read_part-returns-then-not-branch-clause-begun
read_part-returns-then-not-branch-clause-begun t c = opened_begun c.args.part _ c.args.self.now c.open.new.self c.read_steps.new.self c.in_ok-growing.ensures c.in_ok-read_steps.ensures.begun

pub read_part-returns-then-not-is_told-clause-begun : goal.read_part-returns-then-not-is_told-clause-begun
read_part-returns-then-not-is_told-clause-begun t c = opened_begun c.args.part _ c.args.self.now c.open.new.self c.read_steps.new.self c.in_ok-growing.ensures c.in_ok-read_steps.ensures.begun

pub read_part-returns-clause-begun : goal.read_part-returns-clause-begun
read_part-returns-clause-begun t c =
    let begun = opened_begun c.args.part _ c.args.self.now c.open.new.self c.read_steps.new.self c.in_ok-growing.ensures c.in_ok-read_steps.ensures.begun in
    subst (λ (n : ℕ). OfNewLook c.args.self.now.looked c.args.self.now.cursor n (Starts c.args.self.now.prefix.now (one_part c.args.part))) (sym (ap (λ (r : Reader). r.looked) c.finish.ensures.kept)) begun

pub read_member-returns-in-Some-clause-begun : goal.read_member-returns-in-Some-clause-begun
read_member-returns-in-Some-clause-begun t c =
    let old = c.args.self.now in
    let member = rw c.in-Some.is at c.in_ok-part.ensures.member in
    let same = same_place old _ c.in_ok-part.ensures.kept c.in_ok-part.ensures.looked in
    on_ok_both c.read_part.result _ _ _
    (λ b x y. member_begun c.args.class c.in-Some.part old c.choose.new.self c.read_part.new.self member same
    (answers_looked (PartChosen c.args.depth c.choose.new.self.prefix.now c.in-Some.part) c.choose.new.self b c.read_part.new.self x) c.in_ok-part.ensures.begun y) c.read_part.ensures.chosen c.read_part.ensures.begun

pub read_optional-returns-in-Some-clause-begun : goal.read_optional-returns-in-Some-clause-begun
read_optional-returns-in-Some-clause-begun t c =
    let old = c.args.self.now in
    let member = rw c.in-Some.is at c.in_ok-part.ensures.member in
    let same = same_place old _ c.in_ok-part.ensures.kept c.in_ok-part.ensures.looked in
    on_ok_both c.read_part.result _ _ _
    (λ b x y. look_as old.looked c.read_part.new.self.looked old.cursor (MemberStarts old.prefix.now c.args.class) (Starts old.prefix.now (below_step (step.Optional c.args.class))) (optional_below old.prefix.now c.args.class)
    (member_begun c.args.class c.in-Some.part old c.pick.new.self c.read_part.new.self member same
    (answers_looked (PartChosen c.args.depth c.pick.new.self.prefix.now c.in-Some.part) c.pick.new.self b c.read_part.new.self x) c.in_ok-part.ensures.begun y)) c.read_part.ensures.chosen c.read_part.ensures.begun

pub read_optional-returns-in-None-clause-begun : goal.read_optional-returns-in-None-clause-begun
read_optional-returns-in-None-clause-begun t c =
    let old = c.args.self.now in
    look_as old.looked c.pick.new.self.looked old.cursor (MemberStarts old.prefix.now c.args.class) (Starts old.prefix.now (below_step (step.Optional c.args.class))) (optional_below old.prefix.now c.args.class) c.in_ok-part.ensures.begun

pub read_some-returns-then-not-branch-clause-begun : goal.read_some-returns-then-not-branch-clause-begun
read_some-returns-then-not-branch-clause-begun t c =
    let old = c.args.self.now in
    look_as old.looked c.read_class.new.self.looked old.cursor (MemberStarts old.prefix.now c.args.class) (Starts old.prefix.now (below_step (step.Some c.args.class))) (some_first old.prefix.now c.args.class) c.in_ok-read_class.ensures.begun

pub read_some-returns-clause-begun : goal.read_some-returns-clause-begun
read_some-returns-clause-begun t c =
    let old = c.args.self.now in
    let Parts : Part → Reading = PartChosen c.args.depth old.prefix.now in
    on_ok_both c.read_many.result _ _ _
    (λ b x y. some_begun c.args.depth c.args.at c.args.class old c.read_class.new.self c.read_many.new.self (ClassChosen c.args.depth old.prefix.now Parts (held c.args.at old) c.args.class) _ c.in_ok-read_class.ensures.reads.extends.prefix_is
    c.if-not-branch.false (class_reads c.args.depth old.prefix.now Parts (held c.args.at old) c.args.class (part_reads c.args.depth old.prefix.now)) c.in_ok-read_class.ensures.chosen
    (answers_looked _ c.read_class.new.self b c.read_many.new.self x) c.in_ok-read_class.ensures.begun y) c.read_many.ensures.chosen c.read_many.ensures.begun

pub read_pair-returns-then-not-branch-clause-begun : goal.read_pair-returns-then-not-branch-clause-begun
read_pair-returns-then-not-branch-clause-begun t c =
    let old = c.args.self.now in
    look_as old.looked c.read_part.new.self.looked old.cursor (Starts old.prefix.now (one_part c.args.part)) (PairStarts old.prefix.now c.args.part c.args.second) (λ text x. inl x) c.in_ok-read_part.ensures.begun

pub read_pair-returns-clause-begun : goal.read_pair-returns-clause-begun
read_pair-returns-clause-begun t c =
    on_ok_both c.read_class.result _ _ _
    (λ b x y. pair_begun c.args.depth c.args.part c.args.second c.args.self.now c.read_part.new.self c.read_class.new.self _ c.in_ok-read_part.ensures.reads.extends.prefix_is c.if-not-branch.false c.in_ok-read_part.ensures.chosen
    (answers_looked _ c.read_part.new.self b c.read_class.new.self x) c.in_ok-read_part.ensures.begun y) c.read_class.ensures.chosen c.read_class.ensures.begun

pub read_body-returns-in-User-clause-begun : goal.read_body-returns-in-User-clause-begun
read_body-returns-in-User-clause-begun t c =
    let old = c.args.self.now in
    on_ok_weaker c.read_part.result (look_as old.looked c.read_part.new.self.looked old.cursor (Starts old.prefix.now (one_part part.UserBody)) (MemberStarts old.prefix.now class.ActionBody) (λ text x. (part.UserBody, user_body, x))) c.read_part.ensures.begun

pub read_body-returns-in-Inlined-clause-begun : goal.read_body-returns-in-Inlined-clause-begun
read_body-returns-in-Inlined-clause-begun t c =
    let old = c.args.self.now in
    on_ok_weaker c.read_part-in-Inlined.result (look_as old.looked c.read_part-in-Inlined.new.self.looked old.cursor (Starts old.prefix.now (one_part part.InlineBody)) (MemberStarts old.prefix.now class.ActionBody) (λ text x. (part.InlineBody, inline_body, x)))
    c.read_part-in-Inlined.ensures.begun

pub read_either-returns-clause-begun : goal.read_either-returns-clause-begun
read_either-returns-clause-begun t c =
    let old = c.args.self.now in
    let same = reread_no (IsPart part.InlineBody) old _ c.read_inlined.new.self c.if-branch.false c.in_ok-read_inlined.ensures.reads in
    on_ok_both c.read_part.result _ _ _
    (λ b x y. member_begun class.ActionBody part.UserBody old c.read_inlined.new.self c.read_part.new.self user_body same
    (answers_looked (PartChosen c.args.depth c.read_inlined.new.self.prefix.now part.UserBody) c.read_inlined.new.self b c.read_part.new.self x) c.in_ok-read_inlined.ensures.begun y) c.read_part.ensures.chosen c.read_part.ensures.begun

pub read_closed-returns-then-not-branch-clause-begun : goal.read_closed-returns-then-not-branch-clause-begun
read_closed-returns-then-not-branch-clause-begun t c =
    let old = c.args.self.now in
    look_as old.looked c.read_part.new.self.looked old.cursor (Starts old.prefix.now (one_part part.InlineBody)) (MemberStarts old.prefix.now class.ActionBody) (λ text x. (part.InlineBody, inline_body, x)) c.in_ok-read_part.ensures.begun

pub read_closed-returns-clause-begun : goal.read_closed-returns-clause-begun
read_closed-returns-clause-begun t c =
    let old = c.args.self.now in
    look_as old.looked c.closes.new.self.looked old.cursor (Starts old.prefix.now (one_part part.InlineBody)) (MemberStarts old.prefix.now class.ActionBody) (λ text x. (part.InlineBody, inline_body, x))
    (begun_over c.args.depth part.InlineBody old c.read_part.new.self c.closes.new.self _ c.if-not-branch.false c.in_ok-read_part.ensures.chosen c.closes.ensures.looked c.in_ok-read_part.ensures.begun c.closes.ensures.begun)

pub read_below-returns-in-Line-clause-begun : goal.read_below-returns-in-Line-clause-begun
read_below-returns-in-Line-clause-begun t c = look_same c.args.self.now.looked c.args.self.now.looked c.args.self.now.cursor _ (omega arith)

pub read_below-returns-in-Each-clause-begun : goal.read_below-returns-in-Each-clause-begun
read_below-returns-in-Each-clause-begun t c = look_same c.args.self.now.looked c.args.self.now.looked c.args.self.now.cursor _ (omega arith)

pub read_below-returns-in-Empty-clause-begun : goal.read_below-returns-in-Empty-clause-begun
read_below-returns-in-Empty-clause-begun t c = look_same c.args.self.now.looked c.args.self.now.looked c.args.self.now.cursor _ (omega arith)

pub read_below-returns-in-Note-clause-begun : goal.read_below-returns-in-Note-clause-begun
read_below-returns-in-Note-clause-begun t c = look_same c.args.self.now.looked c.args.self.now.looked c.args.self.now.cursor _ (omega arith)

pub read_below-returns-in-NoteAlways-clause-begun : goal.read_below-returns-in-NoteAlways-clause-begun
read_below-returns-in-NoteAlways-clause-begun t c = look_same c.args.self.now.looked c.args.self.now.looked c.args.self.now.cursor _ (omega arith)

pub read_below-returns-in-Use-clause-begun : goal.read_below-returns-in-Use-clause-begun
read_below-returns-in-Use-clause-begun t c = look_same c.args.self.now.looked c.args.self.now.looked c.args.self.now.cursor _ (omega arith)

pub read_below-returns-in-Code-clause-begun : goal.read_below-returns-in-Code-clause-begun
read_below-returns-in-Code-clause-begun t c = look_same c.args.self.now.looked c.args.self.now.looked c.args.self.now.cursor _ (omega arith)

pub read_below-returns-in-Entries-clause-begun : goal.read_below-returns-in-Entries-clause-begun
read_below-returns-in-Entries-clause-begun t c = look_same c.args.self.now.looked c.args.self.now.looked c.args.self.now.cursor _ (omega arith)

pub read_below-returns-in-One-clause-begun : goal.read_below-returns-in-One-clause-begun
read_below-returns-in-One-clause-begun t c =
    let old = c.args.self.now in
    on_ok_weaker c.read_class.result
    (λ x. below_begun c.args.step (step.One c.in-One.class) old c.read_class.new.self c.in-One.is
    (look_as old.looked c.read_class.new.self.looked old.cursor (MemberStarts old.prefix.now c.in-One.class) (Starts old.prefix.now (below_step (step.One c.in-One.class))) (one_below old.prefix.now c.in-One.class) x)) c.read_class.ensures.begun

pub read_below-returns-in-Optional-clause-begun : goal.read_below-returns-in-Optional-clause-begun
read_below-returns-in-Optional-clause-begun t c = on_ok_weaker c.read_optional.result (λ x. below_begun c.args.step (step.Optional c.in-Optional.class) c.args.self.now c.read_optional.new.self c.in-Optional.is x) c.read_optional.ensures.begun

pub read_below-returns-in-Many-clause-begun : goal.read_below-returns-in-Many-clause-begun
read_below-returns-in-Many-clause-begun t c = on_ok_weaker c.read_many.result (λ x. below_begun c.args.step (step.Many c.in-Many.class) c.args.self.now c.read_many.new.self c.in-Many.is x) c.read_many.ensures.begun

pub read_below-returns-in-Some-clause-begun : goal.read_below-returns-in-Some-clause-begun
read_below-returns-in-Some-clause-begun t c = on_ok_weaker c.read_some.result (λ x. below_begun c.args.step (step.Some c.in-Some.class) c.args.self.now c.read_some.new.self c.in-Some.is x) c.read_some.ensures.begun

pub read_below-returns-in-Pairs-clause-begun : goal.read_below-returns-in-Pairs-clause-begun
read_below-returns-in-Pairs-clause-begun t c = on_ok_weaker c.read_pairs.result (λ x. below_begun c.args.step (step.Pairs c.in-Pairs.first c.in-Pairs.second) c.args.self.now c.read_pairs.new.self c.in-Pairs.is x) c.read_pairs.ensures.begun
