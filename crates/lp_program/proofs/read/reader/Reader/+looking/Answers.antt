use Rattle.std.proofs.Common.{Bool, get_or, arith, rules, refl, ap, sym, ◌∙◌, ◌+◌, subst}
use Rattle.std.proofs.lemmas.List.{get_or_default}
use Rattle.lp_form.specs.Templates.{steps_of}
use Rattle.lp_form.specs.declared.part.Part.TheVariants as part
use Rattle.lp_spelling.specs.Cursors.{left}
use Rattle.lp_program.specs.declared.read.reader.Reader.{Reader}
use Rattle.lp_program.proofs.Beginning.{kept_then, deep_of, start_of, line_of, quiet_of, is_quiet, refused_of, use_of, seen_of, one_of, nothing_of, end_of, step_drop}
use Rattle.lp_program.proofs.Begun.{look_next, look_same, member_begun}
use Rattle.lp_program.proofs.Looked.{AheadBegun, ahead_start, ahead_over, ahead_line, ahead_quiet, ahead_one}
use Rattle.lp_program.proofs.Looking.{member_at, same_place}
use Rattle.lp_program.proofs.Picking.{none_of, more_of, picked_of, no_pick_of}
use Rattle.lp_program.proofs.read.reader.Reader.+looking.Goals as goal
use Rattle.lp_program.proofs.read.reader.Reader.+looking.Goals.{begins-then-lines, begins-else-lines+in_ok-pick-in-One, begins-in-Line+in_ok-line_fits-in-Line+else-not-branch, begins-in-Empty, begins-in-Note, begins-in-NoteAlways}

pub begins-returns-then-depth-eq0-clause-exact : goal.begins-returns-then-depth-eq0-clause-exact
begins-returns-then-depth-eq0-clause-exact t c = deep_of c.args.depth c.args.self.now.prefix.now c.args.part c.args.self.now.looked c.args.self.now.cursor (omega arith)

-- the line in front isn't the step's
pub begins-returns-then-not-branch-clause-exact : goal.begins-returns-then-not-branch-clause-exact
begins-returns-then-not-branch-clause-exact t c =
    let old = c.args.self.now in
    let at = c.loop-step in
    refused_of c.args.depth old.prefix.now _ _ c.args.part at.self.looked c.look_at.new.self.looked old.cursor at.cursor c.steps-step-items.result.now at.step-index _ at.lines at.known.items _ _ _
    at.invariant.asks c.look_at.ensures.looked (omega (arith, c.number.ensures, c.look_at.ensures.at)) c.steps-step-items.ensures c.loop-step-test.true c.in-Line.is c.scope-scope.ensures.prefix c.scope-scope.ensures.kinds c.if-not-branch.true c.in_ok-line_fits-in-Line.ensures

pub begins-returns-in-Use-clause-exact : goal.begins-returns-in-Use-clause-exact
begins-returns-in-Use-clause-exact t c =
    let old = c.args.self.now in
    let at = c.loop-step in
    use_of c.args.depth old.prefix.now c.args.part at.self.looked c.begins_use.new.self.looked old.cursor at.cursor c.steps-step-items.result.now at.step-index _ at.lines at.known.items c.begins_use.result
    at.invariant.asks c.begins_use.ensures.looked c.steps-step-items.ensures c.loop-step-test.true c.in-Use.is c.begins_use.ensures.exact

-- a part of the class begins, unless a line was read
pub begins-returns-in-One-clause-exact : goal.begins-returns-in-One-clause-exact
begins-returns-in-One-clause-exact t c =
    let old = c.args.self.now in
    let at = c.loop-step in
    elim c.if-lines.branch [
      | begins-then-lines w ↦
          rw w.self-is
          (seen_of c.args.depth old.prefix.now c.args.part at.self.looked old.cursor at.cursor c.steps-step-items.result.now at.step-index _ at.lines at.known.items c.in-One.class _
          at.invariant.asks c.steps-step-items.ensures c.loop-step-test.true c.in-One.is w.if-lines.true (w.result-is ∙ w.if-lines.true))
      | begins-else-lines+in_ok-pick-in-One w ↦
          rw w.self-is
          (one_of c.args.depth old.prefix.now at.self.prefix.now c.args.part at.self.looked w.pick.new.self.looked old.cursor at.cursor at.self.cursor c.steps-step-items.result.now at.step-index _ at.lines at.known.items c.in-One.class _ _
          at.invariant.asks w.in_ok-pick-in-One.ensures.looked c.steps-step-items.ensures c.loop-step-test.true c.in-One.is w.if-lines.false (w.result-is ∙ w.is_some.ensures)
          (ap (λ (r : Reader). r.prefix.now) at.invariant.kept) (ap (λ (r : Reader). r.cursor) at.invariant.kept) w.in_ok-pick-in-One.ensures.exact)
    ]

pub begins-returns-in_default : goal.begins-returns-in_default
begins-returns-in_default t c =
    let old = c.args.self.now in
    let at = c.loop-step in
    let d = c.in_default in
    record {
      kept = at.invariant.kept;
      looked = at.invariant.looked;
      exact = nothing_of c.args.depth old.prefix.now c.args.part at.self.looked old.cursor at.cursor c.steps-step-items.result.now at.step-index _ at.lines at.known.items
          at.invariant.asks c.steps-step-items.ensures c.loop-step-test.true d.not-Line d.not-Empty d.not-Note d.not-NoteAlways d.not-One d.not-Use;
      begun = at.invariant.ahead.begun;
    }

pub begins-returns-clause-exact : goal.begins-returns-clause-exact
begins-returns-clause-exact t c =
    let old = c.args.self.now in
    let at = c.loop-step in
    end_of c.args.depth old.prefix.now c.args.part at.self.looked old.cursor at.cursor c.steps-step-items.result.now at.step-index at.lines at.known.items
    at.invariant.asks c.steps-step-items.ensures (omega arith)

pub pick-returns-then-branch-clause-member : goal.pick-returns-then-branch-clause-member
pick-returns-then-branch-clause-member t c =
    let parts = c.members-part-items.result.now in
    member_at c.args.class parts c.loop-part.part-index (get_or parts c.loop-part.part-index part.Program) c.members-part-items.ensures (omega arith) (search (rules, get_or_default))

pub pick-returns-then-branch-clause-exact : goal.pick-returns-then-branch-clause-exact
pick-returns-then-branch-clause-exact t c =
    let old = c.args.self.now in
    let at = c.loop-part in
    picked_of c.args.depth old.prefix.now at.self.prefix.now c.args.class at.self.looked c.begins.new.self.looked old.cursor at.self.cursor c.members-part-items.result.now at.part-index _ _
    at.invariant.none c.in_ok-begins.ensures.looked c.members-part-items.ensures c.loop-part-test.true (ap (λ (r : Reader). r.prefix.now) at.invariant.kept) (ap (λ (r : Reader). r.cursor) at.invariant.kept) c.if-branch.true
    c.in_ok-begins.ensures.exact

pub pick-returns-clause-exact : goal.pick-returns-clause-exact
pick-returns-clause-exact t c =
    let old = c.args.self.now in
    let at = c.loop-part in
    no_pick_of c.args.depth old.prefix.now c.args.class at.self.looked old.cursor c.members-part-items.result.now at.part-index at.invariant.none c.members-part-items.ensures (omega arith)

-- before the first step, and behind one that decides nothing
pub begins-loop-step-init : goal.begins-loop-step-init
begins-loop-step-init t c =
    let old = c.args.self.now in
    record {
      kept = refl;
      looked = omega arith;
      asks = start_of c.args.depth old.prefix.now c.args.part old.looked old.cursor c.new-known.result.items (omega arith) c.new-known.ensures.items;
      ahead = ahead_start old.prefix.now c.args.part c.new-known.result.items old c.new-known.ensures.items;
    }

pub begins-loop-step-preserved : goal.begins-loop-step-preserved
begins-loop-step-preserved t c =
    let old = c.args.self.now in
    let at = c.loop-step in
    let items = c.steps-step-items.result.now in
    let pre = old.prefix.now in
    let next = c.match-step.cursor in
    let known = c.match-step.known.items in
    elim c.match-step.branch [
      | begins-in-Line+in_ok-line_fits-in-Line+else-not-branch w ↦
          rw w.self-is
          (record {
            kept = kept_then old at.self _ at.invariant.kept w.look_at.ensures.kept;
            looked = omega (arith, at.invariant.looked, w.look_at.ensures.looked);
            asks = line_of c.args.depth pre _ _ c.args.part at.self.looked w.look_at.new.self.looked old.cursor at.cursor next items at.step-index _ at.lines c.match-step.lines at.known.items known _ _ at.invariant.asks
                w.look_at.ensures.looked (omega (arith, w.number.ensures, w.look_at.ensures.at)) c.steps-step-items.ensures c.loop-step-test.true w.in-Line.is
                c.scope-scope.ensures.prefix c.scope-scope.ensures.kinds w.if-not-branch.false (rw (sym (ap (λ v. v.items) w.known-is)) at w.in_ok-line_fits-in-Line.ensures)
                (ap (λ x. x.text.now) w.cursor-is ∙ w.after_line-cursor.ensures.text) (ap (λ x. left x) w.cursor-is ∙ w.after_line-cursor.ensures.rest) w.lines-is;
            ahead = subst (λ (o : Bool). AheadBegun pre c.args.part (at.step-index + 1) o known old w.look_at.new.self.looked next) (sym w.lines-is)
                (ahead_line pre _ _ c.args.part at.step-index at.lines _ _ _ at.known.items known _ old at.self.looked w.look_at.new.self.looked at.cursor next at.invariant.ahead w.look_at.ensures.looked
                (omega (arith, w.number.ensures, w.look_at.ensures.at)) (λ lt. omega (arith, w.look_at.ensures.new_is lt, w.number.ensures)) (step_drop items (steps_of c.args.part) at.step-index _ c.steps-step-items.ensures c.loop-step-test.true)
                w.in-Line.is c.scope-scope.ensures.prefix c.scope-scope.ensures.kinds w.if-not-branch.false (rw (sym (ap (λ v. v.items) w.known-is)) at w.in_ok-line_fits-in-Line.ensures)
                (ap (λ x. x.text.now) w.cursor-is ∙ w.after_line-cursor.ensures.text) (ap (λ x. left x) w.cursor-is ∙ w.after_line-cursor.ensures.rest));
          })
      | begins-in-Empty w ↦
          rw w.self-is
          (record {
            kept = at.invariant.kept;
            looked = at.invariant.looked;
            asks = quiet_of c.args.depth pre c.args.part at.self.looked old.cursor at.cursor next items at.step-index _ at.lines c.match-step.lines at.known.items known
                at.invariant.asks c.steps-step-items.ensures c.loop-step-test.true (ap is_quiet w.in-Empty.is) w.lines-is (ap (λ v. v.items) w.known-is) w.cursor-is;
            ahead = ahead_quiet pre c.args.part at.step-index at.lines c.match-step.lines _ _ at.known.items known old at.self.looked at.cursor next at.invariant.ahead
                (step_drop items (steps_of c.args.part) at.step-index _ c.steps-step-items.ensures c.loop-step-test.true) (ap is_quiet w.in-Empty.is) w.lines-is (ap (λ v. v.items) w.known-is) w.cursor-is;
          })
      | begins-in-Note w ↦
          rw w.self-is
          (record {
            kept = at.invariant.kept;
            looked = at.invariant.looked;
            asks = quiet_of c.args.depth pre c.args.part at.self.looked old.cursor at.cursor next items at.step-index _ at.lines c.match-step.lines at.known.items known
                at.invariant.asks c.steps-step-items.ensures c.loop-step-test.true (ap is_quiet w.in-Note.is) w.lines-is (ap (λ v. v.items) w.known-is) w.cursor-is;
            ahead = ahead_quiet pre c.args.part at.step-index at.lines c.match-step.lines _ _ at.known.items known old at.self.looked at.cursor next at.invariant.ahead
                (step_drop items (steps_of c.args.part) at.step-index _ c.steps-step-items.ensures c.loop-step-test.true) (ap is_quiet w.in-Note.is) w.lines-is (ap (λ v. v.items) w.known-is) w.cursor-is;
          })
      | begins-in-NoteAlways w ↦
          rw w.self-is
          (record {
            kept = at.invariant.kept;
            looked = at.invariant.looked;
            asks = quiet_of c.args.depth pre c.args.part at.self.looked old.cursor at.cursor next items at.step-index _ at.lines c.match-step.lines at.known.items known
                at.invariant.asks c.steps-step-items.ensures c.loop-step-test.true (ap is_quiet w.in-NoteAlways.is) w.lines-is (ap (λ v. v.items) w.known-is) w.cursor-is;
            ahead = ahead_quiet pre c.args.part at.step-index at.lines c.match-step.lines _ _ at.known.items known old at.self.looked at.cursor next at.invariant.ahead
                (step_drop items (steps_of c.args.part) at.step-index _ c.steps-step-items.ensures c.loop-step-test.true) (ap is_quiet w.in-NoteAlways.is) w.lines-is (ap (λ v. v.items) w.known-is) w.cursor-is;
          })
    ]

-- before the first part, and behind one that isn't begun
pub pick-loop-part-init : goal.pick-loop-part-init
pick-loop-part-init t c = let old = c.args.self.now in record { kept = refl; looked = omega arith; none = none_of c.args.depth old.prefix.now c.args.class old.looked old.cursor; begun = look_same old.looked old.looked old.cursor _ (omega arith) }

pub pick-loop-part-preserved : goal.pick-loop-part-preserved
pick-loop-part-preserved t c =
    let old = c.args.self.now in
    let at = c.loop-part in
    let parts = c.members-part-items.result.now in
    let member = member_at c.args.class parts at.part-index (get_or parts at.part-index part.Program) c.members-part-items.ensures c.loop-part-test.true (search (rules, get_or_default)) in
    record {
      kept = kept_then old at.self _ at.invariant.kept c.in_ok-begins.ensures.kept;
      looked = omega (arith, at.invariant.looked, c.in_ok-begins.ensures.looked);
      none = more_of c.args.depth old.prefix.now at.self.prefix.now c.args.class at.self.looked c.begins.new.self.looked old.cursor at.self.cursor c.members-part-items.result.now at.part-index _ _
          at.invariant.none c.in_ok-begins.ensures.looked c.members-part-items.ensures c.loop-part-test.true (ap (λ (r : Reader). r.prefix.now) at.invariant.kept) (ap (λ (r : Reader). r.cursor) at.invariant.kept) c.if-branch.false
          c.in_ok-begins.ensures.exact;
      begun = member_begun c.args.class _ old at.self c.begins.new.self member (same_place old at.self at.invariant.kept at.invariant.looked) c.in_ok-begins.ensures.looked at.invariant.begun c.in_ok-begins.ensures.begun;
    }

-- looking again changes nothing but the line that is noted
pub begins-returns-then-not-branch-clause-kept : goal.begins-returns-then-not-branch-clause-kept
begins-returns-then-not-branch-clause-kept t c = kept_then c.args.self.now c.loop-step.self _ c.loop-step.invariant.kept c.look_at.ensures.kept

pub begins-returns-in-Use-clause-kept : goal.begins-returns-in-Use-clause-kept
begins-returns-in-Use-clause-kept t c = kept_then c.args.self.now c.loop-step.self _ c.loop-step.invariant.kept c.begins_use.ensures.kept

pub begins-returns-in-One-clause-kept : goal.begins-returns-in-One-clause-kept
begins-returns-in-One-clause-kept t c =
    let kept = c.loop-step.invariant.kept in
    elim c.if-lines.branch [
      | begins-then-lines w ↦ rw w.self-is kept
      | begins-else-lines+in_ok-pick-in-One w ↦ rw w.self-is (kept_then c.args.self.now c.loop-step.self _ kept w.in_ok-pick-in-One.ensures.kept)
    ]

pub begins-returns-in-One-clause-looked : goal.begins-returns-in-One-clause-looked
begins-returns-in-One-clause-looked t c =
    let looked = c.loop-step.invariant.looked in
    elim c.if-lines.branch [
      | begins-then-lines w ↦ rw w.self-is looked
      | begins-else-lines+in_ok-pick-in-One w ↦ rw w.self-is (omega (arith, looked, w.in_ok-pick-in-One.ensures.looked))
    ]

pub begins-returns-clause-kept : goal.begins-returns-clause-kept
begins-returns-clause-kept t c = c.loop-step.invariant.kept

pub pick-returns-then-branch-clause-kept : goal.pick-returns-then-branch-clause-kept
pick-returns-then-branch-clause-kept t c = kept_then c.args.self.now c.loop-part.self _ c.loop-part.invariant.kept c.in_ok-begins.ensures.kept

pub pick-returns-clause-kept : goal.pick-returns-clause-kept
pick-returns-clause-kept t c = c.loop-part.invariant.kept

-- what the lines that were looked at begin
pub begins-returns-then-depth-eq0-clause-begun : goal.begins-returns-then-depth-eq0-clause-begun
begins-returns-then-depth-eq0-clause-begun t c = look_same c.args.self.now.looked c.args.self.now.looked c.args.self.now.cursor _ (omega arith)

pub begins-returns-then-not-branch-clause-begun : goal.begins-returns-then-not-branch-clause-begun
begins-returns-then-not-branch-clause-begun t c =
    let old = c.args.self.now in
    let at = c.loop-step in
    ahead_over old.prefix.now c.args.part at.step-index at.lines at.known.items old at.self.looked c.look_at.new.self.looked at.cursor at.invariant.ahead c.look_at.ensures.looked
    (look_next at.self.looked c.look_at.new.self.looked at.cursor (λ lt. omega (arith, c.look_at.ensures.new_is lt, c.number.ensures)))

pub begins-returns-in-Use-clause-begun : goal.begins-returns-in-Use-clause-begun
begins-returns-in-Use-clause-begun t c =
    let old = c.args.self.now in
    let at = c.loop-step in
    ahead_over old.prefix.now c.args.part at.step-index at.lines at.known.items old at.self.looked c.begins_use.new.self.looked at.cursor at.invariant.ahead c.begins_use.ensures.looked c.begins_use.ensures.begun

pub begins-returns-in-One-clause-begun : goal.begins-returns-in-One-clause-begun
begins-returns-in-One-clause-begun t c =
    let old = c.args.self.now in
    let at = c.loop-step in
    elim c.if-lines.branch [
      | begins-then-lines w ↦ rw w.self-is at.invariant.ahead.begun
      | begins-else-lines+in_ok-pick-in-One w ↦
          rw w.self-is
          (ahead_one old.prefix.now c.args.part at.step-index at.lines _ c.in-One.class _ at.known.items old at.self w.pick.new.self.looked at.cursor at.invariant.ahead w.if-lines.false
          (step_drop c.steps-step-items.result.now (steps_of c.args.part) at.step-index _ c.steps-step-items.ensures c.loop-step-test.true) c.in-One.is (ap (λ (r : Reader). r.prefix.now) at.invariant.kept)
          (ap (λ (r : Reader). r.cursor) at.invariant.kept) w.in_ok-pick-in-One.ensures.looked w.in_ok-pick-in-One.ensures.begun)
    ]

pub begins-returns-clause-begun : goal.begins-returns-clause-begun
begins-returns-clause-begun t c = c.loop-step.invariant.ahead.begun

pub pick-returns-then-branch-clause-begun : goal.pick-returns-then-branch-clause-begun
pick-returns-then-branch-clause-begun t c =
    let old = c.args.self.now in
    let at = c.loop-part in
    let parts = c.members-part-items.result.now in
    let member = member_at c.args.class parts at.part-index (get_or parts at.part-index part.Program) c.members-part-items.ensures (omega arith) (search (rules, get_or_default)) in
    member_begun c.args.class _ old at.self c.begins.new.self member (same_place old at.self at.invariant.kept at.invariant.looked) c.in_ok-begins.ensures.looked at.invariant.begun c.in_ok-begins.ensures.begun

pub pick-returns-clause-begun : goal.pick-returns-clause-begun
pick-returns-clause-begun t c = c.loop-part.invariant.begun
