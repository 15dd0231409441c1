use Rattle.std.proofs.Common.{refl, map, arith}
use Rattle.std.proofs.lemmas.Result.{IfOk-weaker}
use Rattle.lp_form.specs.Templates.{piece}
use Rattle.lp_program.specs.Adding.{kids}
use Rattle.lp_form.specs.declared.template.Step.TheVariants as step
use Rattle.lp_program.specs.Nearby.{next_number}
use Rattle.lp_program.proofs.Adding.{own_as}
use Rattle.lp_program.proofs.Begun.{look_same}
use Rattle.lp_program.proofs.LinesBegun.{own_lines_begun}
use Rattle.lp_program.proofs.OwnBegun.{line_begun, own_begun_as}
use Rattle.lp_program.proofs.Telling.{own_line, own_lines_no, own_lines_yes, still_told, told_as}
use Rattle.lp_program.proofs.read.reader.Reader.own_taken.Goals as goal

pub returns-in_ok-next-in-Line-clause-tells : goal.returns-in_ok-next-in-Line-clause-tells
returns-in_ok-next-in-Line-clause-tells c =
    let self = c.args.self.now in
    own_line self.prefix.now c.scope.result.prefix.now c.scope.result.kinds.now c.args.growing.now c.line_step.new.growing (kids c.args.at self) c.args.step.0 _ (map piece c.args.step.1.now) self.cursor _ _
    c.in-Line.is c.scope.ensures.prefix c.scope.ensures.kinds c.or_misfit.ensures.either c.in_ok-next-in-Line.ensures.same c.in_ok-next-in-Line.ensures.tells

pub returns-then-not-all-clause-tells : goal.returns-then-not-all-clause-tells
returns-then-not-all-clause-tells c =
    let self = c.args.self.now in
    own_lines_no self.prefix.now c.scope-scope.result.prefix.now c.scope-scope.result.kinds.now c.args.growing.now c.lines_step.new.growing (kids c.args.at self) c.kids_of-count.result c.args.step.0 _ (map piece c.args.step.1.now) self.cursor _ _ _
    c.in-Each.is c.scope-scope.ensures.prefix c.scope-scope.ensures.kinds c.kids_of-count.ensures c.if-not-all.true c.number.ensures c.in_ok-place-in-Each.ensures.tells

pub returns-else-not-all-clause-tells : goal.returns-else-not-all-clause-tells
returns-else-not-all-clause-tells c =
    let self = c.args.self.now in
    own_lines_yes self.prefix.now c.scope-scope.result.prefix.now c.scope-scope.result.kinds.now c.args.growing.now c.lines_step.new.growing (kids c.args.at self) c.kids_of-count.result c.args.step.0 _ (map piece c.args.step.1.now) self.cursor _ _
    c.in-Each.is c.scope-scope.ensures.prefix c.scope-scope.ensures.kinds c.kids_of-count.ensures c.if-not-all.false c.in_ok-place-in-Each.ensures.tells

pub returns-in-Use : goal.returns-in-Use
returns-in-Use c =
    let self = c.args.self.now in
    record {
      takes = IfOk-weaker c.use_taken.result _ _ (λ r h. IfOk-weaker r _ _ (λ next x. own_as _ _ _ _ _ _ _ _ _ c.in-Use.is (x _ _)) h) c.use_taken.ensures.takes;
      tells = IfOk-weaker c.use_taken.result _ _ (λ r h. told_as self.prefix.now c.args.growing.now c.use_taken.new.growing (kids c.args.at self) c.args.step.0 _ (map piece c.args.step.1.now) self.cursor r c.in-Use.is h)
          c.use_taken.ensures.tells;
      begun = IfOk-weaker c.use_taken.result _ _ (λ r h. own_begun_as self.prefix.now c.args.growing.now (kids c.args.at self) c.args.step.0 step.Use (map piece c.args.step.1.now) self.cursor r c.in-Use.is (h _ _)) c.use_taken.ensures.begun;
    }

pub returns-in-Code : goal.returns-in-Code
returns-in-Code c =
    let self = c.args.self.now in
    record {
      takes = IfOk-weaker c.code_taken.result _ _ (λ r h. IfOk-weaker r _ _ (λ next x. own_as _ _ _ _ _ _ _ _ _ c.in-Code.is (x _ _)) h) c.code_taken.ensures.takes;
      tells = IfOk-weaker c.code_taken.result _ _ (λ r h. told_as self.prefix.now c.args.growing.now c.code_taken.new.growing (kids c.args.at self) c.args.step.0 _ (map piece c.args.step.1.now) self.cursor r c.in-Code.is h)
          c.code_taken.ensures.tells;
      begun = IfOk-weaker c.code_taken.result _ _ (λ r h. own_begun_as self.prefix.now c.args.growing.now (kids c.args.at self) c.args.step.0 step.Code (map piece c.args.step.1.now) self.cursor r c.in-Code.is (h _ _)) c.code_taken.ensures.begun;
    }

pub returns-in-Entries : goal.returns-in-Entries
returns-in-Entries c =
    let self = c.args.self.now in
    record {
      takes = IfOk-weaker c.entries_taken.result _ _ (λ r h. IfOk-weaker r _ _ (λ next x. own_as _ _ _ _ _ _ _ _ _ c.in-Entries.is (x _ _)) h) c.entries_taken.ensures.takes;
      tells = IfOk-weaker c.entries_taken.result _ _ (λ r h. told_as self.prefix.now c.args.growing.now c.entries_taken.new.growing (kids c.args.at self) c.args.step.0 _ (map piece c.args.step.1.now) self.cursor r c.in-Entries.is h)
          c.entries_taken.ensures.tells;
      begun = IfOk-weaker c.entries_taken.result _ _ (λ r h. own_begun_as self.prefix.now c.args.growing.now (kids c.args.at self) c.args.step.0 step.Entries (map piece c.args.step.1.now) self.cursor r c.in-Entries.is (h _ _)) c.entries_taken.ensures.begun;
    }

pub returns-in-Empty-clause-tells : goal.returns-in-Empty-clause-tells
returns-in-Empty-clause-tells c = still_told _ c.args.growing.now _ _ _ _ c.args.self.now.cursor c.in-Empty.is (λ text. (refl, refl))

pub returns-in-Note-clause-tells : goal.returns-in-Note-clause-tells
returns-in-Note-clause-tells c = still_told _ c.args.growing.now _ _ _ _ c.args.self.now.cursor c.in-Note.is (λ text. (refl, refl))

pub returns-in-NoteAlways-clause-tells : goal.returns-in-NoteAlways-clause-tells
returns-in-NoteAlways-clause-tells c = still_told _ c.args.growing.now _ _ _ _ c.args.self.now.cursor c.in-NoteAlways.is (λ text. (refl, refl))

pub returns-in-One-clause-tells : goal.returns-in-One-clause-tells
returns-in-One-clause-tells c = still_told _ c.args.growing.now _ _ _ _ c.args.self.now.cursor c.in-One.is (λ text. (refl, refl))

pub returns-in-Optional-clause-tells : goal.returns-in-Optional-clause-tells
returns-in-Optional-clause-tells c = still_told _ c.args.growing.now _ _ _ _ c.args.self.now.cursor c.in-Optional.is (λ text. (refl, refl))

pub returns-in-Many-clause-tells : goal.returns-in-Many-clause-tells
returns-in-Many-clause-tells c = still_told _ c.args.growing.now _ _ _ _ c.args.self.now.cursor c.in-Many.is (λ text. (refl, refl))

pub returns-in-Some-clause-tells : goal.returns-in-Some-clause-tells
returns-in-Some-clause-tells c = still_told _ c.args.growing.now _ _ _ _ c.args.self.now.cursor c.in-Some.is (λ text. (refl, refl))

pub returns-in-Pairs-clause-tells : goal.returns-in-Pairs-clause-tells
returns-in-Pairs-clause-tells c = still_told _ c.args.growing.now _ _ _ _ c.args.self.now.cursor c.in-Pairs.is (λ text. (refl, refl))

-- what the lines begin that were looked at
pub returns-in_ok-next-in-Line-clause-begun : goal.returns-in_ok-next-in-Line-clause-begun
returns-in_ok-next-in-Line-clause-begun c =
    let self = c.args.self.now in
    line_begun self.prefix.now c.scope.result.prefix.now c.scope.result.kinds.now c.args.growing.now c.line_step.new.growing (kids c.args.at self) _ c.args.step.0 (map piece c.args.step.1.now) self.cursor _ _
    c.in-Line.is c.scope.ensures.prefix c.scope.ensures.kinds c.or_misfit.ensures.either c.or_misfit.ensures.line c.in_ok-next-in-Line.ensures.same c.in_ok-next-in-Line.ensures.tells

pub returns-then-not-all-clause-begun : goal.returns-then-not-all-clause-begun
returns-then-not-all-clause-begun c =
    let self = c.args.self.now in
    own_lines_begun self.prefix.now c.scope-scope.result.prefix.now c.args.growing.now (kids c.args.at self) c.kids_of-count.result _ _ c.args.step.0 (map piece c.args.step.1.now) self.cursor c.in_ok-place-in-Each.place
    c.in-Each.is c.scope-scope.ensures.prefix c.kids_of-count.ensures c.number.ensures c.in_ok-place-in-Each.ensures.begun

pub returns-else-not-all-clause-begun : goal.returns-else-not-all-clause-begun
returns-else-not-all-clause-begun c =
    let self = c.args.self.now in
    own_lines_begun self.prefix.now c.scope-scope.result.prefix.now c.args.growing.now (kids c.args.at self) c.kids_of-count.result _ _ c.args.step.0 (map piece c.args.step.1.now) self.cursor c.in_ok-place-in-Each.place
    c.in-Each.is c.scope-scope.ensures.prefix c.kids_of-count.ensures refl c.in_ok-place-in-Each.ensures.begun

pub returns-in-Empty-clause-begun : goal.returns-in-Empty-clause-begun
returns-in-Empty-clause-begun c = let at = c.args.self.now.cursor in look_same (next_number at) (next_number at) at _ (omega arith)

pub returns-in-Note-clause-begun : goal.returns-in-Note-clause-begun
returns-in-Note-clause-begun c = let at = c.args.self.now.cursor in look_same (next_number at) (next_number at) at _ (omega arith)

pub returns-in-NoteAlways-clause-begun : goal.returns-in-NoteAlways-clause-begun
returns-in-NoteAlways-clause-begun c = let at = c.args.self.now.cursor in look_same (next_number at) (next_number at) at _ (omega arith)

pub returns-in-One-clause-begun : goal.returns-in-One-clause-begun
returns-in-One-clause-begun c = let at = c.args.self.now.cursor in look_same (next_number at) (next_number at) at _ (omega arith)

pub returns-in-Optional-clause-begun : goal.returns-in-Optional-clause-begun
returns-in-Optional-clause-begun c = let at = c.args.self.now.cursor in look_same (next_number at) (next_number at) at _ (omega arith)

pub returns-in-Many-clause-begun : goal.returns-in-Many-clause-begun
returns-in-Many-clause-begun c = let at = c.args.self.now.cursor in look_same (next_number at) (next_number at) at _ (omega arith)

pub returns-in-Some-clause-begun : goal.returns-in-Some-clause-begun
returns-in-Some-clause-begun c = let at = c.args.self.now.cursor in look_same (next_number at) (next_number at) at _ (omega arith)

pub returns-in-Pairs-clause-begun : goal.returns-in-Pairs-clause-begun
returns-in-Pairs-clause-begun c = let at = c.args.self.now.cursor in look_same (next_number at) (next_number at) at _ (omega arith)
