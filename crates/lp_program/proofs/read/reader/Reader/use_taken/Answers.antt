use Rattle.std.proofs.Common.{length, arith}
use Rattle.lp_form.specs.Templates.{holes_of}
use Rattle.lp_program.specs.Telling.{told}
use Rattle.lp_program.specs.Nearby.{next_number}
use Rattle.lp_program.proofs.Begun.{look_same}
use Rattle.lp_program.proofs.CutBegun.{no_use_begun}
use Rattle.lp_program.proofs.OwnBegun.{no_use_first}
use Rattle.lp_program.proofs.UseBegun.{use_begun}
use Rattle.lp_program.proofs.Telling.{blank_not, blank_part, use_told, no_use_told}
use Rattle.lp_program.proofs.read.reader.Reader.use_taken.Goals as goal

pub use_step-requires : goal.use_step-requires
use_step-requires c =
    let blank = blank_part (length (holes_of c.args.growing.now.part)) (length c.args.growing.now.holes.items) _ c.is_blank_part.ensures c.if-not-is_blank_part.false in
    record { kinds = blank.0; first = blank.1 }

pub returns-then-not-is_blank_part-clause-tells : goal.returns-then-not-is_blank_part-clause-tells
returns-then-not-is_blank_part-clause-tells c =
    λ n le far text like new rest t. blank_not (length (holes_of c.args.growing.now.part)) (length c.args.growing.now.holes.items) _ c.is_blank_part.ensures c.if-not-is_blank_part.true t.bare t.first

pub returns-in-Some : goal.returns-in-Some
returns-in-Some c =
    let step = rw c.in-Some.is at c.in_ok-place.ensures in
    record {
      takes = λ count pieces. record { grows = step.grows c.args.self.now.prefix.now; takes = step.takes };
      tells = λ n le far text like. use_told n c.args.self.now.cursor c.in-Some.place text c.args.growing.now.part (told c.args.growing.now) _ step.tells step.same le far like;
      begun = λ count pieces. use_begun c.args.self.now.prefix.now c.args.growing.now c.use_step.new.growing count pieces c.args.self.now.cursor c.in-Some.place step.same step.tells;
    }

pub returns-else-not-is_use_first-clause-tells : goal.returns-else-not-is_use_first-clause-tells
returns-else-not-is_use_first-clause-tells c =
    let step = rw c.in-None.is at c.in_ok-place.ensures in
    λ n le far text like. no_use_told n c.args.self.now.cursor text c.args.growing.now.part (told c.args.growing.now) _ _ _ step.tells c.start.ensures.start c.saturating_add-from.ensures c.cut_line.ensures le far like

-- the next line begins no use
pub returns-then-not-is_use_first-clause-tells : goal.returns-then-not-is_use_first-clause-tells
returns-then-not-is_use_first-clause-tells c =
    λ n le far text like new rest t. no_use_first n c.args.self.now.cursor text c.args.growing.now.part (told c.args.growing.now) new rest _ c.is_use_first.ensures c.if-not-is_use_first.true le like t

-- what the lines begin that were looked at
pub returns-then-not-is_blank_part-clause-begun : goal.returns-then-not-is_blank_part-clause-begun
returns-then-not-is_blank_part-clause-begun c = λ count pieces. look_same (next_number c.args.self.now.cursor) 0 c.args.self.now.cursor _ (omega arith)

pub returns-then-not-is_use_first-clause-begun : goal.returns-then-not-is_use_first-clause-begun
returns-then-not-is_use_first-clause-begun c = λ count pieces. look_same (next_number c.args.self.now.cursor) 0 c.args.self.now.cursor _ (omega arith)

pub returns-else-not-is_use_first-clause-begun : goal.returns-else-not-is_use_first-clause-begun
returns-else-not-is_use_first-clause-begun c =
    let blank = blank_part (length (holes_of c.args.growing.now.part)) (length c.args.growing.now.holes.items) _ c.is_blank_part.ensures c.if-not-is_blank_part.false in
    λ count pieces.
    no_use_begun c.args.self.now.prefix.now c.args.growing.now count pieces c.args.self.now.cursor _ _ _ _ blank.0 blank.1 c.is_use_first.ensures c.if-not-is_use_first.false c.start.ensures.start
    c.saturating_add-from.ensures c.cut_line.ensures
