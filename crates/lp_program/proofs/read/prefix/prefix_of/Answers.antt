use Rattle.std.proofs.Common.{◌++◌, List, ℕ, codes, refl, arith, sym, ap, ◌∙◌}
use Rattle.std.proofs.lemmas.Str.Pattern.{starts_text}
use Rattle.lp_spelling.specs.Cursors.{left}
use Rattle.lp_program.specs.Prefixes.{renaming}
use Rattle.lp_program.proofs.Prefixes.{cursor_text, line_there, name_answered, not_starts, same_end, same_line, same_use, shows_no_use, shows_none}
use Rattle.lp_program.proofs.read.prefix.prefix_of.Goals as goal
use Rattle.lp_program.proofs.read.prefix.prefix_of.Goals.{then-starts_with+in-Some-take_use, else-starts_with+in_default-strip_prefix}

-- nothing is left that counts; what begins as a use is none
pub returns-in_default-clause-exact : goal.returns-in_default-clause-exact
returns-in_default-clause-exact c = λ prefix x. shows_none prefix (left c.loop-i.cursor) c.in_default.ensures (c.loop-i.invariant.shows.back prefix x)

pub returns-in-None-clause-exact : goal.returns-in-None-clause-exact
returns-in-None-clause-exact c = λ prefix x.
    let line = c.in-Some.line.now in
    let begins = sym (starts_text c.starts_with.result (codes "use ") line c.starts_with.ensures.cases) ∙ c.if-starts_with.true in
    shows_no_use prefix (left c.loop-i.cursor) line _ (line_there line (left c.loop-i.cursor) _ c.in-Some.ensures.0 c.in-Some.ensures.1 refl) begins c.in-None.ensures.exact (c.loop-i.invariant.shows.back prefix x)

-- a line that begins as one that renames the crate
pub returns-in-Some-strip_prefix-clause-exact : goal.returns-in-Some-strip_prefix-clause-exact
returns-in-Some-strip_prefix-clause-exact c =
    let line = c.in-Some.line.now in
    let off = c.in-Some-strip_prefix.ensures.cases in
    name_answered c.args.text.now (left c.loop-i.cursor) line _ c.in-Some-strip_prefix.shown.now c.loop-i._i c.prefix_in.result c.loop-i.invariant.shows
    (line_there line (left c.loop-i.cursor) _ c.in-Some.ensures.0 c.in-Some.ensures.1 refl) (off.1.1 ∙ ap (λ (x : List ℕ). renaming ++ x) (sym off.2)) c.prefix_in.ensures.exact c.prefix_in.ensures.fits

-- a use, or another line, is passed over
pub loop-i-preserved : goal.loop-i-preserved
loop-i-preserved c =
    let text = c.args.text.now in
    let there = left c.loop-i.cursor in
    let line = c.in-Some.line.now in
    let utf8 = cursor_text c.loop-i.cursor text c.loop-i.invariant.same c.utf8.text in
    elim c.if-starts_with.branch [
      | then-starts_with+in-Some-take_use w ↦
          let taken = w.in-Some-take_use.ensures in
          rw w.cursor-is (record {
            same = taken.takes.0 ∙ c.loop-i.invariant.same;
            shows = same_use text there w.in-Some-take_use.taken.text.now (left w.in-Some-take_use.taken.next) c.loop-i._i utf8 c.loop-i.invariant.shows taken.exact.0 taken.exact.1;
          })
      | else-starts_with+in_default-strip_prefix w ↦
          let other = sym (starts_text c.starts_with.result (codes "use ") line c.starts_with.ensures.cases) ∙ w.if-starts_with.false in
          let next = w.after_line-cursor in
          rw w.cursor-is (record {
            same = next.ensures.text ∙ c.loop-i.invariant.same;
            shows = same_line text there line (left next.result) c.loop-i._i utf8 c.loop-i.invariant.shows
                (line_there line there (left next.result) c.in-Some.ensures.0 c.in-Some.ensures.1 next.ensures.rest) other (not_starts renaming line w.in_default-strip_prefix.ensures.cases);
          })
    ]

pub returns-clause-exact : goal.returns-clause-exact
returns-clause-exact c = λ prefix x. same_end prefix c.args.text.now (left c.loop-i.cursor) c.loop-i._i c.loop-i.invariant.shows (omega arith) x
