-- One more token line, or the first line that is none, or the 65th.
use Rattle.std.proofs.Common.{sym, ◌∙◌, arith}
use Rattle.lp_lines.specs.TokenLines.{line_of}
use Rattle.lp_lines.proofs.Each.{all_some_more}
use Rattle.lp_lines.proofs.Lines.{misfit_here, misfit_late}
use Rattle.lp_lines.proofs.vocabulary.Vocabulary.lines.Goals as goal

pub returns-then-index-eq-MOST_LINES-clause-refused :
    goal.returns-then-index-eq-MOST_LINES-clause-refused
returns-then-index-eq-MOST_LINES-clause-refused c =
    misfit_late (λ line. line_of c.args.self.now line.now) c.args.lines.now c.loop-index.index c.loop-index.list.items c.loop-index-test.true c.loop-index.invariant.1 c.if-index-eq-MOST_LINES.true

pub returns-in-None-clause-refused : goal.returns-in-None-clause-refused
returns-in-None-clause-refused c =
    misfit_here (λ line. line_of c.args.self.now line.now) c.args.lines.now c.loop-index.index _ c.loop-index.list.items c.loop-index-test.true c.loop-index.invariant.1 (sym c.in_ok-line.ensures ∙ c.in-None.is)

pub loop-index-preserved : goal.loop-index-preserved
loop-index-preserved c =
    (omega (arith, c.loop-index.invariant.0), all_some_more (λ line. line_of c.args.self.now line.now) c.args.lines.now c.loop-index.index _ c.loop-index.list.items c.in-Some.token_line c.push.new.self.items c.loop-index-test.true (sym c.in_ok-line.ensures ∙ c.in-Some.is) c.loop-index.invariant.1 c.in_ok-push-in-Some.ensures.items)
