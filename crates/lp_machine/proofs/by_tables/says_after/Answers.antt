use Rattle.std.proofs.Common.{◌≡◌, ◌+◌, ◌-◌, suc, Some, sym, ◌∙◌, arith}
use Rattle.lp_machine.specs.TablesView.{tables_of}
use Rattle.lp_machine.specs.TableAnswers.{looks_again}
use Rattle.lp_machine.proofs.Trials.{one_look}
use Rattle.lp_machine.proofs.by_tables.says_after.Goals as goal

pub loop-looked-preserved : goal.loop-looked-preserved
loop-looked-preserved c =
    let t = tables_of c.args.tables.now in
    let look : looks_again t (Some c.args.terminal) c.loop-looked.says ≡ Some c.in-Some.next = sym c.in_ok-looks_again.ensures ∙ c.in-Some.is in
    let left : c.args.n - c.loop-looked.looked ≡ suc (c.args.n - (c.loop-looked.looked + 1)) = omega arith in
    sym (one_look t (Some c.args.terminal) (c.args.n - c.loop-looked.looked) (c.args.n - (c.loop-looked.looked + 1)) c.loop-looked.says c.in-Some.next left look) ∙ c.loop-looked.invariant
