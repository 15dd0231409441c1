use Rattle.std.proofs.Common.{◌∙◌, sym, refl}
use Rattle.lp_states.proofs.Follows.{only_terminals, follow_passed, follow_stopped}
use Rattle.lp_states.proofs.closure.Closing.follow.Goals as goal
use Rattle.lp_states.proofs.closure.Closing.follow.Goals.{then-branch+in_ok-union, else-branch}

pub returns : goal.returns
returns c =
    let self = c.args.self.now in
    let p = c.args.production in
    let d = c.args.dot in
    let s = c.args.lookaheads.now in
    let begun = only_terminals c.new-follow.result c.new-follow.ensures _ _ (rw c.after-word.ensures at c.in_ok-add_first.ensures.terminals) refl in
    elim c.if-branch.branch [ then-branch+in_ok-union w ↦ rw (w.follow-is, w.in_ok-union.ensures.added) (follow_passed self.rules.all.items self.firsts.empty self.firsts.sets.items c.requires p d s _ begun (rw c.after-word.ensures at (sym c.in_ok-add_first.ensures.empty ∙ w.if-branch.true))) | else-branch w ↦ rw w.follow-is (follow_stopped self.rules.all.items self.firsts.empty self.firsts.sets.items c.requires p d s _ begun (rw c.after-word.ensures at (sym c.in_ok-add_first.ensures.empty ∙ w.if-branch.false))) ]
