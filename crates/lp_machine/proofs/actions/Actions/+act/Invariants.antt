use Rattle.std.proofs.Common.{◌≡◌, ◌+◌, ◌*◌, [], length, drop}
use Rattle.lp_machine.specs.ActionMeaning.{act, inline_from, after_calls}
use Rattle.lp_machine.proofs.actions.Actions.+act.Given as goal

abbrev pub decreases-act : goal.decreases-act
decreases-act l = 4 * l.depth

abbrev pub decreases-meaning_at : goal.decreases-meaning_at
decreases-meaning_at l = 4 * l.depth + 3

abbrev pub decreases-inline : goal.decreases-inline
decreases-inline l = 4 * l.depth + 2

abbrev pub decreases-inlined : goal.decreases-inlined
decreases-inlined l = 4 * l.depth + 1

-- what was called and given so far, and what the rest does
abbrev pub invariant-inline-loop-symbol : goal.invariant-inline-loop-symbol
invariant-inline-loop-symbol l = after_calls l.calls (inline_from (act l.self.params l.self.failing.now l.depth l.self.actions.now) l.outer l.args l.place l.i l.given (l.n + length l.calls) (drop l.symbol-index l.symbols)) ≡ inline_from (act l.self.params l.self.failing.now l.depth l.self.actions.now) l.outer l.args l.place 0 [] l.n l.symbols
