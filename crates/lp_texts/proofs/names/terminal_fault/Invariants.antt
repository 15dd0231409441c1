use Rattle.std.proofs.Common.{ℕ, ◌<◌, IsTrue}
use Rattle.lp_texts.specs.Names.{is_wrong_terminal}
use Rattle.lp_texts.proofs.names.terminal_fault.Given as goal

abbrev pub invariant-loop-i : goal.invariant-loop-i
invariant-loop-i l = (j : ℕ) → j < l.i → IsTrue (is_wrong_terminal l.text j) → ⊥
