use Rattle.std.proofs.Common.{ℕ, ◌<◌, IsTrue}
use Rattle.lp_tok.specs.Signs.{line_feed}
use Rattle.lp_texts.specs.Names.{stands}
use Rattle.lp_texts.proofs.names.nonterminal_fault.Given as goal

abbrev pub invariant-loop-i : goal.invariant-loop-i
invariant-loop-i l = (j : ℕ) → j < l.i → IsTrue (stands line_feed l.text j) → ⊥
