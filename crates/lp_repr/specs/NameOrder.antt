-- The orders of names by which a map keeps them.
use Rattle.std.specs.declared.cmp.Ordering.{Ordering}
use Rattle.lp_repr.specs.declared.repr.NonterminalString.{NonterminalString}
use Rattle.lp_repr.specs.declared.repr.TerminalString.{TerminalString}
use Rattle.lp_repr.specs.contracts.repr.NonterminalStringOrd.TheImpl as nonterminal_ord
use Rattle.lp_repr.specs.contracts.repr.TerminalStringOrd.TheImpl as terminal_ord

-- of nonterminals
abbrev pub nonterminal_cmp : NonterminalString → NonterminalString → Ordering
nonterminal_cmp = (nonterminal_ord.ghosts).cmp

-- of terminals
abbrev pub terminal_cmp : TerminalString → TerminalString → Ordering
terminal_cmp = (terminal_ord.ghosts).cmp
