use Rattle.std.proofs.Common.{◌≡◌, ◌++◌, length}
use Rattle.std.specs.BTreeMap.{values}
use Rattle.lp_repr.specs.Numbering.{firsts_from}
use Rattle.lp_repr.proofs.numbering.first_productions.Given as goal

-- the numbers so far and those to come
abbrev pub invariant-loop-data : goal.invariant-loop-data
invariant-loop-data l =
    l.firsts.items ++ firsts_from (length l.before.items) l.data-iterator ≡ firsts_from 0 (values l.grammar.nonterminals)
