use Rattle.std.proofs.Common.{◌≡◌, slice_get}
use Rattle.std.specs.BTreeMap.{values}
use Rattle.lp_tables.proofs.tables.start_nonterminal.Given as goal

abbrev pub invariant-loop-name : goal.invariant-loop-name
invariant-loop-name l = slice_get l.name-iterator l.before ≡ slice_get (values l.grammar.start_nonterminals) l.start
