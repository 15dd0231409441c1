use Rattle.std.proofs.Common.{◌≡◌, ◌++◌, map, take}
use Rattle.std.specs.BTreeMap.{keys}
use Rattle.std.specs.List.{flat_map}
use Rattle.lp_repr.specs.declared.lr1.Token.TheVariants.{Terminal}
use Rattle.lp_tables.proofs.reductions.tokens.Given as goal

abbrev pub invariant-loop-terminal : goal.invariant-loop-terminal
invariant-loop-terminal l = l.all.items ++ map Terminal l.terminal-iterator ≡ map Terminal (keys l.state.shifts)

abbrev pub invariant-loop-tokens : goal.invariant-loop-tokens
invariant-loop-tokens l = l.all.items ≡ l.initial.all.items ++ flat_map (λ r. r.0) (take l.tokens-index l.tokens-items)
