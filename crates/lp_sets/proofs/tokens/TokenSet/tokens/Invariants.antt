use Rattle.std.proofs.Common.{◌≡◌, map, take}
use Rattle.lp_repr.specs.declared.lr1.Token.TheVariants.{Terminal}
use Rattle.lp_sets.proofs.tokens.TokenSet.tokens.Given as goal

-- the numbers so far, as terminals
abbrev pub invariant-loop-number : goal.invariant-loop-number
invariant-loop-number l = l.tokens.items ≡ map Terminal (take l.number-index l.number-items)
