use Rattle.std.proofs.Common.{◌≡◌, true, take}
use Rattle.std.specs.List.{list_all}
use Rattle.lp_valid.specs.PrefixRules.{is_clear}
use Rattle.lp_valid.proofs.prefixes.+clear.Given as goal

abbrev pub invariant-are_clear-loop-ty : goal.invariant-are_clear-loop-ty
invariant-are_clear-loop-ty l = list_all (is_clear l.forbidden.prefix.now l.forbidden.types.now) (take l.ty-index l.types) ≡ true
