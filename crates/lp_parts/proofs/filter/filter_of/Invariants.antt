-- The grammar, and the free variables of the types so far.
use Rattle.std.proofs.Common.{◌≡◌, take}
use Rattle.lp_parts.specs.Filter.{free_in_types}
use Rattle.lp_parts.proofs.filter.filter_of.Given as goal

abbrev pub invariant-loop-ty : goal.invariant-loop-ty
invariant-loop-ty l = record {
  grammar : l.filter.grammar.now ≡ l.grammar;
  referenced : l.filter.referenced.items ≡ free_in_types l.grammar (take l.ty-index l.types);
}
