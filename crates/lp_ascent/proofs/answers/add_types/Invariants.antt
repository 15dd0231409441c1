-- The grammar, and the free variables so far with those of the types that are left.
use Rattle.std.proofs.Common.{◌≡◌, ◌++◌}
use Rattle.std.specs.BTreeMap.{values}
use Rattle.lp_parts.specs.Filter.{free_in_types}
use Rattle.lp_ascent.proofs.answers.add_types.Given as goal

abbrev pub invariant-loop-ty : goal.invariant-loop-ty
invariant-loop-ty l = record {
  grammar : l.filter.grammar.now ≡ l.initial.filter.grammar.now;
  referenced : l.filter.referenced.items ++ free_in_types l.initial.filter.grammar.now l.ty-iterator
      ≡ l.initial.filter.referenced.items ++ free_in_types l.initial.filter.grammar.now (values l.types);
}
