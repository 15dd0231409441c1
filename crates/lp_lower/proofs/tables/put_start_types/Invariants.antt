use Rattle.std.proofs.Common.{◌≡◌, map, drop}
use Rattle.std.specs.Prelude.{filter}
use Rattle.lp_repr.specs.NameOrder.{nonterminal_cmp}
use Rattle.lp_lower.specs.Lowering.{public_rules, start_type, type_entry}
use Rattle.lp_lower.specs.Productions.{put_all}
use Rattle.lp_lower.proofs.tables.put_start_types.Given as goal

-- what is put and what is to come
abbrev pub invariant-loop-rule : goal.invariant-loop-rule
invariant-loop-rule l =
    put_all nonterminal_cmp (map type_entry l.types.entries) (map (start_type l.plain) (filter (λ r. r.public) (drop l.rule-index l.plain.rules))) ≡ put_all nonterminal_cmp (map type_entry l.initial.types.entries) (map (start_type l.plain) (public_rules l.plain))
