use Rattle.std.proofs.Common.{◌≡◌, [], map, drop}
use Rattle.std.specs.Prelude.{filter}
use Rattle.lp_repr.specs.NameOrder.{nonterminal_cmp}
use Rattle.lp_lower.specs.Lowering.{public_name, public_names}
use Rattle.lp_lower.specs.Productions.{put_all}
use Rattle.lp_lower.proofs.tables.public_names.Given as goal

-- what is put and what is to come
abbrev pub invariant-loop-rule : goal.invariant-loop-rule
invariant-loop-rule l =
    put_all nonterminal_cmp l.names.entries (map (public_name l.plain) (filter (λ r. r.public) (drop l.rule-index l.plain.rules))) ≡ put_all nonterminal_cmp [] (public_names l.plain)
