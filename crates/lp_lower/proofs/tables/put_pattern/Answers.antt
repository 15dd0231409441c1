use Rattle.std.proofs.Common.{map, ap, ◌∙◌}
use Rattle.std.specs.BTreeMap.{insert_entry}
use Rattle.lp_repr.specs.NameOrder.{terminal_cmp}
use Rattle.lp_lower.specs.Lowering.{pattern_tree, pattern_entry}
use Rattle.lp_lower.proofs.Putting.{insert_entry-map}
use Rattle.lp_lower.proofs.tables.put_pattern.Goals as goal

pub returns : goal.returns
returns c =
    let old = map pattern_entry c.args.patterns.now.entries in
    let name = c.in_ok-name.name in
    let pattern = c.in_ok-pattern.pattern in
    ap (map pattern_entry) c.in_ok-insert.ensures.entries
    ∙ (insert_entry-map terminal_cmp pattern_tree c.args.patterns.now.entries name pattern
    ∙ (ap (λ k. insert_entry terminal_cmp old k (pattern_tree pattern)) c.in_ok-name.ensures ∙ ap (insert_entry terminal_cmp old c.args.terminal.now.name) c.in_ok-pattern.ensures))
