use Rattle.std.proofs.Common.{refl, ap, ◌∙◌}
use Rattle.std.specs.List.{flat_map}
use Rattle.lp_build.specs.Ascent.{but_header, header_parts}
use Rattle.lp_table.specs.Headers.{header_lines}
use Rattle.lp_ascent.specs.StateLines.{state_header}
use Rattle.lp_ascent.proofs.Headed.{header_kept, nothing_else}
use Rattle.lp_ascent.proofs.state.header_alone.Goals as goal

pub returns-clause-header : goal.returns-clause-header
unfolding state_header header_lines
returns-clause-header c =
    ap (flat_map header_parts) c.in_ok-nodes.ensures.items ∙ header_kept c.in_ok-head.head _ _ c.in_ok-head.ensures refl

pub returns-clause-arms : goal.returns-clause-arms
unfolding state_header header_lines
returns-clause-arms c =
    ap (flat_map but_header) c.in_ok-nodes.ensures.items ∙ nothing_else c.in_ok-head.head _ _ c.in_ok-head.ensures refl
