use Rattle.std.proofs.Common.{◌≡◌, ◌<◌, List, length, map, refl, sym, ap, ◌∙◌, arith}
use Rattle.std.proofs.Math.ListN.{get_or}
use Rattle.lp_repr.specs.NameOrder.{terminal_cmp}
use Rattle.lp_lower.specs.Lowering.{declared_type, type_entry}
use Rattle.lp_syntax.specs.declared.plain.PlainTerminal.{PlainTerminal}
use Rattle.lp_lower.proofs.Walking.{put_mapped, put_walk_end}
use Rattle.lp_lower.proofs.tables.put_declared_types.Goals as goal

pub loop-terminal-preserved : goal.loop-terminal-preserved
loop-terminal-preserved c =
    let g = c.args.plain.now in
    let t = c.terminal-item.result in
    let i = c.loop-terminal.terminal-index in
    let less : i < length g.conversions = omega (arith, ap length c.as_slice-terminal-items.ensures) in
    let at : get_or g.conversions i t ≡ t = ap (λ l. get_or l i t) (sym c.as_slice-terminal-items.ensures) ∙ sym c.terminal-item.is in
    put_mapped terminal_cmp (declared_type g) g.conversions i t less at (map type_entry c.loop-terminal.types.entries) _ _ c.in_ok-put_declared_type.ensures c.loop-terminal.invariant

pub returns : goal.returns
returns c =
    let g = c.args.plain.now in
    put_walk_end terminal_cmp (λ (ts : List PlainTerminal). map (declared_type g) ts) refl g.conversions c.loop-terminal.terminal-index (omega (arith, ap length c.as_slice-terminal-items.ensures)) (map type_entry c.loop-terminal.types.entries) _ c.loop-terminal.invariant
