use Rattle.std.proofs.Common.{◌≡◌, cond, [], ◌∷◌, ◌++◌, map, ap, ◌∙◌}
use Rattle.std.specs.BTreeMap.{insert_entry}
use Rattle.lp_repr.specs.NameOrder.{terminal_cmp}
use Rattle.lp_repr.specs.declared.repr.TerminalString.TheVariants.{Error}
use Rattle.lp_lower.specs.Lowering.{declared_type, type_entry}
use Rattle.lp_lower.specs.Productions.{put_all}
use Rattle.lp_lower.specs.TypeOf.{recovery_tree}
use Rattle.lp_lower.specs.declared.frame.Frame.{Frame}
use Rattle.lp_lower.proofs.Putting.{put_last}
use Rattle.lp_lower.proofs.tables.terminal_types.Goals as goal

pub returns : goal.returns
returns c =
    let g = c.args.plain.now in
    let types = map (declared_type g) g.conversions in
    let declared = map type_entry c.put_declared_types.new.types.entries in
    let are : declared ≡ put_all terminal_cmp [] types = c.in_ok-put_declared_types.ensures ∙ ap (λ es. put_all terminal_cmp (map type_entry es) types) c.new-types.ensures.empty in
    put_last terminal_cmp types Error (recovery_tree g) c.args.frame.uses_error _
    (c.in_ok-put_error_type.ensures ∙ ap (λ es. cond c.args.frame.uses_error (insert_entry terminal_cmp es Error (recovery_tree g)) es) are)
    ∙ ap (λ (f : Frame). put_all terminal_cmp [] (types ++ cond f.uses_error ((Error, recovery_tree g) ∷ []) [])) c.requires
