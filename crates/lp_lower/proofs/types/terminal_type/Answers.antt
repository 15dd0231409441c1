use Rattle.std.proofs.Common.{ap, ◌∙◌}
use Rattle.std.specs.Option.{option_map_or}
use Rattle.lp_repr.specs.TypeTrees.{type_tree}
use Rattle.lp_lower.specs.TypeOf.{holes_tree}
use Rattle.lp_syntax.specs.declared.plain.PlainTerminal.{PlainTerminal}
use Rattle.lp_lower.proofs.types.terminal_type.Goals as goal

pub returns-in_ok-clone-in-None : goal.returns-in_ok-clone-in-None
returns-in_ok-clone-in-None c =
    let token = c.args.names.now.plain.now.token in
    c.in_ok-clone-in-None.ensures.cases ∙ ap (λ o. option_map_or (λ (t : PlainTerminal). holes_tree token t.pattern.holes) o (type_tree token)) c.in-None.ensures

pub returns-in_ok-holes_type-in-Some : goal.returns-in_ok-holes_type-in-Some
returns-in_ok-holes_type-in-Some c =
    let token = c.args.names.now.plain.now.token in
    c.in_ok-holes_type-in-Some.ensures
    ∙ (ap (holes_tree token) c.as_slice-holes.ensures
    ∙ ap (λ o. option_map_or (λ (t : PlainTerminal). holes_tree token t.pattern.holes) o (type_tree token)) c.in-Some.ensures)
