use Rattle.std.proofs.Common.{[], ◌∷◌, ap, ◌∙◌}
use Rattle.std.specs.Option.{option_map_or}
use Rattle.lp_repr.specs.declared.repr.Symbol.TheVariants.{Terminal}
use Rattle.lp_lower.specs.Pieces.{itself}
use Rattle.lp_syntax.specs.declared.plain.PlainTerminal.{PlainTerminal}
use Rattle.lp_lower.proofs.expand.terminal_part.Goals as goal

pub returns-in_ok-copy_terminal-in-Some : goal.returns-in_ok-copy_terminal-in-Some
returns-in_ok-copy_terminal-in-Some c =
    ap (λ n. itself (Terminal n) ∷ []) c.in_ok-copy_terminal-in-Some.ensures
    ∙ ap (λ o. option_map_or (λ (t : PlainTerminal). itself (Terminal t.name) ∷ []) o []) c.in-Some.ensures
