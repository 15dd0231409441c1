use Rattle.std.proofs.Common.{◌∙◌, ap, false}
use Rattle.std.specs.Option.{option_map_or}
use Rattle.lp_repr.specs.Names.{same_terminal}
use Rattle.lp_valid.specs.TerminalRules.{is_pattern}
use Rattle.lp_valid.proofs.Lookups.{lookup_agree, terminal_ties}
use Rattle.lp_valid.proofs.terminals.has_pattern.Goals as goal

pub returns-in-None : goal.returns-in-None
returns-in-None c =
    ap (λ o. option_map_or is_pattern o false) (c.in-None.ensures.value ∙ lookup_agree _ (same_terminal c.args.terminal.now) (terminal_ties c.args.terminal.now) c.args.patterns.now.entries)

pub returns-in-Some : goal.returns-in-Some
returns-in-Some c =
    c.is_pattern.ensures ∙ ap (λ o. option_map_or is_pattern o false) (c.in-Some.ensures.value ∙ lookup_agree _ (same_terminal c.args.terminal.now) (terminal_ties c.args.terminal.now) c.args.patterns.now.entries)
