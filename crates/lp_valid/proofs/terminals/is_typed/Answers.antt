use Rattle.std.proofs.Common.{◌∙◌, ap, is_some}
use Rattle.lp_repr.specs.Names.{same_terminal}
use Rattle.lp_valid.proofs.Lookups.{lookup_agree, terminal_ties}
use Rattle.lp_valid.proofs.terminals.is_typed.Goals as goal

pub returns : goal.returns
returns c = c.contains_key.ensures ∙ ap is_some (lookup_agree _ (same_terminal c.args.terminal.now) (terminal_ties c.args.terminal.now) c.args.types.now.entries)
