use Rattle.std.proofs.Common.{◌∙◌}
use Rattle.lp_repr.specs.Names.{same_terminal}
use Rattle.lp_valid.proofs.Lookups.{any_agree, terminal_ties}
use Rattle.lp_valid.proofs.declared.holds.Goals as goal

pub returns : goal.returns
returns c = c.contains.ensures ∙ any_agree _ (λ k. same_terminal c.args.terminal.now k.now) (λ k. terminal_ties c.args.terminal.now k.now) c.args.terminals.now.keys
