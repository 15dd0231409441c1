use Rattle.std.proofs.Common.{◌∙◌, ap, sym, is_some}
use Rattle.std.specs.Cmp.Lexicographic.{texts_ties}
use Rattle.lp_repr.specs.Names.{same_nonterminal}
use Rattle.lp_valid.proofs.Lookups.{lookup_agree}
use Rattle.lp_valid.proofs.terminals.nonterminal_has_type.Goals as goal

pub returns : goal.returns
returns c = c.contains_key.ensures ∙ ap is_some (lookup_agree _ (same_nonterminal c.args.name.now) (λ k. sym (texts_ties (c.args.name.now).0 k.0)) c.args.grammar.now.types.nonterminals.entries)
