use Rattle.std.proofs.Common.{◌∙◌, ap, sym, false}
use Rattle.std.specs.Cmp.Lexicographic.{texts_ties}
use Rattle.std.specs.Option.{option_map_or}
use Rattle.lp_repr.specs.Names.{same_nonterminal}
use Rattle.lp_valid.specs.StartRules.{is_single}
use Rattle.lp_valid.proofs.Lookups.{lookup_agree}
use Rattle.lp_valid.proofs.starts.has_one_symbol.Goals as goal

pub returns-in-None : goal.returns-in-None
returns-in-None c =
    ap (λ o. option_map_or (λ d. is_single d.productions) o false) (c.in-None.ensures.value ∙ lookup_agree _ (same_nonterminal c.args.name.now) (λ k. sym (texts_ties (c.args.name.now).0 k.0)) c.args.grammar.now.nonterminals.entries)

pub returns-in-Some : goal.returns-in-Some
returns-in-Some c =
    c.is_single.ensures ∙ (ap is_single c.as_slice.ensures ∙ ap (λ o. option_map_or (λ d. is_single d.productions) o false) (c.in-Some.ensures.value ∙ lookup_agree _ (same_nonterminal c.args.name.now) (λ k. sym (texts_ties (c.args.name.now).0 k.0)) c.args.grammar.now.nonterminals.entries))
