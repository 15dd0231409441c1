use Rattle.std.proofs.Common.{[], sym, ap, ◌∙◌}
use Rattle.lp_repr.specs.NameOrder.{nonterminal_cmp}
use Rattle.lp_lower.specs.ActionNumbers.{first_action}
use Rattle.lp_lower.specs.Expansion.{all_sources}
use Rattle.lp_lower.specs.Productions.{put_all, start_entries, rule_entries}
use Rattle.lp_lower.specs.declared.expand.Sources.{Sources}
use Rattle.lp_lower.specs.declared.frame.Frame.{Frame}
use Rattle.lp_lower.proofs.Putting.{put_all-append}
use Rattle.lp_lower.proofs.productions.nonterminals.Goals as goal

pub returns : goal.returns
returns c =
    let g = c.args.names.now.plain.now in
    let starts = start_entries g 0 g.rules in
    let rules = rule_entries g (all_sources g) (first_action g) g.rules in
    let begun = c.put_starts.new.all.entries in
    c.in_ok-put_rules.ensures
    ∙ (ap (λ (s : Sources). put_all nonterminal_cmp begun (rule_entries g s c.args.frame.first g.rules)) c.requires.replaced
    ∙ (ap (λ (f : Frame). put_all nonterminal_cmp begun (rule_entries g (all_sources g) f.first g.rules)) c.requires.framed
    ∙ (ap (λ es. put_all nonterminal_cmp es rules) (c.in_ok-put_starts.ensures ∙ ap (λ es. put_all nonterminal_cmp es starts) c.new-all.ensures.empty)
    ∙ sym (put_all-append nonterminal_cmp [] starts rules))))
