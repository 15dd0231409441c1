use Rattle.std.proofs.Common.{◌++◌, map, ap, ◌∙◌}
use Rattle.std.specs.Prelude.{filter}
use Rattle.lp_repr.specs.declared.repr.LookaroundActionFn.TheVariants.{Lookahead, Lookbehind}
use Rattle.lp_lower.specs.Actions.{action_tree, start_action, lookaround_actions, actions_from}
use Rattle.lp_lower.specs.Expansion.{all_sources}
use Rattle.lp_lower.specs.declared.expand.Sources.{Sources}
use Rattle.lp_lower.specs.declared.frame.Frame.{Frame}
use Rattle.lp_syntax.specs.declared.plain.PlainRule.{PlainRule}
use Rattle.lp_lower.proofs.Walking.{in_a_row}
use Rattle.lp_lower.proofs.actions.actions.Goals as goal

pub returns : goal.returns
returns c =
    let g = c.args.names.now.plain.now in
    let starts = map (start_action g) (filter (λ (r : PlainRule). r.public) g.rules) in
    let one = map action_tree c.push_starts.new.all in
    let two = map action_tree c.push_lookaround.new.all in
    let three = map action_tree c.push_lookaround-2.new.all in
    in_a_row one two three _ _ _ _ _
    (c.in_ok-push_starts.ensures ∙ ap (λ l. map action_tree l ++ starts) c.empty-all.ensures)
    (c.in_ok-push_lookaround.ensures ∙ ap (λ (f : Frame). one ++ lookaround_actions g Lookahead f.uses_lookahead) c.requires.framed)
    (c.in_ok-push_lookaround-2.ensures ∙ ap (λ (f : Frame). two ++ lookaround_actions g Lookbehind f.uses_lookbehind) c.requires.framed)
    (c.in_ok-push_rules.ensures
    ∙ (ap (λ (s : Sources). three ++ actions_from g s c.args.frame.first g.rules) c.requires.replaced
    ∙ ap (λ (f : Frame). three ++ actions_from g (all_sources g) f.first g.rules) c.requires.framed))
