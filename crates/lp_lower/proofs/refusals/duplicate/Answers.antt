use Rattle.std.proofs.Common.{map, ◌++◌}
use Rattle.lp_lower.specs.Repeats.{repeats}
use Rattle.lp_lower.specs.Refusals.{same_rule, same_name, same_pattern}
use Rattle.lp_syntax.specs.declared.plain.PlainRule.{PlainRule}
use Rattle.lp_syntax.specs.declared.plain.PlainTerminal.{PlainTerminal}
use Rattle.lp_lower.proofs.Leasts.{least_of-append}
use Rattle.lp_lower.proofs.refusals.duplicate.Goals as goal

pub returns : goal.returns
returns c =
    let g = c.args.plain.now in
    let rules = map (λ (r : PlainRule). r.place) (repeats same_rule g.rules) in
    let names = map (λ (t : PlainTerminal). t.place) (repeats same_name g.conversions) in
    let patterns = map (λ (t : PlainTerminal). t.place) (repeats same_pattern g.conversions) in
    let all = least_of-append rules (names ++ patterns) in
    let both = least_of-append names patterns in
    cc (c.in_ok-rule.ensures, c.in_ok-name.ensures, c.in_ok-pattern.ensures, c.as_slice.ensures, c.as_slice-2.ensures, c.as_slice-3.ensures)
