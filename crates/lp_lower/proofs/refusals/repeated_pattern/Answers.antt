use Rattle.std.proofs.Common.{map, sym, ap, ◌∙◌}
use Rattle.std.specs.Ordering.{is_eq}
use Rattle.std.specs.Cmp.Lexicographic.{texts_ties}
use Rattle.lp_repr.specs.Shown.{pattern_text}
use Rattle.lp_lower.specs.Naming.{text_cmp}
use Rattle.lp_lower.specs.Places.{least_of}
use Rattle.lp_lower.specs.Repeats.{repeats}
use Rattle.lp_lower.specs.Refusals.{same_pattern}
use Rattle.lp_syntax.specs.declared.plain.PlainTerminal.{PlainTerminal}
use Rattle.lp_lower.proofs.RepeatSteps.{keys_alike, told}
use Rattle.lp_lower.proofs.refusals.repeated_pattern.Goals as goal

pub returns : goal.returns
returns c =
    let e = c.as_slice.ensures.value ∙ c.in_ok-pattern_keys.ensures in
    told c.least_repeat.result _ _ (ap (λ ks. least_of (map (λ k. k.1) (repeats (λ a b. is_eq (text_cmp a.0 b.0)) ks))) e ∙ ap least_of (keys_alike (λ (t : PlainTerminal). pattern_text t.pattern) (λ x. x.place) (λ a b. is_eq (text_cmp a b)) same_pattern (λ a b. sym (texts_ties (pattern_text a.pattern) (pattern_text b.pattern))) c.args.terminals.now)) c.least_repeat.ensures
