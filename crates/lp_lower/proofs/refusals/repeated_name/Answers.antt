use Rattle.std.proofs.Common.{map, sym, ap, ◌∙◌}
use Rattle.std.specs.Ordering.{is_eq}
use Rattle.lp_repr.specs.NameOrder.{terminal_cmp}
use Rattle.lp_repr.proofs.Numbers.{terminal_ties}
use Rattle.lp_lower.specs.Places.{least_of}
use Rattle.lp_lower.specs.Repeats.{repeats}
use Rattle.lp_lower.specs.Refusals.{same_name}
use Rattle.lp_syntax.specs.declared.plain.PlainTerminal.{PlainTerminal}
use Rattle.lp_lower.proofs.RepeatSteps.{keys_alike, told}
use Rattle.lp_lower.proofs.refusals.repeated_name.Goals as goal

pub returns : goal.returns
returns c =
    let e = c.as_slice.ensures.value ∙ c.in_ok-name_keys.ensures in
    told c.least_repeat.result _ _ (ap (λ ks. least_of (map (λ k. k.1) (repeats (λ a b. is_eq (terminal_cmp a.0 b.0)) ks))) e ∙ ap least_of (keys_alike (λ (t : PlainTerminal). t.name) (λ x. x.place) (λ a b. is_eq (terminal_cmp a b)) same_name (λ a b. sym (terminal_ties a.name b.name)) c.args.terminals.now)) c.least_repeat.ensures
