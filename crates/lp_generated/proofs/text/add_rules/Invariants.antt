use Rattle.std.proofs.Common.{◌≡◌, ◌++◌, string_bytes}
use Rattle.lp_generated.specs.Generated.{each_below, rule_text}
use Rattle.lp_generated.proofs.text.add_rules.Given as goal

abbrev pub invariant-loop-level : goal.invariant-loop-level
invariant-loop-level l = string_bytes l.text ≡ string_bytes l.initial.text ++ each_below rule_text l.level
