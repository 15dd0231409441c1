use Rattle.std.proofs.Common.{◌≡◌, ℕ, List, IfOk, string_bytes, ap, subst, ◌∙◌}
use Rattle.lp_table.specs.MachineLines.{machine_name, machine_type}
use Rattle.lp_table.proofs.machine.machine_name.Goals as goal

pub returns : goal.returns
unfolding machine_name
returns c =
    let prefix = c.args.shared.now.grammar.now.prefix in
    subst (λ (l : List ℕ). IfOk c.machine_type.result (λ s. string_bytes s ≡ l))
    (ap (λ (p : List ℕ). machine_type p c.as_str-generics.result.now) c.as_str-prefix.ensures
    ∙ ap (machine_type prefix) (c.as_str-generics.ensures.value ∙ c.requires.generics_text))
    c.machine_type.ensures
