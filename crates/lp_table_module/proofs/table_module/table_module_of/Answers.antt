use Rattle.std.proofs.Common.{All, subst, sym}
use Rattle.lp_parts.specs.Entries.{EntriesFit}
use Rattle.lp_repr.specs.declared.repr.Grammar.{Grammar}
use Rattle.lp_table.specs.Machines.{IsMachineOf}
use Rattle.lp_table_module.proofs.table_module.table_module_of.Goals as goal

pub add_tables-requires : goal.add_tables-requires
add_tables-requires c = subst (All EntriesFit) (sym c.in_ok-shared.ensures.states) c.requires

pub add_machine-requires : goal.add_machine-requires
add_machine-requires c = subst (λ (g : Grammar). IsMachineOf g c.in_ok-machine.machine) (sym c.in_ok-shared.ensures.grammar) c.in_ok-machine.ensures

pub add_reductions-requires : goal.add_reductions-requires
add_reductions-requires c = subst (λ (g : Grammar). IsMachineOf g c.in_ok-machine.machine) (sym c.in_ok-shared.ensures.grammar) c.in_ok-machine.ensures
