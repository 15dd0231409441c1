use Rattle.std.proofs.Common.{◌≡◌, length, Some, sym, ap, ◌∙◌, arith}
use Rattle.lp_machine.specs.declared.config.Config.{Config}
use Rattle.lp_machine.specs.Tables.{Tables}
use Rattle.lp_machine.specs.TablesView.{tables_of}
use Rattle.lp_machine.specs.Moves.{first}
use Rattle.lp_machine.specs.MachineRun.{Standing}
use Rattle.lp_machine.proofs.machine.Machine.new.Goals as goal

pub returns : goal.returns
returns c =
    let items = c.args.items.now in
    let t = tables_of c.in_ok-tables.tables in
    let stands : Config → Standing = λ (x : Config). record { tables = t; items = items; config = Some x } in
    let begins : Tables → Standing = λ (x : Tables). record { tables = x; items = items; config = Some (first x items) } in
    (first_of (cc, cc (ap length c.as_slice.ensures), omega arith), ap stands c.in_ok-first.ensures ∙ ap begins c.in_ok-tables.ensures)
