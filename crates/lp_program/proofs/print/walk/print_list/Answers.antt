use Rattle.std.proofs.Common.{◌≡◌, ◌<◌, drop, length, rules, subst, sym}
use Rattle.std.proofs.lemmas.List.{take_rest}
use Rattle.lp_write.specs.Writes.{AppendsAll, Writes, options_of, write_ending, writing}
use Rattle.lp_write.proofs.Writing.{all-none}
use Rattle.lp_program.proofs.Printing.{whole-first, whole-none}
use Rattle.lp_program.specs.Printed.{part_lines}
use Rattle.lp_program.proofs.print.walk.print_list.Goals as goal

pub returns-then-is_empty : goal.returns-then-is_empty
returns-then-is_empty g c =
    let w = writing g.W.Sink.told c.args.out.now in
    let none : length c.args.entries.now ≡ 0 = search rules in
    subst (λ ls. AppendsAll w w ls) (sym (whole-none (options_of c.args.out.now) c.args.prefix.now c.args.entries.now none)) (all-none w)

pub returns : goal.returns
returns g c =
    let o = options_of c.args.out.now in
    let prefix = c.args.prefix.now in
    let es = c.args.entries.now in
    let first = c.index-entries-0.result in
    let some : 0 < length es = search rules in
    let ending = write_ending c.print_part.result in
    let old = writing g.W.Sink.told c.args.out.now in
    let new = writing g.W.Sink.told c.print_part.new.out in
    let part : Writes ending old new (part_lines o prefix first (drop 1 es)) = rw (take_rest es 1) at c.print_part.ensures in
    subst (λ ls. Writes ending old new ls) (sym (whole-first o prefix es first some c.index-entries-0.is)) part
