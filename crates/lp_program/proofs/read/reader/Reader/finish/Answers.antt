use Rattle.std.proofs.Common.{◌-◌, arith, refl, ap, ◌∙◌}
use Rattle.std.proofs.lemmas.List.{get_or_default}
use Rattle.lp_tree.specs.declared.tree.Entry.{Entry}
use Rattle.lp_program.proofs.read.reader.Reader.finish.Goals as goal

pub returns-clause-filled : goal.returns-clause-filled
returns-clause-filled c =
    let old = c.args.self.now.entries.items in
    let there = c.index_mut-entry.result.now in
    let entry : Entry
    = record { part = there.part; holes = c.args.growing.holes; numbers = c.args.growing.numbers; notes = there.notes; below = c.len.result - c.args.at - 1 } in
    record {
      entry = entry;
      entries_are = refl;
      filled = record {
        part_is = ap (λ x. x.part) (c.index_mut-entry.ensures.value ∙ get_or_default old c.args.at there entry c.requires);
        holes_are = refl;
        numbers_are = refl;
        notes_are = ap (λ x. x.notes) (c.index_mut-entry.ensures.value ∙ get_or_default old c.args.at there entry c.requires);
        below_is = omega (arith, c.args.self.now.entries.ok.0);
      };
    }
