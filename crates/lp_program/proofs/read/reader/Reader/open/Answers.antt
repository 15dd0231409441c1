use Rattle.std.proofs.Common.{[], false, refl, ap, ◌∙◌}
use Rattle.lp_tree.specs.declared.tree.Entry.{Entry}
use Rattle.lp_program.proofs.read.reader.Reader.open.Goals as goal

pub returns : goal.returns
returns c =
    let first : Entry = record { part = c.args.part; holes = c.new.result; numbers = c.new-2.result; notes = c.new-3.result; below = 0 } in
    record {
      prefix_is = refl;
      cursor_is = refl;
      looked_is = refl;
      first = first;
      first_is = refl;
      notes_are = c.new-3.ensures.items;
      entries_are = c.in_ok-push.ensures.items;
      part_is = refl;
      none = ap (λ hs. record { holes = hs; numbers = c.new-5.result.items; tabled = false }) c.new-4.ensures.items ∙ ap (λ ns. record { holes = []; numbers = ns; tabled = false }) c.new-5.ensures.items;
    }
