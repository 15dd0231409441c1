-- The lines so far.
use Rattle.std.proofs.Common.{◌≡◌, slice_get, take}
use Rattle.std.specs.List.{flat_map}
use Rattle.lp_repr.specs.Numbering.{productions_of}
use Rattle.lp_notes.specs.Notes.{item_line}
use Rattle.lp_notes.proofs.rows.item_lines.Given as goal

abbrev pub invariant-loop-item : goal.invariant-loop-item
invariant-loop-item l =
    l.lines.items ≡ flat_map (λ item. item_line l.source.grammar.now item (slice_get (productions_of l.source.grammar.now) item.production)) (take l.item-index l.item-items)
