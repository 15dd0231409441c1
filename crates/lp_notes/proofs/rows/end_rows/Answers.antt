use Rattle.std.proofs.Common.{rules, ◌≡◌, ◌+◌, List, [], ◌∷◌, ◌++◌, map, drop, get_or, pos, ap, ◌∙◌}
use Rattle.lp_tree.specs.ProgramTree.{noted}
use Rattle.lp_tree.specs.declared.tree.RowNote.{RowNote}
use Rattle.lp_notes.specs.Notes.{end_row, end_rows}
use Rattle.lp_notes.proofs.TableRows.{rows_more}
use Rattle.lp_notes.proofs.rows.end_rows.Goals as goal

pub loop-place-preserved : goal.loop-place-preserved
loop-place-preserved c =
    let comments = c.args.source.now.comments in
    let g = c.args.source.now.grammar.now in
    let place = c.loop-place.place in
    let row = c.in_ok-end_row.field-0 in
    let same : noted row ≡ end_row comments g (place + 1) (get_or c.args.entries.now place (pos 0)) = search rules in
    let step = rows_more comments g c.loop-place.rows.items row place c.args.entries.now (pos 0) c.loop-place-test.true same in
    let pushed : c.push.new.self.items ≡ c.loop-place.rows.items ++ row ∷ [] = c.in_ok-push.ensures.items in
    ap (λ (l : List RowNote). map noted l ++ end_rows comments g (place + 1) (drop (place + 1) c.args.entries.now)) pushed ∙ step ∙ c.loop-place.invariant
