use Rattle.std.proofs.Common.{◌≡◌, ◌++◌, take, string_bytes}
use Rattle.std.specs.List.{flat_map}
use Rattle.lp_write.specs.Rows.{entry_piece}
use Rattle.lp_write.proofs.rows.push_pieces.Given as goal

abbrev pub invariant-loop-entry : goal.invariant-loop-entry
invariant-loop-entry g l =
    string_bytes l.text ≡ string_bytes l.initial.text ++ flat_map (λ e. l.separator ++ entry_piece e) (take l.entry-index l.row)
