use Rattle.std.proofs.Common.{◌≡◌, take, map, Some}
use Rattle.lp_lines.specs.Scan.{all_some}
use Rattle.lp_lines.specs.TokenLines.{item_of}
use Rattle.lp_lines.proofs.vocabulary.Vocabulary.items_in.Given as goal

-- the parts so far, each of which is there
abbrev pub invariant-loop-part : goal.invariant-loop-part
invariant-loop-part l = all_some (map (λ p. item_of l.self p.now) (take l.part-index l.parts)) ≡ Some l.list.items
