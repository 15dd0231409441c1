use Rattle.std.proofs.Common.{◌≡◌, ◌≤◌, take, map, Some}
use Rattle.lp_lines.specs.Scan.{all_some}
use Rattle.lp_lines.specs.TokenLines.{line_of}
use Rattle.lp_lines.proofs.vocabulary.Vocabulary.lines.Given as goal

-- the lines so far, each of which is one; at most 64
abbrev pub invariant-loop-index : goal.invariant-loop-index
invariant-loop-index l = (l.index ≤ 64) × (all_some (map (λ line. line_of l.self line.now) (take l.index l.lines)) ≡ Some l.list.items)
