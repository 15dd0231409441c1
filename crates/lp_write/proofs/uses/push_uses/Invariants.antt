use Rattle.std.proofs.Common.{◌≡◌, ◌++◌, map, take}
use Rattle.lp_write.specs.Uses.{use_text}
use Rattle.lp_write.proofs.uses.push_uses.Given as goal

abbrev pub invariant-loop-path : goal.invariant-loop-path
invariant-loop-path l =
    l.lines.items ≡ l.initial.lines.items ++ map (use_text l.super_prefix) (take l.path-index l.paths)
