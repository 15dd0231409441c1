use Rattle.std.proofs.Common.{◌≡◌, ℕ, List, ◌++◌, take}
use Rattle.lp_write.specs.Texts.{AreShownAs}
use Rattle.lp_write.proofs.headers.push_shown.Given as goal

abbrev pub invariant-loop-x : goal.invariant-loop-x
invariant-loop-x g l =
    (added : List (List ℕ)) × AreShownAs g.T.Display.output (take l.x-index l.shown) added
    × (l.texts.items ≡ l.initial.texts.items ++ added)
