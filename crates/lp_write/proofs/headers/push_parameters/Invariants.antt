use Rattle.std.proofs.Common.{◌≡◌, ℕ, List, ◌++◌, take}
use Rattle.std.specs.List.{AllZip}
use Rattle.lp_write.proofs.headers.push_parameters.Given as goal

abbrev pub invariant-loop-parameter : goal.invariant-loop-parameter
invariant-loop-parameter g l =
    (added : List (List ℕ)) × AllZip g.P.ParameterDisplay.IsParameterText (take l.parameter-index l.parameters) added
    × (l.texts.items ≡ l.initial.texts.items ++ added)
