-- What stood there, and the parameters so far.
use Rattle.std.proofs.Common.{◌≡◌, ◌++◌, map, take}
use Rattle.lp_table.specs.Headers.{declared_text}
use Rattle.lp_table.proofs.headers.add_parameters.Given as goal

abbrev pub invariant-loop-parameter : goal.invariant-loop-parameter
invariant-loop-parameter l =
    l.pieces.items ≡ l.initial.pieces.items ++ map declared_text (take l.parameter-index l.parameters)
