-- The parameters so far.
use Rattle.std.proofs.Common.{◌≡◌, ◌++◌, map, take}
use Rattle.lp_codegen.specs.Parsers.{declared_text}
use Rattle.lp_codegen.proofs.header.push_declared.Given as goal

abbrev pub invariant-loop-parameter : goal.invariant-loop-parameter
invariant-loop-parameter l = l.texts.items ≡ l.initial.texts.items ++ map declared_text (take l.parameter-index l.parameters)
