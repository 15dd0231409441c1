-- What was appended so far.
use Rattle.std.proofs.Common.{◌≡◌, string_bytes, take}
use Rattle.lp_parts.specs.Texts.{arguments_of}
use Rattle.lp_parts.proofs.texts.argument_names.Given as goal

abbrev pub invariant-loop-parameter : goal.invariant-loop-parameter
invariant-loop-parameter l = string_bytes l.list ≡ arguments_of (take l.parameter-index l.parameters)
