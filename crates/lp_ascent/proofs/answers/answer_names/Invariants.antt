-- The names so far, and those to come.
use Rattle.std.proofs.Common.{◌≡◌, ◌++◌, map, string_bytes}
use Rattle.lp_ascent.specs.AnswerLines.{answer_name, answer_names}
use Rattle.lp_ascent.proofs.answers.answer_names.Given as goal

abbrev pub invariant-loop-name : goal.invariant-loop-name
invariant-loop-name l = map string_bytes l.names.items ++ map answer_name l.name-iterator ≡ answer_names l.grammar
