-- Which symbols of their own kind are used, and where the actions begin, as one value.
use Rattle.lp_lower.specs.ActionNumbers.{uses_lookahead, uses_lookbehind, uses_error, lookahead_action, lookbehind_action, first_action}
use Rattle.lp_lower.specs.declared.frame.Frame.{Frame}
use Rattle.lp_syntax.specs.declared.plain.PlainGrammar.{PlainGrammar}

abbrev pub frame_of : PlainGrammar → Frame
frame_of g = record { uses_lookahead = uses_lookahead g; uses_lookbehind = uses_lookbehind g; uses_error = uses_error g; lookahead = lookahead_action g; lookbehind = lookbehind_action g; first = first_action g }
