use Rattle.std.proofs.Common.{◌≡◌, drop}
use Rattle.std.specs.List.{list_all}
use Rattle.lp_spelling.specs.Fillings.{is_escape}
use Rattle.lp_spelling.proofs.fill.is_escaped.Given as goal

abbrev pub invariant-loop-byte : goal.invariant-loop-byte
invariant-loop-byte l = list_all is_escape (drop l.byte-index l.text) ≡ list_all is_escape l.text
