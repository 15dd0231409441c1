-- The parser is the first among the parts that are left.
use Rattle.std.proofs.Common.{◌≡◌}
use Rattle.lp_view.specs.PartLists.{listed, parts_left, first_that}
use Rattle.lp_run.specs.Named.{is_parser, parser_of}
use Rattle.lp_run.proofs.named.parser_of.Given as goal

abbrev pub invariant-loop-row : goal.invariant-loop-row
invariant-loop-row l = first_that is_parser (parts_left l.row-iterator) ≡ parser_of (listed l.fn.items)
