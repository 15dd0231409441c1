-- The parts of the configurations of the stack machine.
use Rattle.std.specs.Prelude.{ℕ, List, [], ◌∷◌, ◌++◌, Option, Some, None, Bool, false, true, Result, Ok, Err, slice_get}
use Rattle.lp_repr.specs.declared.values.Loc.{Loc}
use Rattle.lp_repr.specs.declared.values.ParseError.TheVariants as failure
use Rattle.lp_driver.specs.Values.{Text, Token, Spanned, Value, Failure}
use Rattle.lp_machine.specs.ReductionSpan.{popped, below, empty_place, span}
use Rattle.lp_machine.specs.declared.lookup.Rule.{Rule}
use Rattle.lp_machine.specs.declared.config.Lookahead.{Lookahead}
use Rattle.lp_machine.specs.declared.config.Listing.{Listing}
use Rattle.lp_machine.specs.declared.config.Mending.{Mending}
use Rattle.lp_machine.specs.declared.config.Left.{Left}
use Rattle.lp_machine.specs.declared.config.Left.TheVariants.{Over}
use Rattle.lp_machine.specs.declared.config.Config.{Config}

abbrev pub lookahead_start : Option Lookahead → Option Loc
lookahead_start None = None
lookahead_start (Some l) = Some l.token.0

abbrev pub lookahead_token : Option Lookahead → Option (Spanned Token)
lookahead_token None = None
lookahead_token (Some l) = Some l.token

abbrev pub lookahead_terminal : Option Lookahead → Option ℕ
lookahead_terminal None = None
lookahead_terminal (Some l) = Some l.index

abbrev pub with_left : Config → Left → Config
with_left c left = record c { left = left }

abbrev pub over : Config → Result Value Failure → Config
over c result = with_left c (Over result)

-- the error at a token, or at the end
abbrev pub failure_at : Loc → Option (Spanned Token) → List Text → Failure
failure_at last None expected = failure.UnrecognizedEof last expected
failure_at last (Some token) expected = failure.UnrecognizedToken token expected

-- one name more, where it is there
abbrev pub with_name : Listing → Option Text → Listing
with_name listing None = listing
with_name listing (Some name) = record listing { found = listing.found ++ name ∷ [] }

-- the symbols below a reduction, and its value with its span
abbrev pub reduced_triples : Config → Rule → Value → List (Spanned Value)
reduced_triples c rule value =
    let at = span (popped rule.length c.triples) (empty_place (lookahead_start c.lookahead) c.triples) in
    below rule.length c.triples ++ (at.0, value, at.1) ∷ []

-- a result before the end of the items is one token too much; while an error is mended it stands
abbrev pub result_at : Option Mending → Option Lookahead → Value → Result Value Failure
result_at (Some mending) lookahead value = Ok value
result_at None None value = Ok value
result_at None (Some l) value = Err (failure.ExtraToken l.token)
