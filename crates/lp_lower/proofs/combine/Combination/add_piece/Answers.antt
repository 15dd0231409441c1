use Rattle.std.proofs.Common.{◌<◌, length, ap, ◌∙◌, arith}
use Rattle.lp_lower.specs.Pieces.{with_piece}
use Rattle.lp_lower.proofs.PieceSteps.{length-options, itself_at, chosen_at}
use Rattle.lp_lower.proofs.combine.Combination.add_piece.Goals as goal

pub add_option-requires : goal.add_option-requires
add_option-requires c = let size = length-options c.args.part.now c.in-Options.options c.in-Options.is in omega (arith, size, c.requires)

pub returns-in_ok-add_symbol-in-Itself : goal.returns-in_ok-add_symbol-in-Itself
returns-in_ok-add_symbol-in-Itself c = λ piece at. c.in_ok-add_symbol-in-Itself.ensures ∙ ap (with_piece c.args.self.now) (itself_at c.args.part.now c.in-Itself.symbol c.args.number piece c.in-Itself.is at)

pub returns-in_ok-add_option-in-Options : goal.returns-in_ok-add_option-in-Options
returns-in_ok-add_option-in-Options c = λ piece at.
    let size = length-options c.args.part.now c.in-Options.options c.in-Options.is in
    let within : c.args.number < length c.in-Options.options.now = omega (arith, size, c.requires) in
    let found = chosen_at c.args.part.now c.in-Options.options c.args.number piece c.in-Options.is within at in
    c.in_ok-add_option-in-Options.ensures found.0 found.1 ∙ ap (with_piece c.args.self.now) found.2
