use Rattle.std.proofs.Common.{sym, ap, ◌∙◌}
use Rattle.lp_lower.specs.Pieces.{chosen, with_piece}
use Rattle.lp_lower.proofs.PieceSteps.{option_at}
use Rattle.lp_lower.proofs.combine.Combination.add_option.Goals as goal

pub returns : goal.returns
returns c = λ expanded at.
    c.in_ok-add_expanded.ensures
    ∙ ap (λ e. with_piece c.args.self.now (chosen e)) (option_at c.args.options.now c.args.number c.index-options-number.result expanded c.requires (sym c.index-options-number.is) at)
