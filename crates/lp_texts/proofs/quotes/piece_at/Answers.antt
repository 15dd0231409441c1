use Rattle.std.proofs.Common.{◌+◌, arith, sym, subst}
use Rattle.lp_texts.specs.Places.{IsPieceAt}
use Rattle.lp_texts.proofs.QuoteSteps.{found_at, string_piece}
use Rattle.lp_texts.proofs.quotes.piece_at.Goals as goal

pub returns-in-34 : goal.returns-in-34
returns-in-34 c =
    subst (IsPieceAt c.args.text.now c.args.at) (sym c.found_quote.ensures)
    (found_at c.args.text.now c.args.at (c.args.at + 1) _ _ (string_piece c.args.text.now c.args.at c.requires c.in-34.is) (omega arith) c.string_end.ensures)
