use Rattle.std.proofs.Common.{sym, ap, ◌∙◌, subst}
use Rattle.std.specs.Str.{chars}
use Rattle.lp_tok.specs.Cut.{breaks, unclosed, IsUnclosed}
use Rattle.lp_tok.proofs.Lefts.{ends_in_drop, left_alone, alone_follows}
use Rattle.lp_tok.proofs.CutSteps.{stops_at_equal, breaks_at_equal}
use Rattle.lp_tok.proofs.cut.code_end.Goals as goal

pub place_in-requires : goal.place_in-requires
place_in-requires c = ends_in_drop _ _ _ _ (sym c.split_at.ensures.back ∙ sym c.whole.ensures.text ∙ c.in-Stops.ensures.1.text)

pub place_in-requires-in-Broken : goal.place_in-requires-in-Broken
place_in-requires-in-Broken c = ends_in_drop _ _ _ _ (sym c.split_at.ensures.back ∙ sym c.whole.ensures.text ∙ c.in-Broken.ensures.1.text)

pub returns-in-Stops : goal.returns-in-Stops
returns-in-Stops c =
    let rest = left_alone c.in-Stops.rest (alone_follows c.whole.result c.in-Stops.rest c.in-Stops.ensures.1 c.whole.ensures.behind) in
    record {
      stops = stops_at_equal _ _ _ _ (c.whole.ensures.value ∙ ap chars c.split_at.ensures.back) (rest ∙ ap chars (sym c.place_in.ensures.rest)) c.in-Stops.ensures.0;
      boundary = c.place_in.ensures.boundary;
    }

pub returns-in-Broken : goal.returns-in-Broken
returns-in-Broken c =
    let rest = left_alone c.in-Broken.at (alone_follows c.whole.result c.in-Broken.at c.in-Broken.ensures.1 c.whole.ensures.behind) in
    breaks _ _
    (breaks_at_equal _ _ _ _ _ (c.whole.ensures.value ∙ ap chars c.split_at.ensures.back) (rest ∙ ap chars (sym c.place_in-in-Broken.ensures.rest)) c.in-Broken.ensures.0)
    c.place_in-in-Broken.ensures.boundary

pub returns-in-Unclosed : goal.returns-in-Unclosed
returns-in-Unclosed c = unclosed (subst IsUnclosed (c.whole.ensures.value ∙ ap chars c.split_at.ensures.back) c.in-Unclosed.ensures)
