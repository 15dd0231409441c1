use Rattle.std.proofs.Common.{true, sym, ap, ◌∙◌, subst}
use Rattle.lp_texts.specs.FirstWrong.{IsFirst}
use Rattle.lp_texts.specs.OneLine.{IsWrong}
use Rattle.lp_texts.specs.Pattern.{joined, IsWrongHole, IsWrongPattern}
use Rattle.lp_texts.proofs.FirstPlaces.{first_of_both}
use Rattle.lp_texts.proofs.pattern.pattern_fault.Goals as goal

pub hole_fault-requires : goal.hole_fault-requires
hole_fault-requires c = c.as_bytes.ensures.value ∙ c.in_ok-text.ensures.ok ∙ ap joined (sym c.as_slice.ensures)

pub returns : goal.returns
returns c =
    let pieces = c.args.pattern.now.pieces in
    subst (IsFirst (IsWrongPattern pieces)) (sym c.first_of.ensures)
    (first_of_both (IsWrong true (joined pieces)) (IsWrongHole pieces) c.in_ok-line.line c.in_ok-hole.hole
    (subst (λ t. IsFirst (IsWrong true t) c.in_ok-line.line) (c.as_str.ensures.value ∙ c.in_ok-text.ensures.ok) c.in_ok-line.ensures)
    (subst (λ l. IsFirst (IsWrongHole l) c.in_ok-hole.hole) c.as_slice.ensures c.in_ok-hole.ensures))
