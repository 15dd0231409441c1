use Rattle.std.proofs.Common.{sym, ap, ◌∙◌, arith}
use Rattle.lp_repr.specs.TypeTrees.{tuple_type, trees_of}
use Rattle.lp_repr.proofs.TreeRows.{tuple_treed}
use Rattle.lp_lower.proofs.Holes.{holes_none, holes_one, holes_many}
use Rattle.lp_lower.proofs.types.holes_type.Goals as goal

pub returns-in_ok-clone-in-empty : goal.returns-in_ok-clone-in-empty
returns-in_ok-clone-in-empty c = c.in_ok-clone-in-empty.ensures.cases ∙ sym (holes_none c.args.token.now c.args.holes.now (omega (arith, c.in-empty.len_below)))

pub returns-in_ok-clone-in-len1 : goal.returns-in_ok-clone-in-len1
returns-in_ok-clone-in-len1 c = c.in_ok-clone-in-len1.ensures.cases ∙ sym (holes_one c.args.token.now c.args.holes.now c.hole-item.result (omega arith) (sym c.hole-item.is))

pub returns-in_ok-copy_types-in-len2-up : goal.returns-in_ok-copy_types-in-len2-up
returns-in_ok-copy_types-in-len2-up c =
    tuple_treed c.in_ok-copy_types-in-len2-up.field-0
    ∙ (ap (λ l. tuple_type (trees_of l)) c.in_ok-copy_types-in-len2-up.ensures
    ∙ sym (holes_many c.args.token.now c.args.holes.now c.in-len2-up.len_at_least))
