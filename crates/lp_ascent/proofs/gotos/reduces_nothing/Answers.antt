use Rattle.std.proofs.Common.{List, map, ap, ◌∙◌}
use Rattle.std.specs.List.{list_any}
use Rattle.std.specs.Map.Iter.{deref}
use Rattle.lp_repr.specs.declared.repr.Production.{Production}
use Rattle.lp_ascent.specs.GotoLines.{is_empty_reduction}
use Rattle.lp_ascent.proofs.gotos.reduces_nothing.Goals as goal

pub returns : goal.returns
returns c =
    c.some_reduce_nothing.ensures
    ∙ ap (λ (productions : List Production). list_any (is_empty_reduction productions) c.args.reductions.now)
    (ap (map deref) c.as_slice.ensures.value ∙ c.args.shared.now.productions_listed)
