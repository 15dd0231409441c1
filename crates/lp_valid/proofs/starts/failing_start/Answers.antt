use Rattle.std.proofs.Common.{◌∙◌, ap, map, subst}
use Rattle.std.specs.Map.Iter.{deref, deref_pair}
use Rattle.lp_valid.specs.Members.{has}
use Rattle.lp_valid.specs.Places.{EachPasses, IsFirstFailing}
use Rattle.lp_valid.specs.StartRules.{is_start_unless}
use Rattle.lp_valid.proofs.FirstFailing.{failing_image}
use Rattle.lp_valid.proofs.Sides.{right_from_images, first_other_start}
use Rattle.lp_valid.proofs.starts.failing_start.Goals as goal

pub returns : goal.returns
returns c =
    let g = c.args.grammar.now in
    let test = is_start_unless g (has c.in_ok-on_right.on_right) in
    first_other_start g (has c.in_ok-on_right.on_right) g.start_nonterminals.entries c.first_other.result (λ n. c.in_ok-on_right.ensures n ∙ right_from_images deref g c.args.productions.now n c.requires)
    (subst (λ es. IsFirstFailing (EachPasses test es) c.first_other.result) (ap (map deref_pair) c.deref.ensures.value ∙ c.in_ok-starts.ensures) (failing_image deref_pair test c.deref.result.now c.first_other.result c.first_other.ensures))
