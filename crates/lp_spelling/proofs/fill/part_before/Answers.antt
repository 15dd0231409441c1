use Rattle.std.proofs.Common.{ap, ◌∙◌, take}
use Rattle.lp_spelling.proofs.fill.part_before.Goals as goal

pub returns : goal.returns
returns c = c.front_to.ensures ∙ ap (λ n. take n c.args.text.now) c.place_in.ensures.value
