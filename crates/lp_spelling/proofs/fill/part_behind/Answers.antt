use Rattle.std.proofs.Common.{arith, ap, ◌∙◌, ◌+◌, drop, length}
use Rattle.lp_spelling.proofs.Fitting.{behind_fits}
use Rattle.lp_spelling.proofs.fill.part_behind.Goals as goal

pub overflow_add-end : goal.overflow_add-end
overflow_add-end c = let a = behind_fits c.args.separator.now c.args.text.now c.requires in omega (arith, a, c.place_in.ensures.value)

pub rest_from-requires : goal.rest_from-requires
rest_from-requires c = let a = behind_fits c.args.separator.now c.args.text.now c.requires in omega (arith, a, c.place_in.ensures.value)

pub returns : goal.returns
returns c = c.rest_from.ensures ∙ ap (λ n. drop (n + length c.args.separator.now) c.args.text.now) c.place_in.ensures.value
