use Rattle.std.proofs.Common.{arith, sym, ◌∙◌}
use Rattle.lp_texts.specs.Names.{is_wrong_attribute}
use Rattle.lp_texts.proofs.FirstPlaces.{no_place}
use Rattle.lp_texts.proofs.NamePlaces.{attribute_behind}
use Rattle.lp_texts.proofs.names.attribute_fault.Goals as goal

pub returns-then-is_wrong_attribute : goal.returns-then-is_wrong_attribute
returns-then-is_wrong_attribute c = (sym c.is_wrong_attribute.ensures ∙ c.if-is_wrong_attribute.true, c.loop-i.invariant)

pub returns : goal.returns
returns c = no_place (is_wrong_attribute c.args.text.now) c.loop-i.i c.loop-i.invariant (λ j far. attribute_behind c.args.text.now j (omega arith) (omega arith))
