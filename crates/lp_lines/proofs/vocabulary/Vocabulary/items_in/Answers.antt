-- One more item, or none.
use Rattle.std.proofs.Common.{sym, ◌∙◌}
use Rattle.lp_lines.specs.TokenLines.{item_of}
use Rattle.lp_lines.proofs.Each.{all_some_none, all_some_more}
use Rattle.lp_lines.proofs.vocabulary.Vocabulary.items_in.Goals as goal

pub returns-in-None : goal.returns-in-None
returns-in-None c =
    all_some_none (λ p. item_of c.args.self.now p.now) c.args.parts.now c.loop-part.part-index _ c.loop-part-test.true (sym c.in_ok-item.ensures ∙ c.in-None.is)

pub loop-part-preserved : goal.loop-part-preserved
loop-part-preserved c =
    all_some_more (λ p. item_of c.args.self.now p.now) c.args.parts.now c.loop-part.part-index _ c.loop-part.list.items c.in-Some.item c.push.new.self.items c.loop-part-test.true (sym c.in_ok-item.ensures ∙ c.in-Some.is) c.loop-part.invariant c.in_ok-push-in-Some.ensures.items
