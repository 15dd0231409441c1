-- One more payload, or none.
use Rattle.std.proofs.Common.{sym, ◌∙◌}
use Rattle.lp_lines.specs.TokenLines.{payload_of}
use Rattle.lp_lines.proofs.Each.{all_some_none, all_some_more}
use Rattle.lp_lines.proofs.vocabulary.payloads_in.Goals as goal

pub returns-in-None : goal.returns-in-None
returns-in-None c =
    all_some_none (λ p. payload_of p.now) c.args.parts.now c.loop-part.part-index _ c.loop-part-test.true (sym c.in_ok-payload.ensures ∙ c.in-None.is)

pub loop-part-preserved : goal.loop-part-preserved
loop-part-preserved c =
    all_some_more (λ p. payload_of p.now) c.args.parts.now c.loop-part.part-index _ c.loop-part.list.items c.in-Some.text c.push.new.self.items c.loop-part-test.true (sym c.in_ok-payload.ensures ∙ c.in-Some.is) c.loop-part.invariant c.in_ok-push-in-Some.ensures.items
