use Rattle.std.proofs.Common.{refl, ap}
use Rattle.std.proofs.Output.{has_written_of_eq}
use Rattle.lp_repr.specs.Escapes.{escaped_text}
use Rattle.lp_repr.proofs.Joining.{joined_more}
use Rattle.lp_repr.proofs.values.write_literals.Goals as goal

pub loop-text-preserved : goal.loop-text-preserved
loop-text-preserved g c =
    joined_more g.W.Write.write_str_gives escaped_text c.args.texts.now c.loop-text.text-index c.text-item.result c.loop-text.separator.now
    c.args.f.now c.loop-text.f c.write_str.new.self c.fmt.new.f c.text-item.is c.loop-text-test.true c.loop-text.invariant
    (λ plain. c.in_ok-write_str.ensures.writes plain refl) (λ plain. has_written_of_eq _ _ _ _ _ (ap escaped_text c.as_str.ensures) (c.in_ok-fmt.ensures.writes plain refl))
