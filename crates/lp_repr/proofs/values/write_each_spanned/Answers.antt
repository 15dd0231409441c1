use Rattle.std.proofs.Common.{refl}
use Rattle.lp_repr.specs.ShownValues.{spanned_text}
use Rattle.lp_repr.proofs.Joining.{joined_more}
use Rattle.lp_repr.proofs.values.write_each_spanned.Goals as goal

pub loop-spanned-preserved : goal.loop-spanned-preserved
loop-spanned-preserved g c =
    joined_more g.W.Write.write_str_gives (spanned_text g.L.Shown.text g.T.Shown.text) c.args.list.now c.loop-spanned.spanned-index c.spanned-item.result c.loop-spanned.separator.now
    c.args.f.now c.loop-spanned.f c.write_str.new.self c.write_spanned.new.f c.spanned-item.is c.loop-spanned-test.true c.loop-spanned.invariant
    (λ plain. c.in_ok-write_str.ensures.writes plain refl) (λ plain. c.in_ok-write_spanned.ensures plain refl)
