use Rattle.std.proofs.Common.{◌≡◌, ◌+◌, [], ◌∷◌, ◌++◌, map, take, Ok, ap, ◌∙◌, refl}
use Rattle.std.proofs.lemmas.List.{map-append}
use Rattle.lp_write.specs.Texts.{after_each}
use Rattle.lp_write.proofs.Shows.{after_each-more, shows-more}
use Rattle.lp_write.proofs.Texts.{take-next}
use Rattle.lp_write.proofs.util.write_after_each.Goals as goal

pub loop-element-preserved : goal.loop-element-preserved
loop-element-preserved g c =
    let shown = map g.S.Display.output (take c.loop-element.element-index c.args.elements.now) in
    let more : map g.S.Display.output (take (c.loop-element.element-index + 1) c.args.elements.now) ≡ shown ++ g.S.Display.output c.element-item.result ∷ [] =
    ap (map g.S.Display.output) (take-next c.args.elements.now c.loop-element.element-index c.element-item.result c.element-item.is c.loop-element-test.true)
    ∙ map-append g.S.Display.output (take c.loop-element.element-index c.args.elements.now) (c.element-item.result ∷ []) in
    rw (more, after_each-more c.args.text.now shown (g.S.Display.output c.element-item.result))
    (shows-more g.W.Write.write_str_gives c.args.f.now c.loop-element.f c.write_str.new.self c.fmt.new.f
    (Ok c.in_ok-write_str.field-0) (Ok c.in_ok-fmt.field-0) (after_each c.args.text.now shown) c.args.text.now
    (g.S.Display.output c.element-item.result) c.loop-element.invariant c.in_ok-write_str.ensures.writes refl
    c.in_ok-fmt.ensures.writes refl)
