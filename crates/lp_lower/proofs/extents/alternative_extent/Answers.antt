use Rattle.std.proofs.Common.{◌≡◌, ◌-◌, [], ◌∷◌, ◌+◌, length, drop, sym, ap, ◌∙◌, arith}
use Rattle.std.proofs.Math.ListN.{get_or}
use Rattle.std.proofs.lemmas.List.{drop_all, drop_more}
use Rattle.lp_lower.specs.Extents.{extent_of, joined}
use Rattle.lp_lower.specs.Naming.{target}
use Rattle.lp_lower.specs.RightSides.{side_options, sides_from}
use Rattle.lp_syntax.specs.declared.plain.PlainSymbol.{PlainSymbol}
use Rattle.lp_lower.proofs.SideSteps.{sides_from-nil, sides_from-cons}
use Rattle.lp_lower.proofs.extents.alternative_extent.Goals as goal

pub loop-place-init : goal.loop-place-init
unfolding extent_of
loop-place-init c = (
  omega (arith, ap length c.as_slice-symbols.ensures),
  λ sides e.
      let g = c.args.names.now.plain.now in
      let none : drop (length c.as_slice-symbols.result.now) c.args.alternative.now.symbols ≡ [] = drop_all (length c.as_slice-symbols.result.now) c.args.alternative.now.symbols (omega (arith, ap length c.as_slice-symbols.ensures)) in
      ap extent_of (sym (ap (sides_from g sides) none ∙ sides_from-nil g sides)),
)

pub loop-place-preserved : goal.loop-place-preserved
loop-place-preserved c = (
  omega arith,
  λ sides e.
      let g = c.args.names.now.plain.now in
      let symbols = c.args.alternative.now.symbols in
      let i = c.loop-place.place - 1 in
      let x = c.index-symbols-place.result in
      let at : get_or symbols i x ≡ x = ap (λ l. get_or l i x) (sym c.as_slice-symbols.ensures) ∙ sym c.index-symbols-place.is in
      let next : i + 1 ≡ c.loop-place.place = omega arith in
      let split : drop i symbols ≡ x ∷ drop c.loop-place.place symbols =
      drop_more symbols i x (omega (arith, ap length c.as_slice-symbols.ensures)) ∙ (ap (λ y. y ∷ drop (i + 1) symbols) at ∙ ap (λ n. x ∷ drop n symbols) next)
      in
      c.times-extent.ensures (side_options g sides c.target-target.result) (sides_from g sides (drop c.loop-place.place symbols)) (c.target_extent.ensures sides e) (c.loop-place.invariant.1 sides e)
      ∙ ap extent_of (ap (λ t. joined (side_options g sides t) (sides_from g sides (drop c.loop-place.place symbols))) (c.target-target.ensures ∙ ap (λ (y : PlainSymbol). target g y.kind) (sym c.index-symbols-place.is)) ∙ sym (ap (sides_from g sides) split ∙ sides_from-cons g sides x (drop c.loop-place.place symbols))),
)
