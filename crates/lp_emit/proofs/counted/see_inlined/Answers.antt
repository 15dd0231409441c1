use Rattle.std.proofs.Common.{◌≡◌, ◌<◌, ◌^◌, length, take, subst, ap, ◌∙◌}
use Rattle.std.specs.List.{flat_map}
use Rattle.std.proofs.lemmas.List.{take_all}
use Rattle.lp_actions.specs.Parameters.{symbols_of}
use Rattle.lp_emit.proofs.counted.see_inlined.Goals as goal

pub returns-clause-flat : goal.returns-clause-flat
returns-clause-flat c =
    let symbols = c.args.symbols.now in
    let all : take c.loop-symbol.symbol-index symbols ≡ symbols = take_all c.loop-symbol.symbol-index symbols c.loop-symbol-test.false in
    subst (λ n. n < 2 ^ 64) (c.loop-symbol.invariant.0 ∙ ap (λ xs. length (flat_map symbols_of xs)) all) c.loop-symbol.invariant.1
