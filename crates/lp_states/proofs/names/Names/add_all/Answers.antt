use Rattle.std.proofs.Common.{◌≡◌, ◌∙◌, length, map, ap, List, arith}
use Rattle.std.proofs.lemmas.List.{length-map}
use Rattle.lp_repr.specs.Numbering.{number_or_count}
use Rattle.lp_repr.specs.declared.numbering.SymbolNumber.{SymbolNumber}
use Rattle.lp_repr.specs.declared.numbering.SymbolNumber.TheVariants.{Terminal}
use Rattle.lp_states.specs.declared.names.Names.{Names}
use Rattle.lp_states.proofs.NamingSteps.{names_step}
use Rattle.lp_states.proofs.names.Names.add_all.Goals as goal
use Rattle.lp_states.proofs.names.Names.add_all.Goals.{in-Some+in_ok-insert, in_default}

pub loop-place-preserved : goal.loop-place-preserved
loop-place-preserved c =
    let g = c.args.numbers.now.grammar.now in
    let symbols = c.args.symbols.now in
    let n = c.loop-place.place in
    let numbers = c.deref-number-items.result.now in
    let all : numbers ≡ map (number_or_count g) symbols = c.deref-number-items.ensures.value ∙ c.in_ok-by_number.ensures in
    elim c.match-get.branch [ in-Some+in_ok-insert w ↦ let new : Names = record { symbols = w.insert.new.self } in rw w.self-is (names_step g c.args.self.now c.loop-place.self new symbols n numbers (Terminal 0) w.in-Some.symbol w.in-Some.ensures.lookup.3.0 w.in-Some.ensures.lookup.1 all w.in_ok-insert.ensures.updates.0 c.loop-place.invariant) | in_default w ↦ absurd (omega (arith, w.in_default.ensures.lookup.3, c.loop-place-test.true, ap (λ (xs : List SymbolNumber). length xs) all, length-map symbols (number_or_count g))) ]
