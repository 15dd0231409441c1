use Rattle.std.proofs.Common.{◌≡◌, ℕ, ◌+◌, List, [], ap, sym, ◌∙◌, drop, bit_or}
use Rattle.std.proofs.lemmas.List.{drop_all}
use Rattle.lp_repr.specs.declared.numbering.SymbolNumber.{SymbolNumber}
use Rattle.lp_repr.specs.declared.numbering.SymbolNumber.TheVariants.{Terminal}
use Rattle.lp_sets.specs.FirstTables.{first_terminals}
use Rattle.lp_sets.proofs.Words.{or_zero}
use Rattle.lp_sets.proofs.WordSteps.{first-other, first-more, vanishes-more}
use Rattle.lp_sets.proofs.first.add_first.Goals as goal

pub returns-then-not-contains-clause-terminals : goal.returns-then-not-contains-clause-terminals
returns-then-not-contains-clause-terminals c =
    c.in_ok-add_set-in-Nonterminal.ensures
    ∙ first-other c.args.empty.now c.args.symbols.now c.loop-symbol.symbol-index c.loop-symbol-test.true (Terminal 0) c.args.sets.now c.loop-symbol.set c.in-Nonterminal.number c.in-Nonterminal.is c.if-not-contains.ensures.test
    ∙ c.loop-symbol.invariant.0

pub loop-symbol-preserved : goal.loop-symbol-preserved
loop-symbol-preserved c =
    let rest = first_terminals c.args.empty.now c.args.sets.now (drop (c.loop-symbol.symbol-index + 1) c.args.symbols.now) in (
      ap (λ (s : ℕ). bit_or s rest) c.in_ok-add_set-in-Nonterminal.ensures
          ∙ first-more c.args.empty.now c.args.symbols.now c.loop-symbol.symbol-index c.loop-symbol-test.true (Terminal 0) c.args.sets.now c.loop-symbol.set c.in-Nonterminal.number c.in-Nonterminal.is c.if-not-contains.ensures.test
          ∙ c.loop-symbol.invariant.0,
      sym (vanishes-more c.args.empty.now c.args.symbols.now c.loop-symbol.symbol-index c.loop-symbol-test.true (Terminal 0) c.in-Nonterminal.number c.in-Nonterminal.is c.if-not-contains.ensures.test)
          ∙ c.loop-symbol.invariant.1,
    )

pub returns-clause-terminals : goal.returns-clause-terminals
returns-clause-terminals c =
    let none : drop c.loop-symbol.symbol-index c.args.symbols.now ≡ [] = drop_all _ _ c.loop-symbol-test.false in
    sym (ap (λ (xs : List SymbolNumber). bit_or c.loop-symbol.set (first_terminals c.args.empty.now c.args.sets.now xs)) none ∙ or_zero c.loop-symbol.set)
    ∙ c.loop-symbol.invariant.0
