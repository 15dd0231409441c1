use Rattle.std.proofs.Common.{◌≡◌, List, ◌∷◌, [], ◌∙◌, ap, sym, slice_get, option_and_then, Some, None}
use Rattle.std.specs.BTreeMap.{values}
use Rattle.std.proofs.lemmas.Map.Iter.{rest_more, rest_all}
use Rattle.lp_repr.specs.Numbering.{nonterminal_number}
use Rattle.lp_repr.specs.declared.repr.Grammar.{Grammar}
use Rattle.lp_repr.specs.declared.repr.NonterminalString.{NonterminalString}
use Rattle.lp_tables.proofs.Lists.{get_later}
use Rattle.lp_tables.proofs.tables.start_nonterminal.Goals as goal

pub loop-name-preserved : goal.loop-name-preserved
loop-name-preserved c =
    let n = c.loop-name.before in
    let e : c.loop-name.name-iterator ≡ c.in-Some.name.now ∷ c.next.new.self = rest_more _ _ _ _ _ c.in-Some.is c.next.ensures.steps in
    sym (get_later c.in-Some.name.now c.next.new.self n c.if-before-eq0.false) ∙ (ap (λ xs. slice_get xs n) (sym e) ∙ c.loop-name.invariant)

pub returns-then-before-eq0 : goal.returns-then-before-eq0
returns-then-before-eq0 c =
    let g = c.args.grammar.now in
    let name = c.in-Some.name.now in
    let e : c.loop-name.name-iterator ≡ name ∷ c.next.new.self = rest_more _ _ _ _ _ c.in-Some.is c.next.ensures.steps in
    let found : slice_get (values g.start_nonterminals) c.args.start ≡ Some name = sym c.loop-name.invariant ∙ (ap (slice_get c.loop-name.name-iterator) c.if-before-eq0.true ∙ ap (λ (xs : List NonterminalString). slice_get xs 0) e) in
    c.nonterminal.ensures ∙ (ap (λ (h : Grammar). nonterminal_number h name) c.in_ok-numbers.ensures ∙ sym (ap (option_and_then (nonterminal_number g)) found))

pub returns : goal.returns
returns c =
    let g = c.args.grammar.now in
    let e : c.loop-name.name-iterator ≡ [] = rest_all _ _ _ _ c.in-None.is c.next.ensures.steps in
    let found : slice_get (values g.start_nonterminals) c.args.start ≡ None = sym c.loop-name.invariant ∙ ap (λ (xs : List NonterminalString). slice_get xs c.loop-name.before) e in
    sym (ap (option_and_then (nonterminal_number g)) found)
