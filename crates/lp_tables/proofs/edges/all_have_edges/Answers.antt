use Rattle.std.proofs.Common.{◌≡◌, ◌∙◌, ◌∷◌, [], ℕ, IsSome, sym}
use Rattle.std.specs.BTreeMap.{get}
use Rattle.std.specs.Ordering.{nat_cmp}
use Rattle.std.proofs.lemmas.Bool.{false≢true}
use Rattle.std.proofs.lemmas.Map.Iter.{rest_more, rest_all}
use Rattle.lp_tables.proofs.Entries.{by_member}
use Rattle.lp_tables.proofs.Lists.{rest_begins, rest_fails, rest_goes, rest_ends}
use Rattle.lp_tables.proofs.edges.all_have_edges.Goals as goal

pub loop-number-init : goal.loop-number-init
loop-number-init c =
    rest_begins (λ (n : ℕ). IsSome (get nat_cmp c.args.edges.now n)) c.into_iter-number-iterator.result c.args.numbers.now.keys c.into_iter-number-iterator.ensures.into_iter_gives.0

pub returns-then-not-contains_key : goal.returns-then-not-contains_key
returns-then-not-contains_key c =
    let P = λ (n : ℕ). IsSome (get nat_cmp c.args.edges.now n) in
    let numbers = c.args.numbers.now in
    let e : c.loop-number.number-iterator ≡ c.in-Some.number.now ∷ c.next.new.self = rest_more _ _ _ _ _ c.in-Some.is c.next.ensures.steps in
    by_member P numbers _ (rest_fails P numbers.keys c.loop-number.number-iterator c.next.new.self c.in-Some.number.now e c.loop-number.invariant (λ yes. false≢true (sym (sym c.contains_key.ensures ∙ c.if-not-contains_key.true) ∙ yes)))

pub loop-number-preserved : goal.loop-number-preserved
loop-number-preserved c =
    let P = λ (n : ℕ). IsSome (get nat_cmp c.args.edges.now n) in
    let e : c.loop-number.number-iterator ≡ c.in-Some.number.now ∷ c.next.new.self = rest_more _ _ _ _ _ c.in-Some.is c.next.ensures.steps in
    rest_goes P c.args.numbers.now.keys c.loop-number.number-iterator c.next.new.self c.in-Some.number.now e c.loop-number.invariant (sym c.contains_key.ensures ∙ c.if-not-contains_key.false)

pub returns : goal.returns
returns c =
    let P = λ (n : ℕ). IsSome (get nat_cmp c.args.edges.now n) in
    let numbers = c.args.numbers.now in
    let e : c.loop-number.number-iterator ≡ [] = rest_all _ _ _ _ c.in-None.is c.next.ensures.steps in
    by_member P numbers _ (rest_ends P numbers.keys c.loop-number.number-iterator e c.loop-number.invariant)
