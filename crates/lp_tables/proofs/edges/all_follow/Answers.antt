use Rattle.std.proofs.Common.{◌≡◌, ◌∙◌, ◌∷◌, [], ℕ, IsTrue, sym}
use Rattle.std.specs.BTreeMap.{keys}
use Rattle.std.specs.BTreeSet.{contains}
use Rattle.std.specs.Ordering.{nat_cmp}
use Rattle.std.proofs.lemmas.Bool.{false≢true}
use Rattle.std.proofs.lemmas.Map.Iter.{rest_more, rest_all}
use Rattle.lp_tables.proofs.Entries.{by_key}
use Rattle.lp_tables.proofs.Lists.{rest_fails, rest_goes, rest_ends}
use Rattle.lp_tables.proofs.edges.all_follow.Goals as goal

pub returns-then-not-contains : goal.returns-then-not-contains
returns-then-not-contains c =
    let P = λ (n : ℕ). IsTrue (contains nat_cmp c.args.numbers.now n) in
    let edges = c.args.edges.now in
    let e : c.loop-number.number-iterator ≡ c.in-Some.number.now ∷ c.next.new.self = rest_more _ _ _ _ _ c.in-Some.is c.next.ensures.steps in
    by_key P edges _ c.keys-number-items.ensures.ordered
    (rest_fails P (keys edges) c.loop-number.number-iterator c.next.new.self c.in-Some.number.now e c.loop-number.invariant (λ yes. false≢true (sym (sym c.contains.ensures ∙ c.if-not-contains.true) ∙ yes)))

pub loop-number-preserved : goal.loop-number-preserved
loop-number-preserved c =
    let P = λ (n : ℕ). IsTrue (contains nat_cmp c.args.numbers.now n) in
    let e : c.loop-number.number-iterator ≡ c.in-Some.number.now ∷ c.next.new.self = rest_more _ _ _ _ _ c.in-Some.is c.next.ensures.steps in
    rest_goes P (keys c.args.edges.now) c.loop-number.number-iterator c.next.new.self c.in-Some.number.now e c.loop-number.invariant (sym c.contains.ensures ∙ c.if-not-contains.false)

pub returns : goal.returns
returns c =
    let P = λ (n : ℕ). IsTrue (contains nat_cmp c.args.numbers.now n) in
    let edges = c.args.edges.now in
    let e : c.loop-number.number-iterator ≡ [] = rest_all _ _ _ _ c.in-None.is c.next.ensures.steps in
    by_key P edges _ c.keys-number-items.ensures.ordered (rest_ends P (keys edges) c.loop-number.number-iterator e c.loop-number.invariant)
