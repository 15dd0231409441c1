use Rattle.std.proofs.Common.{◌≡◌, ◌∷◌, [], ℕ, ◌<◌}
use Rattle.std.proofs.lemmas.Map.Iter.{rest_more, rest_all}
use Rattle.lp_tables.proofs.Entries.{by_get}
use Rattle.lp_tables.proofs.Lists.{rest_begins, rest_fails, rest_goes, rest_ends, not_so}
use Rattle.lp_tables.proofs.ranges.edges_in_range.Goals as goal

pub loop-number-init : goal.loop-number-init
loop-number-init c =
    let P = λ (e : ℕ × ℕ). (e.0 < c.args.symbols) × (e.1 < c.args.states) in
    rest_begins P c.into_iter-number-iterator.result c.args.edges.now.entries c.into_iter-number-iterator.ensures.into_iter_gives.0

pub returns-then-not-is_edge : goal.returns-then-not-is_edge
returns-then-not-is_edge c =
    let edges = c.args.edges.now in
    let P = λ (e : ℕ × ℕ). (e.0 < c.args.symbols) × (e.1 < c.args.states) in
    let e : c.loop-number.number-iterator ≡ (c.in-Some.number.now, c.in-Some.target.now) ∷ c.next.new.self = rest_more _ _ _ _ _ c.in-Some.is c.next.ensures.steps in
    by_get (λ n target. P (n, target)) edges _ c.into_iter-number-iterator.ensures.into_iter_gives.5
    (rest_fails P edges.entries c.loop-number.number-iterator c.next.new.self (c.in-Some.number.now, c.in-Some.target.now) e c.loop-number.invariant (not_so c.is_edge.result c.is_edge.ensures c.if-not-is_edge.true))

pub loop-number-preserved : goal.loop-number-preserved
loop-number-preserved c =
    let edges = c.args.edges.now in
    let P = λ (e : ℕ × ℕ). (e.0 < c.args.symbols) × (e.1 < c.args.states) in
    let e : c.loop-number.number-iterator ≡ (c.in-Some.number.now, c.in-Some.target.now) ∷ c.next.new.self = rest_more _ _ _ _ _ c.in-Some.is c.next.ensures.steps in
    rest_goes P edges.entries c.loop-number.number-iterator c.next.new.self (c.in-Some.number.now, c.in-Some.target.now) e c.loop-number.invariant (c.is_edge.ensures.0 c.if-not-is_edge.false)

pub returns : goal.returns
returns c =
    let edges = c.args.edges.now in
    let P = λ (e : ℕ × ℕ). (e.0 < c.args.symbols) × (e.1 < c.args.states) in
    let e : c.loop-number.number-iterator ≡ [] = rest_all _ _ _ _ c.in-None.is c.next.ensures.steps in
    by_get (λ n target. P (n, target)) edges _ c.into_iter-number-iterator.ensures.into_iter_gives.5 (rest_ends P edges.entries c.loop-number.number-iterator e c.loop-number.invariant)
