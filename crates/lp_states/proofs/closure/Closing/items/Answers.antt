use Rattle.std.proofs.Common.{◌≡◌, ◌<◌, Some, length, sym, ap, ◌∙◌, arith}
use Rattle.std.specs.Option.{option_map}
use Rattle.std.proofs.lemmas.Option.{slice_get-get_or}
use Rattle.lp_repr.specs.declared.numbering.Rule.{Rule}
use Rattle.lp_states.specs.Ranges.{left_of}
use Rattle.lp_states.proofs.ClosureSteps.{closed_all, closed_skip, closed_put}
use Rattle.lp_states.proofs.closure.Closing.items.Goals as goal
use Rattle.lp_states.proofs.closure.Closing.items.Goals.{in-None, in-Some+in_ok-put-in-Some}

pub loop-production-preserved : goal.loop-production-preserved
loop-production-preserved c =
    let rules = c.args.self.now.rules.all.items in
    let kernel = c.args.kernel.now in
    let sets = c.args.asked.now.sets in
    let k = c.loop-production.production in
    let n = c.index.result.now.left in
    let so_far = c.loop-production.invariant.closed in
    let within : k < length rules = omega (arith, c.loop-production-test.true, c.len-production-end.ensures, c.args.self.now.rules.all.ok.0) in
    let left : left_of rules k ≡ Some n = ap (option_map (λ (r : Rule). r.left)) (slice_get-get_or rules k c.index.result.now within) ∙ ap (λ (r : Rule). Some r.left) (sym c.index.ensures) in
    elim c.match-get.branch [ in-None w ↦ rw w.items-is (record { closed = closed_skip rules kernel sets k n left c.loop-production.items so_far (sym w.in-None.ensures.value); ordered = c.loop-production.invariant.ordered }) | in-Some+in_ok-put-in-Some w ↦ rw w.items-is (record { closed = closed_put rules kernel sets k n left c.loop-production.items so_far w.in-Some.lookaheads.now (sym w.in-Some.ensures.value) w.put.new.items w.in_ok-put-in-Some.ensures.put; ordered = w.in_ok-put-in-Some.ensures.ordered }) ]

pub returns : goal.returns
returns c = record {
  exact = closed_all c.args.self.now.rules.all.items c.args.kernel.now c.args.asked.now.sets c.loop-production.production c.loop-production.items (omega arith) c.loop-production.invariant.closed;
  ordered = c.loop-production.invariant.ordered;
}
