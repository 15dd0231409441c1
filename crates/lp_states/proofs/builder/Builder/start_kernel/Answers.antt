use Rattle.std.proofs.Common.{true, refl, arith}
use Rattle.lp_sets.specs.declared.tokens.TokenSet.{TokenSet}
use Rattle.lp_states.proofs.BegunSteps.{begun_none, begun_more, begun_all, ends_only}
use Rattle.lp_states.proofs.builder.Builder.start_kernel.Goals as goal

pub loop-production-init : goal.loop-production-init
loop-production-init c =
    begun_none c.args.self.now.closing.rules.all.items c.args.nonterminal c.productions_of-range.result.from c.new-kernel.result (λ p d. rw c.new-kernel.ensures.empty) (λ p h. ((c.productions_of-range.ensures p).1 h).0)

pub loop-production-preserved : goal.loop-production-preserved
loop-production-preserved c =
    let k = c.loop-production.production in
    let v : TokenSet = record { terminals = c.new-lookaheads.result.terminals; end = true } in
    begun_more c.args.self.now.closing.rules.all.items c.args.nonterminal k c.loop-production.kernel c.insert.new.self v (ends_only c.new-lookaheads.result c.new-lookaheads.ensures v refl refl) c.in_ok-insert.ensures.updates.0 ((c.productions_of-range.ensures k).0 (c.loop-production.auto.production, c.loop-production-test.true)) c.loop-production.invariant

pub returns : goal.returns
returns c =
    begun_all c.args.self.now.closing.rules.all.items c.args.nonterminal c.loop-production.production c.loop-production.kernel (λ p h. let r = (c.productions_of-range.ensures p).1 h in omega (arith, r.1, c.loop-production-test.false)) c.loop-production.invariant
