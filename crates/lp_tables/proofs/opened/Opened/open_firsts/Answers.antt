use Rattle.std.proofs.Common.{◌∙◌, refl, arith}
use Rattle.lp_tables.proofs.Walks.{firsts_none, firsts_step, firsts_all}
use Rattle.lp_tables.proofs.opened.Opened.open_firsts.Goals as goal

pub loop-production-init : goal.loop-production-init
loop-production-init c = record { count = refl; marks = firsts_none c.args.rules.now.all.items c.productions_of-first.result.0 c.productions_of-first.result.1 c.args.self.now }

pub loop-production-preserved : goal.loop-production-preserved
loop-production-preserved c = record {
  count = c.in_ok-open_next.ensures.count ∙ c.loop-production.invariant.count;
  marks =
      firsts_step c.args.rules.now.all.items c.productions_of-first.result.0 c.productions_of-first.result.1 c.loop-production.production c.args.self.now c.loop-production.self c.open_next.new.self c.next.result (omega arith) (omega arith) c.next.ensures c.loop-production.invariant.marks c.in_ok-open_next.ensures.marks;
}

pub returns-clause-marks : goal.returns-clause-marks
returns-clause-marks c =
    firsts_all c.args.rules.now.all.items c.args.nonterminal c.productions_of-first.result.0 c.productions_of-first.result.1 c.loop-production.production c.args.self.now c.loop-production.self c.productions_of-first.ensures (omega arith) c.loop-production.invariant.marks
