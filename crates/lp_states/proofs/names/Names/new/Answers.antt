use Rattle.std.proofs.Common.{◌∙◌, map, take, subst, sym, ap, List, arith}
use Rattle.std.specs.Map.Iter.{deref}
use Rattle.std.proofs.lemmas.List.{take_all, length-map}
use Rattle.lp_repr.specs.declared.repr.Production.{Production}
use Rattle.lp_states.specs.Naming.{NamesMore}
use Rattle.lp_states.proofs.Named.{names_all}
use Rattle.lp_states.proofs.NamingSteps.{AreNamed, named_more, take_at, mapped_here}
use Rattle.lp_states.proofs.names.Names.new.Goals as goal

pub loop-production-preserved : goal.loop-production-preserved
loop-production-preserved c =
    let g = c.args.grammar.now in
    let items = c.deref-production-items.result.now in
    let i = c.loop-production.production-index in
    let p = c.production-item.result.now in
    let old = c.loop-production.names in
    let new = c.add_all.new.self in
    let more : NamesMore g old new p.symbols = rw (c.in_ok-numbers.ensures, c.as_slice.ensures) at c.in_ok-add_all.ensures in
    let one = take_at (map deref items) i p (mapped_here deref items i c.production-item.result c.loop-production-test.true c.production-item.is) in
    record {
      rightly = more.rightly c.loop-production.invariant.rightly;
      named = subst (λ (ps : List Production). AreNamed g new ps) (sym one) (named_more g old new (take i (map deref items)) p c.loop-production.invariant.named more);
    }

pub returns-clause-all : goal.returns-clause-all
returns-clause-all c =
    let g = c.args.grammar.now in
    let items = c.deref-production-items.result.now in
    let i = c.loop-production.production-index in
    let whole = take_all i (map deref items) (omega (arith, c.loop-production-test.false, length-map items (deref {X = Production}))) in
    let all = whole ∙ ap (map deref) c.deref-production-items.ensures.value ∙ c.in_ok-productions.ensures in
    names_all g c.loop-production.names (subst (λ (ps : List Production). AreNamed g c.loop-production.names ps) all c.loop-production.invariant.named)
