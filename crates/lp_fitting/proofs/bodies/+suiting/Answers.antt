use Rattle.std.proofs.Common.{◌≡◌, ◌↔◌, ◌+◌, [], length, min, sym, ap, ◌∙◌, subst, arith}
use Rattle.lp_tree.specs.declared.tree.Entry.{Entry}
use Rattle.lp_program.specs.Trees.{forest}
use Rattle.lp_fitting.specs.Bodies.{BodiesSuit}
use Rattle.lp_fitting.proofs.Walking.{SuitFrom, last_next, tree_fails, tree_passes, walk_ends}
use Rattle.lp_fitting.proofs.bodies.+suiting.Goals.{trees_suit-then-at-next+in_ok-tree_suits+else-not-branch, trees_suit-else-at-next}
use Rattle.lp_fitting.proofs.bodies.+suiting.Goals as goal

pub trees_suit-returns-then-not-branch : goal.trees_suit-returns-then-not-branch
trees_suit-returns-then-not-branch t c =
    let prefix = c.args.prefix.now in
    let es = c.args.entries.now in
    let at = c.loop-at.at in
    let e = c.index-entries-at.result in
    let here : c.loop-at.next ≡ at = omega (arith, c.if-at-next.true) in
    let ends : c.end_of-next.result ≡ min (at + 1 + e.below) (length es) = c.end_of-next.ensures.place e ∙ ap (λ (x : Entry). min (at + 1 + x.below) (length es)) (sym c.index-entries-at.is) in
    tree_fails prefix es at c.end_of-next.result e c.loop-at-test.true c.index-entries-at.is ends c.loop-at.last.now c.in_ok-tree_suits.field-0 c.loop-at.invariant.last c.if-not-branch.true c.in_ok-tree_suits.ensures
    (subst (λ n. BodiesSuit prefix [] (forest es) ↔ SuitFrom prefix es n) here c.loop-at.invariant.told)

pub trees_suit-loop-at-preserved : goal.trees_suit-loop-at-preserved
trees_suit-loop-at-preserved t c =
    let prefix = c.args.prefix.now in
    let es = c.args.entries.now in
    let at = c.loop-at.at in
    let e = c.index-entries-at.result in
    let last = last_next es at e c.loop-at.last.now c.parameter_after-last.result.now c.loop-at-test.true c.index-entries-at.is c.loop-at.invariant.last c.parameter_after-last.ensures in
    elim c.if-at-next.branch [
      | trees_suit-then-at-next+in_ok-tree_suits+else-not-branch w ↦
          let here : c.loop-at.next ≡ at = omega (arith, w.if-at-next.true) in
          let ends : w.end_of-next.result ≡ min (at + 1 + e.below) (length es) = w.end_of-next.ensures.place e ∙ ap (λ (x : Entry). min (at + 1 + x.below) (length es)) (sym c.index-entries-at.is) in
          let passes = tree_passes prefix es at w.end_of-next.result e c.loop-at-test.true c.index-entries-at.is ends c.loop-at.last.now w.in_ok-tree_suits.field-0 c.loop-at.invariant.last w.if-not-branch.false w.in_ok-tree_suits.ensures
          (subst (λ n. BodiesSuit prefix [] (forest es) ↔ SuitFrom prefix es n) here c.loop-at.invariant.told) in
          record {
            reached = omega (arith, w.end_of-next.ensures.after, w.next-is);
            within = omega (arith, w.end_of-next.ensures.within, w.next-is);
            last = last;
            text = c.parameter_after-last.utf8;
            told = subst (λ n. BodiesSuit prefix [] (forest es) ↔ SuitFrom prefix es n) (sym w.next-is) passes;
          }
      | trees_suit-else-at-next w ↦
          record {
            reached = omega (arith, c.loop-at.invariant.reached, w.if-at-next.false, w.next-is);
            within = omega (arith, c.loop-at.invariant.within, w.next-is);
            last = last;
            text = c.parameter_after-last.utf8;
            told = subst (λ n. BodiesSuit prefix [] (forest es) ↔ SuitFrom prefix es n) (sym w.next-is) c.loop-at.invariant.told;
          }
    ]

pub trees_suit-returns : goal.trees_suit-returns
trees_suit-returns t c =
    walk_ends c.args.prefix.now c.args.entries.now c.loop-at.next (omega (arith, c.loop-at.invariant.reached, c.loop-at-test.false)) c.loop-at.invariant.told
