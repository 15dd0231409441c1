use Rattle.std.proofs.Common.{◌≡◌, Some, sym, ap, ◌∙◌}
use Rattle.std.specs.Ordering.{nat_cmp}
use Rattle.std.specs.BTreeMap.{get}
use Rattle.std.proofs.lemmas.Result.{on_ok_weaker}
use Rattle.lp_states.proofs.AskingLemmas.{spread_after, spread_absent}
use Rattle.lp_states.proofs.MovedKernels.{same_tokens}
use Rattle.lp_states.proofs.Results.{both_on_ok}
use Rattle.lp_states.proofs.closure.Closing.spread_one.Goals as goal

pub returns-in-None : goal.returns-in-None
returns-in-None c =
    let asked = c.args.asked.now in
    record {
      work = spread_absent c.args.self.now.rules.all.items asked.sets asked.work.items c.args.nonterminal (sym c.in-None.ensures.value) c.requires.work;
      grows = λ n s e. (s, e, λ t h. h);
      sound = λ kernel h. h;
    }

pub returns-in_ok-lookaheads-in-Some-clause-work :
    goal.returns-in_ok-lookaheads-in-Some-clause-work
returns-in_ok-lookaheads-in-Some-clause-work c =
    let asked = c.args.asked.now in
    let new = c.ask_productions.new.asked in
    let s = c.in_ok-lookaheads-in-Some.lookaheads in
    let same = same_tokens s c.in-Some.set.now c.in_ok-lookaheads-in-Some.ensures.cases.0 c.in_ok-lookaheads-in-Some.ensures.cases.1 in
    let at : get nat_cmp asked.sets c.args.nonterminal ≡ Some s = sym c.in-Some.ensures.value ∙ ap Some (sym same) in
    both_on_ok c.ask_productions.result (λ widens covers. spread_after c.args.self.now.rules.all.items asked.sets new.sets asked.work.items new.work.items c.args.nonterminal s at c.requires.work widens covers) c.ask_productions.ensures.widens c.ask_productions.ensures.covers

pub returns-in_ok-lookaheads-in-Some-clause-sound :
    goal.returns-in_ok-lookaheads-in-Some-clause-sound
returns-in_ok-lookaheads-in-Some-clause-sound c =
    let asked = c.args.asked.now in
    let s = c.in_ok-lookaheads-in-Some.lookaheads in
    let same = same_tokens s c.in-Some.set.now c.in_ok-lookaheads-in-Some.ensures.cases.0 c.in_ok-lookaheads-in-Some.ensures.cases.1 in
    let at : get nat_cmp asked.sets c.args.nonterminal ≡ Some s = sym c.in-Some.ensures.value ∙ ap Some (sym same) in
    on_ok_weaker c.ask_productions.result (λ sound kernel before. sound kernel (λ q l. before c.args.nonterminal q s at l) before) c.ask_productions.ensures.sound
