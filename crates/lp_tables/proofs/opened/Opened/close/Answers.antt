use Rattle.std.proofs.Common.{◌∙◌, refl, sym, true, ◌≡◌, ℕ}
use Rattle.lp_tables.specs.Walk.{is_opened}
use Rattle.lp_tables.specs.declared.opened.Opened.{Opened}
use Rattle.lp_tables.proofs.Walks.{walk_begins, walk_goes_on, walk_ends, nothing_left}
use Rattle.lp_tables.proofs.opened.Opened.close.Goals as goal

pub loop-nonterminal-init : goal.loop-nonterminal-init
loop-nonterminal-init c = record { size = c.requires.size; walks = walk_begins c.args.rules.now.all.items c.args.self c.requires.waiting }

pub loop-nonterminal-preserved : goal.loop-nonterminal-preserved
loop-nonterminal-preserved c =
    let s = c.loop-nonterminal.self in
    let t : Opened = record { opened = s.opened; work = c.pop.new.self } in
    record {
      size = c.in_ok-open_firsts.ensures.marks.size ∙ c.loop-nonterminal.invariant.size;
      walks =
          walk_goes_on c.args.rules.now.all.items (λ (n : ℕ). is_opened c.args.self n ≡ true) c.in-Some.nonterminal s t c.open_firsts.new.self c.loop-nonterminal.invariant.walks refl c.in-Some.ensures.items c.in_ok-open_firsts.ensures.marks;
    }

pub returns : goal.returns
returns c =
    let s = c.loop-nonterminal.self in
    walk_ends c.args.rules.now.all.items c.args.rules.now.firsts.items (λ (n : ℕ). is_opened c.args.self n ≡ true) s c.requires.index c.loop-nonterminal.invariant.size c.loop-nonterminal.invariant.walks (nothing_left s.work.items (sym s.work.ok.0 ∙ c.in_default.ensures.cases.0))
