use Rattle.std.proofs.Common.{◌∙◌, ℕ, sym, IsTrue}
use Rattle.std.proofs.lemmas.Bool.{false≢true}
use Rattle.lp_tables.specs.ItemSets.{has}
use Rattle.lp_tables.proofs.Closures.{begins_both, begins_alone_of, all_begin_of}
use Rattle.lp_tables.proofs.opened.begins_opened.Goals as goal

pub returns-then-begin_alone : goal.returns-then-begin_alone
returns-then-begin_alone c =
    let rules = c.args.rules.now.all.items in
    let marks = c.args.marks.now in
    let items = c.args.items.now in
    let Has = λ (p d : ℕ). IsTrue (has c.args.set.now p d) in
    (λ yes. begins_both rules marks items Has c.requires (c.begin_alone.ensures.0 c.if-begin_alone.true) (c.all_begin.ensures.0 yes), λ h. c.all_begin.ensures.1 (all_begin_of rules marks items Has c.requires h))

pub returns-else-begin_alone : goal.returns-else-begin_alone
returns-else-begin_alone c =
    (λ yes. absurd (false≢true (sym c.if-begin_alone.false ∙ yes)), λ h. c.begin_alone.ensures.1 (begins_alone_of c.args.rules.now.all.items c.args.marks.now c.args.items.now h))
