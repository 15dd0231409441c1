use Rattle.std.proofs.Common.{◌||◌, sym, ap, ◌∙◌}
use Rattle.std.specs.Prelude.{nat_lt}
use Rattle.std.proofs.lemmas.Bool.{lt-ltb, le-ltb}
use Rattle.lp_lower.proofs.Counting.{too_many_of}
use Rattle.lp_lower.proofs.extents.Extent.is_too_large.Goals as goal

pub returns-then-self-gt-MOST_ALTERNATIVES : goal.returns-then-self-gt-MOST_ALTERNATIVES
returns-then-self-gt-MOST_ALTERNATIVES c = λ sides e.
    let over = lt-ltb 65536 c.args.self.alternatives c.if-self-gt-MOST_ALTERNATIVES.true in
    over ∙ sym (too_many_of sides c.args.self e ∙ ap (λ b. b || nat_lt 1048576 c.args.self.symbols) over)

pub returns-else-self-gt-MOST_ALTERNATIVES : goal.returns-else-self-gt-MOST_ALTERNATIVES
returns-else-self-gt-MOST_ALTERNATIVES c = λ sides e.
    sym (too_many_of sides c.args.self e ∙ ap (λ b. b || nat_lt 1048576 c.args.self.symbols) (le-ltb 65536 c.args.self.alternatives c.if-self-gt-MOST_ALTERNATIVES.false))
