use Rattle.std.proofs.Common.{ℕ, Bool, List, ◌++◌, codes, ap, sym, ◌∙◌, if◌then◌else◌}
use Rattle.lp_ascent.specs.CallLines.{slot_list}
use Rattle.lp_ascent.proofs.calls.handed_on.Goals as goal

pub returns-then-after_goto : goal.returns-then-after_goto
returns-then-after_goto c =
    let prefix = c.args.prefix.now in
    let list = slot_list prefix c.args.first c.args.end in
    c.made.ensures
    ∙ (c.in_ok-format.ensures.ok
    ∙ (ap (λ (t : List ℕ). prefix ++ (codes "lookahead, " ++ t)) c.in_ok-slots.ensures
    ∙ ap (λ (b : Bool). if b then prefix ++ (codes "lookahead, " ++ list) else list) (sym c.if-after_goto.true)))
