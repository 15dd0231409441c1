use Rattle.std.proofs.Common.{◌∷◌, [], sym, subst, OnOk}
use Rattle.std.specs.List.{flat_map}
use Rattle.lp_valid.specs.InlineRules.{part_runs, kind_runs}
use Rattle.lp_valid.specs.Walk.{Marks}
use Rattle.lp_valid.proofs.Walks.{marks_none, then_these}
use Rattle.lp_valid.proofs.circles.Reached.reach_from.Goals as goal

pub returns-in-User-clause-marks : goal.returns-in-User-clause-marks
returns-in-User-clause-marks c = subst (λ k. Marks c.args.self.now c.args.self.now (kind_runs k)) (sym c.in-User.is) (marks_none c.args.self.now)

pub returns-in-Lookaround-clause-marks : goal.returns-in-Lookaround-clause-marks
returns-in-Lookaround-clause-marks c = subst (λ k. Marks c.args.self.now c.args.self.now (kind_runs k)) (sym c.in-Lookaround.is) (marks_none c.args.self.now)

pub returns-in_ok-reach-in-Inline-clause-marks : goal.returns-in_ok-reach-in-Inline-clause-marks
returns-in_ok-reach-in-Inline-clause-marks c =
    subst (λ k. OnOk c.reach_parts.result (Marks c.args.self.now c.reach_parts.new.self (kind_runs k))) (sym c.in-Inline.is)
    (subst (λ ps. OnOk c.reach_parts.result (Marks c.args.self.now c.reach_parts.new.self (c.in-Inline.action ∷ flat_map part_runs ps))) c.as_slice.ensures
    (then_these c.args.self.now c.reach.new.self c.reach_parts.new.self (c.in-Inline.action ∷ []) (flat_map part_runs c.as_slice.result.now) c.reach_parts.result c.in_ok-reach-in-Inline.ensures.marks c.reach_parts.ensures.marks))
