use Rattle.std.proofs.Common.{◌∙◌, ap, sym, subst, ◌≡◌, nat_lt}
use Rattle.std.specs.List.{list_all}
use Rattle.lp_valid.specs.InlineRules.{part_runs, kind_runs}
use Rattle.lp_valid.proofs.Walks.{inline_lesser}
use Rattle.lp_valid.proofs.circles.runs_lesser.Goals as goal

pub returns-then-action-number : goal.returns-then-action-number
returns-then-action-number c =
    subst (λ k. c.parts_run_lesser.result ≡ list_all (λ b. nat_lt b c.args.number) (kind_runs k)) (sym c.in-Inline.is)
    (inline_lesser c.args.number c.in-Inline.action c.in-Inline.symbols c.parts_run_lesser.result c.if-action-number.true (c.parts_run_lesser.ensures ∙ ap (list_all (λ s. list_all (λ b. nat_lt b c.args.number) (part_runs s))) c.as_slice.ensures))
