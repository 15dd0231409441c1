use Rattle.std.proofs.Common.{◌≡◌, Option, None, subst}
use Rattle.std.specs.Prelude.{MatchOption}
use Rattle.lp_run.specs.declared.enter.Entered.{Entered}
use Rattle.lp_run.specs.Entered.{EntersSome}
use Rattle.lp_run.proofs.Answering.{told_none}
use Rattle.lp_run.proofs.run.run_found.Goals as goal

pub returns-in-None : goal.returns-in-None
returns-in-None c = λ program o h.
    let P : Option Entered → Type 0 = λ x. MatchOption x (o ≡ None) (λ e. EntersSome program o e) in
    told_none c.args.items.now c.args.params.now c.args.failing.now c.args.budget program o (subst P c.in-None.is h)

pub returns-in-Some : goal.returns-in-Some
returns-in-Some c = λ program o h.
    let P : Option Entered → Type 0 = λ x. MatchOption x (o ≡ None) (λ e. EntersSome program o e) in
    c.run_counted.ensures program o (subst P c.in-Some.is h)
