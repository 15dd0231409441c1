-- The laws of what texts show.
use Rattle.std.proofs.Common.{◌≡◌, List, subst}
use Rattle.std.specs.List.{AllByRecursion}
use Rattle.lp_program.specs.Trees.Forest.{tree}
use Rattle.lp_program.specs.Reads.Task.{trees, steps}
use Rattle.lp_reading_laws.specs.FirstLines.Opens.{Opens}
use Rattle.lp_reading_laws.specs.FirstLines.Behind.{NoLines, Place, class_tails, BeginNone, Follow}
use Rattle.lp_reading_laws.proofs.FirstLines.Law.{alternatives_apart}
use Rattle.lp_reading_laws.proofs.FirstLines.Ends.{ends_seen, tails_seen}
use Rattle.lp_reading_laws.specs.Texts.Laws.{TreesShown, TreesChosen, StepsEnded, TailsEnded}
use Rattle.lp_reading_laws.proofs.Texts.Shown.{Below, steps_weaker, task_shown}

pub trees_shown : TreesShown
trees_shown prefix c below after text rest lines reads h = task_shown prefix (trees (tree c below after)) text rest reads lines h

pub trees_chosen : TreesChosen
trees_chosen prefix class i j c below after text rest lines n w body lt within is reads h begins =
    let s = trees_shown prefix c below after text rest lines reads h in
    alternatives_apart prefix class i j lines s.0 n w body lt within (subst (λ p. Opens s.0 prefix p lines) is s.1) begins

pub steps_ended : StepsEnded
steps_ended prefix c front others s count later text rest lines w f e reads some h =
    let r = task_shown prefix (steps c count others later) text rest reads lines h in
    ends_seen prefix c.part c.holes front others s lines r.0 w f e
    (steps_weaker (Below r.0 prefix) (λ x. rest ≡ text) NoLines prefix c.holes others lines some r.1)

pub tails_ended : TailsEnded
tails_ended prefix c front others s class count later text rest lines w f e one reads some h =
    let r = task_shown prefix (steps c count others later) text rest reads lines h in
    let follow : Follow r.0 prefix c.holes others lines = steps_weaker (Below r.0 prefix) (λ x. rest ≡ text) NoLines prefix c.holes others lines some r.1 in
    let all = subst (λ (x : List Place). AllByRecursion (λ place. Follow r.0 prefix c.holes place.1 lines → BeginNone prefix (class_tails place.0) lines) x) one (tails_seen prefix c.part c.holes front others s lines r.0 w f e) in
    all.0 follow
