use Rattle.std.proofs.Common.{◌≡◌, ℕ, List, refl, ap, ◌∙◌}
use Rattle.lp_view.specs.PartLists.{listed}
use Rattle.lp_view.specs.declared.part.PartRef.{PartRef}
use Rattle.lp_maker.specs.Making.{making}
use Rattle.lp_run.specs.Promised.{promises_of}
use Rattle.lp_run.specs.Functions.{all_made, actions_made}
use Rattle.lp_run.specs.ParseMethod.{parse_of, parsing_of}
use Rattle.lp_run.proofs.Whole.{all_after}
use Rattle.lp_run.proofs.enter.made_after.Goals as goal

pub returns : goal.returns
returns c =
    let declared = making c.module_rows.new.maker in
    let functions = making c.all_made.new.maker in
    let acted = making c.actions_made.new.maker in
    let promises = c.in_ok-promises.promises.items in
    let all : functions ≡ all_made declared (promises_of promises) =
    c.in_ok-all_made.ensures ∙ ap (λ (l : List (ℕ × PartRef)). all_made declared (promises_of l)) c.as_slice-functions.ensures.value in
    let actions : acted ≡ actions_made functions (promises_of c.args.begun.actions.items) =
    c.in_ok-actions_made.ensures ∙ ap (λ (l : List (ℕ × PartRef)). actions_made functions (promises_of l)) c.as_slice-actions.ensures.value in
    all_after (listed c.args.items) c.args.names (promises_of c.args.begun.actions.items) acted.item_closure (parsing_of (parse_of c.in_ok-parser.parser) (making c.parse_made.new.maker))
    c.args.begun.located (making c.args.maker.now) (making c.with_source.new.maker) declared functions acted (promises_of promises)
    c.in_ok-with_source.ensures c.in_ok-promises.ensures all actions refl c.in_ok-parser.ensures
