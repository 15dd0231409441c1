use Rattle.std.proofs.Common.{◌≡◌, Option, ap, ◌∙◌}
use Rattle.std.specs.Option.{option_map}
use Rattle.lp_view.specs.PartLists.{Form, listed}
use Rattle.lp_maker.specs.Making.{making}
use Rattle.lp_maker.specs.Slots.{Names, after_slots}
use Rattle.lp_ascent_bodies.specs.AscentErrors.{with_found_location, error_names}
use Rattle.lp_ascent_bodies.proofs.ascent_error.error_value.Goals as goal

pub returns-clause-made : goal.returns-clause-made
returns-clause-made c =
    let m = making c.args.maker.now in
    let names = c.args.scope.now in
    let after : c.fresh.new.self ≡ error_names names = c.in_ok-token.ensures.names ∙ ap (after_slots 1) c.in_ok-expected.ensures.names in
    c.in_ok-location.ensures.made
    ∙ ap (λ (x : Names). with_found_location x (option_map listed c.first.result) m) after
    ∙ ap (λ (o : Option Form). with_found_location (error_names names) o m) c.first.ensures
