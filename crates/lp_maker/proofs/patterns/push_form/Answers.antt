use Rattle.std.specs.Prelude.{string_bytes}
use Rattle.lp_maker.proofs.Parting.{form_last}
use Rattle.lp_maker.proofs.patterns.push_form.Goals as goal

-- The other return is `form_more` of the same file, with the clauses of the two `push_str`.
pub returns-in-None-clause-form : goal.returns-in-None-clause-form
returns-in-None-clause-form c =
    form_last c.args.left c.args.name.now c.args.rest.now (string_bytes c.args.form.now) c.requires c.in-None.ensures
