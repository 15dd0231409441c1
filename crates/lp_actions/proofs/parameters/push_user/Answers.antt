-- The type that was found, or none, is that of the number.
use Rattle.std.proofs.Common.{◌≡◌, ◌++◌, Option, Some, None, length, slice_get, refl, sym, ap, ◌∙◌, append-nil, arith, rules}
use Rattle.std.proofs.lemmas.Grind.{common_steps}
use Rattle.std.proofs.lemmas.Option.{slice_get_past, slice_get_read}
use Rattle.lp_repr.specs.declared.repr.TypeRepr.{TypeRepr}
use Rattle.lp_actions.specs.Parameters.{user_if}
use Rattle.lp_actions.proofs.parameters.push_user.Goals as goal

pub returns-in-None : goal.returns-in-None
returns-in-None c =
    let types = c.args.arg_types.now in
    let past : slice_get types c.args.number ≡ None = slice_get_past types c.args.number c.in-None.ensures.lookup.3 in
    sym (ap (λ (o : Option TypeRepr). c.args.parameters.now.items ++ user_if c.args.grammar.now c.args.pattern.now o) past ∙ append-nil c.args.parameters.now.items)

pub returns-in_ok-push-in-Some : goal.returns-in_ok-push-in-Some
returns-in_ok-push-in-Some c =
    let types = c.args.arg_types.now in
    let ty = c.in-Some.ty.now in
    let found = c.in-Some.ensures.lookup in
    let at : slice_get types c.args.number ≡ Some ty = slice_get_read types (length types) c.args.number ty refl found.3.0 found.1 in
    let added : c.push.new.self.items ≡ c.args.parameters.now.items ++ user_if c.args.grammar.now c.args.pattern.now (Some ty) =
    first_of (search rules, grind (arith, common_steps)) in
    added ∙ ap (λ (o : Option TypeRepr). c.args.parameters.now.items ++ user_if c.args.grammar.now c.args.pattern.now o) (sym at)
