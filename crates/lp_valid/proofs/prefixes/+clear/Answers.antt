use Rattle.std.proofs.Common.{◌∙◌, ◌||◌, ◌&&◌, List, false, true, sym, ap}
use Rattle.std.specs.List.{list_all}
use Rattle.lp_repr.specs.declared.parse_tree.TypeParameter.{TypeParameter}
use Rattle.lp_valid.specs.PrefixParts.{is_clear_nominal}
use Rattle.lp_valid.specs.PrefixRules.{is_clear, is_clear_head}
use Rattle.lp_valid.proofs.ClearTypes.{tuple_clear, nominal_clear, object_clear, fn_known}
use Rattle.lp_valid.proofs.prefixes.+clear.Goals as goal

pub is_clear-returns-in-Tuple : goal.is_clear-returns-in-Tuple
is_clear-returns-in-Tuple t c =
    let p = c.args.forbidden.now.prefix.now in
    let ts = c.args.forbidden.now.types.now in
    c.are_clear.ensures ∙ (ap (list_all (is_clear p ts)) c.as_slice.ensures.value ∙ (sym (tuple_clear p ts c.in-Tuple.types) ∙ ap (is_clear p ts) (sym c.in-Tuple.is)))

pub is_clear-returns-else-is_error_type : goal.is_clear-returns-else-is_error_type
is_clear-returns-else-is_error_type t c =
    let p = c.args.forbidden.now.prefix.now in
    let ts = c.args.forbidden.now.types.now in
    let n = c.in-Nominal.nominal in
    c.is_clear_nominal.ensures
    ∙ (ap (λ b. b || is_clear_nominal p ts n) (sym c.if-is_error_type.false ∙ c.is_error_type.ensures) ∙ (sym (nominal_clear p ts n) ∙ ap (is_clear p ts) (sym c.in-Nominal.is)))

pub is_clear-returns-then-lacks : goal.is_clear-returns-then-lacks
is_clear-returns-then-lacks t c =
    let p = c.args.forbidden.now.prefix.now in
    let ts = c.args.forbidden.now.types.now in
    let n = c.in-TraitObject.nominal in
    c.is_clear_nominal-then-lacks.ensures
    ∙ (ap (λ b. b && is_clear_nominal p ts n) (sym c.if-lacks.true ∙ c.lacks.ensures) ∙ (sym (object_clear p ts n) ∙ ap (is_clear p ts) (sym c.in-TraitObject.is)))

pub is_clear-returns-then-not-are_clear_types : goal.is_clear-returns-then-not-are_clear_types
is_clear-returns-then-not-are_clear_types t c =
    let p = c.args.forbidden.now.prefix.now in
    let ts = c.args.forbidden.now.types.now in
    let head = ap (λ (b : List TypeParameter). is_clear_head p b c.in-Fn.path) (sym c.as_slice-in-Fn.ensures.value) ∙ (sym c.is_clear_head.ensures ∙ c.if-not-is_clear_head.false) in
    fn_known p ts c.in-Fn.binder c.in-Fn.path c.in-Fn.parameters c.in-Fn.ret false head (sym c.are_clear_types.ensures ∙ c.if-not-are_clear_types.true) ∙ ap (is_clear p ts) (sym c.in-Fn.is)

pub is_clear-returns-else-not-are_clear_types : goal.is_clear-returns-else-not-are_clear_types
is_clear-returns-else-not-are_clear_types t c =
    let p = c.args.forbidden.now.prefix.now in
    let ts = c.args.forbidden.now.types.now in
    let head = ap (λ (b : List TypeParameter). is_clear_head p b c.in-Fn.path) (sym c.as_slice-in-Fn.ensures.value) ∙ (sym c.is_clear_head.ensures ∙ c.if-not-is_clear_head.false) in
    c.is_clear_ret.ensures ∙ (fn_known p ts c.in-Fn.binder c.in-Fn.path c.in-Fn.parameters c.in-Fn.ret true head (sym c.are_clear_types.ensures ∙ c.if-not-are_clear_types.false) ∙ ap (is_clear p ts) (sym c.in-Fn.is))
