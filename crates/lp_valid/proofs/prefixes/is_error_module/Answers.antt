use Rattle.std.proofs.Common.{◌≡◌, ◌∙◌, ◌&&◌, false, true, ap, sym, subst, codes, drop, length}
use Rattle.std.specs.Str.{IsCharBoundary}
use Rattle.std.proofs.lemmas.Str.Pattern.{starts_text}
use Rattle.lp_repr.specs.Names.{same_text}
use Rattle.lp_valid.proofs.prefixes.is_error_module.Goals as goal

pub returns-in-None : goal.returns-in-None
returns-in-None c =
    ap (λ b. b && same_text (drop (length c.args.prefix.now) c.args.name.now) (codes "lalrpop_util")) (starts_text false c.args.prefix.now c.args.name.now c.in-None.ensures.cases)

pub returns-in-Some : goal.returns-in-Some
returns-in-Some c =
    let p = c.args.prefix.now in
    let s = c.args.name.now in
    let cut = c.in-Some.ensures.cases in
    let rest : c.in-Some.rest.now ≡ drop (length p) s = cut.2 ∙ ap (λ k. drop k s) cut.1.0 in
    c.eq.ensures
    ∙ (ap (λ t. same_text t (codes "lalrpop_util")) rest ∙ ap (λ b. b && same_text (drop (length p) s) (codes "lalrpop_util")) (starts_text true p s (cut.0, cut.1, subst (IsCharBoundary s) (sym cut.1.0) cut.1.2)))
