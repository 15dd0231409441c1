use Rattle.std.proofs.Common.{◌++◌, List, ℕ, true, false, codes, refl, sym, ap, ◌∙◌}
use Rattle.std.proofs.lemmas.Str.Pattern.{starts_text}
use Rattle.lp_program.proofs.Parameters.{no_parameters, own_parameters, user_parameters}
use Rattle.lp_fitting.proofs.bodies.parameters_of.Goals as goal

pub returns-then-starts_with : goal.returns-then-starts_with
returns-then-starts_with c =
    let last = c.args.last.now in
    user_parameters c.args.prefix.now last last refl (sym (starts_text c.starts_with.result (codes "(_, ") last c.starts_with.ensures.cases) ∙ c.if-starts_with.true)

-- the parameter of a place, a numbered argument, or neither
pub returns-in-Some : goal.returns-in-Some
returns-in-Some c =
    let last = c.args.last.now in
    let prefix = c.args.prefix.now in
    let other = sym (starts_text c.starts_with.result (codes "(_, ") last c.starts_with.ensures.cases) ∙ c.if-starts_with.false in
    let off = c.in-Some.ensures.cases in
    let look = sym (starts_text true (codes "look") c.in-Some.rest.now c.if-starts_with-2.ensures.cases) in
    own_parameters prefix last c.in-Some.rest.now _ _ refl other (off.1.1 ∙ ap (λ (x : List ℕ). prefix ++ x) (sym off.2)) look

pub returns-in-Some-2 : goal.returns-in-Some-2
returns-in-Some-2 c =
    let last = c.args.last.now in
    let prefix = c.args.prefix.now in
    let other = sym (starts_text c.starts_with.result (codes "(_, ") last c.starts_with.ensures.cases) ∙ c.if-starts_with.false in
    let off = c.in-Some.ensures.cases in
    let look = sym (starts_text false (codes "look") c.in-Some.rest.now c.if-starts_with-2.ensures.cases) in
    own_parameters prefix last c.in-Some.rest.now _ _ refl other (off.1.1 ∙ ap (λ (x : List ℕ). prefix ++ x) (sym off.2)) look

pub returns-in-None : goal.returns-in-None
returns-in-None c =
    let last = c.args.last.now in
    let other = sym (starts_text c.starts_with.result (codes "(_, ") last c.starts_with.ensures.cases) ∙ c.if-starts_with.false in
    no_parameters c.args.prefix.now last _ refl other c.in-None.ensures.cases
