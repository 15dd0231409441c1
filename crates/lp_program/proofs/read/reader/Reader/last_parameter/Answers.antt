use Rattle.std.proofs.Common.{◌++◌, List, ℕ, true, false, codes, sym, ap, ◌∙◌, arith}
use Rattle.std.proofs.lemmas.Str.Pattern.{starts_text}
use Rattle.lp_program.proofs.Parameters.{no_parameters, own_parameters, parameter_last, user_parameters}
use Rattle.lp_program.proofs.read.reader.Reader.last_parameter.Goals as goal

pub returns-then-starts_with : goal.returns-then-starts_with
returns-then-starts_with c =
    let self = c.args.self.now in
    let last = parameter_last c.loop-i.last.now _ self.entries.items c.loop-i.i c.loop-i.invariant.told (omega (arith, self.entries.ok.0)) in
    user_parameters self.prefix.now c.loop-i.last.now _ last (sym (starts_text c.starts_with.result (codes "(_, ") c.loop-i.last.now c.starts_with.ensures.cases) ∙ c.if-starts_with.true)

-- the parameter of a place, a numbered argument, or neither
pub returns-in-Some : goal.returns-in-Some
returns-in-Some c =
    let self = c.args.self.now in
    let last = parameter_last c.loop-i.last.now _ self.entries.items c.loop-i.i c.loop-i.invariant.told (omega (arith, self.entries.ok.0)) in
    let other = sym (starts_text c.starts_with.result (codes "(_, ") c.loop-i.last.now c.starts_with.ensures.cases) ∙ c.if-starts_with.false in
    let off = c.in-Some.ensures.cases in
    let look = sym (starts_text true (codes "look") c.in-Some.rest.now c.if-starts_with-2.ensures.cases) in
    own_parameters self.prefix.now c.loop-i.last.now c.in-Some.rest.now _ _ last other (off.1.1 ∙ ap (λ (x : List ℕ). self.prefix.now ++ x) (sym off.2)) look

pub returns-in-Some-2 : goal.returns-in-Some-2
returns-in-Some-2 c =
    let self = c.args.self.now in
    let last = parameter_last c.loop-i.last.now _ self.entries.items c.loop-i.i c.loop-i.invariant.told (omega (arith, self.entries.ok.0)) in
    let other = sym (starts_text c.starts_with.result (codes "(_, ") c.loop-i.last.now c.starts_with.ensures.cases) ∙ c.if-starts_with.false in
    let off = c.in-Some.ensures.cases in
    let look = sym (starts_text false (codes "look") c.in-Some.rest.now c.if-starts_with-2.ensures.cases) in
    own_parameters self.prefix.now c.loop-i.last.now c.in-Some.rest.now _ _ last other (off.1.1 ∙ ap (λ (x : List ℕ). self.prefix.now ++ x) (sym off.2)) look

pub returns-in-None : goal.returns-in-None
returns-in-None c =
    let self = c.args.self.now in
    let last = parameter_last c.loop-i.last.now _ self.entries.items c.loop-i.i c.loop-i.invariant.told (omega (arith, self.entries.ok.0)) in
    let other = sym (starts_text c.starts_with.result (codes "(_, ") c.loop-i.last.now c.starts_with.ensures.cases) ∙ c.if-starts_with.false in
    no_parameters self.prefix.now c.loop-i.last.now _ last other c.in-None.ensures.cases
