use Rattle.std.proofs.Common.{◌≡◌, ◌∙◌, Some, None, sym, ap, append-nil, rules}
use Rattle.std.specs.Borrow.{Bor}
use Rattle.std.specs.List.{filter_map}
use Rattle.std.specs.Option.{option_map}
use Rattle.std.proofs.lemmas.Iterator.Adapters.{YieldsList-from_rev_slice}
use Rattle.std.proofs.lemmas.Iterator.Consumers.{YieldsList-end}
use Rattle.lp_repr.specs.declared.repr.Symbol.{Symbol}
use Rattle.lp_states.specs.Naming.{name_at}
use Rattle.lp_states.proofs.NamingSteps.{spelled_more}
use Rattle.lp_states.proofs.names.Names.path.Goals as goal

pub loop-number-preserved-in_ok-push : goal.loop-number-preserved-in_ok-push
loop-number-preserved-in_ok-push c =
    let names = c.args.self.now in
    let copy = c.in_ok-clone.field-0 in
    let same : copy ≡ c.in-Some-get.symbol.now.now = search rules in
    let at : name_at names c.in-Some.number.now ≡ Some copy = ap (option_map (λ (s : Bor Symbol). s.now)) (sym c.in-Some-get.ensures.value) ∙ ap Some (sym same) in
    spelled_more names c.loop-number.yielded c.in-Some.number c.loop-number.path.items c.push.new.self.items (Some copy) c.loop-number.invariant at c.in_ok-push.ensures.items

pub loop-number-preserved : goal.loop-number-preserved
loop-number-preserved c =
    let names = c.args.self.now in
    let at : name_at names c.in-Some.number.now ≡ None = ap (option_map (λ (s : Bor Symbol). s.now)) (sym c.in_default.ensures.value) in
    spelled_more names c.loop-number.yielded c.in-Some.number c.loop-number.path.items c.loop-number.path.items None c.loop-number.invariant at (sym (append-nil c.loop-number.path.items))

pub returns : goal.returns
returns c =
    let e = YieldsList-end (YieldsList-from_rev_slice c.args.backwards.now cc) c.loop-number.yielded c.loop-number.number-iterator c.loop-number.yielded_by c.next.result c.next.new.self c.in-None.is c.next.ensures.steps in
    c.loop-number.invariant ∙ ap (filter_map (name_at c.args.self.now)) e.0
