use Rattle.std.proofs.Common.{◌<◌, [], length, map, arith, Some, None, sym, ap, ◌∙◌, subst}
use Rattle.std.proofs.lemmas.List.{get_or_default}
use Rattle.lp_form.specs.Templates.{piece}
use Rattle.lp_spelling.specs.LineReading.{after, slot_at, ReadsSlot}
use Rattle.lp_spelling.proofs.Reading.{nothing_reads, prefix_reads, hole_reads, far_reads, next_slot}
use Rattle.lp_spelling.proofs.line.take_slot.Goals as goal

pub returns-in-Nothing-clause-exact : goal.returns-in-Nothing-clause-exact
returns-in-Nothing-clause-exact c =
    let prefix = c.args.scope.prefix.now in
    let kinds = c.args.scope.kinds.now in
    let parts = map piece c.args.parts.now in
    let known = c.args.known.now.items in
    subst (λ s. ReadsSlot prefix kinds known known (slot_at prefix kinds s parts known c.args.text.now) (Some c.args.text)) (sym c.in-Nothing.is)
    (nothing_reads prefix kinds parts known c.args.text)

pub returns-in-Prefix-clause-exact : goal.returns-in-Prefix-clause-exact
returns-in-Prefix-clause-exact c =
    let prefix = c.args.scope.prefix.now in
    let kinds = c.args.scope.kinds.now in
    let parts = map piece c.args.parts.now in
    let known = c.args.known.now.items in
    subst (λ s. ReadsSlot prefix kinds known known (slot_at prefix kinds s parts known c.args.text.now) c.after_front.result) (sym c.in-Prefix.is)
    (prefix_reads prefix kinds parts known c.args.text.now c.after_front.result c.after_front.ensures.exact)

pub returns-then-k-len-clause-exact : goal.returns-then-k-len-clause-exact
returns-then-k-len-clause-exact c =
    let prefix = c.args.scope.prefix.now in
    let kinds = c.args.scope.kinds.now in
    let parts = map piece c.args.parts.now in
    let known = c.args.known.now.items in
    let k = c.in-Hole.k in
    let text = c.args.text.now in
    let within : k < length known = omega (arith, c.args.known.now.ok.0) in
    let front = c.as_str.ensures ∙ c.index.ensures ∙ get_or_default known k c.index.result.now [] within in
    subst (λ s. ReadsSlot prefix kinds known known (slot_at prefix kinds s parts known text) c.after_front-then-k-len.result) (sym c.in-Hole.is)
    (hole_reads prefix kinds k parts known text c.after_front-then-k-len.result within (c.after_front-then-k-len.ensures.exact ∙ ap (λ f. after f text) front))

pub returns-then-k-len-2-clause-exact : goal.returns-then-k-len-2-clause-exact
returns-then-k-len-2-clause-exact c =
    let prefix = c.args.scope.prefix.now in
    let kinds = c.args.scope.kinds.now in
    let parts = map piece c.args.parts.now in
    let known = c.args.known.now.items in
    subst (λ s. ReadsSlot prefix kinds known known (slot_at prefix kinds s parts known c.args.text.now) None) (sym c.in-Hole.is)
    (far_reads prefix kinds c.in-Hole.k parts known known c.args.text.now (omega (arith, c.args.known.now.ok.0)))

-- the next hole: `slot_at` there is `new_at`, by `next_slot`
pub returns-else-k-len-2-clause-exact : goal.returns-else-k-len-2-clause-exact
returns-else-k-len-2-clause-exact c =
    let prefix = c.args.scope.prefix.now in
    let kinds = c.args.scope.kinds.now in
    let parts = map piece c.args.parts.now in
    let known = c.args.known.now.items in
    let e = next_slot prefix kinds c.in-Hole.k parts known c.args.text.now (omega (arith, c.args.known.now.ok.0)) in
    rw (c.in-Hole.is, e) c.take_new.ensures.exact
