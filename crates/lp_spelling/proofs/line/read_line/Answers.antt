use Rattle.std.proofs.Common.{◌≡◌, ◌++◌, ◌+◌, ◌-◌, ◌<◌, ℕ, List, [], ◌∷◌, length, map, take, drop, get_or, ap, ◌∙◌, sym, subst, arith, Bor}
use Rattle.std.proofs.lemmas.List.{take_more, take_rest, map-append}
use Rattle.lp_form.specs.declared.template.Slot.{Slot}
use Rattle.lp_form.specs.Templates.{Piece, piece}
use Rattle.lp_spelling.specs.Lines.{TakesSlot, TakesParts}
use Rattle.lp_spelling.specs.LineReading.{ReadsSlot, slot_at}
use Rattle.lp_spelling.proofs.Spelled.{takes_none, takes_more}
use Rattle.lp_spelling.proofs.Reading.{copied_none, copied_some, reading_start, reading_stops, reading_refused, reading_goes_on, reading_ends}
use Rattle.lp_spelling.proofs.HoleSteps.{none}
use Rattle.lp_spelling.proofs.line.read_line.Goals as goal

pub loop-i-init : goal.loop-i-init
loop-i-init c = record {
  text = c.utf8.line;
  spelled = takes_none c.args.scope.prefix.now c.args.known.now.items c.args.line.now;
  reads = reading_start c.args.scope.prefix.now c.args.scope.kinds.now (map piece c.args.parts.now) c.args.known.now.items c.args.line.now;
}

pub after_front-requires-text-text : goal.after_front-requires-text-text
after_front-requires-text-text c κs = c.loop-i.invariant.text

pub is_empty-requires-text-self : goal.is_empty-requires-text-self
is_empty-requires-text-self c κs = c.loop-i.invariant.text

pub loop-i-preserved : goal.loop-i-preserved
loop-i-preserved c =
    let prefix = c.args.scope.prefix.now in
    let parts = c.args.parts.now in
    let i = c.loop-i.i in
    let q : Bor (List ℕ) × Slot = get_or parts i none in
    let lt : i < length parts = omega arith in
    let e : map piece (take (i + 1) parts) ≡ map piece (take i parts) ++ piece q ∷ [] = ap (map piece) (take_more parts i none lt) ∙ map-append piece (take i parts) (q ∷ []) in
    let front : c.loop-i.rest.now ≡ q.0.now ++ c.in-Some.after.now = c.in-Some.ensures.spelled in
    let slot : TakesSlot prefix q.1 c.loop-i.known.items c.take_slot.new.known.items c.in-Some.after.now c.in-Some-2.text.now = rw c.in-Some-2.is at c.in_ok-take_slot.ensures.spelled in
    let text = rw c.in-Some-2.is at c.in_ok-take_slot.ensures.text in
    let more = takes_more prefix (map piece (take i parts)) (piece q) c.args.known.now.items c.loop-i.known.items c.take_slot.new.known.items c.args.line.now c.loop-i.rest.now c.in-Some.after.now c.in-Some-2.text.now c.loop-i.invariant.spelled front slot in
    let kinds = c.args.scope.kinds.now in
    let off = copied_some c.after_front.result c.in-Some.after _ c.in-Some.is c.after_front.ensures.exact in
    let exact : ReadsSlot prefix kinds c.loop-i.known.items c.take_slot.new.known.items (slot_at prefix kinds q.1 (map piece (take (length parts - (i + 1)) (drop (i + 1) parts))) c.loop-i.known.items c.in-Some.after.now) c.in_ok-take_slot.field-0 = c.in_ok-take_slot.ensures.exact in
    let there = rw c.in-Some-2.is at (rw (take_rest parts (i + 1)) at exact) in
    record {
      text = text;
      spelled = subst (λ (ps : List Piece). TakesParts prefix ps c.args.known.now.items c.take_slot.new.known.items c.args.line.now c.in-Some-2.text.now) (sym e) more;
      reads = reading_goes_on prefix kinds (map piece parts) parts c.args.known.now.items c.loop-i.known.items c.take_slot.new.known.items c.args.line.now c.loop-i.rest.now c.in-Some.after.now c.in-Some-2.text i lt c.loop-i.invariant.reads off there;
    }

-- the literal text isn't there
pub returns-in_default-clause-exact : goal.returns-in_default-clause-exact
returns-in_default-clause-exact c =
    let off = copied_none c.after_front.result _ c.in_default.is c.after_front.ensures.exact in
    reading_stops c.args.scope.prefix.now c.args.scope.kinds.now (map piece c.args.parts.now) c.args.parts.now c.args.known.now.items c.loop-i.known.items c.loop-i.known.items c.args.line.now c.loop-i.rest.now c.loop-i.i (omega arith) c.loop-i.invariant.reads off

-- the slot can't be read
pub returns-in-None-clause-exact : goal.returns-in-None-clause-exact
returns-in-None-clause-exact c =
    let prefix = c.args.scope.prefix.now in
    let kinds = c.args.scope.kinds.now in
    let parts = c.args.parts.now in
    let i = c.loop-i.i in
    let off = copied_some c.after_front.result c.in-Some.after _ c.in-Some.is c.after_front.ensures.exact in
    let exact : ReadsSlot prefix kinds c.loop-i.known.items c.take_slot.new.known.items (slot_at prefix kinds (get_or parts i none).1 (map piece (take (length parts - (i + 1)) (drop (i + 1) parts))) c.loop-i.known.items c.in-Some.after.now) c.in_ok-take_slot.field-0 = c.in_ok-take_slot.ensures.exact in
    let there = rw c.in-None.is at (rw (take_rest parts (i + 1)) at exact) in
    reading_refused prefix kinds (map piece parts) parts c.args.known.now.items c.loop-i.known.items c.take_slot.new.known.items c.take_slot.new.known.items c.args.line.now c.loop-i.rest.now c.in-Some.after.now i (omega arith) c.loop-i.invariant.reads off there

pub returns-clause-exact : goal.returns-clause-exact
returns-clause-exact c =
    reading_ends c.args.scope.prefix.now c.args.scope.kinds.now (map piece c.args.parts.now) c.args.parts.now c.args.known.now.items c.loop-i.known.items c.args.line.now c.loop-i.rest.now c.loop-i.i c.is_empty.result (omega arith) c.loop-i.invariant.reads c.is_empty.ensures
