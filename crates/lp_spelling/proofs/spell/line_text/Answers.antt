use Rattle.std.proofs.Common.{◌++◌, map, ℕ, ◌+◌, List, [], get_or, Bor, drop, arith, append-nil, ap, sym, ◌∙◌, string_bytes}
use Rattle.std.proofs.lemmas.List.{at_drop_more, at_drop_all}
use Rattle.lp_form.specs.declared.template.Slot.{Slot}
use Rattle.lp_form.specs.declared.template.Slot.TheVariants.{Nothing}
use Rattle.lp_form.specs.Templates.{piece}
use Rattle.lp_spelling.specs.Lines.{line_of, slot_text}
use Rattle.lp_spelling.proofs.Spelled.{two_pieces}
use Rattle.lp_spelling.proofs.spell.line_text.Goals as goal

pub loop-part-preserved : goal.loop-part-preserved
unfolding line_of
loop-part-preserved c =
    let prefix = c.args.prefix.now in
    let holes = c.args.holes.now in
    let none : Bor (List ℕ) × Slot = (record { ref_ptr = (0, 0); now = [] }, Nothing) in
    let q : Bor (List ℕ) × Slot = get_or c.args.parts.now c.loop-part.part-index none in
    let e = at_drop_more (λ ps. line_of prefix holes (map piece ps)) c.args.parts.now c.loop-part.part-index none (omega arith) in
    two_pieces (string_bytes c.loop-part.text) (string_bytes c.push_str.new.self) (string_bytes c.push_slot.new.text) q.0.now (slot_text prefix holes q.1) (line_of prefix holes (map piece (drop (c.loop-part.part-index + 1) c.args.parts.now))) _ c.in_ok-push_str.ensures.bytes c.in_ok-push_slot.ensures (ap (λ x. string_bytes c.loop-part.text ++ x) (sym e) ∙ c.loop-part.invariant)

pub returns : goal.returns
unfolding line_of
returns c =
    let e = at_drop_all (λ ps. line_of c.args.prefix.now c.args.holes.now (map piece ps)) c.args.parts.now c.loop-part.part-index (omega arith) in
    sym (append-nil (string_bytes c.loop-part.text)) ∙ ap (λ x. string_bytes c.loop-part.text ++ x) (sym e) ∙ c.loop-part.invariant
