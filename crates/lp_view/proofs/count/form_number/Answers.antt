use Rattle.std.proofs.Common.{◌≡◌, ℕ, ◌+◌, ◌<◌, ◌∷◌, Some, None, ap, sym, ◌∙◌, arith, drop, length}
use Rattle.std.specs.Prelude.{slice_get}
use Rattle.std.proofs.lemmas.List.{at_drop_more}
use Rattle.lp_form.specs.Forms.{form_of}
use Rattle.lp_tree.specs.ProgramTree.{forms_of}
use Rattle.lp_view.proofs.Counting.{none_off, form_off}
use Rattle.lp_view.proofs.count.form_number.Goals as goal
use Rattle.lp_view.proofs.count.form_number.Goals.{in-Some+else-left-eq0, in_default}

pub loop-entry-preserved : goal.loop-entry-preserved
loop-entry-preserved c =
    let items = c.deref-entry-items.result.now in
    let idx = c.loop-entry.entry-index in
    let x = c.entry-item.result in
    let rest = drop (idx + 1) items in
    let lt : idx < length items = omega arith in
    let step : (n : ℕ) → slice_get (forms_of (drop idx items)) n ≡ slice_get (forms_of (x ∷ rest)) n = λ n. at_drop_more (λ es. slice_get (forms_of es) n) items idx x lt ∙ ap (λ y. slice_get (forms_of (y ∷ rest)) n) (sym c.entry-item.is) in
    elim c.match-form.branch [
      | in-Some+else-left-eq0 w ↦ let k : form_of x.part ≡ Some w.in-Some.kind = sym w.in-Some.ensures in
          let pos : 0 < c.loop-entry.left = omega arith in
          rw w.left-is (sym (form_off x rest w.in-Some.kind c.loop-entry.left k pos) ∙ sym (step c.loop-entry.left) ∙ c.loop-entry.invariant)
      | in_default w ↦ let k : form_of x.part ≡ None = sym w.in_default.ensures in
          rw w.left-is (sym (none_off x rest c.loop-entry.left k) ∙ sym (step c.loop-entry.left) ∙ c.loop-entry.invariant)
    ]
