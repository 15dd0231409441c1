-- The form at a place of parts, where the first of them is off.
use Rattle.std.proofs.Common.{◌≡◌, ℕ, ◌-◌, ◌<◌, zero, suc, List, ◌∷◌, Some, None, refl, ap, arith}
use Rattle.std.specs.Prelude.{slice_get}
use Rattle.lp_form.specs.Forms.{form_of}
use Rattle.lp_form.specs.declared.kind.FormKind.{FormKind}
use Rattle.lp_tree.specs.declared.tree.Entry.{Entry}
use Rattle.lp_tree.specs.ProgramTree.{forms_of}

-- the first is no form
pub none_off : (e : Entry) (es : List Entry) (n : ℕ) → form_of e.part ≡ None → slice_get (forms_of (e ∷ es)) n ≡ slice_get (forms_of es) n
none_off e es n h = rw h refl

-- the first is the form that is sought
pub first_is : (e : Entry) (es : List Entry) (k : FormKind) → form_of e.part ≡ Some k → slice_get (forms_of (e ∷ es)) 0 ≡ Some k
first_is e es k h = rw h refl

-- the first is another form
pub form_off : (e : Entry) (es : List Entry) (k : FormKind) (n : ℕ) → form_of e.part ≡ Some k → 0 < n → slice_get (forms_of (e ∷ es)) n ≡ slice_get (forms_of es) (n - 1)
form_off e es k zero h p = absurd (omega arith)
form_off e es k (suc n) h p = let m : n ≡ suc n - 1 = omega arith in rw h (ap (slice_get (forms_of es)) m)
