-- The first of the parts that are left, one after another.
use Rattle.std.proofs.Common.{◌≡◌, Bool, true, false, Option, Some, None, ap, sym, ◌∙◌}
use Rattle.std.specs.Prelude.{if◌then◌else◌}
use Rattle.std.specs.Iterator.{YieldsFirstBy}
use Rattle.std.specs.Option.{option_or}
use Rattle.lp_view.specs.PartLists.{Form, first_that, first_given, listed, parts_left}
use Rattle.lp_view.specs.declared.part.PartRef.{PartRef}
use Rattle.lp_view.specs.declared.part.Parts.{Parts}
use Rattle.lp_view.proofs.Over.{part_there, no_part}

-- the part passes the test, or it doesn't
pub that_found : (test : Form → Bool) (whole : Option Form) (r : Option PartRef) (x : PartRef) (s t : Parts) → r ≡ Some x → YieldsFirstBy listed parts_left s r t → test (listed x) ≡ true → first_that test (parts_left s) ≡ whole → Some (listed x) ≡ whole
that_found test whole r x s t is h passes e =
    sym (ap (λ (b : Bool). if b then Some (listed x) else first_that test (parts_left t)) passes) ∙ sym (ap (first_that test) (part_there r x s t is h)) ∙ e

pub that_passed : (test : Form → Bool) (whole : Option Form) (r : Option PartRef) (x : PartRef) (s t : Parts) → r ≡ Some x → YieldsFirstBy listed parts_left s r t → test (listed x) ≡ false → first_that test (parts_left s) ≡ whole → first_that test (parts_left t) ≡ whole
that_passed test whole r x s t is h fails e =
    sym (ap (λ (b : Bool). if b then Some (listed x) else first_that test (parts_left t)) fails) ∙ sym (ap (first_that test) (part_there r x s t is h)) ∙ e

pub that_missed : (test : Form → Bool) (whole : Option Form) (r : Option PartRef) (s t : Parts) → r ≡ None → YieldsFirstBy listed parts_left s r t → first_that test (parts_left s) ≡ whole → None ≡ whole
that_missed test whole r s t is h e = sym (ap (first_that test) (no_part r s t is h)) ∙ e

-- the part gives something, or it gives nothing
pub given_found : (f : Form → Option Form) (whole : Option Form) (y : Form) (r : Option PartRef) (x : PartRef) (s t : Parts) → r ≡ Some x → YieldsFirstBy listed parts_left s r t → Some y ≡ f (listed x) → first_given f (parts_left s) ≡ whole → Some y ≡ whole
given_found f whole y r x s t is h passes e =
    ap (λ (o : Option Form). option_or o (first_given f (parts_left t))) passes ∙ sym (ap (first_given f) (part_there r x s t is h)) ∙ e

pub given_passed : (f : Form → Option Form) (whole : Option Form) (r : Option PartRef) (x : PartRef) (s t : Parts) → r ≡ Some x → YieldsFirstBy listed parts_left s r t → None ≡ f (listed x) → first_given f (parts_left s) ≡ whole → first_given f (parts_left t) ≡ whole
given_passed f whole r x s t is h fails e =
    ap (λ (o : Option Form). option_or o (first_given f (parts_left t))) fails ∙ sym (ap (first_given f) (part_there r x s t is h)) ∙ e

pub given_missed : (f : Form → Option Form) (whole : Option Form) (r : Option PartRef) (s t : Parts) → r ≡ None → YieldsFirstBy listed parts_left s r t → first_given f (parts_left s) ≡ whole → None ≡ whole
given_missed f whole r s t is h e = sym (ap (first_given f) (no_part r s t is h)) ∙ e
