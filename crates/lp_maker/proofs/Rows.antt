-- The first and the second part: what calls of `next` give.
use Rattle.std.proofs.Common.{◌≡◌, List, [], Option, Some, None, refl, ap, sym, ◌∙◌}
use Rattle.std.specs.Prelude.{slice_get}
use Rattle.std.specs.Option.{option_map}
use Rattle.std.specs.Iterator.{YieldsFirstBy}
use Rattle.lp_view.specs.PartLists.{Form, listed, parts_left}
use Rattle.lp_view.specs.declared.part.PartRef.{PartRef}
use Rattle.lp_view.specs.declared.part.Parts.{Parts}

pub first_of : (r : Option PartRef) (s t : Parts) (all : List Form) → parts_left s ≡ all → YieldsFirstBy listed parts_left s r t → option_map listed r ≡ slice_get all 0
first_of None s t all e h = sym (ap (λ (fs : List Form). slice_get fs 0) (sym e ∙ h.0))
first_of (Some x) s t all e h = sym (ap (λ (fs : List Form). slice_get fs 0) (sym e ∙ h))

-- the second; there is none where there is no first
pub second_of : (first r : Option PartRef) (s t u : Parts) (all : List Form) → parts_left s ≡ all → YieldsFirstBy listed parts_left s first t → YieldsFirstBy listed parts_left t r u → option_map listed r ≡ slice_get all 1
second_of (Some x) r s t u all e h k = first_of r t u (parts_left t) refl k ∙ sym (ap (λ (fs : List Form). slice_get fs 1) (sym e ∙ h))
second_of None None s t u all e h k = sym (ap (λ (fs : List Form). slice_get fs 1) (sym e ∙ h.0))
second_of None (Some x) s t u all e h k = let never : parts_left t ≡ [] = h.1 in cc (never, k)
