-- Going over the parts that are left, one after another.
use Rattle.std.proofs.Common.{◌≡◌, [], ◌∷◌, Option, Some, None, ap, sym, subst, ◌∙◌}
use Rattle.std.specs.Iterator.{YieldsFirstBy}
use Rattle.lp_view.specs.PartLists.{Form, over, listed, parts_left}
use Rattle.lp_view.specs.declared.part.PartRef.{PartRef}
use Rattle.lp_view.specs.declared.part.Parts.{Parts}

-- a part is there, and the others are left
pub part_there : (r : Option PartRef) (x : PartRef) (s t : Parts) → r ≡ Some x → YieldsFirstBy listed parts_left s r t → parts_left s ≡ listed x ∷ parts_left t
part_there r x s t is h = let P : Option PartRef → Type 0 = λ o. YieldsFirstBy listed parts_left s o t in subst P is h

-- no part is left
pub no_part : (r : Option PartRef) (s t : Parts) → r ≡ None → YieldsFirstBy listed parts_left s r t → parts_left s ≡ []
no_part r s t is h =
    let P : Option PartRef → Type 0 = λ o. YieldsFirstBy listed parts_left s o t in
    let both : P None = subst P is h in
    both.0

-- one more
pub over_step : {S : Type 0} (step : S → Form → S) (old new whole : S) (r : Option PartRef) (x : PartRef) (s t : Parts) → r ≡ Some x → YieldsFirstBy listed parts_left s r t → new ≡ step old (listed x) → over step old (parts_left s) ≡ whole → over step new (parts_left t) ≡ whole
over_step {S} step old new whole r x s t is h n e =
    ap (λ (y : S). over step y (parts_left t)) n ∙ sym (ap (over step old) (part_there r x s t is h)) ∙ e

-- no more
pub over_done : {S : Type 0} (step : S → Form → S) (last whole : S) (r : Option PartRef) (s t : Parts) → r ≡ None → YieldsFirstBy listed parts_left s r t → over step last (parts_left s) ≡ whole → last ≡ whole
over_done step last whole r s t is h e = sym (ap (over step last) (no_part r s t is h)) ∙ e
