-- Behind some trees of a step and a part, others follow so that the step may have them all.
use Rattle.std.proofs.Common.{◌≡◌, ℕ, ◌==◌, Bool, true, false, ◌&&◌, List, [], ◌∷◌, ◌++◌, length, refl, sym, ap, ◌∙◌, subst, arith, inl, inr, ◌⊎◌}
use Rattle.std.specs.List.{list_all}
use Rattle.std.proofs.lemmas.Bool.{and_parts, and_from, eqb-true, both_ways}
use Rattle.std.proofs.lemmas.List.Folds.{list_all-append}
use Rattle.lp_form.specs.declared.class.Class.{Class}
use Rattle.lp_form.specs.declared.part.Part.{Part}
use Rattle.lp_form.specs.declared.template.Step.{Step}
use Rattle.lp_form.specs.declared.template.Step.TheVariants as step
use Rattle.lp_program.specs.Printed.{is_member}
use Rattle.lp_program.specs.Reads.{may_have, graft, parts_in}
use Rattle.lp_program.specs.Trees.{Forest}
use Rattle.lp_program.specs.Trees.Forest.{bare, tree}
use Rattle.lp_viable.specs.Least.{first_member}
use Rattle.lp_program.specs.Starting.{pairs_go_on, goes_on}
use Rattle.lp_viable.proofs.Parts.{first_is}

pub parts_graft : (f g : Forest) → parts_in (graft f g) ≡ parts_in f ++ parts_in g
parts_graft bare g = refl
parts_graft (tree c below after) g = ap (λ (x : List Part). c.part ∷ x) (parts_graft after g)

-- none, or the first of a class, where pairs stand
pub data Others : Step → List Part → Type 0 where
  no_others : (s : Step) → Others s []
  one_other : (first second : Class) → Others (step.Pairs first second) (first_member second ∷ [])

pub record GoneOn (s : Step) (parts : List Part) (p : Part) : Type 0 where
  pub others : List Part
  pub are : Others s others
  pub may : may_have s (parts ++ p ∷ others) ≡ true

no_parts : (parts : List Part) → (length parts == 0) ≡ true → parts ≡ []
no_parts [] h = refl
no_parts (p ∷ parts) h = absurd (omega (arith, eqb-true (length (p ∷ parts)) 0 h))

all_more : (class : Class) (parts : List Part) (p : Part) → list_all (is_member class) parts ≡ true → is_member class p ≡ true → list_all (is_member class) (parts ++ p ∷ []) ≡ true
all_more class parts p h k = list_all-append (is_member class) parts (p ∷ []) ∙ and_from (list_all (is_member class) parts) _ h (and_from (is_member class p) true k refl)

pairs_on : (first second : Class) (parts : List Part) (p : Part) → pairs_go_on first second parts p ≡ true → GoneOn (step.Pairs first second) parts p
pairs_on first second [] p h = record {
  others = first_member second ∷ [];
  are = one_other first second;
  may = and_from (is_member first p) _ h (and_from (is_member second (first_member second)) true (first_is second) refl);
}
pairs_on first second (q ∷ []) p h =
    let a = and_parts (is_member first q) (is_member second p) h in
    record { others = []; are = no_others (step.Pairs first second); may = and_from (is_member first q) _ a.0 (and_from (is_member second p) true a.1 refl) }
pairs_on first second (q ∷ r ∷ parts) p h =
    let a = and_parts (is_member first q) (is_member second r && pairs_go_on first second parts p) h in
    let b = and_parts (is_member second r) (pairs_go_on first second parts p) a.1 in
    let g : GoneOn (step.Pairs first second) parts p = pairs_on first second parts p b.1 in
    record { others = g.others; are = g.are; may = and_from (is_member first q) _ a.0 (and_from (is_member second r) _ b.0 g.may) }

alone : (class : Class) (parts : List Part) (p : Part) → ((length parts == 0) && is_member class p) ≡ true → list_all (is_member class) (parts ++ p ∷ []) ≡ true
alone class parts p h =
    let a = and_parts (length parts == 0) (is_member class p) h in
    ap (λ (x : List Part). list_all (is_member class) (x ++ p ∷ [])) (no_parts parts a.0) ∙ and_from (is_member class p) true a.1 refl

pub gone_on : (s : Step) (parts : List Part) (p : Part) → goes_on s parts p ≡ true → GoneOn s parts p
gone_on (step.One class) parts p h =
    let none : parts ≡ [] = no_parts parts (and_parts (length parts == 0) (is_member class p) h).0 in
    record { others = []; are = no_others (step.One class); may = and_from (length (parts ++ p ∷ []) == 1) _ (ap (λ (x : List Part). length (x ++ p ∷ []) == 1) none) (alone class parts p h) }
gone_on (step.Optional class) parts p h =
    let none : parts ≡ [] = no_parts parts (and_parts (length parts == 0) (is_member class p) h).0 in
    record { others = []; are = no_others (step.Optional class); may = and_from _ _ (ap (λ (x : List Part). Rattle.std.proofs.Math.Dec.leb (length (x ++ p ∷ [])) 1) none) (alone class parts p h) }
gone_on (step.Many class) parts p h =
    let a = and_parts (list_all (is_member class) parts) (is_member class p) h in
    record { others = []; are = no_others (step.Many class); may = all_more class parts p a.0 a.1 }
gone_on (step.Some class) parts p h =
    let a = and_parts (list_all (is_member class) parts) (is_member class p) h in
    let size = Rattle.std.proofs.Common.length-append parts (p ∷ []) in
    record { others = []; are = no_others (step.Some class); may = and_from _ _ (Rattle.std.proofs.lemmas.Bool.lt-ltb 0 (length (parts ++ p ∷ [])) (omega (arith, size))) (all_more class parts p a.0 a.1) }
gone_on (step.Pairs first second) parts p h = pairs_on first second parts p h
gone_on _ parts p h = absurd (both_ways false refl h)
