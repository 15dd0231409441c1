-- What a step has below is chosen.
use Rattle.std.proofs.Common.{◌≡◌, ℕ, ◌≤◌, suc, Bool, true, false, not, ◌&&◌, ◌||◌, ◌==◌, inl, inr, List, ◌∷◌, ◌++◌, length, codes, Some, None, refl, sym, ◌∙◌, ap, subst, arith, ltb, leb}
use Rattle.std.specs.List.{list_all}
use Rattle.std.specs.Str.{IsUtf8}
use Rattle.std.proofs.lemmas.Bool.{and_parts, both_ways, cases_Bool, not-true, eqb-true, leb-true}
use Rattle.lp_form.specs.Classes.{members_of}
use Rattle.lp_form.specs.Templates.{Piece, steps_of, holes_of}
use Rattle.lp_form.specs.Templates as template
use Rattle.lp_form.specs.declared.class.Class.{Class}
use Rattle.lp_form.specs.declared.template.Step.{Step}
use Rattle.lp_form.specs.declared.template.Step.TheVariants as step
use Rattle.lp_spelling.specs.Counting.{settled, front_line}
use Rattle.lp_program.specs.Begins.{Lines}
use Rattle.lp_program.specs.Printed.{is_member}
use Rattle.lp_program.specs.Reads.{parts_in, may_have}
use Rattle.lp_program.specs.Trees.{Content, Forest}
use Rattle.lp_program.specs.Trees.Forest.{bare, tree}
use Rattle.lp_reading_laws.specs.FirstLines.ApartTests.{is_body}
use Rattle.lp_reading_laws.specs.FirstLines.Behind.{all_have_lines}
use Rattle.lp_reading_laws.specs.Texts.TextLines.{HasLines}
use Rattle.lp_reading_laws.proofs.Texts.Shown.{none_below}
use Rattle.lp_program.specs.Choosing.{Nothing, ClassChosen, BelowChosen, PartChosen}
use Rattle.lp_reading_laws.specs.Choosing.Laws.{told_trees, BodiesTold}
use Rattle.lp_reading_laws.proofs.Choosing.Templates.{stands_step, stands_within, is_counted, class_fits, classes_fit, closes_first, body_closed, bodies_closed, part_step_at}
use Rattle.lp_reading_laws.proofs.Choosing.Following.{Follows}
use Rattle.lp_reading_laws.proofs.Choosing.Picking.{seen_first, seen_none}
use Rattle.lp_reading_laws.proofs.Choosing.Ending.{StepPlace, AtEnd, none_at_end, one_ended, many_ended, pairs_ended}
use Rattle.lp_reading_laws.proofs.Choosing.Each.{Item, EachChosen, ClassStands, tree_chosen, class_chosen, Several, many_behind, many_chosen, pairs_chosen}
use Rattle.lp_reading_laws.proofs.Choosing.Bodies.{body_class, body_chosen}

-- a step of a part that is read, and the trees that it has
pub record StepReads (prefix all : List ℕ) (c : Content) (front others : List template.Line) (s : Step) (pieces : List Piece) (n : ℕ) (now : Forest) (own mid : List ℕ) (before : List Content) : Type 0 where
  pub place : StepPlace prefix c front others (s, pieces) n
  pub small : n ≤ 14
  pub stands : stands_step (stands_within n) s ≡ true
  pub may : may_have s (parts_in now) ≡ true
  pub each : EachChosen prefix all now own mid
  pub ends : (lines : Lines) → HasLines mid lines → AtEnd n prefix c others s lines
  pub bodies : BodiesTold prefix all before (told_trees now)
  pub utf8 : IsUtf8 own
  pub follows : Follows all own
  pub closes : closes_first others ≡ true → front_line (settled mid) ≡ codes "}"

-- what the step has below
abbrev StepBelow : List ℕ → Step → ℕ → Forest → List ℕ → List ℕ → List Content → Type 0
StepBelow prefix s n now own mid before = BelowChosen (suc (suc n)) prefix (PartChosen (suc (suc n)) prefix) s before (told_trees now) own mid

nothing_below : (prefix all : List ℕ) (now : Forest) (own mid : List ℕ) → (length (parts_in now) == 0) ≡ true → EachChosen prefix all now own mid → Nothing (told_trees now) own mid
nothing_below prefix all bare own mid may each = (refl, each)
nothing_below prefix all (tree d below after) own mid may each = absurd (none_below (length (parts_in after)) may)

class_stands : (n : ℕ) (class : Class) → n ≤ 14 → (list_all (stands_within n) (members_of class) && true) ≡ true → ClassStands n class
class_stands n class le h = record { small = le; stands = (and_parts (list_all (stands_within n) (members_of class)) true h).0 }

fits_at : (c : Content) (front others : List template.Line) (s : Step) (pieces : List Piece) → steps_of c.part ≡ front ++ ((s, pieces) ∷ others) → class_fits s pieces others ≡ true
fits_at c front others s pieces e = part_step_at class_fits classes_fit c.part front others (s, pieces) e

several : (n : ℕ) (class : Class) → ClassStands n class → is_counted class ≡ true → Several n class
several n class s h =
    let p = and_parts (not (is_body class)) (all_have_lines class) h in
    record { stands = s; body = not-true (is_body class) p.0; lines = p.1 }

-- two are too many
not_one : (k : ℕ) → (suc (suc k) == 1) ≡ true → ⊥
not_one k h = let e = eqb-true (suc (suc k)) 1 h in omega (arith, e)

not_one_at_most : (k : ℕ) → leb (suc (suc k)) 1 ≡ true → ⊥
not_one_at_most k h = let le = leb-true (suc (suc k)) 1 h in omega (arith, le)

behind_body : (a b : Bool) → a ≡ true → (not a || b) ≡ true → b ≡ true
behind_body true b e h = h
behind_body false b e h = absurd (both_ways false refl e)

-- one part
one_below : (prefix all : List ℕ) (c : Content) (front others : List template.Line) (class : Class) (pieces : List Piece) (n : ℕ) (d : Content) (below : Forest) (own mid : List ℕ) (before : List Content) → is_member class d.part ≡ true →
    StepReads prefix all c front others (step.One class) pieces n (tree d below bare) own mid before → StepBelow prefix (step.One class) n (tree d below bare) own mid before
one_below prefix all c front others class pieces n d below own mid before m r =
    let stands = class_stands n class r.small r.stands in
    let item : Item prefix all d below bare own r.each.0 mid = r.each.1 in
    let same : mid ≡ r.each.0 = r.each.2 in
    let ended = λ (lines : Lines) (h : HasLines r.each.0 lines). one_ended prefix c front others (step.One class, pieces) class n lines r.place (λ x. refl) (r.ends lines (subst (λ (x : List ℕ). HasLines x lines) (sym same) h)) in
    subst (λ (x : List ℕ). StepBelow prefix (step.One class) n (tree d below bare) own x before) (sym same)
    (elim (cases_Bool (is_body class)) [
      | inl y ↦
          let is = body_class class y in
          let closed : body_closed (step.One class) pieces others ≡ true = part_step_at body_closed bodies_closed c.part front others (step.One class, pieces) r.place.place in
          let chosen = tree_chosen n prefix all class d below bare before own r.each.0 mid stands m r.bodies item ended in
          let brace : front_line (settled r.each.0) ≡ codes "}" = ap (λ (x : List ℕ). front_line (settled x)) (sym same) ∙ r.closes (behind_body (is_body class) (closes_first others) y closed) in
          subst (λ x. ClassChosen (suc (suc n)) prefix (PartChosen (suc (suc n)) prefix) before x (told_trees (tree d below bare)) own r.each.0) (sym is)
          (body_chosen (suc (suc n)) prefix all _ d below bare own r.each.0 mid (subst (λ x. is_member x d.part ≡ true) is m) r.bodies.0 r.follows item.standing.reads chosen brace)
      | inr z ↦ class_chosen n prefix all class d below bare before before own r.each.0 mid stands z m r.utf8 r.bodies item ended
    ])

-- at most one
optional_below : (prefix all : List ℕ) (c : Content) (front others : List template.Line) (class : Class) (pieces : List Piece) (n : ℕ) (now : Forest) (own mid : List ℕ) (before : List Content) →
    StepReads prefix all c front others (step.Optional class) pieces n now own mid before → StepBelow prefix (step.Optional class) n now own mid before
optional_below prefix all c front others class pieces n bare own mid before r = (
  None,
  seen_none (suc (suc n)) prefix class own r.utf8 (λ lines h.
      (none_at_end prefix c front others (step.Optional class, pieces) n lines r.place (r.ends lines (subst (λ (x : List ℕ). HasLines x lines) (sym r.each) h))).0),
  (refl, r.each),
)
optional_below prefix all c front others class pieces n (tree d below (tree e inner more)) own mid before r =
    let p = and_parts (leb (length (parts_in (tree d below (tree e inner more)))) 1) _ r.may in
    absurd (not_one_at_most (length (parts_in more)) p.0)
optional_below prefix all c front others class pieces n (tree d below bare) own mid before r =
    let p = and_parts (leb (length (parts_in (tree d below bare))) 1) _ r.may in
    let m = (and_parts (is_member class d.part) _ p.1).0 in
    let body : is_body class ≡ false = not-true (is_body class) (fits_at c front others (step.Optional class) pieces r.place.place) in
    let item : Item prefix all d below bare own r.each.0 mid = r.each.1 in
    let same : mid ≡ r.each.0 = r.each.2 in
    let ended = λ (lines : Lines) (h : HasLines r.each.0 lines). one_ended prefix c front others (step.Optional class, pieces) class n lines r.place (λ x. refl) (r.ends lines (subst (λ (x : List ℕ). HasLines x lines) (sym same) h)) in
    subst (λ (x : List ℕ). StepBelow prefix (step.Optional class) n (tree d below bare) own x before) (sym same)
    (Some d.part, seen_first prefix class d below bare own mid n r.utf8 body m item.standing, tree_chosen n prefix all class d below bare before own r.each.0 mid (class_stands n class r.small r.stands) m r.bodies item ended)

-- several
many_below : (prefix all : List ℕ) (c : Content) (front others : List template.Line) (class : Class) (pieces : List Piece) (n : ℕ) (now : Forest) (own mid : List ℕ) (before : List Content) →
    StepReads prefix all c front others (step.Many class) pieces n now own mid before → StepBelow prefix (step.Many class) n now own mid before
many_below prefix all c front others class pieces n now own mid before r =
    many_chosen n prefix all class now before bare own mid (several n class (class_stands n class r.small r.stands) (fits_at c front others (step.Many class) pieces r.place.place))
    (many_ended prefix c front others (step.Many class, pieces) class n mid r.place (refl, λ x. refl) r.ends) r.utf8 r.bodies r.may r.each

-- one, and several more
some_below : (prefix all : List ℕ) (c : Content) (front others : List template.Line) (class : Class) (pieces : List Piece) (n : ℕ) (d : Content) (below after : Forest) (own mid : List ℕ) (before : List Content) → list_all (is_member class) (parts_in (tree d below after)) ≡ true →
    StepReads prefix all c front others (step.Some class) pieces n (tree d below after) own mid before → StepBelow prefix (step.Some class) n (tree d below after) own mid before
some_below prefix all c front others class pieces n d below after own mid before all_members r =
    let p = and_parts (is_member class d.part) _ all_members in
    let s = several n class (class_stands n class r.small r.stands) (fits_at c front others (step.Some class) pieces r.place.place) in
    let e = many_ended prefix c front others (step.Some class, pieces) class n mid r.place (refl, λ x. refl) r.ends in
    let item = r.each.1 in
    record {
      first = told_trees (tree d below bare);
      later = told_trees after;
      mid = r.each.0;
      trees_are = refl;
      reads = class_chosen n prefix all class d below after before before own r.each.0 mid s.stands s.body p.0 r.utf8 r.bodies item (many_behind n prefix all class after r.each.0 mid e p.1 r.each.2);
      goes_on = many_chosen n prefix all class after _ bare r.each.0 mid s e item.follows.utf8 r.bodies.2 p.1 r.each.2;
    }

-- pairs
pairs_below : (prefix all : List ℕ) (c : Content) (front others : List template.Line) (first second : Class) (pieces : List Piece) (n : ℕ) (now : Forest) (own mid : List ℕ) (before : List Content) →
    StepReads prefix all c front others (step.Pairs first second) pieces n now own mid before → StepBelow prefix (step.Pairs first second) n now own mid before
pairs_below prefix all c front others first second pieces n now own mid before r =
    let fit = and_parts (is_counted first) (not (is_body second)) (fits_at c front others (step.Pairs first second) pieces r.place.place) in
    let stands = and_parts (list_all (stands_within n) (members_of first)) _ r.stands in
    pairs_chosen n prefix all first second now before before bare own mid
    (several n first (record { small = r.small; stands = stands.0 }) fit.0)
    (class_stands n second r.small stands.1)
    (not-true (is_body second) fit.1)
    (pairs_ended prefix c front others pieces first second n mid r.place r.ends) r.utf8 r.bodies r.may r.each

pub step_below : (prefix all : List ℕ) (c : Content) (front others : List template.Line) (pieces : List Piece) (n : ℕ) (own mid : List ℕ) (before : List Content) (s : Step) (now : Forest) →
    StepReads prefix all c front others s pieces n now own mid before → StepBelow prefix s n now own mid before
step_below prefix all c front others pieces n own mid before (step.One class) bare r = absurd (both_ways false refl r.may)
step_below prefix all c front others pieces n own mid before (step.One class) (tree d below (tree e inner more)) r =
    let p = and_parts (length (parts_in (tree d below (tree e inner more))) == 1) _ r.may in
    absurd (not_one (length (parts_in more)) p.0)
step_below prefix all c front others pieces n own mid before (step.One class) (tree d below bare) r =
    let p = and_parts (length (parts_in (tree d below bare)) == 1) _ r.may in
    one_below prefix all c front others class pieces n d below own mid before (and_parts (is_member class d.part) _ p.1).0 r
step_below prefix all c front others pieces n own mid before (step.Optional class) now r = optional_below prefix all c front others class pieces n now own mid before r
step_below prefix all c front others pieces n own mid before (step.Many class) now r = many_below prefix all c front others class pieces n now own mid before r
step_below prefix all c front others pieces n own mid before (step.Some class) bare r = absurd (both_ways false refl r.may)
step_below prefix all c front others pieces n own mid before (step.Some class) (tree d below after) r =
    let p = and_parts (ltb 0 (length (parts_in (tree d below after)))) _ r.may in
    some_below prefix all c front others class pieces n d below after own mid before p.1 r
step_below prefix all c front others pieces n own mid before (step.Pairs first second) now r = pairs_below prefix all c front others first second pieces n now own mid before r
step_below prefix all c front others pieces n own mid before _ now r = nothing_below prefix all now own mid r.may r.each
