-- What follows a step, or a part of it, begins no part that may be missing there.
use Rattle.std.proofs.Common.{◌≡◌, ℕ, true, List, [], ◌∷◌, ◌++◌, refl, sym, ◌∙◌, ap}
use Rattle.std.specs.List.{list_all, AllByRecursion}
use Rattle.std.proofs.lemmas.Bool.{and_parts}
use Rattle.lp_form.specs.Classes.{members_of}
use Rattle.lp_form.specs.Templates.{steps_of, holes_of}
use Rattle.lp_form.specs.Templates as template
use Rattle.lp_form.specs.declared.class.Class.{Class}
use Rattle.lp_form.specs.declared.part.Part.{Part}
use Rattle.lp_form.specs.declared.part.Part.TheVariants as part
use Rattle.lp_form.specs.declared.template.Kind.{Kind}
use Rattle.lp_reading_laws.specs.Holes.Found.{are_words}
use Rattle.lp_program.specs.Begins.{Lines, member}
use Rattle.lp_reading_laws.specs.FirstLines.ApartTests.{bound, whole_beginning, lines_apart, apart_within}
use Rattle.lp_reading_laws.specs.FirstLines.Behind.{Place, ended_classes, places, class_tails, BeginNoMember, BeginNone, NoLines, Follow}
use Rattle.lp_reading_laws.specs.FirstLines.EndTests.{always, none_begun, place_apart, steps_apart, has_apart_ends}
use Rattle.lp_reading_laws.specs.FirstLines.Laws.{EndsSeen, TailsSeen}
use Rattle.lp_reading_laws.proofs.FirstLines.Apart.{all_at, EndIsSound, HolesFill, part_begun, apart_sound}

pub ends_told : (p : Part) → has_apart_ends p ≡ true
unfolding members_of steps_of holes_of lines_apart
ends_told part.Program = refl
ends_told _ = refl

always_sound : (prefix : List ℕ) → EndIsSound NoLines prefix always
always_sound prefix b lines h begun none = none

member_none : (prefix : List ℕ) (kinds : List Kind) (holes : List (List ℕ)) (steps : List template.Line) (c : Class) (lines : Lines) (n : ℕ) → are_words prefix ≡ true → HolesFill prefix kinds holes →
    none_begun kinds steps c ≡ true → Follow n prefix holes steps lines → BeginNoMember prefix c lines
member_none prefix kinds holes steps c lines n w f h shown i m lt begun =
    let test : apart_within bound always (whole_beginning (member c i)) (kinds, steps) ≡ true = all_at (λ m. apart_within bound always (whole_beginning m) (kinds, steps)) (members_of c) i part.Program h lt in
    apart_sound bound NoLines prefix always w (always_sound prefix) (whole_beginning (member c i)) (kinds, steps) lines test (part_begun prefix m (member c i) lines begun) (n, holes, f, shown)

classes_none : (prefix : List ℕ) (kinds : List Kind) (holes : List (List ℕ)) (steps : List template.Line) (classes : List Class) (lines : Lines) (n : ℕ) → are_words prefix ≡ true → HolesFill prefix kinds holes →
    list_all (none_begun kinds steps) classes ≡ true → Follow n prefix holes steps lines → BeginNone prefix classes lines
classes_none prefix kinds holes steps [] lines n w f h shown = tt
classes_none prefix kinds holes steps (c ∷ classes) lines n w f h shown =
    let p = and_parts (none_begun kinds steps c) (list_all (none_begun kinds steps) classes) h in
    (member_none prefix kinds holes steps c lines n w f p.0 shown, classes_none prefix kinds holes steps classes lines n w f p.1 shown)

-- what is tested of a step
step_tested : (kinds : List Kind) (front steps : List template.Line) (s : template.Line) → steps_apart kinds (front ++ s ∷ steps) ≡ true →
    (list_all (none_begun kinds steps) (ended_classes s.0) ≡ true) × (list_all (place_apart kinds) (places s.0 steps) ≡ true)
step_tested kinds [] steps s h =
    let p = and_parts (list_all (none_begun kinds steps) (ended_classes s.0)) _ h in
    (p.0, (and_parts (list_all (place_apart kinds) (places s.0 steps)) _ p.1).0)
step_tested kinds (t ∷ front) steps s h =
    let p = and_parts (list_all (none_begun kinds (front ++ s ∷ steps)) (ended_classes t.0)) _ h in
    step_tested kinds front steps s (and_parts (list_all (place_apart kinds) (places t.0 (front ++ s ∷ steps))) _ p.1).1

part_tested : (p : Part) (front steps : List template.Line) (s : template.Line) → steps_of p ≡ front ++ s ∷ steps →
    (list_all (none_begun (holes_of p) steps) (ended_classes s.0) ≡ true) × (list_all (place_apart (holes_of p)) (places s.0 steps) ≡ true)
part_tested p front steps s e = step_tested (holes_of p) front steps s (sym (ap (steps_apart (holes_of p)) e) ∙ ends_told p)

pub ends_seen : EndsSeen
ends_seen prefix p holes front steps s lines n w filled e shown =
    let f = filled.fills in
    classes_none prefix (holes_of p) holes steps (ended_classes s.0) lines n w f (part_tested p front steps s e).0 shown

places_none : (prefix : List ℕ) (kinds : List Kind) (holes : List (List ℕ)) (all : List Place) (lines : Lines) (n : ℕ) → are_words prefix ≡ true → HolesFill prefix kinds holes → list_all (place_apart kinds) all ≡ true →
    AllByRecursion (λ place. Follow n prefix holes place.1 lines → BeginNone prefix (class_tails place.0) lines) all
places_none prefix kinds holes [] lines n w f h = tt
places_none prefix kinds holes (x ∷ all) lines n w f h =
    let p = and_parts (place_apart kinds x) (list_all (place_apart kinds) all) h in
    ((λ shown. classes_none prefix kinds holes x.1 (class_tails x.0) lines n w f p.0 shown), places_none prefix kinds holes all lines n w f p.1)

pub tails_seen : TailsSeen
tails_seen prefix p holes front steps s lines n w filled e =
    let f = filled.fills in
    places_none prefix (holes_of p) holes (places s.0 steps) lines n w f (part_tested p front steps s e).1
