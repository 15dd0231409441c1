-- What holds of all templates.
use Rattle.std.proofs.Common.{◌≡◌, ℕ, zero, suc, Bool, true, false, not, ◌&&◌, ◌||◌, ◌==◌, List, [], ◌∷◌, ◌++◌, length, codes, refl, sym, ◌∙◌, ap, leb, bytes_eq}
use Rattle.std.specs.List.{list_all}
use Rattle.std.proofs.lemmas.Bool.{and_parts}
use Rattle.lp_form.specs.Classes.{members_of}
use Rattle.lp_form.specs.Templates.{Piece, steps_of, holes_of}
use Rattle.lp_form.specs.Templates as template
use Rattle.lp_form.specs.declared.class.Class.{Class}
use Rattle.lp_form.specs.declared.part.Part.{Part}
use Rattle.lp_form.specs.declared.part.Part.TheVariants as part
use Rattle.lp_form.specs.declared.template.Slot.TheVariants.{Nothing}
use Rattle.lp_form.specs.declared.template.Step.{Step}
use Rattle.lp_form.specs.declared.template.Step.TheVariants as step
use Rattle.lp_spelling.specs.LineHoles.{known_in}
use Rattle.lp_program.specs.Reads.{hole_count}
use Rattle.lp_reading_laws.specs.FirstLines.ApartTests.{is_body}
use Rattle.lp_reading_laws.specs.FirstLines.Behind.{places, tails_within, all_have_lines}
use Rattle.lp_reading_laws.specs.Choosing.Laws.{is_table, have_table}

-- a test of each step, with those behind it
abbrev pub each_step : (Step → List Piece → List template.Line → Bool) → List template.Line → Bool
each_step test [] = true
each_step test (s ∷ steps) = test s.0 s.1 steps && each_step test steps

pub step_at : (test : Step → List Piece → List template.Line → Bool) (front others : List template.Line) (s : template.Line) → each_step test (front ++ (s ∷ others)) ≡ true → test s.0 s.1 others ≡ true
step_at test [] others s h = (and_parts (test s.0 s.1 others) (each_step test others) h).0
step_at test (t ∷ front) others s h = step_at test front others s (and_parts (test t.0 t.1 (front ++ (s ∷ others))) (each_step test (front ++ (s ∷ others))) h).1

-- the same of the step of a part
pub part_step_at : (test : Step → List Piece → List template.Line → Bool) → ((p : Part) → each_step test (steps_of p) ≡ true) → (p : Part) (front others : List template.Line) (s : template.Line) → steps_of p ≡ front ++ (s ∷ others) →
    test s.0 s.1 others ≡ true
part_step_at test all p front others s e = step_at test front others s (sym (ap (each_step test) e) ∙ all p)

-- parts stand at most so deep in one another
abbrev pub stands_step : (Part → Bool) → Step → Bool
stands_step go s = list_all (λ place. list_all go (members_of place.0)) (places s [])

abbrev pub stands_within : ℕ → Part → Bool
stands_within zero p = false
stands_within (suc n) p = list_all (λ s. stands_step (stands_within n) s.0) (steps_of p)

pub program_stands : stands_within 14 part.Program ≡ true
unfolding members_of steps_of
program_stands = refl

-- no part may be missing at the end of a program
pub program_ends : tails_within 14 (steps_of part.Program) ≡ []
unfolding members_of steps_of
program_ends = refl

-- a table is the only one of its part
abbrev pub one_table : Step → List Piece → List template.Line → Bool
one_table s pieces others = not (is_table s) || not (have_table others)

pub tables_one : (p : Part) → each_step one_table (steps_of p) ≡ true
unfolding steps_of
tables_one part.Program = refl
tables_one _ = refl

-- how many holes are known behind a step
abbrev pub known_step : Step → List Piece → ℕ → ℕ
known_step (step.Line blanks) pieces k = known_in pieces k
known_step (step.Each blanks) pieces k = known_in pieces k
known_step step.Use pieces k = suc k
known_step step.Code pieces k = suc k
known_step _ pieces k = k

abbrev pub known_all : List template.Line → ℕ → ℕ
known_all [] k = k
known_all (s ∷ steps) k = known_all steps (known_step s.0 s.1 k)

pub knows_all : (p : Part) → known_all (steps_of p) 0 ≡ hole_count p
unfolding steps_of holes_of
knows_all part.Program = refl
knows_all _ = refl

-- a line tells holes of the part alone, lines of a number tell none, a use or user code is the one hole of its part, and other steps have no line
abbrev pub own_told : ℕ → ℕ → Step → List Piece → List template.Line → Bool
own_told n k (step.Line blanks) pieces others = leb (known_in pieces k) n
own_told n k (step.Each blanks) pieces others = leb (known_in pieces k) n && (known_in pieces k == k)
own_told n k step.Use pieces others = (n == 0) && ((k == 0) && (length others == 0))
own_told n k step.Code pieces others = (n == 0) && ((k == 0) && (length others == 0))
own_told n k _ pieces others = length pieces == 0

abbrev pub all_told : ℕ → ℕ → List template.Line → Bool
all_told n k [] = true
all_told n k (s ∷ steps) = own_told n k s.0 s.1 steps && all_told n (known_step s.0 s.1 k) steps

pub templates_tell : (p : Part) → all_told (length (holes_of p)) 0 (steps_of p) ≡ true
unfolding steps_of holes_of
templates_tell part.Program = refl
templates_tell _ = refl

-- a class of which there may be several parts, or none, is no body of an action, and where there may be several each shows a line
abbrev pub is_counted : Class → Bool
is_counted class = not (is_body class) && all_have_lines class

abbrev pub class_fits : Step → List Piece → List template.Line → Bool
class_fits (step.Optional class) pieces others = not (is_body class)
class_fits (step.Many class) pieces others = is_counted class
class_fits (step.Some class) pieces others = is_counted class
class_fits (step.Pairs first second) pieces others = is_counted first && not (is_body second)
class_fits _ pieces others = true

pub classes_fit : (p : Part) → each_step class_fits (steps_of p) ≡ true
unfolding members_of steps_of
classes_fit part.Program = refl
classes_fit _ = refl

-- behind the body of an action stands a `}`
abbrev pub is_brace : List Piece → Bool
is_brace ((text, Nothing) ∷ []) = bytes_eq text (codes "}")
is_brace _ = false

abbrev pub is_closing : Step → List Piece → Bool
is_closing (step.Line blanks) pieces = is_brace pieces
is_closing _ pieces = false

abbrev pub closes_first : List template.Line → Bool
closes_first [] = false
closes_first (s ∷ steps) = is_closing s.0 s.1

abbrev pub body_closed : Step → List Piece → List template.Line → Bool
body_closed (step.One class) pieces others = not (is_body class) || closes_first others
body_closed _ pieces others = true

pub bodies_closed : (p : Part) → each_step body_closed (steps_of p) ≡ true
unfolding steps_of
bodies_closed part.Program = refl
bodies_closed _ = refl
