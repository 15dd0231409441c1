-- Tests of templates, by which what a part prints is read as it.
use Rattle.std.specs.Prelude.{Bool, true, false, not, ◌&&◌, ◌||◌, ◌==◌, if◌then◌else◌, List, [], ◌∷◌, codes}
use Rattle.std.specs.List.{list_any}
use Rattle.std.specs.Str.{bytes_eq}
use Rattle.lp_form.specs.Templates.{Piece, steps_of, holes_of}
use Rattle.lp_form.specs.Templates as template
use Rattle.lp_form.specs.declared.part.Part.{Part}
use Rattle.lp_form.specs.declared.part.Part.TheVariants as part
use Rattle.lp_form.specs.declared.template.Kind.{Kind}
use Rattle.lp_form.specs.declared.template.Slot.{Slot}
use Rattle.lp_form.specs.declared.template.Slot.TheVariants.{Nothing, Prefix, Hole}
use Rattle.lp_form.specs.declared.template.Step.{Step}
use Rattle.lp_form.specs.declared.template.Step.TheVariants as step
use Rattle.lp_program.specs.Printed.{takes}
use Rattle.lp_reading_laws.specs.Printing.LineTests.{is_sound_line, next_so}

abbrev pub is_code : Step → Bool
is_code step.Code = true
is_code _ = false

abbrev pub has_code : List template.Line → Bool
has_code steps = list_any (λ s. is_code s.0) steps

-- user code alone
abbrev pub is_code_only : List template.Line → Bool
is_code_only [] = false
is_code_only (s ∷ []) = is_code s.0
is_code_only (s ∷ t ∷ steps) = false

-- a step that may have parts below
abbrev pub is_class : Step → Bool
is_class (step.One class) = true
is_class (step.Optional class) = true
is_class (step.Many class) = true
is_class (step.Some class) = true
is_class (step.Pairs first second) = true
is_class _ = false

abbrev pub has_class : List template.Line → Bool
has_class steps = list_any (λ s. is_class s.0) steps

abbrev pub is_one : Step → Bool
is_one (step.One class) = true
is_one _ = false

abbrev pub is_nothing : Slot → Bool
is_nothing Nothing = true
is_nothing Prefix = false
is_nothing (Hole k) = false

-- the next line is `}`
abbrev pub is_brace : List Piece → Bool
is_brace [] = false
is_brace (p ∷ []) = is_nothing p.1 && bytes_eq p.0 (codes "}")
is_brace (p ∷ q ∷ ps) = false

abbrev pub is_step_brace : Step → List Piece → Bool
is_step_brace (step.Line blanks) pieces = (blanks == 0) && is_brace pieces
is_step_brace _ pieces = false

abbrev pub closes_next : List template.Line → Bool
closes_next [] = false
closes_next (s ∷ steps) = is_step_brace s.0 s.1

-- the next line begins with `]`
abbrev pub is_step_bracket : Step → List Piece → Bool
is_step_bracket (step.Line blanks) pieces = next_so (λ b. b == 93) pieces
is_step_bracket _ pieces = false

abbrev pub ends_next : List template.Line → Bool
ends_next [] = false
ends_next (s ∷ steps) = is_step_bracket s.0 s.1

-- the text that follows is what was printed, byte by byte
abbrev pub exact_after : Step → Bool
exact_after (step.Line blanks) = true
exact_after _ = false

-- a step of a class takes no user code, or stands between a line and one that is `}`, as one part alone
abbrev pub is_sound_class : Bool → Step → List template.Line → Bool
is_sound_class exact s others = not (takes s part.UserBody) || (is_one s && (exact && closes_next others))

abbrev pub is_sound_step : Bool → List Kind → Step → List Piece → List template.Line → Bool
is_sound_step exact kinds (step.Line blanks) pieces others = is_sound_line kinds pieces
is_sound_step exact kinds (step.Each blanks) pieces others = is_sound_line kinds pieces && not (has_class others)
is_sound_step exact kinds step.Code pieces others = false
is_sound_step exact kinds step.Entries pieces others = exact && ends_next others
is_sound_step exact kinds step.Use pieces others = true
is_sound_step exact kinds step.Empty pieces others = true
is_sound_step exact kinds step.Note pieces others = true
is_sound_step exact kinds step.NoteAlways pieces others = true
is_sound_step exact kinds (step.One class) pieces others = is_sound_class exact (step.One class) others
is_sound_step exact kinds (step.Optional class) pieces others = is_sound_class exact (step.Optional class) others
is_sound_step exact kinds (step.Many class) pieces others = is_sound_class exact (step.Many class) others
is_sound_step exact kinds (step.Some class) pieces others = is_sound_class exact (step.Some class) others
is_sound_step exact kinds (step.Pairs first second) pieces others = is_sound_class exact (step.Pairs first second) others

abbrev pub are_sound : Bool → List Kind → List template.Line → Bool
are_sound exact kinds [] = true
are_sound exact kinds (s ∷ others) = is_sound_step exact kinds s.0 s.1 others && are_sound (exact_after s.0) kinds others

-- user code alone, or steps that are sound
abbrev pub is_sound : Part → Bool
is_sound p = if has_code (steps_of p) then is_code_only (steps_of p) else are_sound false (holes_of p) (steps_of p)
