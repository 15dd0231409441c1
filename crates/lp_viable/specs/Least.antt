-- The least trees: a step that needs a part has the first of its class, and each hole a text that may stand in it.
use Rattle.std.specs.Prelude.{ℕ, zero, suc, ◌==◌, Bool, true, false, ◌&&◌, ◌||◌, List, [], ◌∷◌, ◌++◌, length, map, get_or, replicate}
use Rattle.std.specs.List.{list_all}
use Rattle.lp_form.specs.Classes.{members_of}
use Rattle.lp_form.specs.Templates.{steps_of, holes_of}
use Rattle.lp_form.specs.Templates as template
use Rattle.lp_form.specs.declared.class.Class.{Class}
use Rattle.lp_form.specs.declared.part.Part.{Part}
use Rattle.lp_form.specs.declared.part.Part.TheVariants as part
use Rattle.lp_form.specs.declared.template.Kind.{Kind}
use Rattle.lp_form.specs.declared.template.Step.{Step}
use Rattle.lp_form.specs.declared.template.Step.TheVariants as step
use Rattle.lp_write.specs.Lines.{lines_bytes}
use Rattle.lp_write.specs.declared.rust.Options.{Options}
use Rattle.lp_program.specs.OwnLines.{own_lines}
use Rattle.lp_program.specs.Reads.{may_have, text_steps}
use Rattle.lp_program.specs.Trees.{Content, Forest}
use Rattle.lp_program.specs.Trees.Forest.{bare, tree}
use Rattle.lp_reading_laws.specs.Printing.TemplateTests.{is_class, exact_after, is_sound_step}
use Rattle.lp_viable.specs.Fillings.{filling}

abbrev pub first_member : Class → Part
first_member class = get_or (members_of class) 0 part.Program

-- the parts that a step needs
abbrev pub first_needed : Step → List Part
first_needed (step.One class) = first_member class ∷ []
first_needed (step.Some class) = first_member class ∷ []
first_needed _ = []

-- those that steps need
abbrev pub needed : List template.Line → List Part
needed [] = []
needed (s ∷ others) = first_needed s.0 ++ needed others

-- what a part holds then; the texts of uses and of user code are empty
abbrev pub least_holes : List ℕ → Part → List (List ℕ)
least_holes prefix p = map (filling prefix) (holes_of p) ++ replicate (text_steps (steps_of p)) []

abbrev pub least_content : List ℕ → Part → Content
least_content prefix p = record { part = p; holes = least_holes prefix p; numbers = []; notes = [] }

-- trees of these parts side by side, where those below each are told
abbrev pub trees_over : (Part → Forest) → List ℕ → List Part → Forest
trees_over below prefix [] = bare
trees_over below prefix (p ∷ parts) = tree (least_content prefix p) (below p) (trees_over below prefix parts)

-- the trees below a part, at most so deep
unfoldable pub least_below : ℕ → List ℕ → Part → Forest
least_below zero prefix p = bare
least_below (suc n) prefix p = trees_over (least_below n prefix) prefix (needed (steps_of p))

-- what is printed without blanks and comments
abbrev pub plain : Options
plain = record { whitespace = false; comments = false }

abbrev pub own_text : List ℕ → Content → ℕ → template.Line → List ℕ
own_text prefix c total s = lines_bytes false 0 (own_lines plain prefix c total s.1 s.0)

-- the texts of parts, one after another
abbrev pub texts_over : (Part → List ℕ) → List Part → List ℕ
texts_over text [] = []
texts_over text (p ∷ parts) = text p ++ texts_over text parts

-- the text of steps of a part: of each its own lines, and those of the parts that it needs
abbrev pub steps_text : (Part → List ℕ) → List ℕ → Content → ℕ → List template.Line → List ℕ
steps_text text prefix c total [] = []
steps_text text prefix c total (s ∷ others) = own_text prefix c total s ++ (texts_over text (first_needed s.0) ++ steps_text text prefix c total others)

-- the text of a least tree, at most so deep
unfoldable pub least_text : ℕ → List ℕ → Part → List ℕ
least_text zero prefix p = []
least_text (suc n) prefix p = steps_text (least_text n prefix) prefix (least_content prefix p) (length (needed (steps_of p))) (steps_of p)

-- a step is fit to be read as it is printed: it has what it needs; user code is none of them
abbrev pub is_fit_step : Bool → List Kind → Step → List template.Line → template.Line → Bool
is_fit_step exact kinds s others l = may_have s (first_needed s) && (is_class s || is_sound_step exact kinds s l.1 others)

abbrev pub are_fit : (Part → Bool) → Bool → List Kind → List template.Line → Bool
are_fit fits exact kinds [] = true
are_fit fits exact kinds (s ∷ others) = is_fit_step exact kinds s.0 others s && (list_all fits (first_needed s.0) && are_fit fits (exact_after s.0) kinds others)

-- the texts of uses are the only ones of their parts
abbrev pub is_used_alone : Part → Step → Bool
is_used_alone p step.Use = length (holes_of p) == 0
is_used_alone p step.Code = false
is_used_alone p _ = true

-- a part has a least tree that is at most so deep
unfoldable pub is_least : ℕ → Part → Bool
is_least zero p = false
is_least (suc n) p = list_all (λ s. is_used_alone p s.0) (steps_of p) && are_fit (is_least n) false (holes_of p) (steps_of p)
