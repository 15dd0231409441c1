-- Tests of templates: whatever fills the holes, and whatever the prefix is, no line is one of both.
use Rattle.std.specs.Prelude.{ℕ, zero, suc, Bool, true, false, not, ◌&&◌, ◌||◌, ◌==◌, if◌then◌else◌, List, [], ◌∷◌, reverse, codes}
use Rattle.std.specs.List.{list_all}
use Rattle.lp_form.specs.Classes.{members_of}
use Rattle.lp_form.specs.Templates.{Piece, steps_of, holes_of}
use Rattle.lp_form.specs.Templates as template
use Rattle.lp_form.specs.declared.class.Class.{Class}
use Rattle.lp_form.specs.declared.class.Class.TheVariants as class
use Rattle.lp_form.specs.declared.part.Part.{Part}
use Rattle.lp_form.specs.declared.template.Kind.{Kind}
use Rattle.lp_form.specs.declared.template.Kind.TheVariants as kind
use Rattle.lp_form.specs.declared.template.Slot.TheVariants.{Nothing, Hole}
use Rattle.lp_form.specs.declared.template.Step.{Step}
use Rattle.lp_form.specs.declared.template.Step.TheVariants as step
use Rattle.lp_texts.specs.Brackets.{closes}
use Rattle.lp_spelling.specs.HoleEnds.{is_digit, is_word}
use Rattle.lp_reading_laws.specs.FirstLines.Signs.{Sign, signs}
use Rattle.lp_reading_laws.specs.FirstLines.Signs.Sign.{byte, own, filled, unknown}

-- two texts differ in a byte that both have
abbrev pub differ : List ℕ → List ℕ → Bool
differ [] text = false
differ (a ∷ s) [] = false
differ (a ∷ s) (b ∷ text) = not (a == b) || differ s text

-- the literal text that a line ends with
abbrev pub end_text : List Piece → List ℕ
end_text [] = []
end_text ((text, Nothing) ∷ []) = text
end_text (p ∷ []) = []
end_text (p ∷ q ∷ parts) = end_text (q ∷ parts)

-- the literal texts at the ends differ
abbrev pub ends_apart : List Piece → List Piece → Bool
ends_apart p q = differ (reverse (end_text p)) (reverse (end_text q))

-- how many bytes of words stand in front at least
abbrev pub word_signs : List Sign → ℕ
word_signs [] = 0
word_signs (byte b ∷ s) = if is_word b then suc (word_signs s) else 0
word_signs (own ∷ s) = word_signs s
word_signs (filled k ∷ s) = 0
word_signs (unknown ∷ s) = 0

-- among the first n bytes one is no word's
abbrev pub breaks_within : ℕ → List Sign → Bool
breaks_within zero s = false
breaks_within (suc n) (byte b ∷ s) = not (is_word b) || breaks_within n s
breaks_within (suc n) _ = false

-- a literal text stands in front
abbrev pub has_text : List ℕ → List Sign → Bool
has_text [] s = true
has_text (b ∷ text) (byte a ∷ s) = (a == b) && has_text text s
has_text (b ∷ text) _ = false

-- a byte that is no word's stands in front
abbrev pub breaks_first : List Sign → Bool
breaks_first (byte b ∷ s) = not (is_word b)
breaks_first _ = false

-- no text of a kind begins with the byte; more is whether it doesn't stand behind an empty one
abbrev pub is_refused : Kind → ℕ → Bool → Bool
is_refused kind.Number b more = not (is_digit b)
is_refused kind.Ranges b more = not (is_digit b)
is_refused kind.Text b more = closes b && more
is_refused k b more = false

-- a name without the prefix, which ends in front of s, is no text that begins with it
abbrev pub is_foreign : Kind → List Sign → Bool
is_foreign kind.PlainName s = breaks_first s
is_foreign k s = false

-- a pattern with names in its holes, before a comma, doesn't begin with the prefix and `tok`, where no number follows
abbrev pub is_no_capture : Kind → List Sign → List Sign → Bool
is_no_capture kind.Filled s others = has_text (codes "tok ") s && has_text (codes ",") others
is_no_capture k s others = false

-- no line has both signs
abbrev pub fronts_apart : List Sign → List Sign → Bool
fronts_apart (byte a ∷ s) (byte b ∷ t) = not (a == b) || fronts_apart s t
fronts_apart (byte a ∷ s) [] = true
fronts_apart [] (byte b ∷ t) = true
fronts_apart (own ∷ s) (own ∷ t) = fronts_apart s t
fronts_apart (own ∷ s) (byte b ∷ t) = breaks_within (word_signs s) (byte b ∷ t)
fronts_apart (byte a ∷ s) (own ∷ t) = breaks_within (word_signs t) (byte a ∷ s)
fronts_apart (filled k ∷ s) (byte b ∷ t) = is_refused k b (fronts_apart s (byte b ∷ t))
fronts_apart (filled k ∷ s) (own ∷ t) = is_foreign k s
fronts_apart (own ∷ s) (filled k ∷ t) = is_no_capture k s t
fronts_apart _ _ = false

-- two lines, whose holes have these kinds
unfoldable pub lines_apart : List Kind → List Piece → List Kind → List Piece → Bool
lines_apart kinds p others q = ends_apart p q || fronts_apart (signs kinds p) (signs others q)

-- a use, as a line
abbrev pub use_line : List Piece
use_line = (codes "use ", Hole 0) ∷ []

-- the steps that are left of a part which the lines are to begin, and whether lines stood before them; those of a part that
-- shows the lines
abbrev pub Beginning : Type 0
Beginning = Bool × List Kind × List template.Line

abbrev pub Opening : Type 0
Opening = List Kind × List template.Line

abbrev pub whole_beginning : Part → Beginning
whole_beginning p = (false, holes_of p, steps_of p)

abbrev pub whole_opening : Part → Opening
whole_opening p = (holes_of p, steps_of p)

-- how a beginning and an opening are told apart
abbrev pub Test : Type 0
Test = Beginning → Opening → Bool

-- all parts of a class are told from the beginning
abbrev pub class_apart : Test → Beginning → Class → Bool
class_apart inner b class = list_all (λ m. inner b (whole_opening m)) (members_of class)

-- a line that is to be read, against the step in front: next is for the steps behind both, go for those behind the step alone, and
-- inner for the parts that it has
abbrev pub step_apart : Test → Test → Beginning → List Kind → List Piece → (Opening → Bool) → Step → List Kind → List Piece → List template.Line → Bool
step_apart go inner b kinds pieces next (step.Line blanks) others q steps = lines_apart kinds pieces others q || next (others, steps)
step_apart go inner b kinds pieces next step.Empty others q steps = go b (others, steps)
step_apart go inner b kinds pieces next step.Note others q steps = go b (others, steps)
step_apart go inner b kinds pieces next step.NoteAlways others q steps = go b (others, steps)
step_apart go inner b kinds pieces next step.Use others q steps = lines_apart kinds pieces [] use_line
step_apart go inner b kinds pieces next (step.One class) others q steps = class_apart inner b class
step_apart go inner b kinds pieces next (step.Some class) others q steps = class_apart inner b class
step_apart go inner b kinds pieces next (step.Optional class) others q steps = class_apart inner b class && go b (others, steps)
step_apart go inner b kinds pieces next (step.Many class) others q steps = class_apart inner b class && go b (others, steps)
step_apart go inner b kinds pieces next (step.Pairs first second) others q steps = class_apart inner b first && go b (others, steps)
step_apart go inner b kinds pieces next _ others q steps = false

abbrev pub line_apart : Test → Test → (Beginning → Bool) → Beginning → List Kind → List Piece → (Opening → Bool) → List Kind → List template.Line → Bool
line_apart go inner ended b kinds pieces next others [] = ended b
line_apart go inner ended b kinds pieces next others (s ∷ steps) = step_apart go inner b kinds pieces next s.0 others s.1 steps

-- the step in front of a beginning: a line, a use, or parts that begin it
abbrev pub begin_apart : Test → Test → (Beginning → Bool) → Beginning → Step → Bool → List Kind → List Piece → List template.Line → Opening → Bool
begin_apart go inner ended b (step.Line blanks) seen kinds pieces steps o = line_apart go inner ended b kinds pieces (inner (true, kinds, steps)) o.0 o.1
begin_apart go inner ended b step.Empty seen kinds pieces steps o = go (seen, kinds, steps) o
begin_apart go inner ended b step.Note seen kinds pieces steps o = go (seen, kinds, steps) o
begin_apart go inner ended b step.NoteAlways seen kinds pieces steps o = go (seen, kinds, steps) o
begin_apart go inner ended b step.Use seen kinds pieces steps o = line_apart go inner ended b [] use_line (λ x. false) o.0 o.1
begin_apart go inner ended b (step.One class) false kinds pieces steps o = list_all (λ m. go (whole_beginning m) o) (members_of class)
begin_apart go inner ended b _ seen kinds pieces steps o = false

abbrev pub steps_begin_apart : Test → Test → (Beginning → Bool) → Bool → List Kind → List template.Line → Opening → Bool
steps_begin_apart go inner ended seen kinds [] o = false
steps_begin_apart go inner ended seen kinds (s ∷ steps) o = begin_apart go inner ended (seen, kinds, s ∷ steps) s.0 seen kinds s.1 steps o

abbrev pub never : Beginning → Bool
never b = false

-- in at most n steps, no lines show the opening and begin the beginning; ended is for lines behind an opening that shows none
abbrev pub apart_within : ℕ → (Beginning → Bool) → Test
apart_within zero ended b o = false
apart_within (suc n) ended b o = steps_begin_apart (apart_within n ended) (apart_within n never) ended b.0 b.1 b.2 o

-- more steps than any part has
abbrev pub bound : ℕ
bound = 64

-- lines that the second part shows don't begin the first
abbrev pub is_apart_from : Part → Part → Bool
is_apart_from p q = apart_within bound never (whole_beginning p) (whole_opening q)

-- each of the parts is told from those behind it
abbrev pub parts_apart : List Part → Bool
parts_apart [] = true
parts_apart (p ∷ parts) = list_all (is_apart_from p) parts && parts_apart parts

-- the body of an action is told otherwise: by the parameters of its header, and where there are none by the lines up to its end
abbrev pub is_body : Class → Bool
is_body class.ActionBody = true
is_body _ = false
