-- Tests of templates, by which each part leaves the indent as it was, but for those that open a bracket for others or close one.
use Rattle.std.specs.Prelude.{ℕ, ◌+◌, ◌-◌, Bool, true, false, not, ◌&&◌, ◌||◌, ◌==◌, if◌then◌else◌, nat_lt, nat_le, List, [], ◌∷◌, length}
use Rattle.lp_form.specs.Templates.{Piece, steps_of, holes_of}
use Rattle.lp_form.specs.Templates as template
use Rattle.lp_form.specs.declared.class.Class.{Class}
use Rattle.lp_form.specs.declared.class.Class.TheVariants as class
use Rattle.lp_form.specs.declared.part.Part.{Part}
use Rattle.lp_form.specs.declared.part.Part.TheVariants as part
use Rattle.lp_form.specs.declared.template.Kind.{Kind}
use Rattle.lp_form.specs.declared.template.Kind.TheVariants as kind
use Rattle.lp_form.specs.declared.template.Slot.{Slot}
use Rattle.lp_form.specs.declared.template.Slot.TheVariants.{Nothing, Prefix, Hole}
use Rattle.lp_form.specs.declared.template.Step.{Step}
use Rattle.lp_form.specs.declared.template.Step.TheVariants as step
use Rattle.lp_write.specs.Lines.{closes}
use Rattle.lp_spelling.specs.LineReading.{kind_of}
use Rattle.lp_program.specs.Printed.{takes}
use Rattle.lp_reading_laws.specs.Printing.LineTexts.{ends_open}
use Rattle.lp_reading_laws.specs.Printing.LineTests.{next_so}
use Rattle.lp_reading_laws.specs.Printing.TemplateTests.{is_class, has_class, is_one, is_nothing}

-- parts that leave a bracket open for those behind
abbrev pub rises : Part → Bool
rises part.LastToken = true
rises part.LastEnd = true
rises part.LocationRow = true
rises _ = false

-- parts that close one in front
abbrev pub falls : Part → Bool
falls part.ResultUnit = true
falls part.ResultType = true
falls part.ReduceLines = true
falls part.CallEndPlain = true
falls part.CallEndFallible = true
falls _ = false

-- parts with user code below, which stand at the indent 0
abbrev pub is_outer : Part → Bool
is_outer part.Program = true
is_outer part.ActionFn = true
is_outer part.ActionFnUnused = true
is_outer _ = false

-- one step of the indent, if there is one
abbrev pub one_if : Bool → ℕ
one_if b = if b then 4 else 0

-- a step takes such parts
abbrev pub step_rises : Step → Bool
step_rises s = takes s part.LastToken || (takes s part.LastEnd || takes s part.LocationRow)

abbrev pub takes_falling : Step → Bool
takes_falling s = takes s part.ResultUnit || (takes s part.ResultType || (takes s part.ReduceLines || (takes s part.CallEndPlain || takes s part.CallEndFallible)))

-- it takes one of them, or some, and no other part
abbrev pub class_rises : Class → Bool
class_rises class.LastToken = true
class_rises class.LocationRow = true
class_rises _ = false

abbrev pub only_rises : Step → Bool
only_rises (step.One class) = class_rises class
only_rises (step.Some class) = class_rises class
only_rises _ = false

abbrev pub class_falls : Class → Bool
class_falls class.ResultLine = true
class_falls class.ReduceLines = true
class_falls class.CallEnd = true
class_falls _ = false

abbrev pub step_falls : Step → Bool
step_falls (step.One class) = class_falls class
step_falls _ = false

abbrev pub takes_outer : Step → Bool
takes_outer s = takes s part.Program || (takes s part.ActionFn || takes s part.ActionFnUnused)

-- a line has a closing bracket at its front, and an opening one at its end
abbrev pub line_closes : ℕ → List Piece → Bool
line_closes blanks pieces = (blanks == 0) && next_so closes pieces

abbrev pub line_opens : List Piece → Bool
line_opens [] = false
line_opens (p ∷ []) = is_nothing p.1 && ends_open p.0
line_opens (p ∷ q ∷ ps) = line_opens (q ∷ ps)

-- a hole whose text ends with no opening bracket, or is empty; and one that is never empty
abbrev pub is_steady_kind : Kind → Bool
is_steady_kind kind.Text = true
is_steady_kind kind.Result = true
is_steady_kind kind.Attribute = true
is_steady_kind _ = false

abbrev pub is_attribute_kind : Kind → Bool
is_attribute_kind kind.Attribute = true
is_attribute_kind _ = false

abbrev pub is_hole_of : (Kind → Bool) → List Kind → Slot → Bool
is_hole_of test kinds (Hole k) = nat_lt k (length kinds) && test (kind_of kinds k)
is_hole_of test kinds _ = false

-- a piece at the end of a line ends with no opening bracket
abbrev pub is_steady_end : List Kind → List ℕ → Slot → Bool
is_steady_end kinds [] slot = is_hole_of is_attribute_kind kinds slot
is_steady_end kinds (b ∷ t) slot = not (ends_open (b ∷ t)) && (is_nothing slot || is_hole_of is_steady_kind kinds slot)

abbrev pub is_steady_line : List Kind → List Piece → Bool
is_steady_line kinds [] = false
is_steady_line kinds (p ∷ []) = is_steady_end kinds p.0 p.1
is_steady_line kinds (p ∷ q ∷ ps) = is_steady_line kinds (q ∷ ps)

-- a hole whose text begins with no closing bracket, or is empty
abbrev pub is_firm_kind : Kind → Bool
is_firm_kind kind.Name = true
is_firm_kind kind.PlainName = true
is_firm_kind kind.Number = true
is_firm_kind kind.Numbers = true
is_firm_kind kind.Ranges = true
is_firm_kind kind.Argument = true
is_firm_kind kind.Attribute = true
is_firm_kind kind.Escaped = true
is_firm_kind kind.Visibility = true
is_firm_kind kind.Text = true
is_firm_kind kind.Pattern = true
is_firm_kind kind.Patterns = true
is_firm_kind _ = false

abbrev pub is_firm_slot : List Kind → Slot → Bool
is_firm_slot kinds Nothing = true
is_firm_slot kinds Prefix = true
is_firm_slot kinds (Hole k) = is_hole_of is_firm_kind kinds (Hole k)

-- a line begins with no closing bracket
abbrev pub is_firm_text : List ℕ → Bool → Bool
is_firm_text [] next = next
is_firm_text (b ∷ t) next = not (closes b)

abbrev pub is_firm_line : List Kind → List Piece → Bool
is_firm_line kinds [] = true
is_firm_line kinds (p ∷ ps) = is_firm_text p.0 (is_firm_slot kinds p.1 && is_firm_line kinds ps)

-- where the indent stands between two steps of a part: so far above its base, or as many brackets further as there are parts
-- below; for sure, where the base is 0 and no sum of indents needs to fit 64 bits; and whether no part below was printed yet
pub record Level : Type 0 where
  pub above : ℕ
  pub each : Bool
  pub exact : Bool
  pub first : Bool

-- what a step itself prints: a line moves the indent, and a line for each part below closes the brackets that they opened
abbrev pub own_fits : List Kind → Level → Step → List Piece → Bool
own_fits kinds l (step.Line blanks) pieces =
    (line_opens pieces || is_steady_line kinds pieces)
    && (nat_le (one_if (line_closes blanks pieces)) l.above && (line_closes blanks pieces || is_firm_line kinds pieces))
own_fits kinds l (step.Each blanks) pieces = is_steady_line kinds pieces && (l.each && line_closes blanks pieces)
own_fits kinds l _ pieces = true

abbrev pub own_level : Level → Step → List Piece → Level
own_level l (step.Line blanks) pieces = record {
  above = (l.above - one_if (line_closes blanks pieces)) + one_if (line_opens pieces);
  each = l.each;
  exact = not l.each && ((l.above == 0) && line_opens pieces);
  first = l.first;
}
own_level l (step.Each blanks) pieces = record { above = l.above; each = false; exact = false; first = l.first }
own_level l _ pieces = record { above = l.above; each = l.each; exact = false; first = l.first }

-- what the parts that a step takes print. Those that raise the indent stand alone, or are all that stand below
abbrev pub rising_fits : Level → Step → List template.Line → Bool
rising_fits l s others = only_rises s && (is_one s || (not l.each && (l.first && not (has_class others))))

-- those with user code below stand at the base
abbrev pub outer_fits : Part → Level → Step → Bool
outer_fits p l s = is_outer p && (not l.each && ((l.above == 0) && not (step_rises s)))

-- user code stands alone, at the indent 4
abbrev pub code_fits : Part → Level → Step → Bool
code_fits p l s = is_outer p && (l.exact && ((l.above == 4) && is_one s))

abbrev pub class_fits : Part → Level → Step → List template.Line → Bool
class_fits p l s others =
    (if step_falls s then nat_le 4 l.above else not (takes_falling s))
    && ((not (step_rises s) || rising_fits l s others)
    && ((not (takes_outer s) || outer_fits p l s)
    && (not (takes s part.UserBody) || code_fits p l s)))

abbrev pub class_level : Level → Step → Level
class_level l s =
    if step_falls s then record { above = l.above - 4; each = l.each; exact = false; first = false }
    else (if step_rises s then (if is_one s then record { above = l.above + 4; each = l.each; exact = false; first = false } else record { above = l.above; each = true; exact = false; first = false })
    else record { above = l.above; each = l.each; exact = false; first = false })

abbrev pub step_fits : Part → List Kind → Level → Step → List Piece → List template.Line → Bool
step_fits p kinds l s pieces others = if is_class s then class_fits p l s others else own_fits kinds l s pieces

abbrev pub step_level : Level → Step → List Piece → Level
step_level l s pieces = if is_class s then class_level l s else own_level l s pieces

-- all steps of a part, up to the level behind it
abbrev pub are_level : Part → List Kind → Level → List template.Line → Bool
are_level p kinds l [] = (l.above == one_if (rises p)) && not l.each
are_level p kinds l (s ∷ others) = step_fits p kinds l s.0 s.1 others && are_level p kinds (step_level l s.0 s.1) others

abbrev pub keeps_level : Part → Bool
keeps_level p = are_level p (holes_of p) (record { above = one_if (falls p); each = false; exact = false; first = true }) (steps_of p)
