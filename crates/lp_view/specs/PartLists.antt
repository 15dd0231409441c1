-- Parts of a program, each with all that is below it, as lists in the order of the text.
use Rattle.std.specs.Prelude.{ℕ, zero, suc, ℤ, Bool, List, [], ◌∷◌, length, map, take, drop, get_or, Option, Some, None, slice_get, unwrap_or, is_some, if◌then◌else◌}
use Rattle.std.specs.Option.{option_or}
use Rattle.lp_form.specs.declared.part.Part.{Part}
use Rattle.lp_form.specs.declared.part.Part.TheVariants as part
use Rattle.lp_form.specs.declared.kind.FormKind.{FormKind}
use Rattle.lp_form.specs.declared.kind.FormKind.TheVariants as form
use Rattle.lp_form.specs.Forms.{form_of}
use Rattle.lp_form.specs.contracts.part.PartPartialEq.TheImpl as equality
use Rattle.lp_tree.specs.ProgramTree.{Item, item}
use Rattle.lp_view.specs.declared.part.PartRef.{PartRef}
use Rattle.lp_view.specs.declared.part.Parts.{Parts}
use Rattle.lp_view.specs.declared.walk.Below.{Below}
use Rattle.lp_view.specs.declared.walk.FormRef.{FormRef}

-- a part and all that is below it
abbrev pub Form : Type 0
Form = List Item

abbrev pub part_at : Option Item → Part
part_at None = part.Program
part_at (Some e) = e.0

-- which part it is
abbrev pub part_of : Form → Part
part_of form = part_at (slice_get form 0)

-- whether it is that part
abbrev pub is_a : Part → Form → Bool
is_a sought form = (equality.ghosts).eq (part_of form) sought

-- which form it is; the program's, where it is none
abbrev pub kind_of : Form → FormKind
kind_of f = unwrap_or (form_of (part_of f)) form.Program

abbrev pub hole_at : ℕ → Option Item → List ℕ
hole_at k None = []
hole_at k (Some e) = get_or e.1 k []

-- what a hole holds; the empty text where there is no such hole
abbrev pub hole_of : ℕ → Form → List ℕ
hole_of k form = hole_at k (slice_get form 0)

abbrev pub numbers_at : Option Item → List ℤ
numbers_at None = []
numbers_at (Some e) = e.2

-- the entries of a table
abbrev pub numbers_of : Form → List ℤ
numbers_of form = numbers_at (slice_get form 0)

-- at most so many parts that stand side by side
abbrev pub level : ℕ → List Item → List Form
level zero es = []
level (suc n) [] = []
level (suc n) (e ∷ es) = (e ∷ take e.3 es) ∷ level n (drop e.3 es)

-- all parts that stand side by side
abbrev pub level_all : List Item → List Form
level_all es = level (length es) es

-- the parts directly below, in the order of the text
abbrev pub parts_of : Form → List Form
parts_of form = level_all (drop 1 form)

abbrev pub is_form : Part → Bool
is_form part = is_some (form_of part)

-- the forms among parts that no other of these forms has below it, behind so many parts that are passed over
abbrev pub forms_behind : ℕ → List Item → List Form
forms_behind n [] = []
forms_behind (suc n) (e ∷ es) = forms_behind n es
forms_behind zero (e ∷ es) = if is_form e.0 then ((e ∷ take e.3 es) ∷ forms_behind e.3 es) else forms_behind zero es

abbrev pub forms_among : List Item → List Form
forms_among es = forms_behind 0 es

-- the forms below a form that stand below no other form below it, in the order of the text: its parts below are gone
-- through, and those that are no forms are gone into
abbrev pub forms_below : Form → List Form
forms_below f = forms_among (drop 1 f)

-- what a part of the program is
abbrev pub listed : PartRef → Form
listed p = map item p.entries.now

-- what a form of the program is
abbrev pub form_listed : FormRef → Form
form_listed f = map item f.entries.now

-- the parts that are left to go over
abbrev pub parts_left : Parts → List Form
parts_left p = level p.left (map item p.rest.now)

-- the forms that are left to go over
abbrev pub forms_left : Below → List Form
forms_left b = forms_among (map item b.rest.now)

-- what comes of going over parts, one after another
abbrev pub over : {S : Type 0} → (S → Form → S) → S → List Form → S
over step s [] = s
over step s (form ∷ forms) = over step (step s form) forms

-- the first that passes a test
abbrev pub first_that : (Form → Bool) → List Form → Option Form
first_that test [] = None
first_that test (form ∷ forms) = if test form then Some form else first_that test forms

-- what the first gives of which a function gives anything
abbrev pub first_given : (Form → Option Form) → List Form → Option Form
first_given f [] = None
first_given f (form ∷ forms) = option_or (f form) (first_given f forms)
