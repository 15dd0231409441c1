-- The cases of a state function's match on the lookahead: what each looks for, and the body that it leads to.
use Rattle.std.specs.Prelude.{◌≡◌, ℕ, ◌+◌, ◌||◌, Bool, true, false, List, [], ◌∷◌, ◌++◌, Option, Some, None, slice_get, if◌then◌else◌}
use Rattle.std.specs.List.{flat_map, list_any}
use Rattle.std.specs.Str.{bytes_eq}
use Rattle.lp_repr.specs.declared.lr1.Token.{Token}
use Rattle.lp_driver.specs.Values as values
use Rattle.lp_core.specs.declared.expr.Case.{Case}
use Rattle.lp_core.specs.declared.expr.Test.TheVariants as test
use Rattle.lp_core.specs.declared.value.Tag.TheVariants as tag
use Rattle.lp_core.specs.CaseMeaning.{last_body}
use Rattle.lp_core.specs.Store.{Program}
use Rattle.lp_form.specs.declared.part.Part.TheVariants as part
use Rattle.lp_view.specs.PartLists.{Form, is_a, hole_of, parts_of}
use Rattle.lp_machine.specs.declared.lookup.Act.{Act}
use Rattle.lp_machine.specs.declared.lookup.Act.TheVariants.{NoAction}
use Rattle.lp_maker.specs.Constructs.{here}
use Rattle.lp_maker.specs.Patterns.{form_of}
use Rattle.lp_ascent_bodies.specs.AscentArms.{token_test, is_token}
use Rattle.lp_ascent_bodies.specs.AscentStates.{is_line, is_shift, is_reduce}
use Rattle.lp_back_end_laws.specs.Call.Arms.{Arm, fits}

-- what a test looks for: a token of this form, or the end
abbrev pub Sought : Type 0
Sought = Option (List ℕ)

-- the lookahead is what is sought
abbrev pub is_sought : Option values.Token → Sought → Bool
is_sought None None = true
is_sought None (Some form) = false
is_sought (Some x) None = false
is_sought (Some x) (Some form) = bytes_eq form x.form

-- a case looks for this, and leads to this body
pub data LooksFor (p : Program) (body : ℕ) : Sought → Case → Type 0 where
  for_form : (text : ℕ) (form : List ℕ) → slice_get p.texts text ≡ Some form → LooksFor p body (Some form) (token_test text body)
  for_end : LooksFor p body None (here (test.Is tag.Absent) body)

-- cases that look for these, one by one, and lead to one body
abbrev pub LookForEach : Program → ℕ → List Sought → List Case → Type 0
LookForEach p body [] [] = Unit {0}
LookForEach p body [] (c ∷ cs) = ⊥
LookForEach p body (s ∷ ss) [] = ⊥
LookForEach p body (s ∷ ss) (c ∷ cs) = LooksFor p body s c × LookForEach p body ss cs

-- cases arm by arm, which lead to the bodies from a number on
abbrev pub AreCasesOf : Program → ℕ → List (List Sought) → List Case → Type 0
AreCasesOf p body [] cases = cases ≡ []
AreCasesOf p body (g ∷ gs) cases = (first : List Case) × (rest : List Case) × (cases ≡ first ++ rest) × LookForEach p body g first × AreCasesOf p (body + 1) gs rest

-- what the tests of an arm look for is what the arm is taken on
abbrev pub AreSoughtBy : (Token → Bool) → Option values.Token → List (List Sought) → List Arm → Type 0
AreSoughtBy test look [] [] = Unit {0}
AreSoughtBy test look [] (a ∷ rows) = ⊥
AreSoughtBy test look (g ∷ gs) [] = ⊥
AreSoughtBy test look (g ∷ gs) (a ∷ rows) = (list_any (is_sought look) g ≡ fits test a) × AreSoughtBy test look gs rows

-- the body that runs is that of an arm which does this; where nothing is done, it is the last of so many
pub data Runs (act : Act) (arms : List Arm) (bodies : ℕ) (body : Option ℕ) : Type 0 where
  an_arm : (i : ℕ) (arm : Arm) → slice_get arms i ≡ Some arm → body ≡ Some i → arm.1 ≡ act → Runs act arms bodies body
  the_last : body ≡ last_body bodies → act ≡ NoAction → Runs act arms bodies body

-- ---- what printed lines look for
-- the line of an arm, which is a shift or a reduction
abbrev pub IsArmLine : Form → Type 0
IsArmLine line = (is_line line ≡ false) × ((is_shift line || is_reduce line) ≡ true)

abbrev pub row_soughts : List ℕ → Form → List Sought
row_soughts prefix row = if is_token row then Some (form_of prefix (hole_of 0 row)) ∷ [] else (if is_a part.LastEnd row then None ∷ [] else [])

abbrev pub first_sought : List ℕ → Form → Sought
first_sought prefix line = if is_a part.ReduceEnd line then None else Some (form_of prefix (hole_of 0 line))

abbrev pub reduce_soughts : List ℕ → Form → List Sought
reduce_soughts prefix line = first_sought prefix line ∷ flat_map (row_soughts prefix) (parts_of line)

-- the line of an arm, by its prefix for names
abbrev pub line_soughts : List ℕ → Form → List Sought
line_soughts prefix line = if is_shift line then Some (form_of prefix (hole_of 0 line)) ∷ [] else reduce_soughts prefix line

-- the forms among them, which are texts of the program
abbrev pub form_sought : Sought → List (List ℕ)
form_sought None = []
form_sought (Some form) = form ∷ []

abbrev pub forms_sought : List Sought → List (List ℕ)
forms_sought soughts = flat_map form_sought soughts
