-- What the lines of each part ask of their holes, and that each template passes the test.
use Rattle.std.proofs.Common.{◌≡◌, ℕ, true, not, ◌&&◌, if◌then◌else◌, ◌==◌, List, [], ◌∷◌, ◌++◌, length, get_or, refl}
use Rattle.lp_form.specs.Templates.{Piece, steps_of, holes_of}
use Rattle.lp_form.specs.Templates as template
use Rattle.lp_form.specs.declared.part.Part.{Part}
use Rattle.lp_form.specs.declared.part.Part.TheVariants as part
use Rattle.lp_form.specs.declared.template.Kind.{Kind}
use Rattle.lp_form.specs.declared.template.Kind.TheVariants as kind
use Rattle.lp_form.specs.declared.template.Slot.{Slot}
use Rattle.lp_form.specs.declared.template.Slot.TheVariants.{Nothing, Prefix, Hole}
use Rattle.lp_spelling.specs.HoleEnds.{is_alone}
use Rattle.lp_spelling.specs.LineReading.{kind_of}
use Rattle.lp_spelling.specs.LineHoles.{known_after, known_in}
use Rattle.lp_reading_laws.specs.Holes.LineTests.{holes_told}
use Rattle.lp_reading_laws.specs.Holes.Parted.{HoldsNo, BeginsNo, IsParted}
use Rattle.lp_reading_laws.specs.Holes.Found.{known_behind}

-- what a line asks of a hole: a text that it doesn't hold, with the prefix in the middle; or that it doesn't begin with the prefix
pub data Asks : Type 0 where
  holds_no : ℕ → List ℕ → List ℕ → Asks
  begins_no : ℕ → Asks

abbrev pub IsMet : List ℕ → List (List ℕ) → Asks → Type 0
IsMet prefix holes (holds_no k front behind) = HoldsNo prefix front behind (get_or holes k [])
IsMet prefix holes (begins_no k) = BeginsNo prefix (get_or holes k [])

abbrev pub AreMet : List ℕ → List (List ℕ) → List Asks → Type 0
AreMet prefix holes [] = Unit {0}
AreMet prefix holes (a ∷ others) = IsMet prefix holes a × AreMet prefix holes others

abbrev pub asks_text : ℕ → List ℕ → Slot → List Piece → List Asks
asks_text k text Prefix (q ∷ parts) = holds_no k text q.0 ∷ []
asks_text k text _ _ = []

abbrev pub asks_symbols : Slot → List Asks
asks_symbols (Hole j) = begins_no j ∷ []
asks_symbols _ = []

abbrev pub kind_asks : Kind → ℕ → List Piece → List Asks
kind_asks kind.Text k (p ∷ parts) = asks_text k p.0 p.1 parts
kind_asks kind.Symbols k (p ∷ parts) = asks_symbols p.1
kind_asks _ k parts = []

abbrev pub slot_asks : List Kind → ℕ → Slot → List Piece → List Asks
slot_asks kinds n Nothing parts = []
slot_asks kinds n Prefix parts = []
slot_asks kinds n (Hole k) parts = if (k == n) && not (is_alone n parts) then kind_asks (kind_of kinds n) n parts else []

abbrev pub line_asks : List Kind → ℕ → List Piece → List Asks
line_asks kinds n [] = []
line_asks kinds n (p ∷ parts) = slot_asks kinds n p.1 parts ++ line_asks kinds (known_after p.1 n) parts

abbrev pub steps_ask : List Kind → ℕ → List template.Line → List Asks
steps_ask kinds n [] = []
steps_ask kinds n (s ∷ steps) = line_asks kinds n s.1 ++ steps_ask kinds (known_in s.1 n) steps

pub templates_told : (p : Part) → holes_told p ≡ true
unfolding steps_of holes_of is_alone
templates_told part.Program = refl
templates_told _ = refl

pub lines_tell_all : (p : Part) → known_behind (steps_of p) 0 ≡ length (holes_of p)
unfolding steps_of holes_of
lines_tell_all part.Program = refl
lines_tell_all _ = refl

pub all_met : (prefix : List ℕ) (p : Part) (holes : List (List ℕ)) → IsParted prefix p holes → AreMet prefix holes (steps_ask (holes_of p) 0 (steps_of p))
unfolding steps_of holes_of is_alone
all_met prefix part.StateFn holes h = (h, tt)
all_met prefix part.ToTripleLocatedWhere holes h = (h, tt)
all_met prefix part.ToTripleLocated holes h = (h, tt)
all_met prefix part.ToTriplePlainWhere holes h = (h, tt)
all_met prefix part.ToTriplePlain holes h = (h, tt)
all_met prefix part.Pop holes h = (h, tt)
all_met prefix part.Transition holes h = (h, tt)
all_met prefix _ holes h = tt
