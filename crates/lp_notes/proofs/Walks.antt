-- Walks through parts: the notes of one part more.
use Rattle.std.proofs.Common.{◌≡◌, Bool, ℕ, List, [], ◌∷◌, ◌++◌, fold, refl, ap}
use Rattle.lp_repr.specs.declared.lr1.Lr1State.{Lr1State}
use Rattle.lp_repr.specs.declared.repr.Grammar.{Grammar}
use Rattle.lp_tree.specs.ProgramTree.{Item}
use Rattle.lp_notes.specs.Notes.{notes_from, part_notes}
use Rattle.lp_notes.specs.Places.{after}
use Rattle.lp_notes.specs.declared.place.Place.{Place}

-- behind parts
abbrev pub walked : Place → List Item → Place
walked place items = fold after place items

pub notes_more : (comments : Bool) (g : Grammar) (states : ℕ → List Lr1State) (place : Place) (before : List Item) (item : Item) →
    notes_from comments g states place (before ++ item ∷ []) ≡ notes_from comments g states place before ++ part_notes comments g (states (walked place before).modules) (walked place before) item ∷ []
notes_more comments g states place [] item = refl
notes_more comments g states place (i ∷ is) item =
    ap (λ rest. part_notes comments g (states place.modules) place i ∷ rest) (notes_more comments g states (after place i) is item)
