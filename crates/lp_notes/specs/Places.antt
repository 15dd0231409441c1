-- How far a walk through the parts of a program has come, and what it does at a part.
use Rattle.std.specs.Prelude.{ℕ, ◌+◌, Bool, List, if◌then◌else◌, None}
use Rattle.lp_form.specs.contracts.part.PartPartialEq.TheImpl as equality
use Rattle.lp_form.specs.declared.part.Part.{Part}
use Rattle.lp_form.specs.declared.part.Part.TheVariants as part
use Rattle.lp_tree.specs.ProgramTree.{Item}
use Rattle.lp_notes.specs.Numbers.{number_told}
use Rattle.lp_notes.specs.declared.place.Kind.{Kind}
use Rattle.lp_notes.specs.declared.place.Kind.TheVariants.{Module, State, Numbered, Simulated, GotoArm, Reduction, Actions, Ends, Plain}
use Rattle.lp_notes.specs.declared.place.Place.{Place}

abbrev pub is : Part → Part → Bool
is p q = (equality.ghosts).eq p q

-- the parts that tell a number to those below them: the nonterminal of gotos, the production of a reduction
abbrev pub tells_number : Part → Kind
tells_number p =
    if is p part.GotoMatch then Numbered
    else (if is p part.ReduceBodyArm then Numbered
    else (if is p part.HeaderReduceFn then Numbered else Plain))

-- the parts that have comments alone
abbrev pub commented_kind : Part → Kind
commented_kind p =
    if is p part.SimulateArm then Simulated
    else (if is p part.SimulateAccept then Simulated
    else (if is p part.GotoRange then GotoArm
    else (if is p part.ReduceBody then Reduction else tells_number p)))

-- what a part is to a walk
abbrev pub kind_of : Part → Kind
kind_of p =
    if is p part.ParseModule then Module
    else (if is p part.StateFn then State
    else (if is p part.ActionTable then Actions
    else (if is p part.EofTable then Ends else commented_kind p)))

-- before the first part
abbrev pub first_place : Place
first_place = record { modules = 0; functions = 0; number = None }

-- behind a part of a kind with these texts
abbrev pub place_behind : Place → Kind → List (List ℕ) → Place
place_behind place Module holes = record { modules = place.modules + 1; functions = 0; number = None }
place_behind place State holes = record { modules = place.modules; functions = place.functions + 1; number = place.number }
place_behind place Numbered holes = record { modules = place.modules; functions = place.functions; number = number_told holes }
place_behind place Simulated holes = place
place_behind place GotoArm holes = place
place_behind place Reduction holes = place
place_behind place Actions holes = place
place_behind place Ends holes = place
place_behind place Plain holes = place

-- behind a part
abbrev pub after : Place → Item → Place
after place item = place_behind place (kind_of item.0) item.1
