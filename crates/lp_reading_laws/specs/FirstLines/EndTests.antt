-- Tests of templates: in front of what follows a step, or a part of it, no part begins that may be missing there.
use Rattle.std.specs.Prelude.{Bool, true, ◌&&◌, List, [], ◌∷◌}
use Rattle.std.specs.List.{list_all}
use Rattle.lp_form.specs.Classes.{members_of}
use Rattle.lp_form.specs.Templates.{steps_of, holes_of}
use Rattle.lp_form.specs.Templates as template
use Rattle.lp_form.specs.declared.class.Class.{Class}
use Rattle.lp_form.specs.declared.part.Part.{Part}
use Rattle.lp_form.specs.declared.template.Kind.{Kind}
use Rattle.lp_reading_laws.specs.FirstLines.ApartTests.{Beginning, bound, whole_beginning, apart_within}
use Rattle.lp_reading_laws.specs.FirstLines.Behind.{Place, ended_classes, places, class_tails}

abbrev pub always : Beginning → Bool
always b = true

-- where steps follow, whose holes have these kinds, no part of a class begins
abbrev pub none_begun : List Kind → List template.Line → Class → Bool
none_begun kinds steps class = list_all (λ m. apart_within bound always (whole_beginning m) (kinds, steps)) (members_of class)

abbrev pub place_apart : List Kind → Place → Bool
place_apart kinds place = list_all (none_begun kinds place.1) (class_tails place.0)

-- all steps, each with those behind it
abbrev pub steps_apart : List Kind → List template.Line → Bool
steps_apart kinds [] = true
steps_apart kinds (s ∷ steps) =
    list_all (none_begun kinds steps) (ended_classes s.0) && (list_all (place_apart kinds) (places s.0 steps) && steps_apart kinds steps)

abbrev pub has_apart_ends : Part → Bool
has_apart_ends p = steps_apart (holes_of p) (steps_of p)
