-- The place of a state's error, as it is printed and as it is made.
use Rattle.std.proofs.Common.{◌≡◌, ℕ, zero, suc, ◌-◌, Bool, true, false, List, [], ◌∷◌, map, length, decimal, Option, Some, refl, ap, ◌∙◌}
use Rattle.std.specs.Prelude.{slice_get, ◌==◌, if◌then◌else◌}
use Rattle.lp_core.specs.declared.expr.Function.{Function}
use Rattle.lp_core.specs.Tree.{Tree}
use Rattle.lp_form.specs.declared.part.Part.TheVariants as part
use Rattle.lp_build.specs.Built.{text_rows, over}
use Rattle.lp_tree.specs.ProgramTree.{leaf}
use Rattle.lp_view.specs.PartLists.{Form, parts_of}
use Rattle.lp_maker.specs.Slots.{Names}
use Rattle.lp_maker.specs.Making.{Making}
use Rattle.lp_bodies.specs.Reductions.{part_function}
use Rattle.lp_ascent.specs.Slots.{Layout, count_of, is_cell}
use Rattle.lp_ascent.specs.StateLines.{downwards, error_location}
use Rattle.lp_ascent_bodies.specs.AscentErrors.{Chaining, links, no_links, with_end, chained, other_cells, default_function, with_found_location, error_names, expected_error}
use Rattle.lp_code_laws.proofs.Ends.Lists.{get_first}
use Rattle.lp_question_laws.proofs.Gotos.Whole.{IsWhole}
use Rattle.lp_code_laws.proofs.Slots.Slots.{get_behind}
use Rattle.lp_back_end_laws.proofs.Call.EndPlaces.{located_by}
use Rattle.lp_back_end_laws.proofs.Call.PrintedMoves.{one_part}
use Rattle.lp_back_end_laws.proofs.Call.StateMatch.{error_form}

location_whole : (l : Layout) → IsWhole (error_location l)
location_whole l = by (count_of l == 0) (is_cell l (count_of l - 1))
  where
    by : (a b : Bool) → IsWhole (if a then leaf part.LocationDefault [] else (if b then over part.LocationChain [] (text_rows part.LocationRow (map decimal (downwards (count_of l)))) else leaf part.LocationFixed (decimal (count_of l - 1) ∷ [])))
    by true b = refl
    by false true = refl
    by false false = refl

-- it is the first part of the error's line
pub first_location : (l : Layout) → slice_get (parts_of (error_form (error_location l))) 0 ≡ Some (error_location l)
first_location l = ap (λ (fs : List Form). slice_get fs 0) (one_part part.ErrorArm [] (error_location l) (location_whole l))

-- the functions of a chain stand behind those that are there
links_keep : (end n : ℕ) (s : Chaining) (i : ℕ) (f : Option Function) → slice_get s.made.functions i ≡ Some f → slice_get (links end n s).made.functions i ≡ Some f
links_keep end zero s i f at = at
links_keep end (suc n) s i f at = get_first (links end n s).made.functions _ i (links_keep end n s i f at)

-- a chain makes the function that takes the end of a cell first
chain_ends : (m : Making) (others : List Tree) → slice_get (chained m others).made.functions (length m.functions) ≡ Some (Some (part_function 2))
chain_ends m others =
    let first = get_behind m.functions (Some (part_function 2)) [] in
    links_keep (length m.functions) (length others) (no_links (with_end m)) (length m.functions) (Some (part_function 2)) (get_first (with_end m).functions (Some default_function ∷ []) (length m.functions) first)

-- where the top slot is a cell that function was made first
pub error_made : (made : Making) (names : Names) (l : Layout) (k : ℕ) → count_of l ≡ suc k → is_cell l k ≡ true → slice_get (expected_error made names (error_form (error_location l))).made.functions (length made.functions) ≡ Some (Some (part_function 2))
error_made made names l k count is =
    let located = located_by l (slice_get (parts_of (error_form (error_location l))) 0) (first_location l) k count true is in
    ap (λ (o : Option Form). slice_get (with_found_location (error_names names) o made).functions (length made.functions)) located
    ∙ chain_ends made (other_cells (error_names names) (over part.LocationChain [] (text_rows part.LocationRow (map decimal (downwards (suc k))))))
