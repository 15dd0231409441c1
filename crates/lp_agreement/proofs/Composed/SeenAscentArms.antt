-- The arms of a state function and its errors don't depend on what can't be seen of their forms.
use Rattle.std.proofs.Common.{◌≡◌, ℕ, List, [], ◌∷◌, length, drop, if◌then◌else◌, Option, Some, None, option_map, slice_get, refl, ap, ◌∙◌}
use Rattle.std.proofs.lemmas.List.{drop-map}
use Rattle.lp_core.specs.declared.expr.Op.TheVariants as op
use Rattle.lp_core.specs.Tree.{Tree, Apply}
use Rattle.lp_form.specs.declared.part.Part.TheVariants as part
use Rattle.lp_view.specs.PartLists.{Form, is_a, hole_of, parts_of, over}
use Rattle.lp_maker.specs.Constructs.{one_after_another, write}
use Rattle.lp_maker.specs.Making.{Making}
use Rattle.lp_maker.specs.Slots.{Names, cut_to}
use Rattle.lp_bodies.specs.Lines.{Lines, lines_of}
use Rattle.lp_bodies.specs.Reductions.{done_of}
use Rattle.lp_bodies.specs.Source.{default_location}
use Rattle.lp_bodies.specs.Tables.{Reading, reading_of}
use Rattle.lp_ascent_bodies.specs.declared.ascent.Lines.{Lines as Shared}
use Rattle.lp_ascent_bodies.specs.AscentArms.{Arming, block_arm, case_row, done_arm, first_case, found_reduce, lines_below, reduce_arm, reduce_cases, reduce_under, shift_arm, shift_lines, symbol_line, token_case, token_parts}
use Rattle.lp_ascent_bodies.specs.AscentErrors.{cell_row, chain, chain_by, chained, error_names, error_value, expected_error, expected_list, first_cell, found_location, list_names, location, other_cells, unrecognized, with_chain, with_error, with_found_location, with_location}
use Rattle.lp_ascent_bodies.specs.AscentMoves.{found_transition}
use Rattle.lp_ascent_bodies.specs.AscentReductions.{top_slot}
use Rattle.lp_agreement.proofs.Composed.Seen.{IsBlind, hole_seen, is_seen, over_map, over_seen, part_seen_at, that_seen}
use Rattle.lp_agreement.proofs.Composed.SeenAscentReductions.{ascent_reduce_seen, found_transition_seen}
use Rattle.lp_agreement.proofs.Composed.Settled.{parts_seen, seen}

-- ---- shifts
symbol_seen : (prefix : List ℕ) (start : ℕ) (f : Form) (l : Lines) → symbol_line prefix start (seen f) l ≡ symbol_line prefix start f l
symbol_seen prefix start [] l = refl
symbol_seen prefix start (e ∷ es) l = refl

lines_seen : (m : Making) (shared : Shared) (names : Names) (f : Form) → shift_lines m shared names (seen f) ≡ shift_lines m shared names f
lines_seen m shared names f =
    let front = token_parts shared (lines_of names []) in
    ap (λ (o : Option Form). found_transition m shared o (symbol_line m.prefix names.next (seen f) front)) (part_seen_at f 0)
    ∙ found_transition_seen m shared (slice_get (parts_of f) 0) (symbol_line m.prefix names.next (seen f) front)
    ∙ ap (found_transition m shared (slice_get (parts_of f) 0)) (symbol_seen m.prefix names.next f front)

pub shift_arm_seen : (shared : Shared) (f : Form) (a : Arming) → shift_arm shared (seen f) a ≡ shift_arm shared f a
shift_arm_seen shared f a =
    let n = length a.names.known in
    let s = reading_of a.arms a.made in
    ap (λ (l : Lines). block_arm n l (token_case (hole_of 0 (seen f)) s)) (lines_seen a.made shared a.names f) ∙ ap (λ (t : List ℕ). block_arm n (shift_lines a.made shared a.names f) (token_case t s)) (hole_seen 0 f)

-- ---- reductions
case_blind : IsBlind case_row
case_blind s [] = refl
case_blind s (e ∷ es) = refl

first_seen : (f : Form) (s : Reading) → first_case (seen f) s ≡ first_case f s
first_seen [] s = refl
first_seen (e ∷ es) s = refl

cases_seen : (f : Form) (s : Reading) → reduce_cases (seen f) s ≡ reduce_cases f s
cases_seen f s = over_seen case_row case_blind (first_case (seen f) s) f ∙ ap (λ (t : Reading). over case_row t (parts_of f)) (first_seen f s)

found_reduce_seen : (shared : Shared) (m : Making) (names : Names) (o : Option Form) → found_reduce shared m names (option_map seen o) ≡ found_reduce shared m names o
found_reduce_seen shared m names None = refl
found_reduce_seen shared m names (Some f) = ascent_reduce_seen shared m names f

under_seen : (shared : Shared) (f : Form) (names : Names) (s : Reading) → reduce_under shared (seen f) names s ≡ reduce_under shared f names s
under_seen shared f names s =
    ap (λ (o : Option Form). done_arm s.arms (found_reduce shared s.made names o)) (that_seen (is_a part.ReduceLines) (is_seen part.ReduceLines) f)
    ∙ ap (done_arm s.arms) (found_reduce_seen shared s.made names (lines_below f))

pub reduce_arm_seen : (shared : Shared) (f : Form) (a : Arming) → reduce_arm shared (seen f) a ≡ reduce_arm shared f a
reduce_arm_seen shared f a =
    ap (reduce_under shared (seen f) a.names) (cases_seen f (reading_of a.arms a.made)) ∙ under_seen shared f a.names (reduce_cases f (reading_of a.arms a.made))

-- ---- errors
cell_blind : (names : Names) → IsBlind (cell_row names)
cell_blind names cells [] = refl
cell_blind names cells (e ∷ es) = refl

others_seen : (names : Names) (f : Form) → other_cells names (seen f) ≡ other_cells names f
others_seen names f =
    ap (λ (fs : List Form). over (cell_row names) [] (drop 1 fs)) (parts_seen f) ∙ ap (over (cell_row names) []) (drop-map seen 1 (parts_of f)) ∙ over_map (cell_row names) (cell_blind names) [] (drop 1 (parts_of f))

top_seen : (names : Names) (f : Form) → top_slot (seen f) names ≡ top_slot f names
top_seen names [] = refl
top_seen names (e ∷ es) = refl

first_cell_seen : (names : Names) (o : Option Form) → first_cell names (option_map seen o) ≡ first_cell names o
first_cell_seen names None = refl
first_cell_seen names (Some f) = top_seen names f

chain_seen : (m : Making) (names : Names) (f : Form) → chain m names (seen f) ≡ chain m names f
chain_seen m names f =
    ap (λ (o : Option Form). chain_by m (first_cell names o) (other_cells names (seen f))) (part_seen_at f 0)
    ∙ ap (λ (t : Tree). chain_by m t (other_cells names (seen f))) (first_cell_seen names (slice_get (parts_of f) 0))
    ∙ ap (chain_by m (first_cell names (slice_get (parts_of f) 0))) (others_seen names f)

with_chain_seen : (names : Names) (f : Form) (m : Making) → with_chain names (seen f) m ≡ with_chain names f m
with_chain_seen names f m = ap (λ (ts : List Tree). (chained m ts).made) (others_seen names f)

location_seen : (m : Making) (names : Names) (f : Form) → location m names (seen f) ≡ location m names f
location_seen m names [] = refl
location_seen m names (e ∷ es) =
    ap (λ (t : Tree). if is_a part.LocationFixed (e ∷ es) then Apply (op.Part 2) (top_slot (e ∷ es) names) else (if is_a part.LocationChain (e ∷ es) then t else default_location)) (chain_seen m names (e ∷ es))

with_location_seen : (names : Names) (f : Form) (m : Making) → with_location names (seen f) m ≡ with_location names f m
with_location_seen names [] m = refl
with_location_seen names (e ∷ es) m = ap (λ (n : Making). if is_a part.LocationFixed (e ∷ es) then m else (if is_a part.LocationChain (e ∷ es) then n else m)) (with_chain_seen names (e ∷ es) m)

found_location_seen : (m : Making) (names : Names) (o : Option Form) → found_location m names (option_map seen o) ≡ found_location m names o
found_location_seen m names None = refl
found_location_seen m names (Some f) = location_seen m names f

with_found_seen : (names : Names) (o : Option Form) (m : Making) → with_found_location names (option_map seen o) m ≡ with_found_location names o m
with_found_seen names None m = refl
with_found_seen names (Some f) m = with_location_seen names f m

-- the value of an error at a place
abbrev value_at : Making → Names → Tree → Tree
value_at m names place = one_after_another (write names.next (expected_list m names) ∷ unrecognized (error_names names) (list_names names).next names.next place ∷ [])

error_value_seen : (m : Making) (names : Names) (f : Form) → error_value m names (seen f) ≡ error_value m names f
error_value_seen m names f =
    ap (λ (o : Option Form). value_at m names (found_location m (error_names names) o)) (part_seen_at f 0) ∙ ap (value_at m names) (found_location_seen m (error_names names) (slice_get (parts_of f) 0))

with_error_seen : (names : Names) (f : Form) (m : Making) → with_error names (seen f) m ≡ with_error names f m
with_error_seen names f m = ap (λ (o : Option Form). with_found_location (error_names names) o m) (part_seen_at f 0) ∙ with_found_seen (error_names names) (slice_get (parts_of f) 0) m

pub expected_error_seen : (m : Making) (names : Names) (f : Form) → expected_error m names (seen f) ≡ expected_error m names f
expected_error_seen m names f =
    let after = cut_to (length names.known) (error_names names) in
    ap (λ (t : Tree). done_of t after (with_error names (seen f) m)) (error_value_seen m names f) ∙ ap (done_of (error_value m names f) after) (with_error_seen names f m)
