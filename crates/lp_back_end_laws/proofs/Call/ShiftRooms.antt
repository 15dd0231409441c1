-- How many slots the lines of a shift give out.
use Rattle.std.proofs.Common.{◌≡◌, ℕ, ◌+◌, Bool, true, false, List, [], ◌∷◌, ◌++◌, length, map, Some, slice_get, refl, ap, ◌∙◌, arith, if◌then◌else◌}
use Rattle.lp_view.specs.PartLists.{Form, parts_of}
use Rattle.lp_bodies.specs.Lines.{Lines}
use Rattle.lp_ascent_bodies.specs.declared.ascent.Lines.{Lines as Shared}
use Rattle.lp_ascent_bodies.specs.AscentArms.{Arming, done_arm, shift_arm, reduce_arm}
use Rattle.lp_ascent_bodies.specs.AscentErrors.{expected_error}
use Rattle.lp_ascent_bodies.specs.AscentMoves.{found_transition}
use Rattle.lp_ascent_bodies.specs.AscentReductions.{return_line, returns, take_line}
use Rattle.lp_ascent_bodies.specs.AscentStates.{is_shift, is_reduce}
use Rattle.lp_back_end_laws.proofs.Call.CaseBodies.{next_arming}
use Rattle.lp_back_end_laws.proofs.Call.Cells.{take_form, take_lines}
use Rattle.lp_back_end_laws.proofs.Call.ShiftArms.{shift_symbol}
use Rattle.lp_back_end_laws.proofs.Call.Transitions.{return_forms, take_rows_are}

-- one for each slot that is taken
pub take_next : (js : List ℕ) (l : Lines) → (take_lines js l).names.next ≡ l.names.next + length js
take_next [] l = omega arith
take_next (j ∷ js) l = omega (arith, take_next js (take_line (take_form j) l))

return_next : (shared : Shared) (b : Bool) (l : Lines) → (return_line shared b l).names.next ≡ l.names.next
return_next shared true l = refl
return_next shared false l = refl

-- four for the symbol, and one for the call
pub shift_next : (shared : Shared) (line form : Form) (a : Arming) (js : List ℕ) (b : Bool) → is_shift line ≡ true → slice_get (parts_of line) 0 ≡ Some form → parts_of form ≡ map take_form js ++ return_forms b → (next_arming shared a line).names.next ≡ a.names.next + 4 + length js + 1
shift_next shared line form a js b is below parts =
    let l0 = shift_symbol a.made.prefix shared a.names line in
    ap (λ (c : Bool). (if c then shift_arm shared line a else (if is_reduce line then reduce_arm shared line a else done_arm a.arms (expected_error a.made a.names line))).names.next) is
    ∙ ap (λ o. (found_transition a.made shared o l0).names.next) below
    ∙ return_next shared (returns form) _
    ∙ ap (λ (l : Lines). l.names.next + 1) (take_rows_are form js b parts l0)
    ∙ ap (λ n. n + 1) (take_next js l0)
    ∙ (let e : (a.names.next + 3) + 1 + length js + 1 ≡ a.names.next + 4 + length js + 1 = omega arith in e)
