-- A row that is an action.
use Rattle.std.proofs.Common.{◌≡◌, ℕ, Bool, true, false, List, sym, ap, ◌∙◌, if◌then◌else◌}
use Rattle.std.specs.Prelude.{codes}
use Rattle.lp_view.specs.PartLists.{Form}
use Rattle.lp_bodies.specs.Source.{is_located}
use Rattle.lp_run.specs.Promised.{Promising, Beginning, promised, header_number, is_source, is_action, with_action_form, beginning_row}

abbrev begun_with : Bool → Promising → Beginning
begun_with located s = record { located = located; actions = s }

pub action_row : (located : Bool) (s t : Promising) (name : List ℕ) (form : Form) → is_source form ≡ false → is_action form ≡ true → name ≡ header_number form → t ≡ promised (codes "super::action") name s form → begun_with located t ≡ beginning_row (begun_with located s) form
action_row located s t name form e f g h =
    let b : Beginning = begun_with located s in
    let source : Beginning = record b { located = is_located form } in
    let action : Beginning = with_action_form b form in
    let made : begun_with located t ≡ action = ap (begun_with located) (h ∙ ap (λ (n : List ℕ). promised (codes "super::action") n s form) g) in
    let chosen : beginning_row b form ≡ action =
    ap (λ (x : Bool). if x then source else (if is_action form then action else b)) e ∙ ap (λ (x : Bool). if x then action else b) f in
    made ∙ sym chosen
