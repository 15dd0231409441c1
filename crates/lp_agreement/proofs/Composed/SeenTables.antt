-- The functions that look at tables and tokens, and those that try stacks, don't depend on what can't be seen of their forms.
use Rattle.std.proofs.Common.{◌≡◌, ℕ, if◌then◌else◌, List, [], ◌∷◌, Option, Some, refl, ap, ◌∙◌}
use Rattle.lp_core.specs.declared.value.StateType.{StateType}
use Rattle.lp_core.specs.Tree.{Tree}
use Rattle.lp_form.specs.declared.part.Part.TheVariants as part
use Rattle.lp_view.specs.PartLists.{Form, is_a, hole_of}
use Rattle.lp_maker.specs.Constructs.{read, state}
use Rattle.lp_maker.specs.Making.{Making, parameters}
use Rattle.lp_maker.specs.Numbers.{wide_number_of}
use Rattle.lp_maker.specs.Slots.{Names}
use Rattle.lp_maker.specs.Texts.{state_type_of, pieces}
use Rattle.lp_bodies.specs.Arms.{Gathered, no_arms, with_body, with_number_case}
use Rattle.lp_bodies.specs.Tables.{Reading, reading_of, lookup_function, with_terminal, with_terminals, choice_at, goto_row, goto_rows, goto_body, numbered_arm, goto_arm, goto_of, goto_function, integer_arm, integer_row, integer_rows, integer_by, integer_function, with_integers, is_symbol, symbol_arm, with_done, symbol_row, symbol_rows, symbol_by, symbol_function, with_symbols, expected_by, expected_states_function}
use Rattle.lp_bodies.specs.Trials.{is_simulated, simulated, simulate_row, simulate_with, simulate_function, accepts_under, accepts_function}
use Rattle.lp_bodies.specs.Reductions.{slice_type}
use Rattle.lp_agreement.proofs.Composed.Seen.{IsBlind, header_seen, hole_seen, over_seen, parameters_seen, slice_seen}
use Rattle.lp_bodies.specs.Source.{function}
use Rattle.std.specs.Prelude.{codes, pos}
use Rattle.lp_agreement.proofs.Composed.Settled.{seen}

pub lookup_seen : IsBlind lookup_function
lookup_seen m [] = refl
lookup_seen m (e ∷ es) = refl

terminal_blind : IsBlind with_terminal
terminal_blind m [] = refl
terminal_blind m (e ∷ es) = refl

pub terminals_seen : (m : Making) (f : Form) → with_terminals (seen f) m ≡ with_terminals f m
terminals_seen m f = over_seen with_terminal terminal_blind m f

-- ---- gotos
goto_row_blind : (kind : Option StateType) → IsBlind (goto_row kind)
goto_row_blind kind a [] = refl
goto_row_blind kind a (e ∷ es) = refl

goto_rows_seen : (kind : Option StateType) (arm : Form) → goto_rows kind (seen arm) ≡ goto_rows kind arm
goto_rows_seen kind arm = over_seen (goto_row kind) (goto_row_blind kind) no_arms arm

goto_body_seen : (kind : Option StateType) (arm : Form) → goto_body kind (seen arm) ≡ goto_body kind arm
goto_body_seen kind [] = refl
goto_body_seen kind (e ∷ es) =
    let target : Tree = state kind (wide_number_of (hole_of 1 (e ∷ es))) in
    ap (λ (a : Gathered). if is_a part.GotoOne (e ∷ es) then target else choice_at (read 0) 3 target a) (goto_rows_seen kind (e ∷ es))

goto_arm_blind : (kind : Option StateType) → IsBlind (goto_arm kind)
goto_arm_blind kind a arm =
    ap (λ (s : List ℕ). numbered_arm (wide_number_of s) (goto_body kind (seen arm)) a) (hole_seen 0 arm) ∙ ap (λ (b : Tree). numbered_arm (wide_number_of (hole_of 0 arm)) b a) (goto_body_seen kind arm)

goto_of_seen : (kind : Option StateType) (f : Form) → goto_of kind (seen f) ≡ goto_of kind f
goto_of_seen kind f = ap (λ (a : Gathered). function 2 2 (choice_at (read 1) 2 (state kind (Some (pos 0))) a)) (over_seen (goto_arm kind) (goto_arm_blind kind) no_arms f)

pub goto_seen : (f : Form) → goto_function (seen f) ≡ goto_function f
goto_seen f = ap (λ (s : List ℕ). goto_of (state_type_of s) (seen f)) (hole_seen 0 f) ∙ goto_of_seen (state_type_of (hole_of 0 f)) f

-- ---- tokens
integer_row_blind : IsBlind integer_row
integer_row_blind s [] = refl
integer_row_blind s (e ∷ es) = ap (λ (a : Gathered). if is_a part.IntegerRow (e ∷ es) then integer_arm s (e ∷ es) else reading_of a s.made) (header_seen s.made.prefix (e ∷ es) s.arms)

integer_rows_seen : (m : Making) (f : Form) → integer_rows m (seen f) ≡ integer_rows m f
integer_rows_seen m f = over_seen integer_row integer_row_blind (reading_of no_arms m) f

pub integers_seen : (m : Making) (f : Form) → integer_function m (seen f) ≡ integer_function m f
integers_seen m f = ap (λ (r : Reading). integer_by r.arms) (integer_rows_seen m f)

pub with_integers_seen : (m : Making) (f : Form) → with_integers (seen f) m ≡ with_integers f m
with_integers_seen m f = ap (λ (r : Reading). r.made) (integer_rows_seen m f)

symbol_row_blind : IsBlind symbol_row
symbol_row_blind s [] = refl
symbol_row_blind s (e ∷ es) =
    ap (λ (a : Gathered). if is_symbol (e ∷ es) then with_done (pieces (codes " | ") (hole_of 0 (e ∷ es))) s.arms (symbol_arm s.made s.arms.names (e ∷ es)) else reading_of a s.made)
    (header_seen s.made.prefix (e ∷ es) s.arms)

symbol_rows_seen : (m : Making) (f : Form) → symbol_rows m (seen f) ≡ symbol_rows m f
symbol_rows_seen m f = over_seen symbol_row symbol_row_blind (reading_of no_arms m) f

pub symbols_seen : (m : Making) (f : Form) → symbol_function m (seen f) ≡ symbol_function m f
symbols_seen m f = ap (λ (r : Reading). symbol_by r.arms) (symbol_rows_seen m f)

pub with_symbols_seen : (m : Making) (f : Form) → with_symbols (seen f) m ≡ with_symbols f m
with_symbols_seen m f = ap (λ (r : Reading). r.made) (symbol_rows_seen m f)

-- ---- trials
pub expected_seen : (m : Making) (header : Form) → expected_states_function m (seen header) ≡ expected_states_function m header
expected_seen m header = ap (expected_by m) (parameters_seen m.prefix header)

simulate_row_blind : (prefix : List ℕ) → IsBlind (simulate_row prefix)
simulate_row_blind prefix a [] = refl
simulate_row_blind prefix a (e ∷ es) =
    ap (λ (h : Gathered). if is_simulated (e ∷ es) then with_body (simulated (e ∷ es)) (with_number_case (hole_of 0 (e ∷ es)) a) else h) (header_seen prefix (e ∷ es) a)

pub simulate_seen : (prefix : List ℕ) (f : Form) → simulate_function prefix (seen f) ≡ simulate_function prefix f
simulate_seen prefix f = ap simulate_with (over_seen (simulate_row prefix) (simulate_row_blind prefix) no_arms f)

pub accepts_seen : (m : Making) (header : Form) → accepts_function m (seen header) ≡ accepts_function m header
accepts_seen m header =
    ap (λ (n : Names). accepts_under m n (slice_type m.prefix (seen header))) (parameters_seen m.prefix header) ∙ ap (accepts_under m (parameters m.prefix header)) (slice_seen m.prefix header)
