-- The rows of a module of recursive ascent.
use Rattle.std.proofs.Common.{◌≡◌, ℕ, ◌+◌, ◌<◌, ◌≤◌, ◌^◌, List, [], ◌∷◌, ◌++◌, length, map, take, drop, zero, suc, Option, Some, refl, ap, ◌∙◌, arith, append_assoc}
use Rattle.std.specs.Prelude.{slice_get, codes, decimal, not}
use Rattle.std.proofs.Math.Seq.{take-append_seam}
use Rattle.std.proofs.lemmas.Fmt.{decimal_injective}
use Rattle.std.proofs.lemmas.List.{append_cancel_left}
use Rattle.lp_form.specs.declared.part.Part.{Part}
use Rattle.lp_form.specs.declared.part.Part.TheVariants as part
use Rattle.lp_repr.specs.declared.lr1.Lr1State.{Lr1State}
use Rattle.lp_repr.specs.declared.repr.Grammar.{Grammar}
use Rattle.lp_tree.specs.ProgramTree.{Item}
use Rattle.lp_build.specs.Built.{leaf_if, over, text_rows}
use Rattle.lp_table.specs.Headers.{header_lines}
use Rattle.lp_view.specs.PartLists.{Form, parts_of}
use Rattle.lp_run.specs.Functions.{function_made}
use Rattle.lp_run.specs.Promised.{header_number, number_under}
use Rattle.lp_ascent.specs.AnswerLines.{answer_parameters_text, located}
use Rattle.lp_ascent.specs.Slots.{Layout, has_lookahead, layout_at, layouts_of}
use Rattle.lp_ascent.specs.StateLines.{new_cells, state_arms, state_header, state_lines, state_with}
use Rattle.lp_parts.specs.Texts.{token_text}
use Rattle.lp_question_laws.proofs.Gotos.Whole.{IsWhole}
use Rattle.lp_agreement.proofs.Composed.AscentModules.{state_forms}
use Rattle.lp_back_end_laws.proofs.Call.StateParts.{state_header_whole}
use Rattle.lp_back_end_laws.proofs.Ascent.StateGrows.{state_adds}
use Rattle.lp_back_end_laws.proofs.Ascent.Rows.{AreRows, IsNew, RowIs, declares}

-- ---- the row of a state
-- the first part of a form, where another follows
pub first_part : (p : Part) (holes : List (List ℕ)) (header rest : Form) → IsWhole header → slice_get (parts_of (over p holes (header ++ rest))) 0 ≡ Some header
first_part p holes [] rest whole = absurd whole
first_part p holes (e ∷ es) rest whole = ap (λ (n : ℕ). Some (e ∷ take n (es ++ rest))) whole ∙ ap (λ (t : List Item). Some (e ∷ t)) (take-append_seam es rest)

module _ (g : Grammar) (states : List Lr1State) where
  -- a state's name
  abbrev pub state_name : ℕ → List ℕ
  state_name n = codes "state" ++ decimal n

  abbrev form_of : ℕ → Lr1State → Form
  form_of n s = state_lines g states (layouts_of g states) n s

  pub header_first : (n : ℕ) (s : Lr1State) (l : Layout) → slice_get (parts_of (state_with g states (layouts_of g states) n s l)) 0 ≡ Some (state_header g states n l)
  header_first n s l =
      let header = state_header g states n l in
      let pulls = leaf_if (not (has_lookahead l)) part.NextToken in
      let slots = text_rows part.SlotLine (map decimal (new_cells l)) in
      let arms = state_arms g (layouts_of g states) l s in
      let holes = located g (token_text g) ∷ answer_parameters_text g ∷ [] in
      ap (λ (below : List Item). slice_get (parts_of (over part.StateFn holes below)) 0) (append_assoc (header ++ pulls) slots arms ∙ append_assoc header pulls (slots ++ arms))
      ∙ first_part part.StateFn holes header (pulls ++ (slots ++ arms)) (state_header_whole g states n l)

  number_printed : (n : ℕ) (l : Layout) → number_under (Some (state_header g states n l)) ≡ decimal n
  unfolding state_header header_lines
  number_printed n l = refl

  pub state_row : (n : ℕ) (s : Lr1State) → RowIs (form_of n s) (Some (state_name n))
  unfolding state_lines function_made
  state_row n s =
      let l = layout_at (layouts_of g states) n in
      let form = state_with g states (layouts_of g states) n s l in
      let number : header_number form ≡ decimal n = ap number_under (header_first n s l) ∙ number_printed n l in
      (λ t. ap (λ (text : List ℕ). declares (codes "state" ++ text) t form) number, λ m. state_adds form m)

  -- the forms of states, from a number on
  abbrev pub own_forms : ℕ → List Lr1State → List Form
  own_forms n ss = state_forms g states (layouts_of g states) n ss

  abbrev pub state_names : ℕ → List Lr1State → List (Option (List ℕ))
  state_names n [] = []
  state_names n (s ∷ ss) = Some (state_name n) ∷ state_names (n + 1) ss

  pub state_rows : (n : ℕ) (ss : List Lr1State) → AreRows (own_forms n ss) (state_names n ss)
  state_rows n [] = tt
  state_rows n (s ∷ ss) = (state_row n s, state_rows (n + 1) ss)

  -- a state's form among them
  states_split : (n q : ℕ) (ss : List Lr1State) (s : Lr1State) → slice_get ss q ≡ Some s → own_forms n ss ≡ own_forms n (take q ss) ++ form_of (n + q) s ∷ own_forms (n + q + 1) (drop (suc q) ss)
  states_split n q [] s h = absurd cc
  states_split n zero (x ∷ ss) s h =
      let same : x ≡ s = cc in
      ap (λ (y : Lr1State). form_of n y ∷ own_forms (n + 1) ss) same ∙ ap (λ (k : ℕ). form_of k s ∷ own_forms (k + 1) ss) (omega arith)
  states_split n (suc q) (x ∷ ss) s h =
      ap (λ (fs : List Form). form_of n x ∷ fs) (states_split (n + 1) q ss s h ∙ ap (λ (k : ℕ). own_forms (n + 1) (take q ss) ++ form_of k s ∷ own_forms (k + 1) (drop (suc q) ss)) (omega arith))

  pub states_at : (q : ℕ) (ss : List Lr1State) (s : Lr1State) → slice_get ss q ≡ Some s → own_forms 0 ss ≡ own_forms 0 (take q ss) ++ form_of q s ∷ own_forms (q + 1) (drop (suc q) ss)
  states_at q ss s h = states_split 0 q ss s h ∙ ap (λ (k : ℕ). own_forms 0 (take q ss) ++ form_of k s ∷ own_forms (k + 1) (drop (suc q) ss)) (omega arith)

  -- states of other numbers have other names
  pub names_apart : (m n : ℕ) → m < 2 ^ 64 → n < 2 ^ 64 → (m ≡ n → ⊥) → state_name m ≡ state_name n → ⊥
  names_apart m n few small ne e = ne (decimal_injective m n few small (append_cancel_left (codes "state") (decimal m) (decimal n) e))

  pub name_new : (n m : ℕ) (ss : List Lr1State) → m + length ss ≤ n → n < 2 ^ 64 → IsNew (state_name n) (state_names m ss)
  name_new n m [] le few = tt
  name_new n m (s ∷ ss) le few = (names_apart n m few (omega (arith, le, few)) (λ e. omega (arith, le, e)), name_new n (m + 1) ss (omega (arith, le)) few)

  -- and no name that doesn't begin so is one of them
  pub others_new : (q : List ℕ) → ((n : ℕ) → q ≡ state_name n → ⊥) → (m : ℕ) (ss : List Lr1State) → IsNew q (state_names m ss)
  others_new q differs m [] = tt
  others_new q differs m (s ∷ ss) = (differs m, others_new q differs (m + 1) ss)
