-- The headers of trials: the names that they bind, and the type of states that they tell.
use Rattle.std.proofs.Common.{◌≡◌, ℕ, Bool, true, false, ◌&&◌, if◌then◌else◌, List, [], ◌∷◌, ◌++◌, length, take, drop, Option, Some, None, refl, ap, ◌∙◌, arith, codes}
use Rattle.std.specs.Prelude.{eqb, nat_le}
use Rattle.std.specs.Cmp.Lexicographic.{pointwise}
use Rattle.std.proofs.lemmas.Bool.{ne_eqb}
use Rattle.std.proofs.Math.Seq.{drop-append_seam}
use Rattle.lp_repr.specs.Numbering.{productions_of}
use Rattle.lp_repr.specs.declared.lr1.Lr1State.{Lr1State}
use Rattle.lp_repr.specs.declared.repr.Grammar.{Grammar}
use Rattle.lp_build.specs.declared.functions.FunctionName.{FunctionName}
use Rattle.lp_build.specs.declared.functions.FunctionName.TheVariants as name
use Rattle.lp_core.specs.declared.value.StateType.{StateType}
use Rattle.lp_view.specs.PartLists.{Form, hole_of, over}
use Rattle.lp_maker.specs.Slots.{Names, no_names, bound}
use Rattle.lp_maker.specs.Making.{parameters}
use Rattle.lp_maker.specs.Texts.{after_front, state_type_of, without_end}
use Rattle.lp_maker.proofs.Cuts.{has_front}
use Rattle.lp_bodies.specs.Reductions.{after_both, type_in, type_row, slice_type}
use Rattle.lp_table.specs.Starts.{state_text}
use Rattle.lp_table.specs.Headers.{header_lines}
use Rattle.lp_table.specs.Machines.{machine_clause_texts, machine_generics, machine_header}
use Rattle.lp_table.specs.MachineLines.{error_state_parameter, integer_parameter, phantom_parameter, phantom_type_text, states_parameter, strings_type}
use Rattle.lp_question_laws.proofs.Gotos.Digits.{Lacks}
use Rattle.lp_question_laws.proofs.Gotos.LinkHeaders.{IsWordy, bind_all, header_names, header_over, parameter_forms, prefixed_bound, wordy_by}

-- ---- the type in a parameter
abbrev slice_front : List ℕ
slice_front = codes "states: &["

-- what a parameter's text tells
abbrev told_by : List ℕ → Option StateType → List ℕ → Option StateType
told_by prefix kind text = type_in 93 kind (after_both slice_front (after_front prefix text))

abbrev told_all : List ℕ → Option StateType → List (List ℕ) → Option StateType
told_all prefix kind [] = kind
told_all prefix kind (t ∷ texts) = told_all prefix (told_by prefix kind t) texts

module _ (prefix : List ℕ) where
  abbrev step : Option StateType → Form → Option StateType
  step = type_row prefix slice_front 93

  over_parameters : (kind : Option StateType) (texts : List (List ℕ)) → over step kind (parameter_forms texts) ≡ told_all prefix kind texts
  over_parameters kind [] = refl
  over_parameters kind (t ∷ texts) = over_parameters (told_by prefix kind t) texts

  header_told : (name : FunctionName) (generics params : List (List ℕ)) (answer : List ℕ) (clauses : List (List ℕ)) → slice_type prefix (header_lines name generics params answer clauses) ≡ told_all prefix None params
  header_told name generics params answer clauses =
      header_over step (λ kind row e. ap (λ (b : Bool). if b then type_in 93 kind (after_both slice_front (after_front prefix (hole_of 0 row))) else kind) e) None name generics params answer clauses
      ∙ over_parameters None params

  -- a text behind the prefix
  prefixed_told : (kind : Option StateType) (text : List ℕ) → told_by prefix kind (prefix ++ text) ≡ type_in 93 kind (after_front slice_front text)
  prefixed_told kind text =
      ap (λ (b : Bool). type_in 93 kind (after_both slice_front (if b then Some (drop (length prefix) (prefix ++ text)) else None))) (has_front prefix (prefix ++ text) text refl)
      ∙ ap (λ t. type_in 93 kind (after_front slice_front t)) (drop-append_seam prefix text)

-- the phantom tells no type
phantom_told : (kind : Option StateType) (front text : List ℕ) → Lacks 58 front → told_by front kind (codes "_: " ++ text) ≡ kind
phantom_told kind [] text l = refl
phantom_told kind (x ∷ []) text l = by (eqb x 95)
  where
    by : (b : Bool) → type_in 93 kind (after_both slice_front (if b && true then Some (drop 1 (codes "_: " ++ text)) else None)) ≡ kind
    by true = refl
    by false = refl
phantom_told kind (x ∷ y ∷ ys) text l = by (eqb x 95) (pointwise eqb ys (take (length ys) (32 ∷ text)))
  where
    no_more : (a b : Bool) → (a && (eqb y 58 && b)) ≡ false
    no_more true b = ap (λ t. t && b) (ne_eqb y 58 l.1.0)
    no_more false b = refl

    by : (a b : Bool) → type_in 93 kind (after_both slice_front (if a && (eqb y 58 && b) then Some (drop (length (x ∷ y ∷ ys)) (codes "_: " ++ text)) else None)) ≡ kind
    by a b = ap (λ (t : Bool). type_in 93 kind (after_both slice_front (if t then Some (drop (length (x ∷ y ∷ ys)) (codes "_: " ++ text)) else None))) (no_more a b)

-- the type of states, without what closes the list
closed : (a b : Bool) → without_end 93 ((if a then codes "i8" else (if b then codes "i16" else codes "i32")) ++ codes "]") ≡ (if a then codes "i8" else (if b then codes "i16" else codes "i32"))
closed true b = refl
closed false true = refl
closed false false = refl

module _ (g : Grammar) (states : List Lr1State) (w : IsWordy g.prefix) where
  state_closed : without_end 93 (state_text g states ++ codes "]") ≡ state_text g states
  state_closed = closed (nat_le (length states) 127 && nat_le (length (productions_of g)) 127) (nat_le (length states) 32767 && nat_le (length (productions_of g)) 32767)

  error_told : (kind : Option StateType) → told_by g.prefix kind (error_state_parameter g states) ≡ kind
  unfolding error_state_parameter
  error_told kind = prefixed_told g.prefix kind (codes "error_state: Option<" ++ (state_text g states ++ codes ">"))

  states_told : (kind : Option StateType) → told_by g.prefix kind (states_parameter g states) ≡ state_type_of (state_text g states)
  unfolding states_parameter
  states_told kind = prefixed_told g.prefix kind (codes "states: &[" ++ (state_text g states ++ codes "]")) ∙ ap state_type_of state_closed

  integer_told : (kind : Option StateType) → told_by g.prefix kind (integer_parameter g) ≡ kind
  unfolding integer_parameter
  integer_told kind = prefixed_told g.prefix kind (codes "opt_integer: Option<usize>")

  last_told : (kind : Option StateType) → told_by g.prefix kind (phantom_parameter g) ≡ kind
  unfolding phantom_parameter
  last_told kind = phantom_told kind g.prefix (phantom_type_text g) w.no_colon

  -- the header of a trial tells the type of states
  abbrev pub accepts_header : Form
  accepts_header = machine_header g name.Accepts (error_state_parameter g states ∷ states_parameter g states ∷ integer_parameter g ∷ phantom_parameter g ∷ []) (codes "bool")

  pub accepts_typed : slice_type g.prefix accepts_header ≡ state_type_of (state_text g states)
  accepts_typed =
      let p = g.prefix in
      header_told p name.Accepts (machine_generics g) (error_state_parameter g states ∷ states_parameter g states ∷ integer_parameter g ∷ phantom_parameter g ∷ []) (codes "bool") (machine_clause_texts g)
      ∙ ap (λ k. told_all p k (states_parameter g states ∷ integer_parameter g ∷ phantom_parameter g ∷ [])) (error_told None)
      ∙ ap (λ k. told_all p k (integer_parameter g ∷ phantom_parameter g ∷ [])) (states_told None)
      ∙ ap (λ k. told_all p k (phantom_parameter g ∷ [])) (integer_told (state_type_of (state_text g states)))
      ∙ last_told (state_type_of (state_text g states))

  -- ---- names
  abbrev pub accepts_names : Names
  accepts_names = bound (codes "~opt_integer") (bound (codes "~states") (bound (codes "~error_state") no_names))

  pub accepts_bound : parameters g.prefix accepts_header ≡ accepts_names
  unfolding error_state_parameter states_parameter integer_parameter phantom_parameter
  accepts_bound =
      let p = g.prefix in
      header_names p name.Accepts (machine_generics g) (error_state_parameter g states ∷ states_parameter g states ∷ integer_parameter g ∷ phantom_parameter g ∷ []) (codes "bool") (machine_clause_texts g)
      ∙ ap (λ ns. bind_all p ns (states_parameter g states ∷ integer_parameter g ∷ phantom_parameter g ∷ [])) (prefixed_bound p (codes "error_state") (codes " Option<" ++ (state_text g states ++ codes ">")) no_names w (wordy_by (codes "error_state") refl refl refl) (omega arith))
      ∙ ap (λ ns. bind_all p ns (integer_parameter g ∷ phantom_parameter g ∷ [])) (prefixed_bound p (codes "states") (codes " &[" ++ (state_text g states ++ codes "]")) (bound (codes "~error_state") no_names) w (wordy_by (codes "states") refl refl refl) (omega arith))
      ∙ ap (λ ns. bind_all p ns (phantom_parameter g ∷ [])) (prefixed_bound p (codes "opt_integer") (codes " Option<usize>") (bound (codes "~states") (bound (codes "~error_state") no_names)) w (wordy_by (codes "opt_integer") refl refl refl) (omega arith))

  abbrev pub expected_header : Form
  expected_header = machine_header g name.ExpectedTokensFromStates (states_parameter g states ∷ phantom_parameter g ∷ []) strings_type

  pub expected_bound : parameters g.prefix expected_header ≡ bound (codes "~states") no_names
  unfolding states_parameter phantom_parameter
  expected_bound =
      let p = g.prefix in
      header_names p name.ExpectedTokensFromStates (machine_generics g) (states_parameter g states ∷ phantom_parameter g ∷ []) strings_type (machine_clause_texts g)
      ∙ ap (λ ns. bind_all p ns (phantom_parameter g ∷ [])) (prefixed_bound p (codes "states") (codes " &[" ++ (state_text g states ++ codes "]")) no_names w (wordy_by (codes "states") refl refl refl) (omega arith))
