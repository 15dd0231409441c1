-- The type of states is read in the header of the function that reduces.
use Rattle.std.proofs.Common.{◌≡◌, ℕ, Bool, true, false, ◌&&◌, if◌then◌else◌, List, [], ◌∷◌, ◌++◌, length, map, take, drop, Option, Some, None, refl, sym, ap, ◌∙◌, codes, append-nil}
use Rattle.std.specs.Prelude.{eqb, nat_eq, nat_le}
use Rattle.std.specs.Cmp.Lexicographic.{pointwise}
use Rattle.std.proofs.lemmas.Bool.{ne_eqb}
use Rattle.std.proofs.Math.Seq.{drop-append_seam}
use Rattle.lp_repr.specs.Numbering.{productions_of}
use Rattle.lp_repr.specs.declared.lr1.Lr1State.{Lr1State}
use Rattle.lp_repr.specs.declared.repr.Grammar.{Grammar}
use Rattle.lp_repr.specs.declared.repr.Parameter.{Parameter}
use Rattle.lp_repr.specs.ShownTypes.{type_text}
use Rattle.lp_form.specs.declared.part.Part.TheVariants as part
use Rattle.lp_tree.specs.ProgramTree.{leaf}
use Rattle.lp_build.specs.Built as built
use Rattle.lp_build.specs.Built.{row, text_rows}
use Rattle.lp_build.specs.Functions.{name_part, name_holes, result_line, clause_lines}
use Rattle.lp_build.specs.declared.functions.FunctionName.{FunctionName}
use Rattle.lp_build.specs.declared.functions.FunctionName.TheVariants as name
use Rattle.lp_core.specs.declared.value.StateType.{StateType}
use Rattle.lp_view.specs.PartLists.{Form, hole_of, is_a, parts_of, over}
use Rattle.lp_maker.specs.Texts.{after_front, begins, state_type_of, without_end}
use Rattle.lp_maker.proofs.Cuts.{has_front}
use Rattle.lp_bodies.specs.Reductions.{after_both, type_in, type_row, vec_type}
use Rattle.lp_table.specs.Starts.{Start, state_text, location_name, state_name}
use Rattle.lp_table.specs.Headers.{header_lines, declared_text, declared_texts, generics_of, clauses_of}
use Rattle.lp_table.specs.MachineLines.{phantom_parameter, phantom_type_text}
use Rattle.lp_table.specs.Pieces.{vec_of, borrowed_option, spanned_symbol_text}
use Rattle.lp_table.specs.ReductionLines.{action_parameter, state_list, stack_parameter, lookahead_parameter, symbols_parameter, reduce_answer, reduce_header}
use Rattle.lp_question_laws.proofs.Gotos.Digits.{Lacks}
use Rattle.lp_question_laws.proofs.Gotos.GotoCode.{over-append}
use Rattle.lp_question_laws.proofs.Gotos.LinkHeaders.{type_forms, parameter_forms, types_flat, parameters_flat}
use Rattle.lp_question_laws.proofs.Gotos.Whole.{IsWhole, AreWhole, flat, parts_over, flat-append, whole-append}
use Rattle.lp_question_laws.proofs.Reductions.Texts.{AllKeys, IsPrefix, names_of}

-- ---- rows of a header

abbrev pub clause_forms : List (List ℕ) → List Form
clause_forms [] = []
clause_forms (c ∷ cs) = clause_lines (c ∷ cs) ∷ []

clauses_flat : (clauses : List (List ℕ)) → (flat (clause_forms clauses) ≡ clause_lines clauses) × AreWhole (clause_forms clauses)
clauses_flat [] = (refl, tt)
clauses_flat (c ∷ cs) = (append-nil (clause_lines (c ∷ cs)), (refl, tt))

-- a result line is one part, and no parameter
pub result_whole : (answer : List ℕ) → IsWhole (result_line answer) × (is_a part.ParameterRow (result_line answer) ≡ false)
result_whole answer = by (pointwise nat_eq answer (codes "()"))
  where
    by : (b : Bool) → IsWhole (if b then leaf part.ResultUnit [] else leaf part.ResultType (answer ∷ [])) × (is_a part.ParameterRow (if b then leaf part.ResultUnit [] else leaf part.ResultType (answer ∷ [])) ≡ false)
    by true = (refl, refl)
    by false = (refl, refl)

pub header_parts : (name : FunctionName) (generics params : List (List ℕ)) (answer : List ℕ) (clauses : List (List ℕ))
    → parts_of (header_lines name generics params answer clauses) ≡ ((type_forms generics ++ parameter_forms params) ++ result_line answer ∷ []) ++ clause_forms clauses
unfolding header_lines
header_parts name generics params answer clauses =
    let t = type_forms generics in
    let p = parameter_forms params in
    let r = result_line answer ∷ [] in
    let c = clause_forms clauses in
    let lines = text_rows part.TypeRow generics ++ text_rows part.ParameterRow params in
    let flattened : (lines ++ result_line answer) ++ clause_lines clauses ≡ flat (((t ++ p) ++ r) ++ c) =
    sym (flat-append ((t ++ p) ++ r) c ∙ ap (λ x. x ++ flat c) (flat-append (t ++ p) r ∙ ap (λ x. x ++ flat r) (flat-append t p ∙ ap (λ x. x ++ flat p) (types_flat generics).0 ∙ ap (λ x. text_rows part.TypeRow generics ++ x) (parameters_flat params).0) ∙ ap (λ x. lines ++ x) (append-nil (result_line answer))) ∙ ap (λ x. (lines ++ result_line answer) ++ x) (clauses_flat clauses).0) in
    let whole : AreWhole (((t ++ p) ++ r) ++ c) = whole-append ((t ++ p) ++ r) c (whole-append (t ++ p) r (whole-append t p (types_flat generics).1 (parameters_flat params).1) ((result_whole answer).0, tt)) (clauses_flat clauses).1 in
    ap (λ below. parts_of (built.over (name_part name) (name_holes name) below)) flattened ∙ parts_over (name_part name) (name_holes name) (((t ++ p) ++ r) ++ c) whole

-- ---- the type in a parameter

abbrev pub list_front : List ℕ
list_front = codes "states: &mut alloc::vec::Vec<"

-- what a parameter's text tells
abbrev pub told_by : List ℕ → Option StateType → List ℕ → Option StateType
told_by prefix kind text = type_in 62 kind (after_both list_front (after_front prefix text))

module _ (prefix : List ℕ) where
  abbrev step : Option StateType → Form → Option StateType
  step = type_row prefix list_front 62

  over_types : (kind : Option StateType) (texts : List (List ℕ)) → over step kind (type_forms texts) ≡ kind
  over_types kind [] = refl
  over_types kind (t ∷ texts) = over_types kind texts

  abbrev pub told_all : Option StateType → List (List ℕ) → Option StateType
  told_all kind [] = kind
  told_all kind (t ∷ texts) = told_all (told_by prefix kind t) texts

  over_parameters : (kind : Option StateType) (texts : List (List ℕ)) → over step kind (parameter_forms texts) ≡ told_all kind texts
  over_parameters kind [] = refl
  over_parameters kind (t ∷ texts) = over_parameters (told_by prefix kind t) texts

  over_clauses : (kind : Option StateType) (clauses : List (List ℕ)) → over step kind (clause_forms clauses) ≡ kind
  over_clauses kind [] = refl
  over_clauses kind (c ∷ cs) = refl

  over_result : (kind : Option StateType) (answer : List ℕ) → step kind (result_line answer) ≡ kind
  over_result kind answer = ap (λ (b : Bool). if b then type_in 62 kind (after_both list_front (after_front prefix (hole_of 0 (result_line answer)))) else kind) (result_whole answer).1

  pub header_told : (name : FunctionName) (generics params : List (List ℕ)) (answer : List ℕ) (clauses : List (List ℕ)) → vec_type prefix (header_lines name generics params answer clauses) ≡ told_all None params
  header_told name generics params answer clauses =
      let t = type_forms generics in
      let p = parameter_forms params in
      let r = result_line answer ∷ [] in
      let c = clause_forms clauses in
      ap (over step None) (header_parts name generics params answer clauses)
      ∙ over-append step None ((t ++ p) ++ r) c
      ∙ over_clauses (over step None ((t ++ p) ++ r)) clauses
      ∙ over-append step None (t ++ p) r
      ∙ over_result (over step None (t ++ p)) answer
      ∙ over-append step None t p
      ∙ ap (λ k. over step k p) (over_types None generics)
      ∙ over_parameters None params

  pub told_append : (kind : Option StateType) (a b : List (List ℕ)) → told_all kind (a ++ b) ≡ told_all (told_all kind a) b
  told_append kind [] b = refl
  told_append kind (t ∷ a) b = told_append (told_by prefix kind t) a b

  -- a name without the prefix in front
  no_front : (front name rest : List ℕ) → begins front name ≡ false → Lacks 58 front → begins front (name ++ 58 ∷ rest) ≡ false
  no_front [] name rest h l = absurd cc
  no_front (x ∷ xs) [] rest h l = ap (λ t. t && pointwise eqb xs (take (length xs) rest)) (ne_eqb x 58 l.0)
  no_front (x ∷ xs) (b ∷ bs) rest h l = by (λ e. no_front xs bs rest e l.1) (eqb x b) h
    where
      by : (begins xs bs ≡ false → begins xs (bs ++ 58 ∷ rest) ≡ false) → (t : Bool) → (t && begins xs bs) ≡ false → (t && begins xs (bs ++ 58 ∷ rest)) ≡ false
      by again true e = again e
      by again false e = refl

  pub declared_told : (kind : Option StateType) (ps : List Parameter) → Lacks 58 prefix → AllKeys prefix (names_of ps) → told_all kind (map declared_text ps) ≡ kind
  declared_told kind [] l a = refl
  declared_told kind (p ∷ ps) l a =
      ap (λ (b : Bool). told_all (type_in 62 kind (after_both list_front (if b then Some (drop (length prefix) (declared_text p)) else None))) (map declared_text ps)) (no_front prefix p.name (32 ∷ type_text p.ty) a.0.apart l)
      ∙ declared_told kind ps l a.1

  -- a text behind the prefix
  pub prefixed_told : (kind : Option StateType) (text : List ℕ) → told_by prefix kind (prefix ++ text) ≡ type_in 62 kind (after_front list_front text)
  prefixed_told kind text =
      ap (λ (b : Bool). type_in 62 kind (after_both list_front (if b then Some (drop (length prefix) (prefix ++ text)) else None))) (has_front prefix (prefix ++ text) text refl)
      ∙ ap (λ t. type_in 62 kind (after_front list_front t)) (drop-append_seam prefix text)

  -- the phantom
  pub phantom_told : (kind : Option StateType) (front text : List ℕ) → Lacks 58 front → told_by front kind (codes "_: " ++ text) ≡ kind
  phantom_told kind [] text l = refl
  phantom_told kind (x ∷ []) text l = by (eqb x 95)
    where
      by : (b : Bool) → type_in 62 kind (after_both list_front (if b && true then Some (drop 1 (codes "_: " ++ text)) else None)) ≡ kind
      by true = refl
      by false = refl
  phantom_told kind (x ∷ y ∷ ys) text l =
      by (eqb x 95) (pointwise eqb ys (take (length ys) (32 ∷ text)))
    where
      no_more : (a b : Bool) → (a && (eqb y 58 && b)) ≡ false
      no_more true b = ap (λ t. t && b) (ne_eqb y 58 l.1.0)
      no_more false b = refl

      by : (a b : Bool) → type_in 62 kind (after_both list_front (if a && (eqb y 58 && b) then Some (drop (length (x ∷ y ∷ ys)) (codes "_: " ++ text)) else None)) ≡ kind
      by a b = ap (λ (t : Bool). type_in 62 kind (after_both list_front (if t then Some (drop (length (x ∷ y ∷ ys)) (codes "_: " ++ text)) else None))) (no_more a b)

-- the type of states, without what closes the list
pub closed : (a b : Bool) → without_end 62 ((if a then codes "i8" else (if b then codes "i16" else codes "i32")) ++ codes ">") ≡ (if a then codes "i8" else (if b then codes "i16" else codes "i32"))
closed true b = refl
closed false true = refl
closed false false = refl

module _ (g : Grammar) (states : List Lr1State) (s : Start) (h : IsPrefix g.prefix) (keys : AllKeys g.prefix (names_of g.parameters)) where
  state_closed : without_end 62 (state_text g states ++ codes ">") ≡ state_text g states
  state_closed = closed (nat_le (length states) 127 && nat_le (length (productions_of g)) 127) (nat_le (length states) 32767 && nat_le (length (productions_of g)) 32767)

  action_told : (kind : Option StateType) → told_by g.prefix kind (action_parameter g states) ≡ kind
  unfolding action_parameter
  action_told kind = prefixed_told g.prefix kind (codes "action: " ++ state_text g states)

  lookahead_told : (kind : Option StateType) → told_by g.prefix kind (lookahead_parameter g) ≡ kind
  unfolding lookahead_parameter
  lookahead_told kind = prefixed_told g.prefix kind (codes "lookahead_start: " ++ borrowed_option (location_name g))

  stack_told : (kind : Option StateType) → told_by g.prefix kind (stack_parameter g states) ≡ state_type_of (state_text g states)
  unfolding stack_parameter state_list vec_of state_name
  stack_told kind =
      let text = codes "states: &mut " ++ (codes "alloc::vec::Vec<" ++ (state_text g states ++ codes ">")) in
      prefixed_told g.prefix kind text ∙ ap state_type_of state_closed

  symbols_told : (kind : Option StateType) → told_by g.prefix kind (symbols_parameter g) ≡ kind
  unfolding symbols_parameter
  symbols_told kind = prefixed_told g.prefix kind (codes "symbols: &mut " ++ vec_of (spanned_symbol_text g))

  last_told : (kind : Option StateType) → told_by g.prefix kind (phantom_parameter g) ≡ kind
  unfolding phantom_parameter
  last_told kind = phantom_told g.prefix kind g.prefix (phantom_type_text g) h.wordy.no_colon

  pub states_typed : vec_type g.prefix (reduce_header g states s) ≡ state_type_of (state_text g states)
  unfolding reduce_header
  states_typed =
      let own = action_parameter g states ∷ lookahead_parameter g ∷ stack_parameter g states ∷ symbols_parameter g ∷ phantom_parameter g ∷ [] in
      let p = g.prefix in
      header_told p name.Reduce (generics_of g ++ []) (declared_texts g ++ own) (reduce_answer g s) (clauses_of g)
      ∙ told_append p None (declared_texts g) own
      ∙ ap (λ k. told_all p k own) (declared_told p None g.parameters h.wordy.no_colon keys)
      ∙ ap (λ k. told_all p k (lookahead_parameter g ∷ stack_parameter g states ∷ symbols_parameter g ∷ phantom_parameter g ∷ [])) (action_told None)
      ∙ ap (λ k. told_all p k (stack_parameter g states ∷ symbols_parameter g ∷ phantom_parameter g ∷ [])) (lookahead_told None)
      ∙ ap (λ k. told_all p k (symbols_parameter g ∷ phantom_parameter g ∷ [])) (stack_told None)
      ∙ ap (λ k. told_all p k (phantom_parameter g ∷ [])) (symbols_told (state_type_of (state_text g states)))
      ∙ last_told (state_type_of (state_text g states))
