-- The header of a state's function: its names, and the type of states that is read in it.
use Rattle.std.proofs.Common.{◌≡◌, ℕ, ◌+◌, ◌<◌, ◌≤◌, ◌^◌, Bool, true, false, List, [], ◌∷◌, ◌++◌, length, Option, None, refl, sym, ap, ◌∙◌, arith, codes, decimal}
use Rattle.std.specs.Prelude.{nat_lt, nat_le, ◌&&◌, if◌then◌else◌}
use Rattle.lp_repr.specs.Numbering.{productions_of}
use Rattle.lp_repr.specs.declared.lr1.Lr1State.{Lr1State}
use Rattle.lp_repr.specs.declared.repr.Grammar.{Grammar}
use Rattle.lp_repr.specs.declared.repr.Symbol.{Symbol}
use Rattle.lp_build.specs.declared.functions.FunctionName.TheVariants as name
use Rattle.lp_core.specs.declared.value.StateType.{StateType}
use Rattle.lp_parts.specs.Texts.{triple_text}
use Rattle.lp_table.specs.Starts.{state_name, state_text}
use Rattle.lp_table.specs.Headers.{generics_of, declared_texts, clauses_of}
use Rattle.lp_table.specs.MachineLines.{phantom_parameter, phantom_type_text}
use Rattle.lp_table.specs.Pieces.{vec_of}
use Rattle.lp_table.specs.ReductionLines.{state_list, stack_parameter}
use Rattle.lp_ascent.specs.Slots.{Layout, count_of, optional_of, has_lookahead}
use Rattle.lp_ascent.specs.StateLines.{tokens_generic, tokens_parameter, lookahead_parameter, lookahead_if, optional_slot, fixed_slot, slot_type, slot_parameter, slot_parameters, state_parameters, state_answer, state_header}
use Rattle.lp_maker.specs.Slots.{Names, no_names, bound}
use Rattle.lp_maker.specs.Making.{parameters, bind}
use Rattle.lp_maker.specs.Texts.{bound_of, state_type_of, without_end}
use Rattle.lp_bodies.specs.Reductions.{vec_type}
use Rattle.lp_question_laws.proofs.Gotos.Digits.{decimal_lacks}
use Rattle.lp_question_laws.proofs.Gotos.LinkHeaders.{IsWordy, header_names, bind_all, prefixed_bound, wordy_by}
use Rattle.lp_question_laws.proofs.Reductions.Keys.{symbol_keys}
use Rattle.lp_question_laws.proofs.Reductions.Parameters.{bound_each}
use Rattle.lp_question_laws.proofs.Reductions.Texts.{AllKeys, IsPrefix, names_of, declared_bound, bind_append}
use Rattle.lp_question_laws.proofs.Reductions.Types.{told_by, told_all, header_told, told_append, declared_told, prefixed_told, phantom_told, closed}

-- ---- the names
abbrev pub look_keys : Layout → List (List ℕ)
look_keys l = if has_lookahead l then codes "~lookahead" ∷ [] else []

-- those of the function's own parameters
abbrev pub own_keys : Layout → List (List ℕ)
own_keys l = (codes "~tokens" ∷ codes "~states" ∷ look_keys l) ++ symbol_keys 0 (count_of l)

pub each_append : (names : Names) (a b : List (List ℕ)) → bound_each names (a ++ b) ≡ bound_each (bound_each names a) b
each_append names [] b = refl
each_append names (q ∷ a) b = each_append (bound q names) a b

module _ (g : Grammar) (states : List Lr1State) (h : IsPrefix g.prefix) (keys : AllKeys g.prefix (names_of g.parameters)) where
  tokens_binds : (names : Names) → bind g.prefix (bound_of (tokens_parameter g)) names ≡ bound (codes "~tokens") names
  unfolding tokens_parameter
  tokens_binds names = prefixed_bound g.prefix (codes "tokens") (codes " &mut " ++ (g.prefix ++ codes "TOKENS")) names h.wordy (wordy_by (codes "tokens") refl refl refl) (omega arith)

  stack_binds : (names : Names) → bind g.prefix (bound_of (stack_parameter g states)) names ≡ bound (codes "~states") names
  unfolding stack_parameter state_list
  stack_binds names = prefixed_bound g.prefix (codes "states") (codes " &mut " ++ vec_of (state_name g states)) names h.wordy (wordy_by (codes "states") refl refl refl) (omega arith)

  look_binds : (names : Names) → bind g.prefix (bound_of (lookahead_parameter g)) names ≡ bound (codes "~lookahead") names
  unfolding lookahead_parameter
  look_binds names = prefixed_bound g.prefix (codes "lookahead") (codes " Option<" ++ (triple_text g ++ codes ">")) names h.wordy (wordy_by (codes "lookahead") refl refl refl) (omega arith)

  phantom_binds : (names : Names) → bind g.prefix (bound_of (phantom_parameter g)) names ≡ names
  unfolding phantom_parameter
  phantom_binds names = refl

  sym_wordy : (n : ℕ) → n < 2 ^ 64 → IsWordy (codes "sym" ++ decimal n)
  sym_wordy n small = record {
    no_and = ((λ e. omega arith), ((λ e. omega arith), ((λ e. omega arith), decimal_lacks 38 n (λ r. omega arith) small)));
    no_open = ((λ e. omega arith), ((λ e. omega arith), ((λ e. omega arith), decimal_lacks 40 n (λ r. omega arith) small)));
    no_colon = ((λ e. omega arith), ((λ e. omega arith), ((λ e. omega arith), decimal_lacks 58 n (λ r. omega arith) small)));
  }

  slot_binds : (optional n : ℕ) (symbol : Symbol) (names : Names) → n < 2 ^ 64 → bind g.prefix (bound_of (slot_parameter g optional n symbol)) names ≡ bound (codes "~sym" ++ decimal n) names
  slot_binds optional n symbol names small = by (nat_lt n optional)
    where
      one : (rest : List ℕ) → bind g.prefix (bound_of (g.prefix ++ (codes "sym" ++ (decimal n ++ 58 ∷ rest)))) names ≡ bound (codes "~sym" ++ decimal n) names
      one rest = prefixed_bound g.prefix (codes "sym" ++ decimal n) rest names h.wordy (sym_wordy n small) (omega arith)

      by : (b : Bool) → bind g.prefix (bound_of (if b then optional_slot g.prefix n (slot_type g symbol) else fixed_slot g.prefix n (slot_type g symbol))) names ≡ bound (codes "~sym" ++ decimal n) names
      by true = one (codes " &mut Option<" ++ (slot_type g symbol ++ codes ">"))
      by false = one (32 ∷ slot_type g symbol)

  slots_bind : (optional n : ℕ) (symbols : List Symbol) (names : Names) → n + length symbols ≤ 2 ^ 64 → bind_all g.prefix names (slot_parameters g optional n symbols) ≡ bound_each names (symbol_keys n (length symbols))
  slots_bind optional n [] names small = refl
  slots_bind optional n (symbol ∷ symbols) names small =
      ap (λ ns. bind_all g.prefix ns (slot_parameters g optional (n + 1) symbols)) (slot_binds optional n symbol names (omega arith)) ∙ slots_bind optional (n + 1) symbols (bound (codes "~sym" ++ decimal n) names) (omega arith)

  looks_bind : (l : Layout) (names : Names) → bind_all g.prefix names (lookahead_if g l) ≡ bound_each names (look_keys l)
  looks_bind l names = by (has_lookahead l)
    where
      by : (b : Bool) → bind_all g.prefix names (if b then lookahead_parameter g ∷ [] else []) ≡ bound_each names (if b then codes "~lookahead" ∷ [] else [])
      by true = look_binds names
      by false = refl

  -- the grammar's parameters, then its own
  pub state_names : (n : ℕ) (l : Layout) → count_of l ≤ 2 ^ 64 → parameters g.prefix (state_header g states n l) ≡ bound_each no_names (names_of g.parameters ++ own_keys l)
  unfolding state_header
  state_names n l small =
      let p = g.prefix in
      let two = tokens_parameter g ∷ stack_parameter g states ∷ [] in
      let looks = lookahead_if g l in
      let slots = slot_parameters g (optional_of l) 0 l.symbols in
      let known = bound_each no_names (names_of g.parameters) in
      let both = bound (codes "~states") (bound (codes "~tokens") known) in
      let seen = bound_each both (look_keys l) in
      let all = bound_each seen (symbol_keys 0 (count_of l)) in
      let front : List (List ℕ) = codes "~tokens" ∷ codes "~states" ∷ look_keys l in
      header_names p (name.State n) (generics_of g ++ tokens_generic g ∷ []) (declared_texts g ++ state_parameters g states l) (state_answer g) (clauses_of g)
      ∙ bind_append p no_names (declared_texts g) (state_parameters g states l)
      ∙ ap (λ ns. bind_all p ns (state_parameters g states l)) (declared_bound p g.parameters no_names keys)
      ∙ bind_append p known ((two ++ looks) ++ slots) (phantom_parameter g ∷ [])
      ∙ phantom_binds (bind_all p known ((two ++ looks) ++ slots))
      ∙ bind_append p known (two ++ looks) slots
      ∙ ap (λ ns. bind_all p ns slots) (bind_append p known two looks ∙ ap (λ ns. bind_all p ns looks) (ap (λ ns. bind p (bound_of (stack_parameter g states)) ns) (tokens_binds known) ∙ stack_binds (bound (codes "~tokens") known)) ∙ looks_bind l both)
      ∙ slots_bind (optional_of l) 0 l.symbols seen (omega (arith, small))
      ∙ sym (each_append no_names (names_of g.parameters) (own_keys l) ∙ each_append known front (symbol_keys 0 (count_of l)))

  -- ---- the type
  state_closed : without_end 62 (state_text g states ++ codes ">") ≡ state_text g states
  state_closed = closed (nat_le (length states) 127 && nat_le (length (productions_of g)) 127) (nat_le (length states) 32767 && nat_le (length (productions_of g)) 32767)

  tokens_told : (kind : Option StateType) → told_by g.prefix kind (tokens_parameter g) ≡ kind
  unfolding tokens_parameter
  tokens_told kind = prefixed_told g.prefix kind (codes "tokens: &mut " ++ (g.prefix ++ codes "TOKENS"))

  stack_told : (kind : Option StateType) → told_by g.prefix kind (stack_parameter g states) ≡ state_type_of (state_text g states)
  unfolding stack_parameter state_list vec_of state_name
  stack_told kind = prefixed_told g.prefix kind (codes "states: &mut " ++ (codes "alloc::vec::Vec<" ++ (state_text g states ++ codes ">"))) ∙ ap state_type_of state_closed

  looks_told : (l : Layout) (kind : Option StateType) → told_all g.prefix kind (lookahead_if g l) ≡ kind
  unfolding lookahead_parameter
  looks_told l kind = by (has_lookahead l)
    where
      by : (b : Bool) → told_all g.prefix kind (if b then lookahead_parameter g ∷ [] else []) ≡ kind
      by true = prefixed_told g.prefix kind (codes "lookahead: Option<" ++ (triple_text g ++ codes ">"))
      by false = refl

  slots_told : (optional n : ℕ) (symbols : List Symbol) (kind : Option StateType) → told_all g.prefix kind (slot_parameters g optional n symbols) ≡ kind
  slots_told optional n [] kind = refl
  slots_told optional n (symbol ∷ symbols) kind = ap (λ k. told_all g.prefix k (slot_parameters g optional (n + 1) symbols)) (by (nat_lt n optional)) ∙ slots_told optional (n + 1) symbols kind
    where
      by : (b : Bool) → told_by g.prefix kind (if b then optional_slot g.prefix n (slot_type g symbol) else fixed_slot g.prefix n (slot_type g symbol)) ≡ kind
      by true = prefixed_told g.prefix kind (codes "sym" ++ (decimal n ++ (codes ": &mut Option<" ++ (slot_type g symbol ++ codes ">"))))
      by false = prefixed_told g.prefix kind (codes "sym" ++ (decimal n ++ (codes ": " ++ slot_type g symbol)))

  last_told : (kind : Option StateType) → told_by g.prefix kind (phantom_parameter g) ≡ kind
  unfolding phantom_parameter
  last_told kind = phantom_told g.prefix kind g.prefix (phantom_type_text g) h.wordy.no_colon

  -- the type of states is that of the list
  pub state_typed : (n : ℕ) (l : Layout) → vec_type g.prefix (state_header g states n l) ≡ state_type_of (state_text g states)
  unfolding state_header
  state_typed n l =
      let p = g.prefix in
      let two = tokens_parameter g ∷ stack_parameter g states ∷ [] in
      let looks = lookahead_if g l in
      let slots = slot_parameters g (optional_of l) 0 l.symbols in
      let kind = state_type_of (state_text g states) in
      header_told p (name.State n) (generics_of g ++ tokens_generic g ∷ []) (declared_texts g ++ state_parameters g states l) (state_answer g) (clauses_of g)
      ∙ told_append p None (declared_texts g) (state_parameters g states l)
      ∙ ap (λ k. told_all p k (state_parameters g states l)) (declared_told p None g.parameters h.wordy.no_colon keys)
      ∙ told_append p None ((two ++ looks) ++ slots) (phantom_parameter g ∷ [])
      ∙ last_told (told_all p None ((two ++ looks) ++ slots))
      ∙ told_append p None (two ++ looks) slots
      ∙ ap (λ k. told_all p k slots) (told_append p None two looks ∙ ap (λ k. told_all p k looks) (ap (λ k. told_by p k (stack_parameter g states)) (tokens_told None) ∙ stack_told None) ∙ looks_told l kind)
      ∙ slots_told (optional_of l) 0 l.symbols kind
