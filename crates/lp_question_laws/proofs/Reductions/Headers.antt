-- The headers of the functions that reduce: their names, and the type of the states.
use Rattle.std.proofs.Common.{◌≡◌, ℕ, List, [], ◌∷◌, ◌++◌, refl, ap, ◌∙◌, arith, codes}
use Rattle.lp_repr.specs.declared.lr1.Lr1State.{Lr1State}
use Rattle.lp_repr.specs.declared.repr.Grammar.{Grammar}
use Rattle.lp_build.specs.declared.functions.FunctionName.TheVariants as name
use Rattle.lp_table.specs.Starts.{Start, state_text, location_name, state_name}
use Rattle.lp_table.specs.Headers.{generics_of, declared_texts, clauses_of}
use Rattle.lp_table.specs.MachineLines.{phantom_parameter}
use Rattle.lp_table.specs.Pieces.{vec_of, borrowed_option, spanned_symbol_text}
use Rattle.lp_table.specs.ReductionLines.{action_parameter, state_list, stack_parameter, lookahead_parameter, symbols_parameter, reduce_answer, reduce_header, own_header, places_type}
use Rattle.lp_maker.specs.Slots.{Names, no_names, bound}
use Rattle.lp_maker.specs.Making.{parameters, bind}
use Rattle.lp_maker.specs.Texts.{bound_of}
use Rattle.lp_question_laws.proofs.Gotos.LinkHeaders.{header_names, bind_all, prefixed_bound, wordy_by}
use Rattle.lp_question_laws.proofs.Reductions.Parameters.{bound_each}
use Rattle.lp_question_laws.proofs.Reductions.Texts.{AllKeys, IsPrefix, names_of, declared_bound, bind_append}

module _ (g : Grammar) (states : List Lr1State) (s : Start) (h : IsPrefix g.prefix) (keys : AllKeys g.prefix (names_of g.parameters)) where
  abbrev known : Names
  known = bound_each no_names (names_of g.parameters)

  phantom_binds : (names : Names) → bind g.prefix (bound_of (phantom_parameter g)) names ≡ names
  unfolding phantom_parameter
  phantom_binds names = refl

  action_binds : (names : Names) → bind g.prefix (bound_of (action_parameter g states)) names ≡ bound (codes "~action") names
  unfolding action_parameter
  action_binds names = prefixed_bound g.prefix (codes "action") (32 ∷ state_text g states) names h.wordy (wordy_by (codes "action") refl refl refl) (omega arith)

  lookahead_binds : (names : Names) → bind g.prefix (bound_of (lookahead_parameter g)) names ≡ bound (codes "~lookahead_start") names
  unfolding lookahead_parameter
  lookahead_binds names = prefixed_bound g.prefix (codes "lookahead_start") (32 ∷ borrowed_option (location_name g)) names h.wordy (wordy_by (codes "lookahead_start") refl refl refl) (omega arith)

  stack_binds : (names : Names) → bind g.prefix (bound_of (stack_parameter g states)) names ≡ bound (codes "~states") names
  unfolding stack_parameter state_list
  stack_binds names = prefixed_bound g.prefix (codes "states") (codes " &mut " ++ vec_of (state_name g states)) names h.wordy (wordy_by (codes "states") refl refl refl) (omega arith)

  symbols_binds : (names : Names) → bind g.prefix (bound_of (symbols_parameter g)) names ≡ bound (codes "~symbols") names
  unfolding symbols_parameter
  symbols_binds names = prefixed_bound g.prefix (codes "symbols") (codes " &mut " ++ vec_of (spanned_symbol_text g)) names h.wordy (wordy_by (codes "symbols") refl refl refl) (omega arith)

  pub reduce_names : parameters g.prefix (reduce_header g states s) ≡ bound (codes "~symbols") (bound (codes "~states") (bound (codes "~lookahead_start") (bound (codes "~action") known)))
  unfolding reduce_header
  reduce_names =
      let own = action_parameter g states ∷ lookahead_parameter g ∷ stack_parameter g states ∷ symbols_parameter g ∷ phantom_parameter g ∷ [] in
      header_names g.prefix name.Reduce (generics_of g ++ []) (declared_texts g ++ own) (reduce_answer g s) (clauses_of g)
      ∙ bind_append g.prefix no_names (declared_texts g) own
      ∙ ap (λ n. bind_all g.prefix n own) (declared_bound g.prefix g.parameters no_names keys)
      ∙ ap (λ n. bind_all g.prefix n (lookahead_parameter g ∷ stack_parameter g states ∷ symbols_parameter g ∷ phantom_parameter g ∷ [])) (action_binds known)
      ∙ ap (λ n. bind_all g.prefix n (stack_parameter g states ∷ symbols_parameter g ∷ phantom_parameter g ∷ [])) (lookahead_binds (bound (codes "~action") known))
      ∙ ap (λ n. bind_all g.prefix n (symbols_parameter g ∷ phantom_parameter g ∷ [])) (stack_binds (bound (codes "~lookahead_start") (bound (codes "~action") known)))
      ∙ ap (λ n. bind_all g.prefix n (phantom_parameter g ∷ [])) (symbols_binds (bound (codes "~states") (bound (codes "~lookahead_start") (bound (codes "~action") known))))
      ∙ phantom_binds (bound (codes "~symbols") (bound (codes "~states") (bound (codes "~lookahead_start") (bound (codes "~action") known))))

  pub own_header_names : (n : ℕ) → parameters g.prefix (own_header g n) ≡ bound (codes "~symbols") (bound (codes "~lookahead_start") known)
  unfolding own_header
  own_header_names n =
      let own = lookahead_parameter g ∷ symbols_parameter g ∷ phantom_parameter g ∷ [] in
      header_names g.prefix (name.ReduceProduction n) (generics_of g ++ []) (declared_texts g ++ own) places_type (clauses_of g)
      ∙ bind_append g.prefix no_names (declared_texts g) own
      ∙ ap (λ n. bind_all g.prefix n own) (declared_bound g.prefix g.parameters no_names keys)
      ∙ ap (λ n. bind_all g.prefix n (symbols_parameter g ∷ phantom_parameter g ∷ [])) (lookahead_binds known)
      ∙ ap (λ n. bind_all g.prefix n (phantom_parameter g ∷ [])) (symbols_binds (bound (codes "~lookahead_start") known))
      ∙ phantom_binds (bound (codes "~symbols") (bound (codes "~lookahead_start") known))
