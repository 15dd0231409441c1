-- What a state of valid tables does fits the printed state type.
use Rattle.std.proofs.Common.{◌≡◌, ℕ, suc, ◌+◌, ◌<◌, List, [], ◌∷◌, length, map, Option, Some, refl, sym, ap, ◌∙◌, arith, length-append}
use Rattle.std.specs.Prelude.{slice_get}
use Rattle.std.specs.BTreeMap.{values}
use Rattle.std.specs.List.{flat_map}
use Rattle.std.proofs.lemmas.List.{length-map}
use Rattle.std.proofs.lemmas.Option.{slice_get_within}
use Rattle.lp_repr.specs.Numbering.{productions_of, rule_of, rules_from, rules_of}
use Rattle.lp_repr.specs.ValidTables.{IsValidTables}
use Rattle.lp_repr.specs.declared.lr1.Lr1State.{Lr1State}
use Rattle.lp_repr.specs.declared.lr1.Token.{Token}
use Rattle.lp_repr.specs.declared.numbering.SymbolNumber.TheVariants as symbol
use Rattle.lp_repr.specs.declared.repr.Grammar.{Grammar}
use Rattle.lp_repr.specs.declared.repr.NonterminalData.{NonterminalData}
use Rattle.lp_core.specs.Numbers.{fitting}
use Rattle.lp_machine.specs.declared.lookup.Act.{Act}
use Rattle.lp_machine.specs.declared.lookup.Act.TheVariants.{Shift, ReduceBy, NoAction}
use Rattle.lp_machine.specs.Lookup.{act_at}
use Rattle.lp_turn_laws.proofs.Paths.Acts.{act_shift, reduces_at}
use Rattle.lp_turn_laws.specs.Paths.Walks.{edge_from}
use Rattle.lp_turn_laws.specs.Alike.Answered.{entry}
use Rattle.lp_question_laws.proofs.Gotos.StateTypes.{Numbers}

-- there are as many rules as productions
rules_length : (g : Grammar) (k : ℕ) (ds : List NonterminalData) → length (rules_from g k ds) ≡ length (flat_map (λ d. d.productions) ds)
rules_length g k [] = refl
rules_length g k (d ∷ ds) =
    omega (arith, length-append (map (rule_of g k) d.productions) (rules_from g (k + 1) ds), length-append d.productions (flat_map (λ d. d.productions) ds), length-map d.productions (rule_of g k), rules_length g (k + 1) ds)

module _ (g : Grammar) (start : ℕ) (states : List Lr1State) (valid : IsValidTables g start states) {text : List ℕ} (types : Numbers text (length states) (length (productions_of g))) (q : ℕ) (s : Lr1State) (at : slice_get states q ≡ Some s) (token : Token) where
  shift_fits : (to : ℕ) → act_at states q token ≡ Shift to → fitting types.kind (entry (Shift to)) ≡ Some (entry (Shift to))
  shift_fits to is =
      let e = act_shift (slice_get states q) token to is in
      let edge : edge_from (Some s) (symbol.Terminal e.0) ≡ Some to = ap (λ (o : Option Lr1State). edge_from o (symbol.Terminal e.0)) (sym at) ∙ e.2 in
      let lt : to < length states = ((valid.each q s at).shifts_in_range e.0 to edge).1 in
      (types.holds (suc to) (omega arith)).fits

  reduction_fits : (p : ℕ) → act_at states q token ≡ ReduceBy p → fitting types.kind (entry (ReduceBy p)) ≡ Some (entry (ReduceBy p))
  reduction_fits p is =
      let e = reduces_at g start states valid q token p is in
      let lt : p < length (rules_of g) = slice_get_within (rules_of g) p e.0 e.1 in
      let same : length (rules_of g) ≡ length (productions_of g) = rules_length g 0 (values g.nonterminals) in
      types.entries p (omega arith)

  by_act : (act : Act) → act_at states q token ≡ act → fitting types.kind (entry act) ≡ Some (entry act)
  by_act NoAction is = (types.holds 0 (omega arith)).fits
  by_act (Shift to) is = shift_fits to is
  by_act (ReduceBy p) is = reduction_fits p is

  pub entry_fits : fitting types.kind (entry (act_at states q token)) ≡ Some (entry (act_at states q token))
  entry_fits = by_act (act_at states q token) refl
