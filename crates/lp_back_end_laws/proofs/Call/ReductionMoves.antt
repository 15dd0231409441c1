-- The machine at a reduction that a state's function makes: its rule, its symbols, its calls, and where it leads.
use Rattle.std.proofs.Common.{◌≡◌, ℕ, ◌-◌, ◌≤◌, Bool, true, false, List, length, Option, Some, None, Ok, Err, slice_get, ap, ◌∙◌, subst, ⊎_elim, arith, length-drop}
use Rattle.std.specs.Prelude.{if◌then◌else◌}
use Rattle.std.proofs.lemmas.Bool.{le-ltb}
use Rattle.lp_repr.specs.Numbering.{productions_of}
use Rattle.lp_repr.specs.declared.lr1.Lr1State.{Lr1State}
use Rattle.lp_repr.specs.declared.lr1.Token as lr1
use Rattle.lp_repr.specs.declared.numbering.SymbolNumber.TheVariants.{Nonterminal}
use Rattle.lp_repr.specs.declared.repr.Grammar.{Grammar}
use Rattle.lp_repr.specs.declared.repr.Production.{Production}
use Rattle.lp_repr.specs.declared.values.RunItem.{RunItem}
use Rattle.lp_driver.specs.Values.{Token, Spanned, Value, Failure}
use Rattle.lp_machine.specs.declared.calls.Acted.{Acted}
use Rattle.lp_machine.specs.declared.config.Config.{Config}
use Rattle.lp_machine.specs.declared.config.Lookahead.{Lookahead}
use Rattle.lp_machine.specs.declared.lookup.Act.TheVariants.{ReduceBy}
use Rattle.lp_machine.specs.declared.lookup.Rule.{Rule}
use Rattle.lp_machine.specs.Lookup.{act_at}
use Rattle.lp_machine.specs.Moves.{valued, acted, reducible, reducible_by}
use Rattle.lp_machine.specs.ReductionSpan.{popped, empty_place}
use Rattle.lp_machine.specs.StackMachine.{over, lookahead_start}
use Rattle.lp_machine.specs.Tables.{Tables}
use Rattle.lp_turn_laws.specs.Alike.Course.{Leads}
use Rattle.lp_turn_laws.specs.Paths.Over.{IsOver}
use Rattle.lp_turn_laws.specs.Paths.Walks.{edge_at, Has}
use Rattle.lp_ascent.specs.GotoLines.{goes_on}
use Rattle.lp_ascent.specs.Slots.{count_of, layouts_of}
use Rattle.lp_back_end_laws.specs.Call.Slots.{layout}
use Rattle.lp_back_end_laws.specs.Call.Standing.{IsTaken, Sees, at_end, OnTop, Kept, Reduced, place_of, answer_val}
use Rattle.lp_back_end_laws.proofs.Call.Acting.{Does, does_on, acts_there, asked_there}
use Rattle.lp_back_end_laws.proofs.Call.Items.{reduces_item, first_rule, start_rule}
use Rattle.lp_back_end_laws.proofs.Call.Layouts.{reduced_within, empty_goes_on}
use Rattle.lp_back_end_laws.proofs.Call.Moves.{after_calls, reduction_gives, reduction_fails}
use Rattle.lp_back_end_laws.proofs.Call.NonePlaces.{place_seen}
use Rattle.lp_back_end_laws.proofs.Call.ReducedRules.{RuleOf, rule_reduced}
use Rattle.lp_back_end_laws.proofs.Call.Reducing.{place_ends, reduces_here}

module _ {g : Grammar} {start : ℕ} {states : List Lr1State} {t : Tables} (over_tables : IsOver g start states t) (items : List RunItem) (variant : ℕ → ℕ) {q : ℕ} {c : Config} (top : OnTop states q c) (whole : c.mending ≡ None) {look : Option (Spanned Token)} (sees : Sees t items c look)
    (k : ℕ) {production : Production} (known : slice_get (productions_of g) k ≡ Some production) (does : Does states t q c look (ReduceBy k)) (slots : count_of (layout g states q) ≤ length c.triples) where
  token : (token : lr1.Token) × (act_at states q token ≡ ReduceBy k)
  token = does_on states t q c look (ReduceBy k) does

  pub ruled : RuleOf g t k production
  ruled = rule_reduced over_tables q token.0 k production token.1 known

  abbrev rule : Rule
  rule = ruled.rule

  -- its symbols are the frame's
  pub symbols_within : length production.symbols ≤ count_of (layout g states q)
  symbols_within = let w = (reduced_within over_tables q token.0 k rule token.1 ruled.known).0 in let same = ruled.length_is in omega (arith, w, same)

  fits : rule.length ≤ length c.triples
  fits = let w = symbols_within in let same = ruled.length_is in omega (arith, w, same, slots)

  -- what its action does
  abbrev pub act : Acted
  act = acted t items c rule

  pub symbols_many : length (popped rule.length c.triples) ≡ length production.symbols
  symbols_many = let same = ruled.length_is in let all = fits in omega (arith, same, all, length-drop (length c.triples - rule.length) c.triples)

  on_stack : reducible t items c k ≡ Some rule
  on_stack = ap (reducible_by t items c) ruled.known ∙ ap (λ (b : Bool). if b then None else Some rule) (le-ltb (length c.triples) rule.length fits)

  -- with a value its goto is left, or the run is over
  pub leads_on : (value : Value) → act.result ≡ Ok value → Leads t items c (valued t items (after_calls t items c rule) rule value) (length act.calls)
  leads_on value is = reduction_gives t items c k rule whole (asked_there over_tables items top look (ReduceBy k) sees does) (acts_there over_tables items top look (ReduceBy k) sees does) on_stack value is

  -- without one it is over
  pub leads_over : (f : Failure) → act.result ≡ Err f → Leads t items c (over (after_calls t items c rule) (Err f)) (length act.calls)
  leads_over f is = reduction_fails t items c k rule whole (asked_there over_tables items top look (ReduceBy k) sees does) (acts_there over_tables items top look (ReduceBy k) sees does) on_stack f is

  kept : Kept t items c (place_of c rule).1 look
  kept = by look sees does
    where
      by : (o : Option (Spanned Token)) → Sees t items c o → Does states t q c o (ReduceBy k) → Kept t items c (place_of c rule).1 o
      by None (at_end none there asked) d = (none, place_ends c rule none.nothing there fits)
      by (Some x) s d = d.0

  -- and it is at the end of the reduction
  pub reduced_at : IsTaken items look → (value : Value) → Reduced states t items variant q c rule.length (answer_val (variant rule.nonterminal) (place_of c rule) value look) (valued t items (after_calls t items c rule) rule value)
  reduced_at taken value = reduces_here states t items variant q c k rule (after_calls t items c rule).calls value look top whole ruled.known (reduces_item over_tables q token.0 k rule token.1 ruled.known) fits taken kept

  -- without symbols there is a goto behind it, so the frame goes on
  pub goto_there : rule.length ≡ 0 → (n to : ℕ) × (edge_at states q (Nonterminal n) ≡ Some to)
  goto_there none =
      let item : Has states q k 0 = subst (Has states q k) none (reduces_item over_tables q token.0 k rule token.1 ruled.known) in
      ⊎_elim
      (λ (w : (q ≡ 0) × (rule.is_start ≡ true)). (let one = (start_rule over_tables c.states top.stands.symbols q k 0 rule top.stands.path top.top ruled.known w.1 item).2 in absurd (omega (arith, one, none))))
      (λ (w : (rule.is_start ≡ false) × ((to : ℕ) × (edge_at states q (Nonterminal rule.nonterminal) ≡ Some to))). (rule.nonterminal, w.1.0, w.1.1))
      (first_rule over_tables c.states top.stands.symbols q k rule top.stands.path top.top ruled.known item)

  pub goes_on_there : rule.length ≡ 0 → (s : Lr1State) → slice_get states q ≡ Some s → goes_on g (layouts_of g states) s ≡ true
  goes_on_there none s at = empty_goes_on over_tables q s token.0 k rule at token.1 ruled.known none

  -- where none stands: at the lookahead, else behind the top symbol
  pub seen_is : empty_place (lookahead_start c.lookahead) c.triples ≡ place_seen look c.triples
  seen_is = by look sees does
    where
      by : (o : Option (Spanned Token)) → Sees t items c o → Does states t q c o (ReduceBy k) → empty_place (lookahead_start c.lookahead) c.triples ≡ place_seen o c.triples
      by None (at_end none there asked) d = ap (λ (o : Option Lookahead). empty_place (lookahead_start o) c.triples) none.nothing
      by (Some x) s d = ap (λ (o : Option Lookahead). empty_place (lookahead_start o) c.triples) (d.0).in_hand
