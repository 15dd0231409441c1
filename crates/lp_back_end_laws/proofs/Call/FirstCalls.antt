-- The machine where `parse` calls the function of state 0: it has pulled once, if there is an item.
use Rattle.std.proofs.Common.{◌≡◌, ℕ, ◌+◌, ◌<◌, Bool, true, false, List, [], ◌∷◌, ◌++◌, length, map, pos, Option, Some, None, slice_get, refl, sym, ap, ◌∙◌, ⊎_elim, arith, append_assoc, append-nil}
use Rattle.std.proofs.lemmas.Option.{none-some}
use Rattle.lp_repr.specs.declared.lr1.Lr1State.{Lr1State}
use Rattle.lp_repr.specs.declared.repr.Grammar.{Grammar}
use Rattle.lp_repr.specs.declared.values.Loc.{Loc}
use Rattle.lp_repr.specs.declared.values.Loc.TheVariants.{Default}
use Rattle.lp_repr.specs.declared.values.RunItem.{RunItem}
use Rattle.lp_repr.specs.declared.values.RunItem.TheVariants as item
use Rattle.lp_driver.specs.DriverState.{last_of}
use Rattle.lp_driver.specs.RecoveryTurns.{end_or}
use Rattle.lp_driver.specs.Values.{Token, Spanned}
use Rattle.lp_machine.specs.declared.config.Config.{Config}
use Rattle.lp_machine.specs.declared.config.Left.TheVariants.{Pulls}
use Rattle.lp_machine.specs.declared.lookup.Rule.{Rule}
use Rattle.lp_machine.specs.Move.{located, pulls, token_in}
use Rattle.lp_machine.specs.Moves.{first, ready}
use Rattle.lp_machine.specs.StackMachine.{with_left}
use Rattle.lp_machine.specs.Tables.{Tables}
use Rattle.lp_turn_laws.specs.Alike.Course.{Leads}
use Rattle.lp_turn_laws.proofs.Alike.Counted.{none}
use Rattle.lp_core.specs.declared.value.Tag.TheVariants as tag
use Rattle.lp_core.specs.Datum.{Cell}
use Rattle.lp_core.specs.Flow.{State}
use Rattle.lp_core.specs.OpMeaning.{place}
use Rattle.lp_core.specs.Reading.{empty}
use Rattle.lp_core.specs.Store.{States}
use Rattle.lp_core.specs.Val.{Val, Plain}
use Rattle.lp_turn_laws.specs.Paths.Over.{IsOver}
use Rattle.lp_turn_laws.specs.Paths.Walks.{Has}
use Rattle.lp_turn_laws.proofs.Paths.MachineRules.{agree}
use Rattle.lp_back_end_laws.specs.Call.Law.{Takes}
use Rattle.lp_back_end_laws.specs.Call.Standing.{IsTaken, EndsThere, Sees, sees, look_val, OnTop, Entry, as_users}
use Rattle.lp_back_end_laws.proofs.Call.Items.{start_item}
use Rattle.lp_back_end_laws.proofs.Call.Layouts.{dot_below, first_handed, first_layout}
use Rattle.lp_back_end_laws.proofs.Call.Moves.{once, pull, ready_sets, sets_left}
use Rattle.lp_back_end_laws.proofs.Call.Seen.{end_seen, token_same, token_seen}

-- nothing is on the stacks yet
pub record IsFirst (c : Config) : Type 0 where
  pub states : c.states ≡ 0 ∷ []
  pub triples : c.triples ≡ []
  pub mending : c.mending ≡ None
  pub calls : c.calls ≡ []

module _ (t : Tables) (items : List RunItem) (never : t.error ≡ None) where
  abbrev base : Config
  base = record { states = 0 ∷ []; triples = []; lookahead = None; mending = None; taken = 0; last = Default; calls = []; left = Pulls }

  first_same : first t items ≡ with_left base (first t items).left
  first_same = sets_left (ready t items) (ready_sets t items never) base

  first_again : first t items ≡ ready t items (first t items)
  first_again = sym (once (ready t items) (ready_sets t items never) base)

  nothing : (first t items).lookahead ≡ None
  nothing = ap (λ (c : Config). c.lookahead) first_same

  pub first_taken : (first t items).taken ≡ 0
  first_taken = ap (λ (c : Config). c.taken) first_same

  pub first_is : IsFirst (first t items)
  first_is = record { states = ap (λ (c : Config). c.states) first_same; triples = ap (λ (c : Config). c.triples) first_same; mending = ap (λ (c : Config). c.mending) first_same; calls = ap (λ (c : Config). c.calls) first_same }

  ends : EndsThere (first t items)
  ends = ap (λ (c : Config). end_or (last_of c.triples) Default) first_same ∙ sym (ap (λ (c : Config). c.last) first_same)

  -- after so many moves, of which there is at most one, the machine sees this lookahead
  pub record Begins (look : Option (Spanned Token)) (taken : ℕ) : Type 0 where
    pub c : Config
    pub moved : ℕ
    pub lead : Leads t items (first t items) c moved
    pub is : IsFirst c
    pub taken_is : c.taken ≡ taken
    pub look_taken : IsTaken items look
    pub seen : Sees t items c look

  pub begins_at_end : slice_get items 0 ≡ None → Begins None 0
  begins_at_end past = record { c = first t items; moved = 0; lead = none t items (first t items); is = first_is; taken_is = first_taken; look_taken = tt; seen = end_seen t items never (first t items) nothing first_again ends (ap (slice_get items) first_taken ∙ past) }

  pub begins_on_token : (a b : Loc) (token : Token) → slice_get items 0 ≡ Some (item.Token a token b) → Begins (Some (token_in t items a token b)) 1
  begins_on_token a b token there =
      let here = ap (slice_get items) first_taken ∙ there in
      let same = token_same t items never (first t items) nothing first_again a b token here in
      record {
        c = pulls t items (first t items) (Some (item.Token a token b));
        moved = 1;
        lead = pull t items (first t items) (item.Token a token b) nothing first_again here;
        is = record { states = ap (λ (c : Config). c.states) same ∙ first_is.states; triples = ap (λ (c : Config). c.triples) same ∙ first_is.triples; mending = ap (λ (c : Config). c.mending) same ∙ first_is.mending; calls = ap (λ (c : Config). c.calls) same ∙ first_is.calls };
        taken_is = ap (λ (c : Config). c.taken) same ∙ ap (λ n. n + 1) first_taken;
        look_taken = (0, a, b, there);
        seen = token_seen t items never (first t items) nothing first_again a b token here;
      }

  pub token_moves : (a b : Loc) (token : Token) (there : slice_get items 0 ≡ Some (item.Token a token b)) → (begins_on_token a b token there).moved ≡ 1
  unfolding begins_on_token
  token_moves a b token there = refl

  -- a fault ends the run
  pub faults : (next : RunItem) → slice_get items 0 ≡ Some next → Leads t items (first t items) (pulls t items (first t items) (Some next)) 1
  faults next there = pull t items (first t items) next nothing first_again (ap (slice_get items) first_taken ∙ there)

-- a location of an item, as both have it
pub same_place : (b : Bool) (l : Loc) → place b l ≡ located b l
same_place true l = refl
same_place false l = refl

module _ {g : Grammar} {start : ℕ} {states : List Lr1State} {t : Tables} (over : IsOver g start states t) (c : Config) (is : IsFirst c) where
  on_top : OnTop states 0 c
  on_top = record { stands = record { symbols = []; path = record { rest = []; begins = is.states; walks = tt }; same_count = ap length is.triples }; top = ap last_of is.states }

  -- so the call of state 0 begins
  pub enters_first : (items : List RunItem) (given : List Val) (look : Option (Spanned Token)) (list : ℕ) (st : State) → IsTaken items look → Sees t items c look → slice_get st.store.cells list ≡ Some (States (pos 0 ∷ [])) → st.store.taken ≡ c.taken → st.calls ≡ []
      → Entry g states t items given 0 c list [] ((given ++ empty tag.Tuple ∷ Plain (Cell list) ∷ []) ++ look_val look ∷ []) st
  enters_first items given look list st look_taken seen cells taken calls = record {
    on_top = on_top;
    mending = is.mending;
    look = look_val look ∷ [];
    handed = sees look (first_handed over) look_taken seen;
    values = append_assoc given (empty tag.Tuple ∷ Plain (Cell list) ∷ []) (look_val look ∷ []) ∙ sym (append-nil (given ++ empty tag.Tuple ∷ Plain (Cell list) ∷ look_val look ∷ []));
    slots_are = record { count = sym (first_layout over).0; fits = omega (arith, (first_layout over).0); each = λ j x v at e. absurd (none-some v e) };
    apart = λ i j n e. absurd (none-some _ e);
    follows = record { states_are = cells ∙ ap (λ ss. Some (States (map pos ss))) (sym is.states); taken = taken; calls = calls ∙ ap as_users (sym is.calls) };
  }

  -- only the start's production comes back from it
  pub only_start : (y d : ℕ) (rule : Rule) → t.rule y ≡ Some rule → Has states 0 y d → Takes 0 d rule → (rule.is_start ≡ true) × (rule.nonterminal ≡ over.number)
  only_start y d rule known has takes =
      let within = dot_below over 0 y d has in
      let start : rule.is_start ≡ true = ⊎_elim (λ (w : (0 ≡ 0) × (rule.is_start ≡ true)). w.1) (λ (some : 0 < d). absurd (omega (arith, some, within, (first_layout over).0))) takes in
      let a = agree g over.grammar y rule (sym (over.known.rule y) ∙ known) in
      (start, a.nonterminal_is ∙ (start_item over c.states on_top.stands.symbols 0 y d a.rule on_top.stands.path on_top.top has a.at (a.starts start)).0)
