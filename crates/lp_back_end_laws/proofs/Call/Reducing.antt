-- The end of a reduction that a state's own function makes.
use Rattle.std.proofs.Common.{◌≡◌, ℕ, zero, suc, ◌+◌, ◌-◌, ◌<◌, ◌≤◌, List, length, Option, Some, None, sym, ap, ◌∙◌, subst, arith, length-drop, drop_of_length-le}
use Rattle.lp_repr.specs.declared.lr1.Lr1State.{Lr1State}
use Rattle.lp_repr.specs.declared.values.Loc.TheVariants.{Default}
use Rattle.lp_repr.specs.declared.values.RunItem.{RunItem}
use Rattle.lp_driver.specs.DriverState.{last_of}
use Rattle.lp_driver.specs.RecoveryTurns.{end_or}
use Rattle.lp_driver.specs.Values.{Token, Spanned, Value}
use Rattle.lp_machine.specs.declared.calls.Call.{Call}
use Rattle.lp_machine.specs.declared.config.Config.{Config}
use Rattle.lp_machine.specs.declared.lookup.Rule.{Rule}
use Rattle.lp_machine.specs.Moves.{valued}
use Rattle.lp_machine.specs.ReductionSpan.{below, popped, empty_place}
use Rattle.lp_machine.specs.StackMachine.{lookahead_start}
use Rattle.lp_machine.specs.Tables.{Tables}
use Rattle.lp_code_laws.proofs.Slots.Slots.{get_within}
use Rattle.lp_turn_laws.specs.Paths.Walks.{Has}
use Rattle.lp_turn_laws.proofs.Paths.Stacks.{path_length}
use Rattle.lp_back_end_laws.specs.Call.Standing.{IsTaken, EndsThere, Kept, OnTop, Reduced, place_of, answer_val}
use Rattle.lp_back_end_laws.proofs.Call.Lookups.{get_dropped}
use Rattle.lp_back_end_laws.proofs.Call.Moves.{sets_left, once, valued_sets}

-- the last of what is taken off is the last of all
pub last_popped : {A : Type 0} (n : ℕ) (xs : List A) → 0 < n → n ≤ length xs → last_of (popped n xs) ≡ last_of xs
last_popped n xs some le =
    let many : length (popped n xs) ≡ n = omega (arith, length-drop (length xs - n) xs) in
    get_dropped xs (length xs - n) (length (popped n xs) - 1) (length xs - 1) (omega arith)

-- without a token in hand a reduction's symbol ends where the last token ends
pub place_ends : (c : Config) (rule : Rule) → c.lookahead ≡ None → EndsThere c → rule.length ≤ length c.triples → (place_of c rule).1 ≡ c.last
place_ends c rule none there le = by rule.length le
  where
    empty_is : empty_place (lookahead_start c.lookahead) c.triples ≡ c.last
    empty_is = ap (λ o. empty_place (lookahead_start o) c.triples) none ∙ there

    by : (n : ℕ) → n ≤ length c.triples → end_or (last_of (popped n c.triples)) (empty_place (lookahead_start c.lookahead) c.triples) ≡ c.last
    by zero le = ap (λ xs. end_or (last_of xs) (empty_place (lookahead_start c.lookahead) c.triples)) (drop_of_length-le c.triples (let all : length c.triples ≤ length c.triples - 0 = omega arith in all)) ∙ empty_is
    by (suc n) le =
        let y = get_within c.triples (length c.triples - 1) (omega (arith, le)) in
        ap (λ o. end_or o (empty_place (lookahead_start c.lookahead) c.triples)) (last_popped (suc n) c.triples (omega arith) le ∙ y.1) ∙ ap (λ o. end_or o Default) (sym y.1) ∙ there

module _ (t : Tables) (items : List RunItem) where
  -- what is left over of the lookahead
  pub kept_here : (c : Config) (rule : Rule) (calls : List Call) (value : Value) (look : Option (Spanned Token)) → Kept t items c (place_of c rule).1 look
      → Kept t items (valued t items (record c { calls = calls }) rule value) (place_of (valued t items (record c { calls = calls }) rule value) rule).1 look
  kept_here c rule calls value None kept =
      let same = sets_left (λ d. valued t items d rule value) (valued_sets t items rule value) (record c { calls = calls }) in (
        record { nothing = ap (λ d. d.lookahead) same ∙ kept.0.nothing; all_taken = subst (λ n. length items ≤ n) (sym (ap (λ d. d.taken) same)) kept.0.all_taken },
        ap (λ d. (place_of d rule).1) same ∙ kept.1 ∙ sym (ap (λ d. d.last) same),
      )
  kept_here c rule calls value (Some x) kept =
      let same = sets_left (λ d. valued t items d rule value) (valued_sets t items rule value) (record c { calls = calls }) in
      record { index = kept.index; in_hand = ap (λ d. d.lookahead) same ∙ kept.in_hand; terminal = kept.terminal; ends = kept.ends ∙ sym (ap (λ d. d.last) same) }

module _ (states : List Lr1State) (t : Tables) (items : List RunItem) (variant : ℕ → ℕ) where
  -- after the calls of its action a reduction of the state's own item is at its end: all its symbols are the frame's
  pub reduces_here : (s : ℕ) (c : Config) (p : ℕ) (rule : Rule) (calls : List Call) (value : Value) (look : Option (Spanned Token)) → OnTop states s c → c.mending ≡ None
      → t.rule p ≡ Some rule → Has states s p rule.length → rule.length ≤ length c.triples → IsTaken items look → Kept t items c (place_of c rule).1 look
      → Reduced states t items variant s c rule.length (answer_val (variant rule.nonterminal) (place_of c rule) value look) (valued t items (record c { calls = calls }) rule value)
  reduces_here s c p rule calls value look top whole known item fits taken kept =
      let same = sets_left (λ d. valued t items d rule value) (valued_sets t items rule value) (record c { calls = calls }) in
      let height : length c.states ≡ length c.triples + 1 = path_length states c.states top.stands.symbols top.stands.path ∙ ap (λ n. n + 1) (sym top.stands.same_count) in
      record {
        production = p;
        rule = rule;
        known = known;
        item = item;
        value = value;
        pending = sym (once (λ d. valued t items d rule value) (valued_sets t items rule value) (record c { calls = calls }));
        mending = ap (λ d. d.mending) same ∙ whole;
        fits = subst (λ d. rule.length ≤ length d.triples) (sym same) fits;
        heights = ap (λ d. length d.states) same ∙ height ∙ ap (λ d. length d.triples + 1) (sym same);
        triples = ap (λ d. below rule.length d.triples) same;
        states_below = ap (λ d. below rule.length d.states) same;
        look = look;
        look_taken = taken;
        kept = kept_here t items c rule calls value look kept;
        answers = ap (λ at. answer_val (variant rule.nonterminal) at value look) (ap (λ d. place_of d rule) (sym same));
      }
