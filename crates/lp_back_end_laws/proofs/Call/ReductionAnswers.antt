-- What a state's function answers where the state reduces: the reduction, the error of its action, or what its loop goes on to.
use Rattle.std.proofs.Common.{◌≡◌, ◌⊎◌, inr, ℕ, zero, suc, ◌+◌, ◌*◌, ◌<◌, ◌≤◌, Bool, List, ◌∷◌, ◌++◌, length, map, Option, Some, Result, Ok, Err, slice_get, refl, sym, ap, ◌∙◌, subst, ⊎_elim, arith, codes}
use Rattle.std.proofs.lemmas.Bool.{cases_eq}
use Rattle.std.proofs.lemmas.List.{map-append}
use Rattle.lp_repr.specs.Numbering.{productions_of}
use Rattle.lp_repr.specs.declared.lr1.Lr1State.{Lr1State}
use Rattle.lp_repr.specs.declared.lr1.Token as lr1
use Rattle.lp_repr.specs.declared.repr.Grammar.{Grammar}
use Rattle.lp_repr.specs.declared.repr.Production.{Production}
use Rattle.lp_repr.specs.declared.values.RunItem.{RunItem}
use Rattle.lp_driver.specs.Values.{Text, Token, Spanned, Value, Failure}
use Rattle.lp_machine.specs.declared.config.Config.{Config}
use Rattle.lp_machine.specs.declared.lookup.Act.TheVariants.{ReduceBy}
use Rattle.lp_machine.specs.Moves.{valued}
use Rattle.lp_machine.specs.StackMachine.{over}
use Rattle.lp_agrees.specs.Machine.{as_user}
use Rattle.lp_core.specs.declared.value.StateType.{StateType}
use Rattle.lp_core.specs.Effect.{unit}
use Rattle.lp_core.specs.Eval.{run, run_block}
use Rattle.lp_core.specs.Flow.{State, Flow, then_value}
use Rattle.lp_core.specs.Store.{Program, Held, UserCall}
use Rattle.lp_core.specs.Tree.{Tree, Loop, trees_of}
use Rattle.lp_core.specs.Val.{Val}
use Rattle.lp_ascent.specs.ReduceLines.{first_popped, reduction_arm, reduction_of}
use Rattle.lp_ascent.specs.Slots.{count_of}
use Rattle.lp_ascent_bodies.specs.declared.ascent.Lines.{Lines as Shared}
use Rattle.lp_ascent_bodies.specs.AscentArms.{Arming}
use Rattle.lp_ascent_bodies.specs.AscentReductions.{ascent_reduce}
use Rattle.lp_ascent_bodies.specs.AscentStates.{token_match, after_parts}
use Rattle.lp_bodies.specs.Arms.{Gathered}
use Rattle.lp_code_laws.specs.Ends.Ends.{Moment, at}
use Rattle.lp_maker.specs.Slots.{Names}
use Rattle.lp_back_end_laws.specs.Call.Slots.{layout}
use Rattle.lp_back_end_laws.specs.Call.Standing.{as_users, look_val, place_of, answer_val, Reduced}
use Rattle.lp_back_end_laws.specs.Call.Turns.{Looping, TurnAnswers}
use Rattle.lp_back_end_laws.proofs.Call.FirstNames.{keys_apart}
use Rattle.lp_back_end_laws.proofs.Call.Acting.{Does}
use Rattle.lp_back_end_laws.proofs.Call.ArmAnswers.{arm_cost, arm_fails, arm_returns, arm_goes_on}
use Rattle.lp_back_end_laws.proofs.Call.FrameSymbols.{last_emptied}
use Rattle.lp_back_end_laws.proofs.Call.MatchBlocks.{block_is}
use Rattle.lp_back_end_laws.proofs.Call.Matching.{ArmAt, After, AtMatch, MatchAnswers, LoopBelow}
use Rattle.lp_back_end_laws.proofs.Call.MatchLoops.{match_loops}
use Rattle.lp_back_end_laws.proofs.Call.MatchTurning.{loop_follows, turning, written}
use Rattle.lp_back_end_laws.proofs.Call.Moves.{sets_left, after_calls, valued_sets}
use Rattle.lp_back_end_laws.proofs.Call.ReductionArms.{some_end, none_end}
use Rattle.lp_back_end_laws.proofs.Call.ReductionCode.{body_there}
use Rattle.lp_back_end_laws.proofs.Call.ReductionEnds.{ArmEnds}
use Rattle.lp_back_end_laws.proofs.Call.ReductionFrame.{t, rules, rule, its_act, made}
use Rattle.lp_back_end_laws.proofs.Call.ReductionMoves.{symbols_within, leads_on, leads_over, reduced_at, goto_there, goes_on_there}
use Rattle.lp_back_end_laws.proofs.Call.Seen.{users_after}
use Rattle.lp_back_end_laws.proofs.Call.Setting.{Setting}
use Rattle.lp_back_end_laws.proofs.Call.TurnSlots.{emptied_already}

some : (n : ℕ) → (n ≡ 0 → ⊥) → 0 < n
some zero other = absurd (other refl)
some (suc n) other = omega arith

module _ {g : Grammar} {start : ℕ} {states : List Lr1State} {params : List Text} {failing : List ℕ} {items : List RunItem} {p : Program} {keys : List (List ℕ)} {given : List Val} {function action variant : ℕ → ℕ} {kind : StateType} {expected most cost : ℕ}
    (setting : Setting g start states params failing items p keys given function action variant kind expected most cost)
    {q : ℕ} {s : Lr1State} (at_q : slice_get states q ≡ Some s) {shared : Shared} {names : Names} {many list : ℕ} {c : Config} {own : List Val} {look : Option (Spanned Token)} {m : Moment}
    (match : AtMatch g states (t setting) items kind keys given shared names many q c list own look m) (k : ℕ) {production : Production} (known : slice_get (productions_of g) k ≡ Some production) (does : Does states (t setting) q c look (ReduceBy k))
    {arms : Gathered} (tokens : List lr1.Token) {a : Arming} (arm : ArmAt p g variant (setting.code.maker q) shared names arms many (look_val look) (reduction_arm g (layout g states q) production tokens) a)
    (loops : ℕ → Looping) {after : Option Tree} (follow : After g states q s shared names many (loops q) after) where
  abbrev body : Tree
  body = (ascent_reduce shared (made setting at_q match k known does tokens arm) a.names (reduction_of g (layout g states q) production)).value

  abbrev later : List UserCall
  later = m.calls ++ map as_user (its_act setting at_q match k known does).calls

  abbrev moved : ℕ
  moved = length (its_act setting at_q match k known does).calls

  abbrev gone : Value → Config
  gone v = valued (t setting) items (after_calls (t setting) items c (rule setting at_q match k known does)) (rule setting at_q match k known does) v

  users : (v : Value) → later ≡ as_users (gone v).calls
  users v = ap (λ (cs : List UserCall). cs ++ map as_user (its_act setting at_q match k known does).calls) match.follows.calls ∙ sym (users_after (t setting) items c (rule setting at_q match k known does) v)

  users_over : later ≡ as_users (after_calls (t setting) items c (rule setting at_q match k known does)).calls
  users_over = ap (λ (cs : List UserCall). cs ++ map as_user (its_act setting at_q match k known does).calls) match.follows.calls ∙ sym (map-append as_user c.calls (its_act setting at_q match k known does).calls)

  taken : (v : Value) → c.taken ≡ (gone v).taken
  taken v = sym (ap (λ (d : Config). d.taken) (sets_left (λ d. valued (t setting) items d (rule setting at_q match k known does) v) (valued_sets (t setting) items (rule setting at_q match k known does) v) (after_calls (t setting) items c (rule setting at_q match k known does))))

  enough : (count : ℕ) → count ≤ 1 + cost * (moved + 1) → count + 3 ≤ most * (moved + 1)
  enough count few = arm_cost most cost count moved setting.more few

  module _ (w : Val) (n : ℕ) (below : LoopBelow g states (t setting) items variant most n p keys given loops) (b : ℕ) (less : b < n) where
    abbrev rest : Val → State → Flow
    rest v st = run_block p (trees_of (after_parts after)) v st

    abbrev block : Flow
    block = run_block p (trees_of (token_match shared arms ∷ after_parts after)) w (at m b)

    runs_arm : block ≡ then_value (run p body (at m b)) rest
    runs_arm = block_is p shared arms after w m look (subst (λ x. slice_get m.store.env x ≡ Some (look_val look)) match.look_slot match.look_shown.held) arm.index arm.is (body_there (layout g states q) production tokens arm) b

    abbrev Answered : Type 0
    Answered = MatchAnswers g states (t setting) items variant most q c own (at m b) block

    -- the action fails
    failed : (e : Failure) → (its_act setting at_q match k known does).result ≡ Err e → {returning : Bool} {cells : List Held} {inner : Value → Val} → ArmEnds p body m (1 + cost * (moved + 1)) a.names.next shared.made returning cells later inner (its_act setting at_q match k known does).result → Answered
    failed e is ends =
        arm_fails g states (t setting) items variant most q c own m b (over (after_calls (t setting) items c (rule setting at_q match k known does)) (Err e)) moved
        (leads_over setting.over items variant match.on_top match.mending match.sees k known does match.own_are.fits e is) later users_over p body rest block runs_arm (1 + cost * (moved + 1)) enough e refl (ends.fails e is)

    -- its value is returned, where it has symbols
    returned : (v : Value) → (its_act setting at_q match k known does).result ≡ Ok v → 0 < length production.symbols → Answered
    returned v is some =
        let length_is = (rules setting at_q match k known does).length_is in
        let within = symbols_within setting.over items variant match.on_top match.mending match.sees k known does match.own_are.fits in
        let n = (rule setting at_q match k known does).length in
        let more : 0 < n = omega (arith, some, length_is) in
        let counted : first_popped (layout g states q) production + n ≡ count_of (layout g states q) = omega (arith, within, length_is) in
        arm_returns g states (t setting) items variant most q c own m b (gone v) moved
        (leads_on setting.over items variant match.on_top match.mending match.sees k known does match.own_are.fits v is) later (users v) p body rest block runs_arm (1 + cost * (moved + 1)) enough n
        (reduced_at setting.over items variant match.on_top match.mending match.sees k known does match.own_are.fits match.look_taken v) (inr more) (last_emptied match.own_are match.apart (first_popped (layout g states q) production) n counted) (match.follows.taken ∙ taken v)
        ((some_end setting at_q match k known does tokens arm some).gives v is)

    -- with no slots taken
    none_taken : (d : ℕ) (now : Config) (st : State) (fl : Flow) → d ≡ 0 → TurnAnswers g states (t setting) items variant most q c own d now st fl → TurnAnswers g states (t setting) items variant most q c own 0 now st fl
    none_taken d now st fl none answers = subst (λ (i : ℕ). TurnAnswers g states (t setting) items variant most q c own i now st fl) none answers

    -- without symbols the frame goes on with its loop
    went_on : (v : Value) → (its_act setting at_q match k known does).result ≡ Ok v → length production.symbols ≡ 0 → Answered
    went_on v is none =
        let length_is = (rules setting at_q match k known does).length_is in
        let no_length : (rule setting at_q match k known does).length ≡ 0 = length_is ∙ none in
        let lead = leads_on setting.over items variant match.on_top match.mending match.sees k known does match.own_are.fits v is in
        let inner = answer_val (variant (rule setting at_q match k known does).nonterminal) (place_of c (rule setting at_q match k known does)) v look in
        let ends = (none_end setting at_q match k known does tokens arm none).gives v is in
        let reduced : Reduced states (t setting) items variant q c 0 inner (gone v) = subst (λ (d : ℕ). Reduced states (t setting) items variant q c d inner (gone v)) no_length (reduced_at setting.over items variant match.on_top match.mending match.sees k known does match.own_are.fits match.look_taken v) in
        let edge = goto_there setting.over items variant match.on_top match.mending match.sees k known does match.own_are.fits no_length in
        let goes = goes_on_there setting.over items variant match.on_top match.mending match.sees k known does match.own_are.fits no_length s at_q in
        arm_goes_on g states (t setting) items variant most q c own m b (gone v) moved lead later (users v) p body rest block runs_arm (1 + cost * (moved + 1)) enough ends
        (λ left le steps.
        let now = written g states (t setting) items variant most match follow (keys_apart g.prefix keys setting.read.keys_plain (codes "result")) a.names.next arm.cut.next ends.env ends.keeps inner later in
        let turn = turning g states (t setting) items variant most match follow (keys_apart g.prefix keys setting.read.keys_plain (codes "result")) a.names.next arm.cut.next ends.env ends.keeps inner later (gone v) reduced (taken v) (users v) edge.0 edge.1 edge.2 (s, at_q, goes) left in
        let runs : rest unit (at now left) ≡ run p (Loop (loops q).turn) (at now left) = loop_follows p after (loops q).turn unit now left (follow.loops goes edge.0 edge.1 edge.2) in
        let answers : TurnAnswers g states (t setting) items variant most q c own 0 (gone v) (at now left) (run p (Loop (loops q).turn) (at now left)) =
        none_taken (turn.0).d (gone v) (at now left) (run p (Loop (loops q).turn) (at now left)) turn.1 (below q c list own (gone v) (at now left) (omega (arith, le, less)) turn.0) in
        subst (MatchAnswers g states (t setting) items variant most q c own (at m b)) (sym runs)
        (match_loops g states (t setting) items variant most q c (gone v) own (at m b) (at now left) moved 0 lead steps (emptied_already match.own_are) (run p (Loop (loops q).turn) (at now left)) answers))

    -- the reduction's arm answers the reduction
    pub reduction_answers : MatchAnswers g states (t setting) items variant most q c own (at m b) block
    reduction_answers = by (its_act setting at_q match k known does).result refl (cases_eq (length production.symbols) 0)
      where
        by : (r : Result Value Failure) → (its_act setting at_q match k known does).result ≡ r → (length production.symbols ≡ 0) ⊎ (length production.symbols ≡ 0 → ⊥) → Answered
        by (Ok v) is o = ⊎_elim (λ (none : length production.symbols ≡ 0). went_on v is none) (λ (other : length production.symbols ≡ 0 → ⊥). returned v is (some (length production.symbols) other)) o
        by (Err e) is o = ⊎_elim (λ (none : length production.symbols ≡ 0). failed e is (none_end setting at_q match k known does tokens arm none)) (λ (other : length production.symbols ≡ 0 → ⊥). failed e is (some_end setting at_q match k known does tokens arm (some (length production.symbols) other))) o
