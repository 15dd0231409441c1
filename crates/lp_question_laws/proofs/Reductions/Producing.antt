-- A call of the built function that reduces, with the number of a production.
use Rattle.std.proofs.Common.{◌≡◌, ℕ, suc, ◌+◌, ◌*◌, ◌-◌, ◌≤◌, ◌^◌, ℤ, pos, Bool, true, false, if◌then◌else◌, List, [], ◌∷◌, ◌++◌, length, map, Option, Some, None, Result, Ok, Err, refl, sym, ap, subst, ◌∙◌, arith, codes, decimal, append_assoc, length-append}
use Rattle.std.specs.Prelude.{slice_get, slice_set, replicate}
use Rattle.std.proofs.lemmas.List.{length-replicate}
use Rattle.lp_repr.specs.Numbering.{productions_of}
use Rattle.lp_repr.specs.declared.lr1.Lr1State.{Lr1State}
use Rattle.lp_repr.specs.declared.repr.Grammar.{Grammar}
use Rattle.lp_repr.specs.declared.repr.Production.{Production}
use Rattle.lp_repr.specs.declared.values.Loc.{Loc}
use Rattle.lp_driver.specs.Values.{Spanned, Value, Failure}
use Rattle.lp_core.specs.declared.value.StateType.{StateType}
use Rattle.lp_core.specs.Datum.{Unset}
use Rattle.lp_core.specs.Numbers.{number}
use Rattle.lp_core.specs.Store.{Program, UserCall}
use Rattle.lp_core.specs.Val.{Val, Plain}
use Rattle.lp_table.specs.Starts.{Start, state_text}
use Rattle.lp_table.specs.ReductionLines.{is_called, reduction_arm, reduce_header, reduce_function}
use Rattle.lp_view.specs.PartLists.{Form, over}
use Rattle.lp_maker.specs.Slots.{Names}
use Rattle.lp_maker.specs.Texts.{state_type_of}
use Rattle.lp_maker.specs.Constructs.{stuck}
use Rattle.lp_maker.specs.Making.{Making, number_in}
use Rattle.lp_bodies.specs.Arms.{Gathered, no_arms, with_header, with_names}
use Rattle.lp_bodies.specs.Reductions.{Arming, arming_of, reduce_arm, reduce_row, reduce_rows, reduce_with, with_reduce, is_arm, arm_row, with_arm, vec_type}
use Rattle.lp_bodies.specs.Reductions as bodies
use Rattle.lp_machine.specs.declared.calls.Acted.{Acted}
use Rattle.lp_agrees.specs.Machine.{as_user}
use Rattle.lp_code_laws.proofs.Ends.Lists.{length_set}
use Rattle.lp_code_laws.specs.Slots.Shows.{Shows, Keeps}
use Rattle.lp_code_laws.proofs.Slots.Names.{kept}
use Rattle.lp_code_laws.proofs.Slots.Slots.{keeps_set}
use Rattle.lp_question_laws.proofs.Gotos.Arms.{Arm, picked, one_shown}
use Rattle.lp_question_laws.proofs.Gotos.Arms as arms
use Rattle.lp_question_laws.proofs.Gotos.GotoCode.{over-append}
use Rattle.lp_question_laws.proofs.Gotos.LinkGrows.{Extends, arm_extends}
use Rattle.lp_question_laws.proofs.Gotos.LinkMaps.{get_more}
use Rattle.lp_question_laws.specs.Tables.Acts.{Acts, arguments}
use Rattle.lp_question_laws.specs.Reductions.Stacks.{over_two, Symbol, on_stack}
use Rattle.lp_question_laws.proofs.Reductions.Popping.{AllPop}
use Rattle.lp_question_laws.proofs.Reductions.Arguments.{show_moved}
use Rattle.lp_question_laws.proofs.Reductions.Bodies.{Gives, Line}
use Rattle.lp_question_laws.proofs.Reductions.Wholes.{Seen, items_of, place_of}
use Rattle.lp_question_laws.proofs.Reductions.Scopes.{Widens, widens_both, shows_wide, arm_widens}
use Rattle.lp_question_laws.proofs.Reductions.Armed.{AreArms, armed_next, arm_next, number_test, all_gathered, arm_picked}
use Rattle.lp_question_laws.proofs.Reductions.Reducing.{GoesTo, GoesIf, Answers, reduce_called}
use Rattle.lp_question_laws.proofs.Reductions.Parameters.{AllAgree, AreKeys, all_names, all_values, action_seen, states_seen, all_seen, all_next}
use Rattle.lp_question_laws.proofs.Reductions.Parameters as given
use Rattle.lp_question_laws.proofs.Reductions.Texts.{AllKeys, IsPrefix, names_of}
use Rattle.lp_question_laws.proofs.Reductions.Headers.{reduce_names}
use Rattle.lp_question_laws.proofs.Reductions.Types.{states_typed}
use Rattle.lp_question_laws.proofs.Reductions.Forms.{line_of, arm_forms, reduce_parts, header_no_arm, arm_is, arms_length, arm_placed}
use Rattle.lp_question_laws.proofs.Reductions.Serving.{Serves}
use Rattle.lp_question_laws.proofs.Reductions.Arming.{Production_of, Owned, arm_done}

-- what is seen, in another place
seen_moved : {names later : Names} {env after : List Val} {start : Option Loc} {keys : List (List ℕ)} {params : List Val} → ((q : List ℕ) (v : Val) → Shows names env q v → Shows later after q v) → Seen names env start keys params → Seen later after start keys params
seen_moved {names} {later} {env} {after} {start} {keys} {params} move h = record { list = move _ _ h.list; lookahead = move _ _ h.lookahead; handed = show_moved names later env after keys params move h.handed; outer = h.outer }

-- what serves a whole serves a part of it
part_serves : {p : Program} {last made whole some after : Making} → Serves p last made whole → Extends made some → Extends after whole → Serves p last some after
part_serves {p} {last} {made} {whole} {some} {after} h e g = record {
  names = e.names ∙ h.names;
  variants = λ q k is. h.variants q k (g.variants q k is);
  functions = λ j f le is. h.functions j f (omega (arith, le, ap length e.functions.1, length-append made.functions e.functions.0)) (ap (λ fs. slice_get fs j) g.functions.1 ∙ get_more after.functions g.functions.0 j (Some f) is);
}

module _ (p : Program) (last : Making) (g : Grammar) (states : List Lr1State) (s : Start) (i : ℕ) (prod : Production) (xs : List Symbol) (is : Production_of g s i prod xs) (prefix : IsPrefix g.prefix) (known : AllKeys g.prefix (names_of g.parameters)) (ns : List ℕ) (agree : AllAgree (names_of g.parameters) ns) (apart : AreKeys (names_of g.parameters)) (start : Option Loc) where
  abbrev keys : List (List ℕ)
  keys = names_of g.parameters

  abbrev all : Names
  all = all_names keys ns agree apart start

  abbrev header : Form
  header = reduce_header g states s

  abbrev begun_arms : Gathered
  begun_arms = record { names = all; params = all.next; cases = []; bodies = [] }

  abbrev begun : StateType → Making → Arming
  begun kind m = arming_of begun_arms (Some kind) m

  -- the header's row
  header_read : (m : Making) (kind : StateType) → m.prefix ≡ g.prefix → state_type_of (state_text g states) ≡ Some kind → reduce_row (arming_of no_arms None m) header ≡ begun kind m
  header_read m kind same is_kind =
      ap (λ (b : Bool). if b then arming_of (arm_row m header no_arms) None (with_arm header no_arms m) else arming_of (with_header m.prefix header no_arms) (vec_type m.prefix header) m) (header_no_arm g states s)
      ∙ ap (λ q. arming_of (with_header q header no_arms) (vec_type q header) m) same
      ∙ ap (λ (n : Names). arming_of (record { names = n; params = n.next; cases = []; bodies = [] }) (vec_type g.prefix header) m) (reduce_names g states s prefix known)
      ∙ ap (λ k. arming_of begun_arms k m) (states_typed g states s prefix known ∙ is_kind)

  rows_read : (m : Making) (kind : StateType) → m.prefix ≡ g.prefix → state_type_of (state_text g states) ≡ Some kind → reduce_rows m (reduce_function g states s) ≡ over reduce_row (begun kind m) (arm_forms g s 0 (productions_of g))
  rows_read m kind same is_kind = ap (over reduce_row (arming_of no_arms None m)) (reduce_parts g states s) ∙ ap (λ t. over reduce_row t (arm_forms g s 0 (productions_of g))) (header_read m kind same is_kind)

  abbrev row : Form
  row = reduction_arm g s i prod

  -- where the arm of the production stands among the others
  record Picks (kind : StateType) (m : Making) (fin : Arming) : Type 0 where
    here : Arming
    list : List Arm
    shows : arms.Shows fin.arms list
    picks : picked p (number kind (pos i)) list stuck ≡ Some (reduce_arm here.made here.arms.names row).value
    first : Widens all here.arms.names
    rest : Widens (reduce_arm here.made here.arms.names row).names fin.arms.names
    params_are : fin.arms.params ≡ all.next
    typed : fin.kind ≡ Some kind
    before : Extends m here.made
    after : Extends (reduce_arm here.made here.arms.names row).made fin.made

  arm_picks : slice_get (productions_of g) i ≡ Some prod → length (productions_of g) ≤ 2 ^ 63 → (kind : StateType) (m : Making) → Picks kind m (over reduce_row (begun kind m) (arm_forms g s 0 (productions_of g)))
  arm_picks at few kind m =
      let t0 = begun kind m in
      let q = arm_placed g s 0 i (productions_of g) prod at in
      let zero_i : 0 + i ≡ i = omega arith in
      let whole : arm_forms g s 0 (productions_of g) ≡ q.before ++ row ∷ q.after = q.whole ∙ ap (λ n. q.before ++ reduction_arm g s n prod ∷ q.after) zero_i in
      let many : length q.before + suc (length q.after) ≡ length (productions_of g) = sym (length-append q.before (row ∷ q.after)) ∙ ap length (sym whole) ∙ arms_length g s 0 (productions_of g) in
      let g1 = all_gathered 0 q.before t0 [] q.first (omega (arith, many, few)) (record { cases = refl; bodies = refl }) in
      let s1 = over reduce_row t0 q.before in
      let d = reduce_arm s1.made s1.arms.names row in
      let t = armed_next i row s1 in
      let arm = number_test i d.value in
      let one : arms.Shows t.arms (g1.added ++ arm ∷ []) = one_shown (with_names d.names s1.arms) g1.added arm (record { cases = g1.shows.cases; bodies = g1.shows.bodies }) in
      let next : 0 + suc i ≡ i + 1 = omega arith in
      let g2 = all_gathered (i + 1) q.after t (g1.added ++ arm ∷ []) (subst (λ n. AreArms n q.after) next q.rest) (omega (arith, many, few, q.many)) one in
      let fin = over reduce_row t q.after in
      let moved : over reduce_row t0 (arm_forms g s 0 (productions_of g)) ≡ fin = ap (over reduce_row t0) whole ∙ over-append reduce_row t0 q.before (row ∷ q.after) ∙ ap (λ u. over reduce_row u q.after) (arm_next i row s1 (arm_is g s i prod) (omega (arith, many, few, q.many))) in
      subst (λ u. Picks kind m u) {x = fin} {y = over reduce_row t0 (arm_forms g s 0 (productions_of g))} (sym moved) (record {
        here = s1;
        list = g1.added ++ arm ∷ g2.added;
        shows = subst (arms.Shows fin.arms) (append_assoc g1.added (arm ∷ []) g2.added) g2.shows;
        picks = arm_picked p i (number kind (pos i)) g1.added g2.added d.value stuck refl g1.numbered (omega (arith, g1.many, q.many));
        first = g1.names;
        rest = g2.names;
        params_are = g2.params ∙ g1.params;
        typed = g2.kind ∙ g1.kind;
        before = g1.made;
        after = g2.made;
      })

  -- ---- the call

  abbrev params : List Val
  params = given.params keys ns agree apart start

  abbrev call_values : StateType → List Val
  call_values kind = params ++ all_values keys ns agree apart start (number kind (pos i))

  goes_moved : {kind : StateType} {ss next : List ℤ} {n nonterminal : ℕ} (m : Making) → m.names ≡ last.names → GoesTo p last kind ss n nonterminal next → GoesTo p m kind ss n nonterminal next
  goes_moved m same h = record {
    tops = h.tops;
    top = h.top;
    to = h.to;
    next_is = h.next_is;
    enough = h.enough;
    cut = h.cut;
    last = h.last;
    fits = h.fits;
    function = h.function;
    named = ap (number_in (codes "goto")) same ∙ h.named;
    goes = h.goes;
  }

  goes_if : (starts : Bool) (result : Result Value Failure) {A B : Type 0} → (A → B) → GoesIf starts result A → GoesIf starts result B
  goes_if true (Ok v) f h = tt
  goes_if true (Err e) f h = tt
  goes_if false (Ok v) f h = f h
  goes_if false (Err e) f h = tt

  module _ (taken : ℕ) (calls : List UserCall) (ss next : List ℤ) (l : List (Spanned Val)) (f cost : ℕ) (acted : Acted) (named : number_in (codes "super::action" ++ decimal prod.action) last.names ≡ Some f)
      (gives : Gives (line_of g s prod (length xs)).fallible acted) (acts : (now : List Val) → Acts p f (arguments params (items_of xs) (place_of l start xs)) (line_of g s prod (length xs)).fallible acted cost (over_two now taken calls ss l)) (can : AllPop p last xs) where
    abbrev r : Line
    r = line_of g s prod (length xs)

    -- what the call of a production comes to
    pub record Produced (fr : ℕ) (env : List Val) (kind : StateType) : Type 0 where
      pub variant : ℕ
      pub numbered : r.starts ≡ false → number_in r.name last.variants ≡ Some variant
      pub answers : Answers p fr (call_values kind) env taken calls (calls ++ map as_user acted.calls) ss next (l ++ map on_stack xs) l (length xs + 5 + cost * (length acted.calls + 1)) r.starts acted.result variant (place_of l start xs)

    pub reduce_answers : (kind : StateType) (m : Making) (fr : ℕ) (env : List Val) → m.prefix ≡ g.prefix → m.names ≡ last.names → state_type_of (state_text g states) ≡ Some kind → slice_get (productions_of g) i ≡ Some prod → length (productions_of g) ≤ 2 ^ 63
        → slice_get p.functions fr ≡ Some (bodies.reduce_function m (reduce_function g states s)) → Serves p last m (with_reduce (reduce_function g states s) m) → (is_called g s prod ≡ true → Owned p last g states s i prod xs is prefix known ns agree apart start)
        → GoesIf r.starts acted.result (GoesTo p last kind ss (length xs) r.nonterminal next) → Produced fr env kind
    reduce_answers kind m fr env same named_so is_kind at few there serves owned goes =
        let read = rows_read m kind same is_kind in
        let fin = over reduce_row (begun kind m) (arm_forms g s 0 (productions_of g)) in
        let k = arm_picks at few kind m in
        let a = fin.arms in
        let code : slice_get p.functions fr ≡ Some (reduce_with fin.made (Some kind) a) = there ∙ ap (λ (t : Arming). Some (reduce_with t.made t.kind t.arms)) read ∙ ap (λ q. Some (reduce_with fin.made q a)) k.typed in
        let whole_serves : Serves p last m fin.made = subst (λ (n : Making). Serves p last m n) (ap (λ (t : Arming). t.made) read) serves in
        let args = call_values kind in
        let action = number kind (pos i) in
        let rest = replicate ((a.names.next + 1) + 4 - a.params) (Plain Unset) in
        let first = args ++ rest in
        let chosen = slice_set first a.names.next action in
        let args_many : a.params ≡ length args = k.params_are ∙ all_next keys ns agree apart start action in
        let d = reduce_arm k.here.made k.here.arms.names row in
        let wide : Widens all a.names = widens_both k.first (widens_both (arm_widens k.here.made k.here.arms.names row) k.rest) in
        let within : a.params ≤ a.names.next = omega (arith, k.params_are, wide.next) in
        let many : length chosen ≡ a.names.next + 5 = omega (arith, length_set first a.names.next action, length-append args rest, length-replicate ((a.names.next + 1) + 4 - a.params) (Plain Unset), args_many, within) in
        let keeps : Keeps all.next first chosen = keeps_set all.next a.names.next first action wide.next in
        let seen : Seen k.here.arms.names chosen start keys params = seen_moved (λ q v h. shows_wide k.first (kept h keeps)) (all_seen keys ns agree apart start action rest) in
        let done = arm_done p last g states s i prod xs is prefix known ns agree apart start taken calls ss l f cost acted named gives acts can k.here.made k.here.arms.names chosen (k.before.prefix ∙ same) (k.before.names ∙ named_so) (part_serves whole_serves k.before k.after) seen (omega (arith, many, k.rest.next)) owned in
        let made_names : fin.made.names ≡ last.names = k.after.names ∙ (arm_extends k.here.made k.here.arms.names row).names ∙ k.before.names ∙ named_so in
        let called = reduce_called p fin.made kind a fr code args args_many within taken calls ss (l ++ map on_stack xs) (pos i) k.list d.value k.shows k.picks (shows_wide wide (action_seen keys ns agree apart start action rest))
        env (calls ++ map as_user acted.calls) l (length xs + 2 + cost * (length acted.calls + 1) + 1) done.variant (length xs) r.nonterminal (place_of l start xs) k.here.arms.names.next all wide k.first.next (states_seen keys ns agree apart start action rest) next r.starts acted.result done.ended
        (goes_if r.starts acted.result (goes_moved fin.made made_names) goes) in
        record {
          variant = done.variant;
          numbered = done.numbered;
          answers = record { many = called.many; few = omega (arith, called.few); ends = called.ends };
        }
