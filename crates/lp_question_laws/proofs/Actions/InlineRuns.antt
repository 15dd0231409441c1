-- The calls of inlined actions in order, and the outer call: together they do what the tables' inlined action does.
use Rattle.std.proofs.Common.{◌≡◌, ℕ, zero, suc, ◌+◌, ◌*◌, ◌<◌, ◌≤◌, ◌^◌, Bool, true, false, ◌&&◌, List, [], ◌∷◌, ◌++◌, length, map, take, drop, Result, Ok, Err, refl, ap, sym, subst, ◌∙◌, arith, append_assoc, append-nil, length-append}
use Rattle.std.specs.Prelude.{slice_set, codes, decimal, not}
use Rattle.std.specs.Str.{bytes_eq}
use Rattle.std.proofs.lemmas.List.{map-append, length-map}
use Rattle.std.proofs.Math.Nat.{mul-add}
use Rattle.lp_repr.specs.declared.repr.Grammar.{Grammar}
use Rattle.lp_repr.specs.declared.repr.InlinedSymbol.{InlinedSymbol}
use Rattle.lp_repr.specs.declared.repr.InlinedSymbol.TheVariants.{Original, Inlined}
use Rattle.lp_repr.specs.declared.repr.Symbol.{Symbol}
use Rattle.lp_repr.specs.declared.values.Loc.{Loc}
use Rattle.lp_driver.specs.Values.{Spanned, Value, Failure}
use Rattle.lp_core.specs.Datum.{Unset, Parsed, Failed}
use Rattle.lp_core.specs.declared.value.Tag.TheVariants as tag
use Rattle.lp_core.specs.Effect.{unit}
use Rattle.lp_core.specs.Reading.{location, wrapped}
use Rattle.lp_core.specs.Store.{Program, Store, UserCall}
use Rattle.lp_core.specs.Tree.{Tree, trees_of}
use Rattle.lp_core.specs.Val.{Val, Plain}
use Rattle.lp_machine.specs.ActionMeaning.{Meaning, inline_from, inlined_span, with_value, after_calls}
use Rattle.lp_machine.specs.declared.calls.Acted.{Acted}
use Rattle.lp_machine.specs.declared.calls.Call.{Call}
use Rattle.lp_agrees.specs.Machine.{as_user}
use Rattle.lp_actions.specs.Inlines.{inline_call, inner_arguments, outer_from, result_name, argument, inlined_count, action_fails}
use Rattle.lp_actions.specs.Parameters.{width}
use Rattle.lp_table.specs.Headers.{names_of}
use Rattle.lp_view.specs.PartLists.{Form}
use Rattle.lp_maker.specs.Constructs as constructs
use Rattle.lp_maker.specs.Making.{Making}
use Rattle.lp_maker.specs.Slots.{Names, bound}
use Rattle.lp_maker.specs.Texts.{plain}
use Rattle.lp_bodies.specs.Lines.{Lines}
use Rattle.lp_bodies.specs.Inlining.{action_call, inlined_value, inlined_names, spanned}
use Rattle.lp_code_laws.specs.Ends.Ends.{Eval, Sequence, Giving, Returning, EndsIn, steps}
use Rattle.lp_code_laws.proofs.Ends.Rules.{apply_left, block_left}
use Rattle.lp_code_laws.proofs.Ends.Steps.{ends_as, steps_are}
use Rattle.lp_question_laws.proofs.Gotos.GotoCode.{lacks-append}
use Rattle.lp_code_laws.specs.Slots.Shows.{Shows}
use Rattle.lp_code_laws.proofs.Slots.Names.{kept}
use Rattle.lp_code_laws.proofs.Slots.Slots.{get_within}
use Rattle.lp_question_laws.specs.Tables.Acts.{acted_val, arguments, symbol_val}
use Rattle.lp_question_laws.specs.Actions.Callable.{Callable, AreCallable, Runs, ended}
use Rattle.lp_question_laws.specs.Actions.InlineForms.{call_forms}
use Rattle.lp_question_laws.specs.Actions.Inlined.{own_words, own_values, Seen, SpansShown, start_name, end_name, temp_name, within}
use Rattle.lp_question_laws.specs.Actions.Keys.{ShowsEach, EachName, AreOthers, mark}
use Rattle.lp_question_laws.specs.Actions.Params.{AreSet}
use Rattle.lp_question_laws.specs.Actions.Performs.{IsCalm, Performs}
use Rattle.lp_question_laws.proofs.Actions.InlineArguments.{each-append, inner_shown, inner_tried, with_params, drop_there}
use Rattle.lp_question_laws.proofs.Actions.InlineCalls.{call_row, call_ends, Gave, gave_plain, gave_tried, failed_tried, next_after, env3, long3, kept3, temp3, lets_run}
use Rattle.lp_question_laws.proofs.Actions.InlineOuter.{outer_form, outer_runs}
use Rattle.lp_question_laws.proofs.Actions.InlinePlaces.{seen_at}
use Rattle.lp_question_laws.proofs.Actions.InlineRows.{rows_names, rows_code, rows_grow}
use Rattle.lp_question_laws.proofs.Actions.InlineSpans.{widths}
use Rattle.lp_question_laws.proofs.Actions.Others.{letter_other, numbered_other, own_others, plain_others, each_kept}
use Rattle.lp_question_laws.proofs.Actions.Parameters.{ArePlain, plain_word}
use Rattle.lp_question_laws.proofs.Actions.Texts.{IsPlainPrefix, IsPlainWord, word_plain, decimal_word}
use Rattle.lp_question_laws.proofs.Actions.UserCalls.{arguments_set}

-- ---- what stays shown

-- names that no later value of an inlined action has
abbrev pub AreNoTemps : ℕ → List (List ℕ) → Type 0
AreNoTemps n ks = (k : ℕ) → n ≤ k → k < 2 ^ 64 → AreOthers (temp_name k) ks

each_more : (P : List ℕ → Type 0) (ks ls : List (List ℕ)) → EachName P ks → EachName P ls → EachName P (ks ++ ls)
each_more P [] ls h g = g
each_more P (k ∷ ks) ls h g = (h.0, each_more P ks ls h.1 g)

-- one name more, before the others
abbrev KeepsOthers : ℕ → Names → List Val → Names → List Val → Type 0
KeepsOthers n names env later after = (key : List ℕ) (w : Val) → bytes_eq (temp_name n) key ≡ false → Shows names env key w → Shows later after key w

spans_kept : (n : ℕ) (names later : Names) (env after : List Val) (xs : List (Spanned Value)) (place : Loc × Loc) (k before : ℕ) (ss : List InlinedSymbol) → KeepsOthers n names env later after → SpansShown names env xs place k before ss → SpansShown later after xs place k before ss
spans_kept n names later env after xs place k before [] keep h = tt
spans_kept n names later env after xs place k before (Original x ∷ ss) keep h = spans_kept n names later env after xs place (k + inlined_count (Original x)) (before + width (Original x)) ss keep h
spans_kept n names later env after xs place k before (Inlined action inner ∷ ss) keep h =
    (keep (start_name k) (location (inlined_span xs before (length inner) place).0) refl h.0, keep (end_name k) (location (inlined_span xs before (length inner) place).1) refl h.1, spans_kept n names later env after xs place (k + inlined_count (Inlined action inner)) (before + width (Inlined action inner)) ss keep h.2)

temp_word : (n : ℕ) → n < 2 ^ 64 → IsPlainWord (codes "temp" ++ decimal n)
temp_word n small =
    let w = decimal_word n small in
    let t = plain_word (codes "temp") refl refl refl refl (omega arith) in
    record {
      wordy = record { no_and = lacks-append 38 (codes "temp") (decimal n) t.wordy.no_and w.wordy.no_and; no_open = lacks-append 40 (codes "temp") (decimal n) t.wordy.no_open w.wordy.no_open; no_colon = lacks-append 58 (codes "temp") (decimal n) t.wordy.no_colon w.wordy.no_colon };
      no_dot = lacks-append 46 (codes "temp") (decimal n) t.no_dot w.no_dot;
      some = omega arith;
    }

part_many : {A : Type 0} (xs : List A) (before count : ℕ) → before + count ≤ length xs → length (take count (drop before xs)) ≡ count
part_many xs before zero le = refl
part_many xs before (suc count) le =
    let x = get_within xs before (omega (arith, le)) in
    ap (λ zs. length (take (suc count) zs)) (drop_there xs before x.0 x.1) ∙ ap suc (part_many xs (suc before) count (omega (arith, le)))

-- ---- bounds

-- calls of user code in two parts
more_calls : (calls : List UserCall) (a b : List Call) → (calls ++ map as_user a) ++ map as_user b ≡ calls ++ map as_user (a ++ b)
more_calls calls a b = append_assoc calls (map as_user a) (map as_user b) ∙ ap (λ l. calls ++ l) (sym (map-append as_user a b))

module _ (p : Program) (m : Making) (g : Grammar) (is : IsPlainPrefix g.prefix) (same : m.prefix ≡ g.prefix) (plain_names : ArePlain g.prefix g.parameters) (s : Store) (vals : List Val) (set : AreSet vals) (xs : List (Spanned Value)) (place : Loc × Loc) (few : length xs < 2 ^ 64)
    (acts : Meaning) (most : ℕ) (fallible : Bool) (outer : ℕ) (may : fallible ≡ false → action_fails g outer ≡ false) (texts : List (List ℕ)) where
  abbrev pub last_form : Form
  last_form = outer_form g (fallible && not (action_fails g outer)) outer texts

  abbrev pub rest_of : ℕ → ℕ → List InlinedSymbol → List Form
  rest_of n before ss = call_forms g n before ss ++ last_form ∷ []

  -- where the calls of some symbols begin
  pub record IsAtCalls (names : Names) (env : List Val) (n before : ℕ) (given : List (Spanned Value)) (done : List (List ℕ)) (ss : List InlinedSymbol) : Type 0 where
    pub callable : AreCallable p m g vals acts most fallible ss
    pub outermost : (c : Callable p m g vals acts most outer (length given + length ss)) × (c.extra ≡ 0)
    pub room : (rows_names m names (rest_of n before ss)).next ≤ length env
    pub params : ShowsEach names env (names_of g) vals
    pub seen : Seen names env xs place
    pub spans : SpansShown names env xs place n before ss
    pub shown : ShowsEach names env (map (plain g.prefix) done) (map symbol_val given)
    pub others : AreNoTemps n (map (plain g.prefix) done)
    pub all : texts ≡ names_of g ++ (done ++ outer_from g.prefix n before ss)
    pub wide : before + widths ss ≤ length xs
    pub small : n + length ss < 2 ^ 64
    pub some : 0 < length given + length ss

  -- at last the outer call
  last_runs : (names : Names) (env : List Val) (calls : List UserCall) (n before : ℕ) (given : List (Spanned Value)) (done : List (List ℕ)) (v : Val) → IsAtCalls names env n before given done []
      → Runs p (Sequence (trees_of (rows_code m names (last_form ∷ []))) v) s env calls fallible (acts outer given place (length calls)) most 0
  last_runs names env calls n before given done v st =
      let many : length given + 0 ≡ length given = omega arith in
      let c = subst (λ k. (c : Callable p m g vals acts most outer k) × (c.extra ≡ 0)) many st.outermost in
      let args = with_params is names env g refl plain_names vals done (map symbol_val given) st.params st.shown in
      let texts_are : names_of g ++ done ≡ texts = ap (λ l. names_of g ++ l) (sym (append-nil done)) ∙ sym st.all in
      let moved = subst (λ q. ShowsEach names env (map (plain q) texts) (vals ++ map symbol_val given)) (sym same) (subst (λ l. ShowsEach names env (map (plain g.prefix) l) (vals ++ map symbol_val given)) texts_are args) in
      let any = st.some in
      outer_runs p m g names s env calls vals acts most fallible outer texts given place v c.0 c.1 may (omega (arith, any)) set moved

  -- an original symbol is an argument of the outer call as it is
  original_stands : (names : Names) (env : List Val) (n before : ℕ) (given : List (Spanned Value)) (done : List (List ℕ)) (x : Symbol) (ss : List InlinedSymbol) → IsAtCalls names env n before given done (Original x ∷ ss)
      → IsAtCalls names env (n + inlined_count (Original x)) (before + width (Original x)) (given ++ take 1 (drop before xs)) (done ++ argument g.prefix before ∷ []) ss
  original_stands names env n before given done x ss st =
      let wide = st.wide in
      let small = st.small in
      let y = get_within xs before (omega (arith, wide)) in
      let w = decimal_word before (omega (arith, wide, few)) in
      let one : take 1 (drop before xs) ≡ y.0 ∷ [] = ap (take 1) (drop_there xs before y.0 y.1) in
      let more : length given + length (Original x ∷ ss) ≡ length (given ++ take 1 (drop before xs)) + length ss = (let a = ap length one in let b = length-append given (take 1 (drop before xs)) in omega arith) in
      let here : ShowsEach names env (map (plain g.prefix) (argument g.prefix before ∷ [])) (map symbol_val (y.0 ∷ [])) =
      (subst (λ k. Shows names env k (symbol_val y.0)) (sym (word_plain is (decimal before) w)) (seen_at names env xs place before y.0 st.seen y.1), tt) in
      let both = each-append names env (map (plain g.prefix) done) (map (plain g.prefix) (argument g.prefix before ∷ [])) (map symbol_val given) (map symbol_val (y.0 ∷ [])) st.shown here in
      let keys : map (plain g.prefix) done ++ map (plain g.prefix) (argument g.prefix before ∷ []) ≡ map (plain g.prefix) (done ++ argument g.prefix before ∷ []) = sym (map-append (plain g.prefix) done (argument g.prefix before ∷ [])) in
      let values_are : map symbol_val given ++ map symbol_val (y.0 ∷ []) ≡ map symbol_val (given ++ take 1 (drop before xs)) = ap (λ l. map symbol_val given ++ map symbol_val l) (sym one) ∙ sym (map-append symbol_val given (take 1 (drop before xs))) in
      record {
        callable = st.callable;
        outermost = subst (λ k. (c : Callable p m g vals acts most outer k) × (c.extra ≡ 0)) more st.outermost;
        room = st.room;
        params = st.params;
        seen = st.seen;
        spans = st.spans;
        shown = subst (λ ks. ShowsEach names env ks (map symbol_val (given ++ take 1 (drop before xs)))) keys (subst (λ vs. ShowsEach names env (map (plain g.prefix) done ++ map (plain g.prefix) (argument g.prefix before ∷ [])) vs) values_are both);
        others = λ k low less. subst (AreOthers (temp_name k)) keys (each_more (λ q. bytes_eq (temp_name k) q ≡ false) (map (plain g.prefix) done) (map (plain g.prefix) (argument g.prefix before ∷ [])) (st.others k (omega (arith, low)) less)
            (ap (bytes_eq (temp_name k)) (word_plain is (decimal before) w) ∙ letter_other 116 (codes "emp" ++ decimal k) before (omega arith) (omega (arith, wide, few)), tt));
        all = st.all ∙ ap (λ l. names_of g ++ l) (sym (append_assoc done (argument g.prefix before ∷ []) (outer_from g.prefix (n + inlined_count (Original x)) (before + width (Original x)) ss)));
        wide = omega (arith, wide);
        small = omega (arith, small);
        some = (let a = st.some in omega (arith, a, more));
      }

  -- the value of an inlined action is one, with its span
  inlined_stands : (names later : Names) (env after : List Val) (n before action : ℕ) (inner : List Symbol) (given : List (Spanned Value)) (done : List (List ℕ)) (ss : List InlinedSymbol) (value : Value) → IsAtCalls names env n before given done (Inlined action inner ∷ ss)
      → KeepsOthers n names env later after → length after ≡ length env → (rows_names m later (rest_of (n + 1) (before + length inner) ss)).next ≤ length env
      → (let at = inlined_span xs before (length inner) place in Shows later after (temp_name n) (symbol_val (at.0, value, at.1))
      → IsAtCalls later after (n + 1) (before + length inner) (given ++ (at.0, value, at.1) ∷ []) (done ++ result_name g.prefix n ∷ []) ss)
  inlined_stands names later env after n before action inner given done ss value st keep long room temp =
      let at = inlined_span xs before (length inner) place in
      let one : Spanned Value = (at.0, value, at.1) in
      let wide = st.wide in
      let small = st.small in
      let few_n : n < 2 ^ 64 = omega (arith, small) in
      let w = temp_word n few_n in
      let more : length given + length {A = InlinedSymbol} (Inlined action inner ∷ ss) ≡ length (given ++ one ∷ []) + length ss = (let b = length-append given (one ∷ []) in omega arith) in
      let done_kept = each_kept names later env after (map (plain g.prefix) done) (map symbol_val given) (λ k. bytes_eq (temp_name n) k ≡ false) keep (st.others n (omega arith) few_n) st.shown in
      let here : ShowsEach later after (map (plain g.prefix) (result_name g.prefix n ∷ [])) (map symbol_val (one ∷ [])) = (subst (λ k. Shows later after k (symbol_val one)) (sym (word_plain is (codes "temp" ++ decimal n) w)) temp, tt) in
      let both = each-append later after (map (plain g.prefix) done) (map (plain g.prefix) (result_name g.prefix n ∷ [])) (map symbol_val given) (map symbol_val (one ∷ [])) done_kept here in
      let keys : map (plain g.prefix) done ++ map (plain g.prefix) (result_name g.prefix n ∷ []) ≡ map (plain g.prefix) (done ++ result_name g.prefix n ∷ []) = sym (map-append (plain g.prefix) done (result_name g.prefix n ∷ [])) in
      let values_are : map symbol_val given ++ map symbol_val (one ∷ []) ≡ map symbol_val (given ++ one ∷ []) = sym (map-append symbol_val given (one ∷ [])) in
      record {
        callable = st.callable.2;
        outermost = subst (λ k. (c : Callable p m g vals acts most outer k) × (c.extra ≡ 0)) more st.outermost;
        room = omega (arith, room, long);
        params = each_kept names later env after (names_of g) vals (λ k. bytes_eq (temp_name n) k ≡ false) keep (plain_others g.prefix (codes "temp" ++ decimal n) g.parameters plain_names) st.params;
        seen = each_kept names later env after (map mark (own_words xs)) (own_values xs place) (λ k. bytes_eq (temp_name n) k ≡ false) keep (own_others 116 (codes "emp" ++ decimal n) xs (omega arith) few refl refl) st.seen;
        spans = spans_kept n names later env after xs place (n + 1) (before + length inner) ss keep st.spans.2;
        shown = subst (λ ks. ShowsEach later after ks (map symbol_val (given ++ one ∷ []))) keys (subst (λ vs. ShowsEach later after (map (plain g.prefix) done ++ map (plain g.prefix) (result_name g.prefix n ∷ [])) vs) values_are both);
        others = λ k low less. subst (AreOthers (temp_name k)) keys (each_more (λ q. bytes_eq (temp_name k) q ≡ false) (map (plain g.prefix) done) (map (plain g.prefix) (result_name g.prefix n ∷ [])) (st.others k (omega (arith, low)) less)
            (ap (bytes_eq (temp_name k)) (word_plain is (codes "temp" ++ decimal n) w) ∙ numbered_other (codes "~temp") k n less few_n (λ e. omega (arith, low, e)), tt));
        all = st.all ∙ ap (λ l. names_of g ++ l) (sym (append_assoc done (result_name g.prefix n ∷ []) (outer_from g.prefix (n + 1) (before + length inner) ss)));
        wide = omega (arith, wide);
        small = omega (arith, small);
        some = (let a = st.some in omega (arith, a, more));
      }

  -- what a failed action leaves
  error_is : (b : Bool) (e : Failure) → wrapped tag.Failure (Plain (Failed e)) ≡ acted_val b (Err e)
  error_is true e = refl
  error_is false e = refl

  fails_so : (f : Bool) (e : Failure) → IsCalm f (Err e) → f ≡ true
  fails_so true e h = refl
  fails_so false e h = absurd h

  may_fail : (b f : Bool) (e : Failure) → (b ≡ false → f ≡ false) → f ≡ true → IsCalm b (Err e)
  may_fail true f e h is = tt
  may_fail false f e h is = absurd (let bad : true ≡ false = sym is ∙ h refl in cc)

  -- the names after an inlined call
  abbrev names_let : Names → Form → ℕ → Names
  names_let names line n = bound (temp_name n) (bound (temp_name n) (inlined_names names line))

  -- the code of an inlined call and what follows it
  module _ (names : Names) (n before action : ℕ) (inner : List Symbol) (ss : List InlinedSymbol) where
    abbrev line : Form
    line = inline_call g n before action (length inner)

    abbrev lets : List Tree
    lets = constructs.write (inlined_names names line).next (inlined_value m names line) ∷ constructs.write ((inlined_names names line).next + 1) (spanned (inlined_names names line).next line (bound (temp_name n) (inlined_names names line))) ∷ rows_code m (names_let names line n) (rest_of (n + 1) (before + length inner) ss)

    code_is : rows_code m names (rest_of n before (Inlined action inner ∷ ss)) ≡ lets
    code_is = ap (λ (l : Lines). l.parts ++ rows_code m l.names (rest_of (n + 1) (before + length inner) ss)) (call_row m names [] g n before action (length inner))

    names_are : rows_names m names (rest_of n before (Inlined action inner ∷ ss)) ≡ rows_names m (names_let names line n) (rest_of (n + 1) (before + length inner) ss)
    names_are = ap (λ (l : Lines). rows_names m l.names (rest_of (n + 1) (before + length inner) ss)) (call_row m names [] g n before action (length inner))

  -- the calls of these symbols and the outer call do what the tables' action does from there on
  abbrev pub CallsRun : ℕ → ℕ → List InlinedSymbol → Type 0
  CallsRun n before ss = (names : Names) (env : List Val) (calls : List UserCall) (given : List (Spanned Value)) (done : List (List ℕ)) (v : Val) → IsAtCalls names env n before given done ss
      → Runs p (Sequence (trees_of (rows_code m names (rest_of n before ss))) v) s env calls fallible (inline_from acts outer xs place before given (length calls) ss) most (length ss)

  module _ (n before action : ℕ) (inner : List Symbol) (ss : List InlinedSymbol) (names : Names) (env : List Val) (calls : List UserCall) (given : List (Spanned Value)) (done : List (List ℕ)) (v : Val) (st : IsAtCalls names env n before given done (Inlined action inner ∷ ss)) where
    abbrev row : Form
    row = inline_call g n before action (length inner)

    abbrev at : Loc × Loc
    at = inlined_span xs before (length inner) place

    abbrev ys : List (Spanned Value)
    ys = take (length inner) (drop before xs)

    abbrev acted : Acted
    acted = acts action ys at (length calls)

    abbrev after : List UserCall
    after = calls ++ map as_user acted.calls

    abbrev fails : Bool
    fails = action_fails g action

    performed : Performs p st.callable.0.number (arguments vals ys at) fails st.callable.0.extra acted most (within s env calls)
    performed = let wide = st.wide in st.callable.0.performs ys at (within s env calls) (part_many xs before (length inner) (omega (arith, wide)))

    room_here : (inlined_names names row).next + 2 ≤ length env
    room_here =
        let grow = rows_grow m (names_let names row n) (rest_of (n + 1) (before + length inner) ss) in
        let room = subst (λ (x : Names). x.next ≤ length env) (names_are names n before action inner ss) st.room in
        omega (arith, grow, room)

    call_here : EndsIn p (Eval (action_call 1 m names row)) (within s env calls) performed.steps (Giving (acted_val fails acted.result) (within s env after))
    call_here =
        let wide = st.wide in
        let shows = inner_shown is names env g refl plain_names vals xs place at n before (length inner) st.params st.seen few (omega (arith, wide)) st.spans.0 st.spans.1 in
        let moved = subst (λ q. ShowsEach names env (map (plain q) (inner_arguments g n before (length inner))) (arguments vals ys at)) (sym same) shows in
        call_ends p m names s env calls g n before action (length inner) st.callable.0.number performed.steps (Giving (acted_val fails acted.result) (within s env after)) (arguments vals ys at) st.callable.0.named moved (arguments_set vals ys at set) performed.ends

    given_so : (value : Value) (b : Bool) → acted.result ≡ Ok value → fails ≡ b → Gave p m names s env calls after row performed.steps (let r = next_after names row in let h = room_here in omega (arith, r, h)) (Plain (Parsed value))
    given_so value true result f =
        let h = subst (λ w. EndsIn p (Eval (action_call 1 m names row)) (within s env calls) performed.steps (Giving w (within s env after))) (ap (acted_val fails) result ∙ ap (λ c. acted_val c (Ok value)) f) call_here in
        gave_tried p m names s env calls after row performed.steps (let r = next_after names row in let h = room_here in omega (arith, r, h)) value (inner_tried g n before action (length inner) ∙ f) h
    given_so value false result f =
        let h = subst (λ w. EndsIn p (Eval (action_call 1 m names row)) (within s env calls) performed.steps (Giving w (within s env after))) (ap (acted_val fails) result ∙ ap (λ c. acted_val c (Ok value)) f) call_here in
        gave_plain p m names s env calls after row performed.steps (let r = next_after names row in let h = room_here in omega (arith, r, h)) (Plain (Parsed value)) (inner_tried g n before action (length inner) ∙ f) h

    -- with its value the others go on
    goes_on : CallsRun (n + 1) (before + length inner) ss → (value : Value) → acted.result ≡ Ok value
        → Runs p (Sequence (trees_of (rows_code m names (rest_of n before (Inlined action inner ∷ ss)))) v) s env calls fallible (after_calls acted.calls (inline_from acts outer xs place (before + length inner) (given ++ (at.0, value, at.1) ∷ []) (length calls + length acted.calls) ss)) most (suc (length ss))
    goes_on next value result =
        let one : Spanned Value = (at.0, value, at.1) in
        let gave = given_so value fails result refl in
        let slots = gave.slots in
        let after_env = env3 p names row n s slots after value at in
        let long : length after_env ≡ length env = long3 p names row n s slots after value at ∙ gave.many in
        let slots_room : (inlined_names names row).next + 2 ≤ length slots = (let r = room_here in let e = gave.many in omega (arith, r, e)) in
        let keep : KeepsOthers n names env (names_let names row n) after_env = λ key w other h. kept3 p names row n s slots after value at key w other (kept h gave.keeps) in
        let room = subst (λ (x : Names). x.next ≤ length env) (names_are names n before action inner ss) st.room in
        let st' = inlined_stands names (names_let names row n) env after_env n before action inner given done ss value st keep long room (temp3 p names row n s slots after value at slots_room) in
        let r = next (names_let names row n) after_env after (given ++ one ∷ []) (done ++ result_name g.prefix n ∷ []) unit st' in
        let made : length after ≡ length calls + length acted.calls = length-append calls (map as_user acted.calls) ∙ ap (λ k. length calls + k) (length-map acted.calls as_user) in
        let rest = inline_from acts outer xs place (before + length inner) (given ++ one ∷ []) (length calls + length acted.calls) ss in
        let moved : Runs p (Sequence (trees_of (rows_code m (names_let names row n) (rest_of (n + 1) (before + length inner) ss))) unit) s after_env after fallible rest most (length ss) =
        subst (λ k. Runs p (Sequence (trees_of (rows_code m (names_let names row n) (rest_of (n + 1) (before + length inner) ss))) unit) s after_env after fallible (inline_from acts outer xs place (before + length inner) (given ++ one ∷ []) k ss) most (length ss)) made r in
        let o = ended moved.returned (acted_val fallible rest.result) (within s moved.after (after ++ map as_user rest.calls)) in
        let whole = lets_run p names row n s slots after value at slots_room m {o = o} (rows_code m (names_let names row n) (rest_of (n + 1) (before + length inner) ss)) refl refl gave.ends (kept st.spans.0 gave.keeps) (kept st.spans.1 gave.keeps) moved.ends in
        let coded = subst (λ l. EndsIn p (Sequence (trees_of l) v) (within s env calls) (steps performed.steps moved.steps) o) (sym (code_is names n before action inner ss)) whole in
        let all_calls = more_calls calls acted.calls rest.calls in
        let u = ended moved.returned (acted_val fallible rest.result) (within s moved.after (calls ++ map as_user (acted.calls ++ rest.calls))) in
        let count : length (acted.calls ++ rest.calls) ≡ length acted.calls + length rest.calls = length-append acted.calls rest.calls in
        record {
          steps = steps performed.steps moved.steps;
          few = (let a = performed.few in let b = moved.few in let e = st.callable.0.small in let k = steps_are performed.steps moved.steps in let t = ap (λ c. most * c) count ∙ mul-add most (length acted.calls) (length rest.calls) in omega (arith, a, b, e, k, t));
          returned = moved.returned;
          after = moved.after;
          ends = ends_as {k = steps performed.steps moved.steps} {o = o} {u = u} coded (ap (λ c. ended moved.returned (acted_val fallible rest.result) (within s moved.after c)) all_calls);
          some = (let b = moved.some in omega (arith, b, count));
          calm = moved.calm;
        }

    -- its error ends the whole
    breaks_off : (e : Failure) → acted.result ≡ Err e → Runs p (Sequence (trees_of (rows_code m names (rest_of n before (Inlined action inner ∷ ss)))) v) s env calls fallible (record { calls = acted.calls; result = Err e }) most (suc (length ss))
    breaks_off e result =
        let can : fails ≡ true = fails_so fails e (subst (IsCalm fails) result performed.calm) in
        let h = subst (λ w. EndsIn p (Eval (action_call 1 m names row)) (within s env calls) performed.steps (Giving w (within s env after))) (ap (acted_val fails) result ∙ ap (λ c. acted_val c (Err e)) can) call_here in
        let error = wrapped tag.Failure (Plain (Failed e)) in
        let slots = slice_set env names.next (Plain Unset) in
        let returned = failed_tried p m names s env calls after row performed.steps (let r = next_after names row in let h = room_here in omega (arith, r, h)) e (inner_tried g n before action (length inner) ∙ can) h in
        let block = block_left {v = v} (apply_left returned) in
        record {
          steps = performed.steps;
          few = (let a = performed.few in let b = st.callable.0.small in omega (arith, a, b));
          returned = true;
          after = slots;
          ends = subst (λ l. EndsIn p (Sequence (trees_of l) v) (within s env calls) performed.steps (Returning (acted_val fallible (Err e)) (within s slots after))) (sym (code_is names n before action inner ss))
              (ends_as block (ap (λ w. Returning w (within s slots after)) (error_is fallible e)));
          some = performed.fails e result;
          calm = may_fail fallible fails e st.callable.1 can;
        }

    inlined_runs : CallsRun (n + 1) (before + length inner) ss → (q : Result Value Failure) → acted.result ≡ q
        → Runs p (Sequence (trees_of (rows_code m names (rest_of n before (Inlined action inner ∷ ss)))) v) s env calls fallible (with_value acted q (λ value. inline_from acts outer xs place (before + length inner) (given ++ (at.0, value, at.1) ∷ []) (length calls + length acted.calls) ss)) most (suc (length ss))
    inlined_runs next (Ok value) result = goes_on next value result
    inlined_runs next (Err e) result = breaks_off e result

  pub calls_run : (ss : List InlinedSymbol) (n before : ℕ) → CallsRun n before ss
  calls_run [] n before names env calls given done v st = last_runs names env calls n before given done v st
  calls_run (Original x ∷ ss) n before names env calls given done v st =
      let r = calls_run ss (n + inlined_count (Original x)) (before + width (Original x)) names env calls (given ++ take 1 (drop before xs)) (done ++ argument g.prefix before ∷ []) v (original_stands names env n before given done x ss st) in
      record { steps = r.steps; few = (let f = r.few in omega (arith, f)); returned = r.returned; after = r.after; ends = r.ends; some = r.some; calm = r.calm }
  calls_run (Inlined action inner ∷ ss) n before names env calls given done v st =
      inlined_runs n before action inner ss names env calls given done v st (calls_run ss (n + 1) (before + length inner)) (acts action (take (length inner) (drop before xs)) (inlined_span xs before (length inner) place) (length calls)).result refl
