-- Actions whose symbols are inlined actions: a call of the function does what the tables' action does.
use Rattle.std.proofs.Common.{◌≡◌, ℕ, zero, suc, ◌+◌, ◌-◌, ◌*◌, ◌<◌, ◌≤◌, ◌^◌, Bool, true, false, ◌&&◌, ◌||◌, List, [], ◌∷◌, ◌++◌, length, map, Some, refl, ap, sym, subst, ◌∙◌, arith, append_assoc, length-append, if◌then◌else◌}
use Rattle.std.specs.Prelude.{slice_get, codes, decimal, not, nat_lt, replicate, fold}
use Rattle.std.specs.List.{flat_map}
use Rattle.std.specs.Str.{bytes_eq}
use Rattle.std.proofs.lemmas.Bool.{lt-ltb}
use Rattle.std.proofs.Math.Nat.{add-mul, mul-le-mul_right, le-mul_of_pos_right}
use Rattle.std.proofs.lemmas.List.{length-map, length-replicate}
use Rattle.lp_repr.specs.declared.repr.ActionFnDefn.{ActionFnDefn}
use Rattle.lp_repr.specs.declared.repr.ActionFnDefnKind.TheVariants as kind
use Rattle.lp_repr.specs.declared.repr.Grammar.{Grammar}
use Rattle.lp_repr.specs.declared.repr.InlinedSymbol.{InlinedSymbol}
use Rattle.lp_repr.specs.declared.repr.InlinedSymbol.TheVariants.{Original, Inlined}
use Rattle.lp_repr.specs.declared.repr.Parameter.{Parameter}
use Rattle.lp_repr.specs.declared.values.Loc.{Loc}
use Rattle.lp_driver.specs.Values.{Spanned, Value}
use Rattle.lp_core.specs.declared.expr.Function.{Function}
use Rattle.lp_core.specs.Datum.{Unset}
use Rattle.lp_core.specs.Store.{Program, UserCall}
use Rattle.lp_core.specs.Tree.{Tree, trees_of}
use Rattle.lp_core.specs.Val.{Val, Plain}
use Rattle.lp_machine.specs.ActionMeaning.{Meaning, inline_from}
use Rattle.lp_agrees.specs.Machine.{as_user}
use Rattle.lp_actions.specs.Inlines.{total_width, outer_arguments, action_fails}
use Rattle.lp_actions.specs.Inlines as printed
use Rattle.lp_actions.specs.Parameters.{width, symbols_of, takes_any}
use Rattle.lp_table.specs.Headers.{names_of}
use Rattle.lp_view.specs.PartLists.{Form}
use Rattle.lp_maker.specs.Constructs.{function_of, one_after_another}
use Rattle.lp_maker.specs.Making.{Making, parameters}
use Rattle.lp_maker.specs.Slots.{Names, no_names}
use Rattle.lp_maker.specs.Texts.{Named}
use Rattle.lp_bodies.specs.Actions.{action_body, function_with}
use Rattle.lp_bodies.specs.Lines.{Lines}
use Rattle.lp_code_laws.specs.Ends.Ends.{Moment, moment, Eval, Enter, Sequence, Giving, EndsIn}
use Rattle.lp_code_laws.specs.Ends.Calls.{begun}
use Rattle.lp_code_laws.proofs.Ends.Blocks.{append}
use Rattle.lp_code_laws.proofs.Ends.Calls.{enter}
use Rattle.lp_code_laws.proofs.Ends.Rules.{block}
use Rattle.lp_code_laws.specs.Slots.Parameters.{bound_by, values_of}
use Rattle.lp_question_laws.specs.Tables.Acts.{acted_val, arguments, symbol_val}
use Rattle.lp_question_laws.specs.Actions.Bindings.{numbered, places, own_bindings, bindings_of}
use Rattle.lp_question_laws.specs.Actions.Callable.{Callable, AreCallable, Runs, ended}
use Rattle.lp_question_laws.specs.Actions.InlineForms.{span_forms, call_forms, inline_forms}
use Rattle.lp_question_laws.specs.Actions.Inlined.{own_words, own_values, Seen, start_name, end_name, within}
use Rattle.lp_question_laws.specs.Actions.Keys.{ShowsEach, EachName, AreOthers, mark, decimals, worded}
use Rattle.lp_question_laws.specs.Actions.Params.{AreSet}
use Rattle.lp_question_laws.specs.Actions.Performs.{Performs}
use Rattle.lp_question_laws.specs.Actions.Stands.{IsBody, HasAction}
use Rattle.lp_question_laws.proofs.Actions.InlineOuter.{outer_form}
use Rattle.lp_question_laws.proofs.Actions.InlineRows.{row_names, row_code, rows_names, rows_code, rows_grow, lines_are}
use Rattle.lp_question_laws.proofs.Actions.InlineRuns.{IsAtCalls, calls_run}
use Rattle.lp_question_laws.proofs.Actions.InlineSpans.{IsNoSpan, widths, spans_run}
use Rattle.lp_question_laws.proofs.Actions.Lookarounds.{places_apart}
use Rattle.lp_question_laws.proofs.Actions.Others.{own_others, plain_others, each_kept}
use Rattle.lp_question_laws.proofs.Actions.Shown.{AreApart, decimals_apart, numbered_words, begin_shown}
use Rattle.lp_question_laws.proofs.Actions.Users.{HasPlainTexts, head, function_there, takes_all, names_bound}

-- ---- how many arguments inlined symbols take

total_from : (n : ℕ) (ss : List InlinedSymbol) → fold (λ n s. n + width s) n ss ≡ n + widths ss
total_from n [] = omega arith
total_from n (s ∷ ss) = total_from (n + width s) ss ∙ (omega arith)

total_is : (ss : List InlinedSymbol) → total_width ss ≡ widths ss
total_is ss = total_from 0 ss ∙ (omega arith)

pub flat_many : (ss : List InlinedSymbol) → length (flat_map symbols_of ss) ≡ widths ss
flat_many [] = refl
flat_many (Original s ∷ ss) = (let r = flat_many ss in omega arith)
flat_many (Inlined action inner ∷ ss) = length-append inner (flat_map symbols_of ss) ∙ (let r = flat_many ss in omega arith)

takes_none : (ss : List InlinedSymbol) → widths ss ≡ 0 → takes_any ss ≡ false
takes_none [] h = refl
takes_none (s ∷ ss) h =
    let none : width s ≡ 0 = omega (arith, h) in
    ap (λ k. nat_lt 0 k || takes_any ss) none ∙ takes_none ss (omega (arith, h))

takes_some : (ss : List InlinedSymbol) → 0 < widths ss → takes_any ss ≡ true
takes_some [] h = absurd (omega arith)
takes_some (s ∷ ss) h = by (width s) refl (takes_some ss)
  where
    by : (w : ℕ) → width s ≡ w → (0 < widths ss → takes_any ss ≡ true) → (nat_lt 0 (width s) || takes_any ss) ≡ true
    by zero e rest = ap (λ k. nat_lt 0 k || takes_any ss) e ∙ rest (omega (arith, h, e))
    by (suc w) e rest = ap (λ k. nat_lt 0 k || takes_any ss) e ∙ ap (λ b. b || takes_any ss) (lt-ltb 0 (suc w) (omega arith))

decimals_same : {A B : Type 0} (n : ℕ) (xs : List A) (ys : List B) → length xs ≡ length ys → decimals n xs ≡ decimals n ys
decimals_same n [] [] h = refl
decimals_same n [] (y ∷ ys) h = absurd (omega arith)
decimals_same n (x ∷ xs) [] h = absurd (omega arith)
decimals_same n (x ∷ xs) (y ∷ ys) h = ap (λ l. decimal n ∷ l) (decimals_same (n + 1) xs ys (omega arith))

-- its own parameters are named by its arguments
own_worded : (prefix : List ℕ) (outer : ℕ) (ss : List InlinedSymbol) (xs : List (Spanned Value)) → length xs ≡ widths ss → own_bindings prefix (kind.Inline outer ss) ≡ worded prefix (own_words xs)
own_worded prefix outer ss [] many = ap (λ b. if b then numbered prefix 0 (flat_map symbols_of ss) else places prefix) (takes_none ss (omega arith))
own_worded prefix outer ss (x ∷ xs) many =
    ap (λ b. if b then numbered prefix 0 (flat_map symbols_of ss) else places prefix) (takes_some ss (omega arith))
    ∙ numbered_words prefix 0 (flat_map symbols_of ss)
    ∙ ap (worded prefix) (decimals_same 0 (flat_map symbols_of ss) (x ∷ xs) (flat_many ss ∙ sym many))

words_apart : (xs : List (Spanned Value)) → length xs < 2 ^ 64 → AreApart (own_words xs)
words_apart [] few = places_apart
words_apart (x ∷ xs) few = decimals_apart 0 (x ∷ xs) (omega arith)

decimals_many : {A : Type 0} (n : ℕ) (xs : List A) → length (decimals n xs) ≡ length xs
decimals_many n [] = refl
decimals_many n (x ∷ xs) = ap suc (decimals_many (n + 1) xs)

words_many : (xs : List (Spanned Value)) (place : Loc × Loc) → length (own_words xs) ≡ length (own_values xs place)
words_many [] place = refl
words_many (x ∷ xs) place = decimals_many 0 (x ∷ xs) ∙ sym (length-map (x ∷ xs) symbol_val)

worded_many : (prefix : List ℕ) (words : List (List ℕ)) → values_of (worded prefix words) ≡ length words
worded_many prefix [] = refl
worded_many prefix (w ∷ words) = ap suc (worded_many prefix words)

arguments_are : (vs : List Val) (xs : List (Spanned Value)) (place : Loc × Loc) → arguments vs xs place ≡ vs ++ own_values xs place
arguments_are vs [] place = refl
arguments_are vs (x ∷ xs) place = refl

-- ---- rows one after another

module _ (m : Making) where
  names-append : (names : Names) (a b : List Form) → rows_names m names (a ++ b) ≡ rows_names m (rows_names m names a) b
  names-append names [] b = refl
  names-append names (row ∷ a) b = names-append (row_names m names row) a b

  code-append : (names : Names) (a b : List Form) → rows_code m names (a ++ b) ≡ rows_code m names a ++ rows_code m (rows_names m names a) b
  code-append names [] b = refl
  code-append names (row ∷ a) b =
      ap (λ l. row_code m names row ++ l) (code-append (row_names m names row) a b)
      ∙ sym (append_assoc (row_code m names row) (rows_code m (row_names m names row) a) (rows_code m (rows_names m (row_names m names row) a) b))

-- names that differ from all of some names
each_swap : (P : ℕ → List ℕ → Type 0) (ks : List (List ℕ)) → ((k : ℕ) → k < 2 ^ 64 → EachName (P k) ks) → EachName (λ key. (k : ℕ) → k < 2 ^ 64 → P k key) ks
each_swap P [] h = tt
each_swap P (key ∷ ks) h = (λ k less. (h k less).0, each_swap P ks (λ k less. (h k less).1))

each_weaker : (P Q : List ℕ → Type 0) (ks : List (List ℕ)) → ((k : List ℕ) → P k → Q k) → EachName P ks → EachName Q ks
each_weaker P Q [] f h = tt
each_weaker P Q (k ∷ ks) f h = (f k h.0, each_weaker P Q ks f h.1)

each_both : (P Q : List ℕ → Type 0) (ks : List (List ℕ)) → EachName P ks → EachName Q ks → EachName (λ k. P k × Q k) ks
each_both P Q [] h g = tt
each_both P Q (k ∷ ks) h g = ((h.0, g.0), each_both P Q ks h.1 g.1)

no_spans : (ks : List (List ℕ)) → ((k : ℕ) → k < 2 ^ 64 → AreOthers (start_name k) ks) → ((k : ℕ) → k < 2 ^ 64 → AreOthers (end_name k) ks) → EachName (IsNoSpan 0) ks
no_spans ks starts ends =
    let both = each_swap (λ k key. (bytes_eq (start_name k) key ≡ false) × (bytes_eq (end_name k) key ≡ false)) ks (λ k less. each_both (λ key. bytes_eq (start_name k) key ≡ false) (λ key. bytes_eq (end_name k) key ≡ false) ks (starts k less) (ends k less)) in
    each_weaker (λ key. (k : ℕ) → k < 2 ^ 64 → (bytes_eq (start_name k) key ≡ false) × (bytes_eq (end_name k) key ≡ false)) (IsNoSpan 0) ks (λ key h k low less. h k less) both

-- ---- the whole function

-- a call whose body ends over some slots
enter_ended : (p : Program) (f k : ℕ) (fn : Function) (vs : List Val) (at : Moment) (b : Bool) (v : Val) (after : List Val) (calls : List UserCall) → slice_get p.functions f ≡ Some fn → fn.params ≡ length vs
    → EndsIn p (Eval fn.body) (begun fn vs at) k (ended b v (within at.store after calls)) → EndsIn p (Enter f vs) at (suc k) (Giving v (moment at.store calls))
enter_ended p f k fn vs at true v after calls there many h = enter there many h refl
enter_ended p f k fn vs at false v after calls there many h = enter there many h refl

-- one step more, and one for each symbol, is within a wider bound where there is a call
within_bound : (most wider steps calls symbols : ℕ) → steps ≤ most * calls + symbols → 1 ≤ calls → most + (1 + symbols) ≤ wider → suc steps ≤ wider * calls + 0
within_bound most wider steps calls symbols few some le =
    let a = mul-le-mul_right calls le in
    let b = add-mul most (1 + symbols) calls in
    let c = le-mul_of_pos_right (1 + symbols) some in
    omega (arith, few, a, b, c)

module _ (p : Program) (g : Grammar) (names : List (List ℕ × ℕ)) (n : ℕ) (a : ActionFnDefn) (has : HasAction p g names n a) (texts : HasPlainTexts g a) (outer : ℕ) (symbols : List InlinedSymbol) (is : a.kind ≡ kind.Inline outer symbols) where
  abbrev own : Names
  own = parameters g.prefix (head p g names n a has texts)

  abbrev m : Making
  m = has.maker

  abbrev forms : List Form
  forms = inline_forms g a.fallible outer symbols

  abbrev code : List Tree
  code = rows_code m own forms

  abbrev later : Names
  later = rows_names m own forms

  inline_there : slice_get p.functions has.number ≡ Some (function_of own.next later (one_after_another code))
  inline_there =
      let body_is : has.is.body ≡ printed.inline_lines g a.fallible outer symbols = subst (λ k. IsBody g a.fallible k has.is.body) is has.is.is_body in
      function_there p g names n a has texts
      ∙ ap (λ b. Some (function_with own.next (action_body m (head p g names n a has texts) own b))) body_is
      ∙ ap (λ (l : Lines). Some (function_of own.next l.names (one_after_another l.parts))) (lines_are m g own a.fallible outer symbols)

  module _ (xs : List (Spanned Value)) (place : Loc × Loc) (many : length xs ≡ widths symbols) (few : length xs < 2 ^ 64) (held : List ℕ → Val) (rest : List Val) where
    abbrev vals : List Val
    vals = map held (names_of g)

    abbrev env0 : List Val
    env0 = arguments vals xs place ++ rest

    own_is : own ≡ bound_by g.prefix no_names (map Named (names_of g) ++ worded g.prefix (own_words xs))
    own_is = names_bound g n a texts ∙ ap (λ k. bound_by g.prefix no_names (bindings_of g k)) is ∙ ap (λ bs. bound_by g.prefix no_names (map Named (names_of g) ++ bs)) (own_worded g.prefix outer symbols xs many)

    -- where the body begins
    begin : ShowsEach own env0 (names_of g) vals × Seen own env0 xs place
    begin =
        let slots : vals ++ (own_values xs place ++ rest) ≡ env0 = sym (append_assoc vals (own_values xs place) rest) ∙ ap (λ l. l ++ rest) (sym (arguments_are vals xs place)) in
        subst (λ e. ShowsEach own e (names_of g) vals × Seen own e xs place) slots
        (subst (λ x. ShowsEach x (vals ++ (own_values xs place ++ rest)) (names_of g) vals × Seen x (vals ++ (own_values xs place ++ rest)) xs place) (sym own_is)
        (begin_shown texts.prefix held g.parameters (own_words xs) (own_values xs place) rest texts.names (words_apart xs few) (words_many xs place)))

    abbrev spans : List Form
    spans = span_forms g.prefix (length xs) 0 0 symbols

    abbrev calls_forms : List Form
    calls_forms = call_forms g 0 0 symbols ++ outer_form g (a.fallible && not (action_fails g outer)) outer (outer_arguments g symbols) ∷ []

    forms_are : forms ≡ spans ++ calls_forms
    forms_are = ap (λ t. span_forms g.prefix t 0 0 symbols ++ calls_forms) (total_is symbols ∙ sym many)

    module _ (acts : Meaning) (most : ℕ) (at : Moment) (set : AreSet vals) (callable : AreCallable p m g vals acts most a.fallible symbols) (outermost : (c : Callable p m g vals acts most outer (length symbols)) × (c.extra ≡ 0)) (may : a.fallible ≡ false → action_fails g outer ≡ false) (some : 0 < length symbols) (small : length symbols < 2 ^ 64)
        (room : later.next ≤ length env0) where
      body_runs : Runs p (Sequence (trees_of code) (Plain Unset)) at.store env0 at.calls a.fallible (inline_from acts outer xs place 0 [] (length at.calls) symbols) most (length symbols)
      body_runs =
          let later_is : later ≡ rows_names m (rows_names m own spans) calls_forms = ap (rows_names m own) forms_are ∙ names-append m own spans calls_forms in
          let code_is : code ≡ rows_code m own spans ++ rows_code m (rows_names m own spans) calls_forms = ap (rows_code m own) forms_are ∙ code-append m own spans calls_forms in
          let grow = rows_grow m (rows_names m own spans) calls_forms in
          let room_all : (rows_names m (rows_names m own spans) calls_forms).next ≤ length env0 = subst (λ (x : Names). x.next ≤ length env0) later_is room in
          let sp = spans_run p texts.prefix m has.prefix at.store at.calls xs place few symbols own env0 0 0 (Plain Unset) (omega (arith, grow, room_all)) begin.1 (omega (arith, many)) (omega (arith, small)) in
          let params_names = no_spans (names_of g) (λ k less. plain_others g.prefix (codes "start" ++ decimal k) g.parameters texts.names) (λ k less. plain_others g.prefix (codes "end" ++ decimal k) g.parameters texts.names) in
          let own_names = no_spans (map mark (own_words xs)) (λ k less. own_others 115 (codes "tart" ++ decimal k) xs (omega arith) few refl refl) (λ k less. own_others 101 (codes "nd" ++ decimal k) xs (omega arith) few refl refl) in
          let stands : IsAtCalls p m g texts.prefix has.prefix texts.names at.store vals set xs place few acts most a.fallible outer may (outer_arguments g symbols) (rows_names m own spans) sp.after 0 0 [] [] symbols = record {
            callable = callable;
            outermost = subst (λ k. (c : Callable p m g vals acts most outer k) × (c.extra ≡ 0)) (let z : length symbols ≡ 0 + length symbols = omega arith in z) outermost;
            room = (let l = sp.many in omega (arith, room_all, l));
            params = each_kept own (rows_names m own spans) env0 sp.after (names_of g) vals (IsNoSpan 0) sp.kept params_names begin.0;
            seen = each_kept own (rows_names m own spans) env0 sp.after (map mark (own_words xs)) (own_values xs place) (IsNoSpan 0) sp.kept own_names begin.1;
            spans = sp.spans;
            shown = tt;
            others = λ k low less. tt;
            all = refl;
            wide = omega (arith, many);
            small = omega (arith, small);
            some = omega (arith, some);
          } in
          let r = calls_run p m g texts.prefix has.prefix texts.names at.store vals set xs place few acts most a.fallible outer may (outer_arguments g symbols) symbols 0 0 (rows_names m own spans) sp.after at.calls [] [] sp.value stands in
          let acted = inline_from acts outer xs place 0 [] (length at.calls) symbols in
          let o = ended r.returned (acted_val a.fallible acted.result) (within at.store r.after (at.calls ++ map as_user acted.calls)) in
          record {
            steps = r.steps;
            few = r.few;
            returned = r.returned;
            after = r.after;
            ends = subst (λ l. EndsIn p (Sequence (trees_of l) (Plain Unset)) (within at.store env0 at.calls) r.steps o) (sym code_is)
                (append (rows_code m own spans) (rows_code m (rows_names m own spans) calls_forms) {k = r.steps} {o = o} sp.ends r.ends);
            some = r.some;
            calm = r.calm;
          }

  own_many : (xs : List (Spanned Value)) → length xs ≡ widths symbols → (length xs ≡ 0 → values_of (own_bindings g.prefix a.kind) ≡ 2) × (0 < length xs → values_of (own_bindings g.prefix a.kind) ≡ length xs)
  own_many xs many =
      let e : values_of (own_bindings g.prefix a.kind) ≡ length (own_words xs) = ap (λ k. values_of (own_bindings g.prefix k)) is ∙ ap values_of (own_worded g.prefix outer symbols xs many) ∙ worded_many g.prefix (own_words xs) in
      (λ none. e ∙ none_two xs none, λ some. e ∙ some_many xs some)
    where
      none_two : (ys : List (Spanned Value)) → length ys ≡ 0 → length (own_words ys) ≡ 2
      none_two [] h = refl
      none_two (y ∷ ys) h = absurd (omega arith)

      some_many : (ys : List (Spanned Value)) → 0 < length ys → length (own_words ys) ≡ length ys
      some_many [] h = absurd (omega arith)
      some_many (y ∷ ys) h = decimals_many 0 (y ∷ ys)

  -- a call of its function does what the tables' inlined action does
  pub inline_performs : (xs : List (Spanned Value)) (place : Loc × Loc) (at : Moment) (held : List ℕ → Val) (acts : Meaning) (most wider : ℕ) → length xs ≡ widths symbols → length xs < 2 ^ 64 → AreSet (map held (names_of g))
      → AreCallable p m g (map held (names_of g)) acts most a.fallible symbols → (c : Callable p m g (map held (names_of g)) acts most outer (length symbols)) × (c.extra ≡ 0) → (a.fallible ≡ false → action_fails g outer ≡ false) → 0 < length symbols → length symbols < 2 ^ 64 → most + (1 + length symbols) ≤ wider
      → Performs p has.number (arguments (map held (names_of g)) xs place) a.fallible 0 (inline_from acts outer xs place 0 [] (length at.calls) symbols) wider at
  inline_performs xs place at held acts most wider many few set callable outermost may some small le =
      let vals = map held (names_of g) in
      let rest = replicate (later.next - own.next) (Plain Unset) in
      let params : length vals ≡ length g.parameters = length-map (names_of g) held ∙ length-map g.parameters (λ (q : Parameter). q.name) in
      let all : own.next ≡ length (arguments vals xs place) = takes_all p g names n a has texts vals [] xs place params (own_many xs many).0 (own_many xs many).1 in
      let long : length (arguments vals xs place ++ rest) ≡ length (arguments vals xs place) + (later.next - own.next) = length-append (arguments vals xs place) rest ∙ ap (λ k. length (arguments vals xs place) + k) (length-replicate (later.next - own.next) (Plain Unset)) in
      let grow = rows_grow m own forms in
      let r = body_runs xs place many few held rest acts most at set callable outermost may some small (omega (arith, all, long, grow)) in
      let acted = inline_from acts outer xs place 0 [] (length at.calls) symbols in
      let calls = at.calls ++ map as_user acted.calls in
      record {
        steps = suc r.steps;
        few = within_bound most wider r.steps (length acted.calls) (length symbols) r.few r.some le;
        ends = enter_ended p has.number r.steps (function_of own.next later (one_after_another code)) (arguments vals xs place) at r.returned (acted_val a.fallible acted.result) r.after calls inline_there all (block {k = r.steps} {o = ended r.returned (acted_val a.fallible acted.result) (within at.store r.after calls)} r.ends);
        calls = (let c = r.some in omega (arith, c));
        fails = λ e h. r.some;
        calm = r.calm;
      }
