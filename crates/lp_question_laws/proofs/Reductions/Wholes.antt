-- What all the lines of a reduction do.
use Rattle.std.proofs.Common.{◌≡◌, ℕ, zero, suc, ◌+◌, ◌*◌, ◌-◌, ◌<◌, ◌≤◌, ◌^◌, ℤ, Bool, true, false, if◌then◌else◌, List, [], ◌∷◌, ◌++◌, length, map, Option, Some, refl, sym, ap, subst, ◌∙◌, arith, codes, decimal, append_assoc, append-nil, length-append}
use Rattle.std.specs.Prelude.{slice_get, nat_lt, nat_le}
use Rattle.std.proofs.lemmas.Bool.{le-leb}
use Rattle.std.proofs.lemmas.List.{length-map}
use Rattle.std.proofs.lemmas.Option.{slice_get-map}
use Rattle.std.specs.Option.{option_map, unwrap_or}
use Rattle.lp_repr.specs.declared.values.Loc.{Loc}
use Rattle.lp_driver.specs.DriverState.{last_of}
use Rattle.lp_driver.specs.RecoveryTurns.{end_or}
use Rattle.lp_driver.specs.Values.{Spanned, Value}
use Rattle.lp_core.specs.declared.value.Tag.TheVariants as tag
use Rattle.lp_core.specs.declared.expr.Op.TheVariants as op
use Rattle.lp_core.specs.declared.expr.Join.TheVariants as join
use Rattle.lp_core.specs.Datum.{Cell}
use Rattle.lp_core.specs.Numbers.{truth}
use Rattle.lp_core.specs.Reading.{location}
use Rattle.lp_core.specs.Effect.{unit, did}
use Rattle.lp_core.specs.Store.{Program, UserCall}
use Rattle.lp_core.specs.Tree.{Tree, Apply}
use Rattle.lp_core.specs.Val.{Val, Plain}
use Rattle.lp_form.specs.declared.part.Part.TheVariants as part
use Rattle.lp_tree.specs.ProgramTree.{leaf}
use Rattle.lp_view.specs.PartLists.{Form, over}
use Rattle.lp_maker.specs.Slots.{Names}
use Rattle.lp_maker.specs.Numbers.{number_of}
use Rattle.lp_maker.specs.Making.{Making, number_in, variant_tag}
use Rattle.lp_maker.specs.Constructs.{one_after_another}
use Rattle.lp_maker.specs.Constructs as maker
use Rattle.lp_bodies.specs.Lines.{Lines, lines_of}
use Rattle.lp_bodies.specs.Reductions.{Work, work_of, reduce_line, symbols, last_end_number, last_end_function, part_function}
use Rattle.lp_machine.specs.declared.calls.Acted.{Acted}
use Rattle.lp_machine.specs.ReductionSpan as machine
use Rattle.lp_agrees.specs.Machine.{as_user}
use Rattle.lp_code_laws.specs.Ends.Ends.{Moment, Eval, Giving, EndsIn}
use Rattle.lp_code_laws.proofs.Ends.Rules.{plain, apply_to, argument, call}
use Rattle.lp_code_laws.proofs.Ends.Calls.{joined}
use Rattle.lp_code_laws.proofs.Ends.Cells.{length_symbols}
use Rattle.lp_code_laws.specs.Slots.Shows.{Shows}
use Rattle.lp_code_laws.proofs.Slots.Slots.{get_within}
use Rattle.lp_code_laws.specs.Printed.Ran.{Ran}
use Rattle.lp_code_laws.proofs.Printed.Lines.{no_lines, ran_part, read_shown}
use Rattle.lp_question_laws.proofs.Gotos.GotoCode.{over-append}
use Rattle.lp_question_laws.proofs.Gotos.Digits.{number_of_decimal}
use Rattle.lp_question_laws.specs.Tables.Acts.{Acts, symbol_val, arguments}
use Rattle.lp_question_laws.specs.Reductions.Outer.{Lasts}
use Rattle.lp_question_laws.specs.Reductions.Stacks.{over_two, Symbol, on_stack}
use Rattle.lp_question_laws.specs.Reductions.Lined.{Lined}
use Rattle.lp_question_laws.specs.Reductions.Arguments.{ShowAll, names_in}
use Rattle.lp_question_laws.specs.Reductions.Outcomes.{Ended}
use Rattle.lp_question_laws.proofs.Reductions.Lasting.{lasts_all}
use Rattle.lp_question_laws.proofs.Reductions.Popping.{pop_form, pop_forms, AllPop, all_popped}
use Rattle.lp_question_laws.proofs.Reductions.Spans.{start_val, span_form, Placed, popped_lined, popped_placed, empty_placed}
use Rattle.lp_question_laws.proofs.Reductions.Arguments.{show_append}
use Rattle.lp_question_laws.proofs.Reductions.Keys.{argument_keys, symbols_shown, AllOuter, show_lasting}
use Rattle.lp_question_laws.proofs.Reductions.Bodies.{Gives, call_slots, Line, last_forms, last_ends}

-- several symbols are counted first
abbrev pub assert_forms : Bool → ℕ → List Form
assert_forms b n = if b then leaf part.AssertLine (decimal n ∷ []) ∷ [] else []

abbrev pub span_forms : ℕ → List Form
span_forms zero = leaf part.SpanEmpty [] ∷ []
span_forms (suc n) = span_form n ∷ []

-- how many slots a span takes, and all of a body
abbrev pub span_slots : ℕ → ℕ
span_slots zero = 3
span_slots (suc n) = 2

abbrev pub body_slots : ℕ → Bool → ℕ
body_slots n fallible = n + (span_slots n + call_slots fallible)

abbrev pub body_forms : List Symbol → Line → List Form
body_forms xs r = assert_forms (nat_lt 1 (length xs)) (length xs) ++ (pop_forms 0 xs ++ (span_forms (length xs) ++ last_forms r))

-- ---- the count of symbols

-- some lines make nothing and bind no name
record Quiet (p : Program) (made : Making) (names : Names) (m : Moment) (w : Work) : Type 0 where
  parts : List Tree
  same : w ≡ work_of (lines_of names parts) made
  ran : Ran p (lines_of names parts) m 0 m

module _ (p : Program) (made : Making) (names : Names) (env : List Val) (taken : ℕ) (calls : List UserCall) (ss : List ℤ) (l : List (Spanned Val)) (list : Shows names env (codes "~symbols") (Plain (Cell 1))) (n : ℕ) (enough : n ≤ length l) (small : n < 2 ^ 64) where
  counted : EndsIn p (Eval (Apply op.Assert (maker.joined join.AtLeast (Apply op.Length (symbols names) ∷ maker.index (number_of (decimal n)) ∷ [])))) (over_two env taken calls ss l) 0 (Giving unit (over_two env taken calls ss l))
  counted =
      subst (λ o. EndsIn p (Eval (Apply op.Assert (maker.joined join.AtLeast (Apply op.Length (symbols names) ∷ maker.index o ∷ [])))) (over_two env taken calls ss l) 0 (Giving unit (over_two env taken calls ss l))) (sym (number_of_decimal n small))
      (apply_to (call (argument (apply_to (read_shown list refl) (length_symbols p 1 (over_two env taken calls ss l).store l refl)) (argument (plain refl) (joined {v = truth (nat_le n (length l))} refl refl)))) (ap (λ b. did b (over_two env taken calls ss l).store) (le-leb n (length l) enough)))

  asserted : (b : Bool) → Quiet p made names (over_two env taken calls ss l) (over reduce_line (work_of (lines_of names []) made) (assert_forms b n))
  asserted true = record { parts = _; same = refl; ran = ran_part (lines_of names []) (no_lines names (over_two env taken calls ss l)) counted }
  asserted false = record { parts = []; same = refl; ran = no_lines names (over_two env taken calls ss l) }

-- ---- the body

-- the functions for the end of the last symbol are there, where there is no symbol
pub record HasEnd (p : Program) (made : Making) : Type 0 where
  pub part : slice_get p.functions (length made.functions) ≡ Some (part_function 2)
  pub last : slice_get p.functions (last_end_number made) ≡ Some (last_end_function (length made.functions))

abbrev pub EndFor : Program → Making → List Symbol → Type 0
EndFor p made [] = HasEnd p made
EndFor p made (x ∷ xs) = Unit {0}

-- what is seen where a body begins
pub record Seen (names : Names) (env : List Val) (start : Option Loc) (keys : List (List ℕ)) (params : List Val) : Type 0 where
  pub list : Shows names env (codes "~symbols") (Plain (Cell 1))
  pub lookahead : Shows names env (codes "~lookahead_start") (start_val start)
  pub handed : ShowAll names env keys params
  pub outer : AllOuter keys

abbrev pub items_of : List Symbol → List (Spanned Value)
items_of xs = map (λ x. x.item) xs

-- where it stands
abbrev pub place_of : List (Spanned Val) → Option Loc → List Symbol → Loc × Loc
place_of l start xs = machine.span (items_of xs) (machine.empty_place start l)

last_there : (x : Symbol) (xs : List Symbol) → (b : Symbol) × (slice_get (x ∷ xs) (length xs) ≡ Some b)
last_there x xs = get_within (x ∷ xs) (length xs) (omega arith)

-- the place of several is that of the first and the last
several_placed : (l : List (Spanned Val)) (start : Option Loc) (x : Symbol) (xs : List Symbol) (b : Symbol) → slice_get (x ∷ xs) (length xs) ≡ Some b → place_of l start (x ∷ xs) ≡ (x.item.0, b.item.2)
several_placed l start x xs b at =
    let e = machine.empty_place start l in
    let many : length (items_of (x ∷ xs)) - 1 ≡ length xs = omega (arith, length-map (x ∷ xs) (λ (y : Symbol). y.item)) in
    let last : last_of (items_of (x ∷ xs)) ≡ Some b.item = ap (slice_get (items_of (x ∷ xs))) many ∙ slice_get-map (λ (y : Symbol). y.item) (x ∷ xs) (length xs) ∙ ap (option_map (λ (y : Symbol). y.item)) at in
    ap (λ o. (x.item.0, end_or o e)) last

module _ (p : Program) (made : Making) (names : Names) (env : List Val) (taken : ℕ) (calls : List UserCall) (ss : List ℤ) (l : List (Spanned Val)) (start : Option Loc) (keys : List (List ℕ)) (params : List Val) (seen : Seen names env start keys params) where
  -- the lines up to the place
  pub record Begun (m : Moment) (xs : List Symbol) (w : Work) : Type 0 where
    pub placed : Placed p names env m taken ss l calls (length xs + 2) (length xs + span_slots (length xs)) xs (place_of l start xs) w.lines
    pub named : w.made.names ≡ made.names
    pub variants : w.made.variants ≡ made.variants
    pub prefix : w.made.prefix ≡ made.prefix

  pub all_begun : (xs : List Symbol) → AllPop p made xs → EndFor p made xs → names.next + (length xs + span_slots (length xs)) ≤ length env → length xs < 2 ^ 64 → (lines : Lines) → lines.names ≡ names → (m : Moment) → Ran p lines m 0 (over_two env taken calls ss (l ++ map on_stack xs))
      → Begun m xs (over reduce_line (work_of lines made) (pop_forms 0 xs ++ span_forms (length xs)))
  all_begun [] can end fits small lines same m ran =
      let list : Shows lines.names env (codes "~symbols") (Plain (Cell 1)) = subst (λ (n : Names). Shows n env (codes "~symbols") (Plain (Cell 1))) (sym same) seen.list in
      let ahead : Shows lines.names env (codes "~lookahead_start") (start_val start) = subst (λ (n : Names). Shows n env (codes "~lookahead_start") (start_val start)) (sym same) seen.lookahead in
      let lined : Lined p names env m taken ss l calls 0 0 env lines = record {
        count = 0;
        ran = subst (λ (y : List (Spanned Val)). Ran p lines m 0 (over_two env taken calls ss y)) (append-nil l) ran;
        few = omega arith;
        next = ap (λ (n : Names). n.next) same ∙ (omega arith);
        size = refl;
        lasts = subst (λ (n : Names). Lasts names env n env) (sym same) (lasts_all names env);
      } in
      let placed = empty_placed lined made (length made.functions) end.last end.part list start ahead fits in
      record { placed = placed; named = refl; variants = refl; prefix = refl }
  all_begun (x ∷ xs) can end fits small lines same m ran =
      let list : Shows lines.names env (codes "~symbols") (Plain (Cell 1)) = subst (λ (n : Names). Shows n env (codes "~symbols") (Plain (Cell 1))) (sym same) seen.list in
      let next : lines.names.next ≡ names.next = ap (λ (n : Names). n.next) same in
      let h = all_popped p made taken calls ss lines env m 0 list (x ∷ xs) 0 l can ran (record { room = omega (arith, fits, next) }) (omega arith) in
      let w = over reduce_line (work_of lines made) (pop_forms 0 (x ∷ xs)) in
      let b = last_there x xs in
      let put = popped_placed (popped_lined h) (x ∷ xs) h.shown x b.0 (length xs) refl b.1 (omega (arith, fits, next)) in
      let moved : Placed p names env m taken ss l calls (length (x ∷ xs) + 2) (length (x ∷ xs) + 2) (x ∷ xs) (x.item.0, (b.0).item.2) (reduce_line w (span_form (length xs))).lines =
      subst (λ (n : Names). Placed p n env m taken ss l calls (length (x ∷ xs) + 2) (length (x ∷ xs) + 2) (x ∷ xs) (x.item.0, (b.0).item.2) (reduce_line w (span_form (length xs))).lines) same (record {
        now = put.now;
        lined = record { count = put.lined.count; ran = put.lined.ran; few = omega (arith, put.lined.few); next = put.lined.next; size = put.lined.size; lasts = put.lined.lasts };
        from = put.from;
        to = put.to;
        shown = put.shown;
      }) in
      let there : Placed p names env m taken ss l calls (length (x ∷ xs) + 2) (length (x ∷ xs) + 2) (x ∷ xs) (place_of l start (x ∷ xs)) (reduce_line w (span_form (length xs))).lines =
      subst (λ at. Placed p names env m taken ss l calls (length (x ∷ xs) + 2) (length (x ∷ xs) + 2) (x ∷ xs) at (reduce_line w (span_form (length xs))).lines) (sym (several_placed l start x xs b.0 b.1)) moved in
      subst (Begun m (x ∷ xs)) (sym (over-append reduce_line (work_of lines made) (pop_forms 0 (x ∷ xs)) (span_form (length xs) ∷ [])))
      (record { placed = there; named = ap (λ (y : Making). y.names) h.made_same; variants = ap (λ (y : Making). y.variants) h.made_same; prefix = ap (λ (y : Making). y.prefix) h.made_same })

  -- the arguments of the call
  arguments_shown : (xs : List Symbol) (m : Moment) (w : Work) (h : Begun m xs w) → ShowAll w.lines.names h.placed.now (keys ++ argument_keys (length xs)) (arguments params (items_of xs) (place_of l start xs))
  arguments_shown [] m w h =
      show_append w.lines.names h.placed.now keys (argument_keys 0) params (location (place_of l start []).0 ∷ location (place_of l start []).1 ∷ []) (show_lasting keys params seen.outer h.placed.lined.lasts seen.handed) (h.placed.from, refl, (h.placed.to, refl, tt))
  arguments_shown (x ∷ xs) m w h =
      show_append w.lines.names h.placed.now keys (argument_keys (length (x ∷ xs))) params (map symbol_val (items_of (x ∷ xs))) (show_lasting keys params seen.outer h.placed.lined.lasts seen.handed)
      (symbols_shown w.lines.names h.placed.now 0 (x ∷ xs) h.placed.shown)

  module _ (xs : List Symbol) (r : Line) (f cost : ℕ) (acted : Acted) (named : number_in (codes "super::action" ++ decimal r.action) made.names ≡ Some f) (keys_are : names_in made.prefix r.args ≡ keys ++ argument_keys (length xs)) (variant : ℕ) (tagged : variant_tag r.name made ≡ tag.Variant variant) (gives : Gives r.fallible acted)
      (acts : (now : List Val) → Acts p f (arguments params (items_of xs) (place_of l start xs)) r.fallible acted cost (over_two now taken calls ss l)) (can : AllPop p made xs) (end : EndFor p made xs) (fits : names.next + body_slots (length xs) r.fallible ≤ length env) (small : length xs < 2 ^ 64) (counts : r.count < 2 ^ 64) (few : r.nonterminal < 2 ^ 64) where
    abbrev whole : List (Spanned Val)
    whole = l ++ map on_stack xs

    abbrev Whole : List Form → Type 0
    Whole forms = Ended p (one_after_another (over reduce_line (work_of (lines_of names []) made) forms).lines.parts) (over_two env taken calls ss whole) names.next env taken ss l (calls ++ map as_user acted.calls) (length xs + 2 + cost * (length acted.calls + 1)) r.starts acted.result variant r.count r.nonterminal (place_of l start xs)

    finished : (w : Work) → Begun (over_two env taken calls ss whole) xs w → Ended p (one_after_another (over reduce_line w (last_forms r)).lines.parts) (over_two env taken calls ss whole) names.next env taken ss l (calls ++ map as_user acted.calls) (length xs + 2 + cost * (length acted.calls + 1)) r.starts acted.result variant r.count r.nonterminal (place_of l start xs)
    finished w h =
        let a = acts h.placed.now in
        let shown = subst (λ qs. ShowAll w.lines.names h.placed.now qs (arguments params (items_of xs) (place_of l start xs))) (sym (ap (λ q. names_in q r.args) h.prefix ∙ keys_are)) (arguments_shown xs (over_two env taken calls ss whole) w h) in
        let e = last_ends w.made f cost acted r.action r.generics r.args (ap (number_in (codes "super::action" ++ decimal r.action)) h.named ∙ named) h.placed seen.list (arguments params (items_of xs) (place_of l start xs)) shown r.name r.count r.nonterminal variant (tag_kept w.made made r.name h.variants ∙ tagged) counts few r.fallible r.starts gives a (omega (arith, fits)) in
        record { now = e.now; many = e.many; few = omega (arith, e.few, a.few); keeps = e.keeps; ends = e.ends }
      where
        tag_kept : (m n : Making) (name : List ℕ) → m.variants ≡ n.variants → variant_tag name m ≡ variant_tag name n
        tag_kept m n name same = ap (λ (vs : List (List ℕ × ℕ)). tag.Variant (unwrap_or (number_in name vs) (length vs))) same

    pub body_ends : Whole (body_forms xs r)
    body_ends =
        let forms = pop_forms 0 xs ++ span_forms (length xs) in
        let b = nat_lt 1 (length xs) in
        let list = seen.list in
        let q : Quiet p made names (over_two env taken calls ss whole) (over reduce_line (work_of (lines_of names []) made) (assert_forms b (length xs))) = asserted p made names env taken calls ss whole list (length xs) (omega (arith, length-append l (map on_stack xs), length-map xs on_stack)) small b in
        let g : Begun (over_two env taken calls ss whole) xs (over reduce_line (work_of (lines_of names q.parts) made) forms) = all_begun xs can end (omega (arith, fits)) small (lines_of names q.parts) refl (over_two env taken calls ss whole) q.ran in
        let done = finished (over reduce_line (work_of (lines_of names q.parts) made) forms) g in
        let moved : over reduce_line (work_of (lines_of names []) made) (body_forms xs r) ≡ over reduce_line (over reduce_line (work_of (lines_of names q.parts) made) forms) (last_forms r) =
        over-append reduce_line (work_of (lines_of names []) made) (assert_forms b (length xs)) (pop_forms 0 xs ++ (span_forms (length xs) ++ last_forms r))
        ∙ ap (λ w. over reduce_line w (pop_forms 0 xs ++ (span_forms (length xs) ++ last_forms r))) q.same
        ∙ ap (λ (fs : List Form). over reduce_line (work_of (lines_of names q.parts) made) fs) (sym (append_assoc (pop_forms 0 xs) (span_forms (length xs)) (last_forms r)))
        ∙ over-append reduce_line (work_of (lines_of names q.parts) made) forms (last_forms r) in
        subst (λ (w : Work). Ended p (one_after_another w.lines.parts) (over_two env taken calls ss whole) names.next env taken ss l (calls ++ map as_user acted.calls) (length xs + 2 + cost * (length acted.calls + 1)) r.starts acted.result variant r.count r.nonterminal (place_of l start xs)) (sym moved) done

-- ---- the slots

asserted_next : (w : Work) (b : Bool) (n : ℕ) → (over reduce_line w (assert_forms b n)).lines.names.next ≡ w.lines.names.next
asserted_next w true n = refl
asserted_next w false n = refl

popped_next : (w : Work) (k : ℕ) (xs : List Symbol) → (over reduce_line w (pop_forms k xs)).lines.names.next ≡ w.lines.names.next + length xs
popped_next w k [] = omega arith
popped_next w k (x ∷ xs) =
    let before = over reduce_line w (pop_forms (k + 1) xs) in
    let h = popped_next w (k + 1) xs in
    let one : before.lines.names.next + 1 ≡ w.lines.names.next + suc (length xs) = omega (arith, h) in
    ap (λ (v : Work). v.lines.names.next) (over-append reduce_line w (pop_forms (k + 1) xs) (pop_form k x ∷ [])) ∙ one

span_next : (w : Work) (n : ℕ) → (over reduce_line w (span_forms n)).lines.names.next ≡ w.lines.names.next + span_slots n
span_next w zero = omega arith
span_next w (suc n) = omega arith

last_next : (w : Work) (r : Line) (fallible starts : Bool) → (over reduce_line w (last_forms (record r { fallible = fallible; starts = starts }))).lines.names.next ≡ w.lines.names.next + call_slots fallible
last_next w r true true = omega arith
last_next w r true false = omega arith
last_next w r false true = omega arith
last_next w r false false = omega arith

pub body_next : (names : Names) (made : Making) (xs : List Symbol) (r : Line) → (over reduce_line (work_of (lines_of names []) made) (body_forms xs r)).lines.names.next ≡ names.next + body_slots (length xs) r.fallible
body_next names made xs r =
    let w0 = work_of (lines_of names []) made in
    let n = length xs in
    let w1 = over reduce_line w0 (assert_forms (nat_lt 1 n) n) in
    let w2 = over reduce_line w1 (pop_forms 0 xs) in
    let w3 = over reduce_line w2 (span_forms n) in
    let moved : over reduce_line w0 (body_forms xs r) ≡ over reduce_line w3 (last_forms r) =
    over-append reduce_line w0 (assert_forms (nat_lt 1 n) n) (pop_forms 0 xs ++ (span_forms n ++ last_forms r))
    ∙ over-append reduce_line w1 (pop_forms 0 xs) (span_forms n ++ last_forms r)
    ∙ over-append reduce_line w2 (span_forms n) (last_forms r) in
    let a : w1.lines.names.next ≡ names.next = asserted_next w0 (nat_lt 1 n) n in
    let sum : (over reduce_line w3 (last_forms r)).lines.names.next ≡ names.next + body_slots n r.fallible = omega (arith, last_next w3 r r.fallible r.starts, span_next w2 n, popped_next w1 0 xs, a) in
    ap (λ (v : Work). v.lines.names.next) moved ∙ sum
