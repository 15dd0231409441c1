-- What the arm of a production does: its lines, or a call of the production's own function.
use Rattle.std.proofs.Common.{◌≡◌, ℕ, suc, ◌+◌, ◌*◌, ◌-◌, ◌<◌, ◌≤◌, ◌^◌, ℤ, Bool, true, false, not, ◌&&◌, List, [], ◌∷◌, ◌++◌, length, map, Option, Some, None, Result, Ok, Err, refl, sym, ap, subst, ◌∙◌, arith, codes, decimal, length-append}
use Rattle.std.specs.Prelude.{slice_get, replicate}
use Rattle.std.proofs.lemmas.List.{length-replicate, map-append}
use Rattle.lp_repr.specs.declared.lr1.Lr1State.{Lr1State}
use Rattle.lp_repr.specs.declared.repr.Grammar.{Grammar}
use Rattle.lp_repr.specs.declared.repr.Production.{Production}
use Rattle.lp_repr.specs.declared.values.Loc.{Loc}
use Rattle.lp_driver.specs.Values.{Spanned, Value, Failure}
use Rattle.lp_core.specs.declared.expr.Function.{Function}
use Rattle.lp_core.specs.Datum.{Unset}
use Rattle.lp_core.specs.Store.{Program, UserCall}
use Rattle.lp_core.specs.Tree.{Tree}
use Rattle.lp_core.specs.Val.{Val, Plain}
use Rattle.lp_form.specs.declared.part.Part.TheVariants as part
use Rattle.lp_tree.specs.ProgramTree.{leaf}
use Rattle.lp_build.specs.Built as built
use Rattle.lp_parts.specs.Texts.{arguments_of}
use Rattle.lp_table.specs.MachineLines.{phantom_text}
use Rattle.lp_table.specs.Starts.{Start, is_fallible, is_start}
use Rattle.lp_table.specs.ReductionLines.{symbol_variants, reduction_body, is_called, reduction_arm, own_header, own_function}
use Rattle.lp_view.specs.PartLists.{Form, over}
use Rattle.lp_maker.specs.Slots.{Names}
use Rattle.lp_maker.specs.Making.{Making, number_in, read_all, read_name, parameters, call_named}
use Rattle.lp_maker.specs.Constructs.{one_after_another}
use Rattle.lp_bodies.specs.Lines.{lines_of}
use Rattle.lp_bodies.specs.Reductions.{Work, Done, work_of, reduce_line, block_done, found_body, reduce_arm, reduce_body, symbols, function_done, production_function, with_production_of, reduce_fn, with_reduce_fn}
use Rattle.lp_machine.specs.declared.calls.Acted.{Acted}
use Rattle.lp_agrees.specs.Machine.{as_user}
use Rattle.lp_code_laws.specs.Ends.Ends.{Moment, Eval, Enter, Giving, EndsIn}
use Rattle.lp_code_laws.proofs.Ends.Calls.{enter}
use Rattle.lp_code_laws.proofs.Slots.Slots.{keeps_all}
use Rattle.lp_code_laws.proofs.Printed.Lines.{call_by_name}
use Rattle.lp_question_laws.specs.Tables.Acts.{Acts, arguments}
use Rattle.lp_question_laws.specs.Reductions.Stacks.{over_two, Symbol, on_stack}
use Rattle.lp_question_laws.specs.Reductions.Arguments.{ShowAll, reads, names_in}
use Rattle.lp_question_laws.specs.Reductions.Outcomes.{pair_val, outcome_as, symbols_after, Ended}
use Rattle.lp_question_laws.proofs.Reductions.Popping.{AllPop}
use Rattle.lp_question_laws.proofs.Reductions.Arguments.{arguments_read, all_read, show_append}
use Rattle.lp_question_laws.proofs.Reductions.Keys.{argument_keys}
use Rattle.lp_core.specs.Effect.{set_value}
use Rattle.lp_question_laws.proofs.Reductions.Spans.{start_val}
use Rattle.lp_question_laws.proofs.Reductions.Bodies.{Gives, Line}
use Rattle.lp_question_laws.proofs.Reductions.Wholes.{body_slots, body_forms, Seen, items_of, place_of, body_ends, body_next}
use Rattle.lp_question_laws.proofs.Reductions.Parameters.{AllAgree, AreKeys, own_names, own_values, own_seen, own_next}
use Rattle.lp_question_laws.proofs.Reductions.Parameters as given
use Rattle.lp_question_laws.proofs.Reductions.Texts.{AllKeys, IsPrefix, names_of, arguments_named, parameters_named}
use Rattle.lp_question_laws.proofs.Reductions.Headers.{own_header_names}
use Rattle.lp_question_laws.proofs.Reductions.Forms.{line_of, body_parts, called_arm, other_arm, arm_body, own_parts}
use Rattle.lp_question_laws.proofs.Reductions.Serving.{Serves, variant_of, last_made, span_made, body_makes, variant_stays, end_stays}

-- symbols can be taken off by the same names
pub pops_moved : (p : Program) (m n : Making) (xs : List Symbol) → n.names ≡ m.names → AllPop p m xs → AllPop p n xs
pops_moved p m n [] same can = tt
pops_moved p m n (x ∷ xs) same can = (
  record { function = can.0.function; other = can.0.other; named = ap (number_in (codes "pop_" ++ x.variant)) same ∙ can.0.named; there = can.0.there },
  pops_moved p m n xs same can.1,
)

-- the lines of a body, over what was made
abbrev pub body_work : Making → Names → List Symbol → Line → Work
body_work m names xs r = over reduce_line (work_of (lines_of names []) m) (body_forms xs r)

-- a start's location is a value
pub start_set : (o : Option Loc) → set_value (start_val o) ≡ Some (start_val o)
start_set None = refl
start_set (Some x) = refl

-- a function of its own is that of an infallible production that isn't a start's
first_false : (a b : Bool) → (not a && not b) ≡ true → a ≡ false
first_false true b e = cc
first_false false b e = refl

second_false : (a b : Bool) → (not a && not b) ≡ true → b ≡ false
second_false true b e = cc
second_false false true e = cc
second_false false false e = refl

-- a production of a grammar with the symbols that it takes off
pub record Production_of (g : Grammar) (s : Start) (i : ℕ) (prod : Production) (xs : List Symbol) : Type 0 where
  pub variants : map (λ x. x.variant) xs ≡ symbol_variants g prod
  pub many : length xs ≡ length prod.symbols
  pub small : length xs < 2 ^ 64
  pub few : (line_of g s prod (length xs)).nonterminal < 2 ^ 64

module _ (p : Program) (last : Making) (g : Grammar) (states : List Lr1State) (s : Start) (i : ℕ) (prod : Production) (xs : List Symbol) (is : Production_of g s i prod xs) (prefix : IsPrefix g.prefix) (known : AllKeys g.prefix (names_of g.parameters)) (ns : List ℕ) (agree : AllAgree (names_of g.parameters) ns) (apart : AreKeys (names_of g.parameters)) (start : Option Loc) where
  abbrev keys : List (List ℕ)
  keys = names_of g.parameters

  abbrev params : List Val
  params = given.params keys ns agree apart start

  abbrev r : Line
  r = line_of g s prod (length xs)

  -- the function of the production, where it has one
  pub record Owned : Type 0 where
    pub function : ℕ
    pub named : number_in (codes "reduce" ++ decimal i) last.names ≡ Some function
    pub maker : Making
    pub same : maker.prefix ≡ g.prefix
    pub there : slice_get p.functions function ≡ Some (reduce_fn maker (own_function g s i prod))
    pub serves : Serves p last maker (with_reduce_fn (own_function g s i prod) maker)

  module _ (taken : ℕ) (calls : List UserCall) (ss : List ℤ) (l : List (Spanned Val)) (f cost : ℕ) (acted : Acted) (named : number_in (codes "super::action" ++ decimal prod.action) last.names ≡ Some f) (gives : Gives r.fallible acted)
      (acts : (now : List Val) → Acts p f (arguments params (items_of xs) (place_of l start xs)) r.fallible acted cost (over_two now taken calls ss l)) (can : AllPop p last xs) where
    abbrev whole : List (Spanned Val)
    whole = l ++ map on_stack xs

    abbrev later : List UserCall
    later = calls ++ map as_user acted.calls

    abbrev most : ℕ
    most = length xs + 2 + cost * (length acted.calls + 1)

    -- a body of what was made with the same names
    body_served : (m : Making) (names : Names) (env : List Val) → Serves p last m (last_made r.starts r.name (span_made (length xs) m)) → m.prefix ≡ g.prefix → Seen names env start keys params → names.next + body_slots (length xs) r.fallible ≤ length env
        → Ended p (one_after_another (body_work m names xs r).lines.parts) (over_two env taken calls ss whole) names.next env taken ss l later most r.starts acted.result (variant_of r.name m) (length xs) r.nonterminal (place_of l start xs)
    body_served m names env serves same seen fits =
        let keys_are : names_in m.prefix r.args ≡ keys ++ argument_keys (length xs) = ap (λ q. names_in q r.args) same ∙ arguments_named g.prefix prefix g.parameters (length prod.symbols) known (omega (arith, is.small, is.many)) ∙ ap (λ n. keys ++ argument_keys n) (sym is.many) in
        body_ends p m names env taken calls ss l start keys params seen xs r f cost acted (ap (number_in (codes "super::action" ++ decimal prod.action)) serves.names ∙ named) keys_are (variant_of r.name m) refl gives acts (pops_moved p last m xs serves.names can) (end_stays r.starts r.name xs serves) fits is.small is.small is.few

    -- ---- the function of the production

    abbrev own : Names
    own = own_names keys ns agree apart start

    own_fn_is : (m : Making) → m.prefix ≡ g.prefix → reduce_fn m (own_function g s i prod) ≡ function_done own.next (block_done (length own.known) (body_work m own xs r))
    own_fn_is m same =
        let header = own_header g i in
        let body = reduction_body g s prod in
        ap (λ fs. production_function m (slice_get fs 0) (slice_get fs 1)) (own_parts g s i prod)
        ∙ ap (λ q. function_done (parameters q header).next (reduce_body m (parameters q header) body)) same
        ∙ ap (λ names. function_done names.next (reduce_body m names body)) (own_header_names g states s prefix known i)
        ∙ ap (λ forms. function_done own.next (block_done (length own.known) (over reduce_line (work_of (lines_of own []) m) forms))) (body_parts g s prod xs is.variants)

    own_made_is : (m : Making) → m.prefix ≡ g.prefix → with_reduce_fn (own_function g s i prod) m ≡ (body_work m own xs r).made
    own_made_is m same =
        let header = own_header g i in
        let body = reduction_body g s prod in
        ap (λ fs. with_production_of (slice_get fs 0) (slice_get fs 1) m) (own_parts g s i prod)
        ∙ ap (λ q. (reduce_body m (parameters q header) body).made) same
        ∙ ap (λ names. (reduce_body m names body).made) (own_header_names g states s prefix known i)
        ∙ ap (λ forms. (over reduce_line (work_of (lines_of own []) m) forms).made) (body_parts g s prod xs is.variants)

    abbrev called_values : List Val
    called_values = params ++ own_values keys ns agree apart start

    -- a body that gives a value goes back to its caller
    given_back : (fn : ℕ) (slots : ℕ) (body : Tree) (env : List Val) (starts : Bool) (result : Result Value Failure) (w : Value) (variant : ℕ) → starts ≡ false → result ≡ Ok w → slice_get p.functions fn ≡ Some (record { params = own.next; slots = slots; body = body })
        → Ended p body (over_two (called_values ++ replicate slots (Plain Unset)) taken calls ss whole) own.next (called_values ++ replicate slots (Plain Unset)) taken ss l later most starts result variant (length xs) r.nonterminal (place_of l start xs)
        → (k : ℕ) × (k ≤ most + 1) × EndsIn p (Enter fn called_values) (over_two env taken calls ss whole) k (Giving (pair_val (length xs) r.nonterminal) (over_two env taken later ss (symbols_after starts result variant (place_of l start xs) l)))
    given_back fn slots body env starts result w variant is_false is_ok there h =
        let at = place_of l start xs in
        let ends = subst (λ (b : Bool). EndsIn p (Eval body) (over_two (called_values ++ replicate slots (Plain Unset)) taken calls ss whole) h.many (outcome_as b result (length xs) r.nonterminal (over_two h.now taken later ss (symbols_after b result variant at l)))) is_false h.ends in
        let ended = subst (λ (q : Result Value Failure). EndsIn p (Eval body) (over_two (called_values ++ replicate slots (Plain Unset)) taken calls ss whole) h.many (outcome_as false q (length xs) r.nonterminal (over_two h.now taken later ss (symbols_after false q variant at l)))) is_ok ends in
        let back : EndsIn p (Enter fn called_values) (over_two env taken calls ss whole) (suc h.many) (Giving (pair_val (length xs) r.nonterminal) (over_two env taken later ss (symbols_after false (Ok w) variant at l))) = enter there (own_next keys ns agree apart start) ended refl in (
          suc h.many,
          omega (arith, h.few),
          subst (λ (b : Bool). EndsIn p (Enter fn called_values) (over_two env taken calls ss whole) (suc h.many) (Giving (pair_val (length xs) r.nonterminal) (over_two env taken later ss (symbols_after b result variant at l)))) (sym is_false)
              (subst (λ (q : Result Value Failure). EndsIn p (Enter fn called_values) (over_two env taken calls ss whole) (suc h.many) (Giving (pair_val (length xs) r.nonterminal) (over_two env taken later ss (symbols_after false q variant at l)))) (sym is_ok) back),
        )

    -- a call of the production's function
    own_called : (o : Owned) (env : List Val) (w : Value) → r.starts ≡ false → acted.result ≡ Ok w
        → (k : ℕ) × (k ≤ most + 1) × EndsIn p (Enter o.function called_values) (over_two env taken calls ss whole) k (Giving (pair_val (length xs) r.nonterminal) (over_two env taken later ss (symbols_after r.starts acted.result (variant_of r.name o.maker) (place_of l start xs) l)))
    own_called o env w is_false is_ok =
        let work = body_work o.maker own xs r in
        let slots = work.lines.names.next - own.next in
        let rest = replicate slots (Plain Unset) in
        let next : work.lines.names.next ≡ own.next + body_slots (length xs) r.fallible = body_next own o.maker xs r in
        let many : length (called_values ++ rest) ≡ own.next + body_slots (length xs) r.fallible = omega (arith, length-append called_values rest, length-replicate slots (Plain Unset), own_next keys ns agree apart start, next) in
        let serves : Serves p last o.maker (last_made r.starts r.name (span_made (length xs) o.maker)) = subst (λ (n : Making). Serves p last o.maker n) (own_made_is o.maker o.same ∙ body_makes own o.maker xs r) o.serves in
        let ended = body_served o.maker own (called_values ++ rest) serves o.same (own_seen keys ns agree apart start rest) (omega (arith, many)) in
        given_back o.function slots (one_after_another work.lines.parts) env r.starts acted.result w (variant_of r.name o.maker) is_false is_ok (o.there ∙ ap (λ (fn : Function). Some fn) (own_fn_is o.maker o.same)) ended

    pub record ArmDone (value : Tree) (env : List Val) (below : ℕ) : Type 0 where
      pub variant : ℕ
      pub numbered : r.starts ≡ false → number_in r.name last.variants ≡ Some variant
      pub ended : Ended p value (over_two env taken calls ss whole) below env taken ss l later (most + 1) r.starts acted.result variant (length xs) r.nonterminal (place_of l start xs)

    abbrev called_row : Form
    called_row = leaf part.ReduceCallArm (decimal i ∷ arguments_of g.parameters ∷ phantom_text g ∷ [])

    -- an arm that calls it
    call_done : (o : Owned) (m : Making) (names : Names) (env : List Val) → m.prefix ≡ g.prefix → m.names ≡ last.names → Seen names env start keys params → is_called g s prod ≡ true → ArmDone (reduce_arm m names called_row).value env names.next
    call_done o m names env same named_so seen called =
        let plain = first_false (is_fallible g prod) (is_start s prod) called in
        let no_start = second_false (is_fallible g prod) (is_start s prod) called in
        let v = gives plain in
        let e = own_called o env v.0 no_start v.1 in
        let all = keys ++ codes "~lookahead_start" ∷ codes "~symbols" ∷ [] in
        let shown : ShowAll names env all called_values = show_append names env keys (codes "~lookahead_start" ∷ codes "~symbols" ∷ []) params (own_values keys ns agree apart start) seen.handed (seen.lookahead, start_set start, (seen.list, refl, tt)) in
        let trees : read_all m.prefix names (arguments_of g.parameters) ++ read_name names (codes "~lookahead_start") ∷ symbols names ∷ [] ≡ reads names all =
        ap (λ ts. ts ++ read_name names (codes "~lookahead_start") ∷ symbols names ∷ []) (all_read m.prefix names (arguments_of g.parameters) ∙ ap (λ q. reads names (names_in q (arguments_of g.parameters))) same ∙ ap (reads names) (parameters_named g.prefix g.parameters known))
        ∙ sym (map-append (read_name names) keys (codes "~lookahead_start" ∷ codes "~symbols" ∷ [])) in
        let number : number_in (codes "reduce" ++ decimal i) m.names ≡ Some o.function = ap (number_in (codes "reduce" ++ decimal i)) named_so ∙ o.named in
        let outcome = Giving (pair_val (length xs) r.nonterminal) (over_two env taken later ss (symbols_after r.starts acted.result (variant_of r.name o.maker) (place_of l start xs) l)) in
        let called_ends : EndsIn p (Eval (call_named (codes "reduce" ++ decimal i) (reads names all) m)) (over_two env taken calls ss whole) e.0 outcome = call_by_name (codes "reduce" ++ decimal i) (reads names all) m o.function number (arguments_read o.function names all called_values [] shown e.2) in
        let ends : EndsIn p (Eval (reduce_arm m names called_row).value) (over_two env taken calls ss whole) e.0 outcome = subst (λ ts. EndsIn p (Eval (call_named (codes "reduce" ++ decimal i) ts m)) (over_two env taken calls ss whole) e.0 outcome) (sym trees) called_ends in
        let goes : outcome ≡ outcome_as r.starts acted.result (length xs) r.nonterminal (over_two env taken later ss (symbols_after r.starts acted.result (variant_of r.name o.maker) (place_of l start xs) l)) = going r.starts acted.result v.0 no_start v.1 _ in
        let serves : Serves p last o.maker (last_made r.starts r.name (span_made (length xs) o.maker)) = subst (λ (n : Making). Serves p last o.maker n) (own_made_is o.maker o.same ∙ body_makes own o.maker xs r) o.serves in
        record {
          variant = variant_of r.name o.maker;
          numbered = variant_stays xs r.starts r.name serves;
          ended = record { now = env; many = e.0; few = e.1; keeps = keeps_all names.next env; ends = subst (λ u. EndsIn p (Eval (reduce_arm m names called_row).value) (over_two env taken calls ss whole) e.0 u) goes ends };
        }
      where
        going : (starts : Bool) (result : Result Value Failure) (w : Value) → starts ≡ false → result ≡ Ok w → (n : Moment) → Giving (pair_val (length xs) r.nonterminal) n ≡ outcome_as starts result (length xs) r.nonterminal n
        going true result w a b n = cc
        going false (Ok x) w a b n = refl
        going false (Err x) w a b n = cc

    abbrev body_row : Form
    body_row = built.over part.ReduceBodyArm (decimal i ∷ []) (reduction_body g s prod)

    row_is : (m : Making) (names : Names) → reduce_arm m names body_row ≡ block_done (length names.known) (body_work m names xs r)
    row_is m names =
        ap (found_body m names) (arm_body g s i prod)
        ∙ ap (λ forms. block_done (length names.known) (over reduce_line (work_of (lines_of names []) m) forms)) (body_parts g s prod xs is.variants)

    -- an arm with the lines
    lines_done : (m : Making) (names : Names) (env : List Val) → m.prefix ≡ g.prefix → Serves p last m (reduce_arm m names body_row).made → Seen names env start keys params → (reduce_arm m names body_row).names.next ≤ length env → ArmDone (reduce_arm m names body_row).value env names.next
    lines_done m names env same serves seen fits =
        let d = row_is m names in
        let next : (reduce_arm m names body_row).names.next ≡ names.next + body_slots (length xs) r.fallible = ap (λ (x : Done). x.names.next) d ∙ body_next names m xs r in
        let kept : Serves p last m (last_made r.starts r.name (span_made (length xs) m)) = subst (λ (n : Making). Serves p last m n) (ap (λ (x : Done). x.made) d ∙ body_makes names m xs r) serves in
        let e = body_served m names env kept same seen (omega (arith, fits, next)) in
        record {
          variant = variant_of r.name m;
          numbered = variant_stays xs r.starts r.name kept;
          ended = subst (λ (t : Tree). Ended p t (over_two env taken calls ss whole) names.next env taken ss l later (most + 1) r.starts acted.result (variant_of r.name m) (length xs) r.nonterminal (place_of l start xs)) (sym (ap (λ (x : Done). x.value) d))
              (record { now = e.now; many = e.many; few = omega (arith, e.few); keeps = e.keeps; ends = e.ends });
        }

    pub arm_done : (m : Making) (names : Names) (env : List Val) → m.prefix ≡ g.prefix → m.names ≡ last.names → Serves p last m (reduce_arm m names (reduction_arm g s i prod)).made → Seen names env start keys params → (reduce_arm m names (reduction_arm g s i prod)).names.next ≤ length env
        → (is_called g s prod ≡ true → Owned) → ArmDone (reduce_arm m names (reduction_arm g s i prod)).value env names.next
    arm_done m names env same named_so serves seen fits owned = by (is_called g s prod) refl
      where
        by : (b : Bool) → is_called g s prod ≡ b → ArmDone (reduce_arm m names (reduction_arm g s i prod)).value env names.next
        by true called =
            let row = called_arm g s i prod called in
            subst (λ (f : Form). ArmDone (reduce_arm m names f).value env names.next) (sym row) (call_done (owned called) m names env same named_so seen called)
        by false other =
            let row = other_arm g s i prod other in
            subst (λ (f : Form). ArmDone (reduce_arm m names f).value env names.next) (sym row)
            (lines_done m names env same (subst (λ (f : Form). Serves p last m (reduce_arm m names f).made) row serves) seen (subst (λ (f : Form). (reduce_arm m names f).names.next ≤ length env) row fits))
