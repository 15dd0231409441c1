-- The arguments of calls among inlined actions, as they are printed, read and given.
use Rattle.std.proofs.Common.{◌≡◌, ℕ, zero, suc, ◌+◌, ◌<◌, ◌≤◌, ◌^◌, Bool, true, false, ◌||◌, List, [], ◌∷◌, ◌++◌, length, map, take, drop, Some, None, refl, ap, sym, subst, ◌∙◌, arith, append_assoc, append-nil, if◌then◌else◌}
use Rattle.std.specs.Prelude.{slice_get, codes, decimal}
use Rattle.std.specs.List.{range_with_len}
use Rattle.std.proofs.lemmas.Bool.{lt-ltb}
use Rattle.std.proofs.lemmas.List.{map-append}
use Rattle.std.proofs.Math.Seq.{drop-append_seam}
use Rattle.lp_form.specs.declared.part.Part.TheVariants as part
use Rattle.lp_form.specs.declared.part.Part.{Part}
use Rattle.lp_repr.specs.declared.repr.Grammar.{Grammar}
use Rattle.lp_repr.specs.declared.repr.Parameter.{Parameter}
use Rattle.lp_repr.specs.declared.values.Loc.{Loc}
use Rattle.lp_tree.specs.ProgramTree.{Item, leaf}
use Rattle.lp_build.specs.Actions.{call_part, outer_part}
use Rattle.lp_build.specs.Built as built
use Rattle.lp_build.specs.Built.{row, text_rows}
use Rattle.lp_actions.specs.Inlines.{inline_call, type_arguments, inner_arguments, own_arguments, argument_behind, span_start_name, span_end_name, action_fails}
use Rattle.lp_driver.specs.Values.{Spanned, Value}
use Rattle.lp_core.specs.declared.expr.Target.TheVariants as target
use Rattle.lp_core.specs.Reading.{location}
use Rattle.lp_core.specs.Store.{Program, Store, UserCall}
use Rattle.lp_core.specs.Tree.{Tree, trees_of}
use Rattle.lp_core.specs.Val.{Val}
use Rattle.lp_table.specs.Headers.{names_of}
use Rattle.lp_view.specs.PartLists.{Form, parts_of, over}
use Rattle.lp_maker.specs.Making.{read_written}
use Rattle.lp_maker.specs.Slots.{Names}
use Rattle.lp_maker.specs.Texts.{with_mark, plain}
use Rattle.lp_maker.proofs.Cuts.{has_front}
use Rattle.lp_bodies.specs.Inlining.{argument_row, call_arguments, ends_so, is_tried}
use Rattle.lp_code_laws.specs.Ends.Ends.{Arguments, Enter, Outcome, EndsIn}
use Rattle.lp_code_laws.proofs.Ends.Calls.{arguments_done}
use Rattle.lp_code_laws.proofs.Ends.Rules.{argument as next_argument}
use Rattle.lp_question_laws.proofs.Gotos.GotoCode.{over-append}
use Rattle.lp_question_laws.proofs.Gotos.Whole.{AreWhole, flat, parts_over, flat-append, whole-append}
use Rattle.lp_code_laws.proofs.Printed.Lines.{read_shown}
use Rattle.lp_code_laws.specs.Slots.Shows.{Shows}
use Rattle.lp_code_laws.proofs.Slots.Slots.{get_within}
use Rattle.lp_question_laws.specs.Tables.Acts.{symbol_val, arguments}
use Rattle.lp_question_laws.specs.Actions.Inlined.{Seen, start_name, end_name, within}
use Rattle.lp_question_laws.specs.Actions.Keys.{ShowsEach, mark}
use Rattle.lp_question_laws.specs.Actions.Params.{AreSet}
use Rattle.lp_question_laws.proofs.Actions.InlinePlaces.{seen_at}
use Rattle.lp_question_laws.proofs.Actions.Parameters.{ArePlain}
use Rattle.lp_question_laws.proofs.Actions.Rows.{row_forms, rows_flat, rows_whole, rows_passed}
use Rattle.lp_question_laws.proofs.Actions.Texts.{IsPlainPrefix, name_plain, word_plain, decimal_word}

-- ---- the printed rows of a call

abbrev call_rows : List (List ℕ) → List (List ℕ) → List Form → List Form
call_rows types args last = (row_forms part.TypeArgument types ++ row_forms part.ArgumentRow args) ++ last

rows_of : (p : Part) (holes : List (List ℕ)) (types args : List (List ℕ)) (last : List Form) (items : List Item) → items ≡ flat last → AreWhole last → parts_of (built.over p holes ((text_rows part.TypeArgument types ++ text_rows part.ArgumentRow args) ++ items)) ≡ call_rows types args last
rows_of p holes types args last items is whole =
    let t = row_forms part.TypeArgument types in
    let a = row_forms part.ArgumentRow args in
    let all : (text_rows part.TypeArgument types ++ text_rows part.ArgumentRow args) ++ items ≡ flat ((t ++ a) ++ last) =
    ap (λ l. (l ++ text_rows part.ArgumentRow args) ++ items) (sym (rows_flat part.TypeArgument types)) ∙ ap (λ l. (flat t ++ l) ++ items) (sym (rows_flat part.ArgumentRow args)) ∙ ap (λ l. l ++ items) (sym (flat-append t a)) ∙ ap (λ l. flat (t ++ a) ++ l) is ∙ sym (flat-append (t ++ a) last) in
    ap (λ below. parts_of (built.over p holes below)) all ∙ parts_over p holes ((t ++ a) ++ last) (whole-append (t ++ a) last (whole-append t a (rows_whole part.TypeArgument types) (rows_whole part.ArgumentRow args)) whole)

end_whole : (fails : Bool) → AreWhole (leaf (if fails then part.CallEndFallible else part.CallEndPlain) [] ∷ [])
end_whole true = (refl, tt)
end_whole false = (refl, tt)

inner_rows : (g : Grammar) (n before action count : ℕ) → parts_of (inline_call g n before action count) ≡ call_rows (type_arguments g) (inner_arguments g n before count) (leaf (if action_fails g action then part.CallEndFallible else part.CallEndPlain) [] ∷ [])
inner_rows g n before action count =
    rows_of (call_part (type_arguments g)) (decimal n ∷ decimal action ∷ []) (type_arguments g) (inner_arguments g n before count) (leaf (if action_fails g action then part.CallEndFallible else part.CallEndPlain) [] ∷ [])
    (leaf (if action_fails g action then part.CallEndFallible else part.CallEndPlain) []) (sym (append-nil (leaf (if action_fails g action then part.CallEndFallible else part.CallEndPlain) []))) (end_whole (action_fails g action))

module _ (prefix : List ℕ) (names : Names) where
  arguments_added : (args : List Tree) (texts : List (List ℕ)) → over (argument_row prefix names) args (row_forms part.ArgumentRow texts) ≡ args ++ map (read_written prefix names) texts
  arguments_added args [] = sym (append-nil args)
  arguments_added args (t ∷ texts) = arguments_added (args ++ read_written prefix names t ∷ []) texts ∙ append_assoc args (read_written prefix names t ∷ []) (map (read_written prefix names) texts)

  rows_argue : (types args : List (List ℕ)) (last : List Form) → ((l : List Tree) → over (argument_row prefix names) l last ≡ l) → over (argument_row prefix names) [] (call_rows types args last) ≡ map (read_written prefix names) args
  rows_argue types args last quiet =
      over-append (argument_row prefix names) [] (row_forms part.TypeArgument types ++ row_forms part.ArgumentRow args) last
      ∙ quiet (over (argument_row prefix names) [] (row_forms part.TypeArgument types ++ row_forms part.ArgumentRow args))
      ∙ over-append (argument_row prefix names) [] (row_forms part.TypeArgument types) (row_forms part.ArgumentRow args)
      ∙ ap (λ l. over (argument_row prefix names) l (row_forms part.ArgumentRow args)) (rows_passed (argument_row prefix names) part.TypeArgument (λ s t. refl) [] types)
      ∙ arguments_added [] args

  -- the arguments of an inlined action's call, and of the outer call
  pub inner_argued : (g : Grammar) (n before action count : ℕ) → call_arguments prefix names (inline_call g n before action count) ≡ map (read_written prefix names) (inner_arguments g n before count)
  inner_argued g n before action count = ap (over (argument_row prefix names) []) (inner_rows g n before action count) ∙ rows_argue (type_arguments g) (inner_arguments g n before count) _ (quiet (action_fails g action))
    where
      quiet : (b : Bool) (l : List Tree) → over (argument_row prefix names) l (leaf (if b then part.CallEndFallible else part.CallEndPlain) [] ∷ []) ≡ l
      quiet true l = refl
      quiet false l = refl

  pub outer_argued : (g : Grammar) (wrapped : Bool) (outer : ℕ) (args : List (List ℕ)) → call_arguments prefix names (built.over (outer_part wrapped (type_arguments g)) (decimal outer ∷ []) (text_rows part.TypeArgument (type_arguments g) ++ text_rows part.ArgumentRow args)) ≡ map (read_written prefix names) args
  outer_argued g wrapped outer args =
      ap (λ items. over (argument_row prefix names) [] (parts_of (built.over (outer_part wrapped (type_arguments g)) (decimal outer ∷ []) items))) (append-nil' (text_rows part.TypeArgument (type_arguments g) ++ text_rows part.ArgumentRow args))
      ∙ ap (over (argument_row prefix names) []) (rows_of (outer_part wrapped (type_arguments g)) (decimal outer ∷ []) (type_arguments g) args [] [] refl tt) ∙ rows_argue (type_arguments g) args [] (λ l. refl)
    where
      append-nil' : (l : List Item) → l ≡ l ++ []
      append-nil' l = sym (append-nil l)

-- whether it ends with `?`
pub inner_tried : (g : Grammar) (n before action count : ℕ) → is_tried (inline_call g n before action count) ≡ action_fails g action
inner_tried g n before action count =
    let t = row_forms part.TypeArgument (type_arguments g) in
    let a = row_forms part.ArgumentRow (inner_arguments g n before count) in
    ap (over ends_so false) (inner_rows g n before action count)
    ∙ over-append ends_so false (t ++ a) (leaf (if action_fails g action then part.CallEndFallible else part.CallEndPlain) [] ∷ [])
    ∙ ap (λ b. over ends_so b (leaf (if action_fails g action then part.CallEndFallible else part.CallEndPlain) [] ∷ []))
    (over-append ends_so false t a ∙ ap (λ b. over ends_so b a) (rows_passed ends_so part.TypeArgument (λ s t. none s) false (type_arguments g)) ∙ rows_passed ends_so part.ArgumentRow (λ s t. none s) false (inner_arguments g n before count))
    ∙ last (action_fails g action)
  where
    none : (s : Bool) → (s || false) ≡ s
    none true = refl
    none false = refl

    last : (b : Bool) → over ends_so false (leaf (if b then part.CallEndFallible else part.CallEndPlain) [] ∷ []) ≡ b
    last true = refl
    last false = refl

-- ---- what they hold

pub drop_there : {A : Type 0} (xs : List A) (i : ℕ) (x : A) → slice_get xs i ≡ Some x → drop i xs ≡ x ∷ drop (suc i) xs
drop_there [] i x is = absurd cc
drop_there (y ∷ xs) zero x is = let same : y ≡ x = cc in ap (λ z. z ∷ xs) same
drop_there (y ∷ xs) (suc i) x is = drop_there xs i x is

-- values that texts show are the arguments of a call
pub args_read : (p : Program) (prefix : List ℕ) (names : Names) (s : Store) (env : List Val) (calls : List UserCall) (f k : ℕ) (o : Outcome) (texts : List (List ℕ)) (vals done : List Val) → ShowsEach names env (map (plain prefix) texts) vals → AreSet vals
    → EndsIn p (Enter f (done ++ vals)) (within s env calls) k o → EndsIn p (Arguments (target.Function f) (trees_of (map (read_written prefix names) texts)) done) (within s env calls) k o
args_read p prefix names s env calls f k o [] [] done shows set h = subst (λ vs. EndsIn p (Arguments (target.Function f) (trees_of []) vs) (within s env calls) k o) (append-nil done) (arguments_done h)
args_read p prefix names s env calls f k o [] (v ∷ vals) done shows set h = absurd shows
args_read p prefix names s env calls f k o (t ∷ texts) [] done shows set h = absurd shows
args_read p prefix names s env calls f k o (t ∷ texts) (v ∷ vals) done shows set h =
    next_argument (read_shown shows.0 set.0) (args_read p prefix names s env calls f k o texts vals (done ++ v ∷ []) shows.1 set.1 (subst (λ vs. EndsIn p (Enter f vs) (within s env calls) k o) (sym (append_assoc done (v ∷ []) vals)) h))

pub each-append : (names : Names) (env : List Val) (ks ls : List (List ℕ)) (vs ws : List Val) → ShowsEach names env ks vs → ShowsEach names env ls ws → ShowsEach names env (ks ++ ls) (vs ++ ws)
each-append names env [] ls [] ws h g = g
each-append names env [] ls (v ∷ vs) ws h g = absurd h
each-append names env (k ∷ ks) ls [] ws h g = absurd h
each-append names env (k ∷ ks) ls (v ∷ vs) ws h g = (h.0, each-append names env ks ls vs ws h.1 g)

-- the names of parameters are known as they are
pub names_plain : (prefix : List ℕ) (ps : List Parameter) → ArePlain prefix ps → map (plain prefix) (map (λ (p : Parameter). p.name) ps) ≡ map (λ (p : Parameter). p.name) ps
names_plain prefix [] h = refl
names_plain prefix (p ∷ ps) h = ap (λ k. k ∷ map (plain prefix) (map (λ (q : Parameter). q.name) ps)) (name_plain prefix p.name h.0) ∙ ap (λ ks. p.name ∷ ks) (names_plain prefix ps h.1)

pub some_arguments : (vs : List Val) (ys : List (Spanned Value)) (place : Loc × Loc) → 0 < length ys → arguments vs ys place ≡ vs ++ map symbol_val ys
some_arguments vs [] place h = absurd (omega arith)
some_arguments vs (y ∷ ys) place h = refl

module _ {prefix : List ℕ} (is : IsPlainPrefix prefix) (names : Names) (env : List Val) where
  -- a name behind `&`
  pub borrowed : (word : List ℕ) → plain prefix (codes "&" ++ (prefix ++ word)) ≡ mark word
  borrowed word =
      ap (λ t. with_mark (prefix ++ word) (if t then Some (drop (length prefix) (prefix ++ word)) else None)) (has_front prefix (prefix ++ word) word refl)
      ∙ ap (λ t. codes "~" ++ t) (drop-append_seam prefix word)

  -- arguments of the outer function that an inlined action takes
  flat_shown : (xs : List (Spanned Value)) (place : Loc × Loc) (before start count : ℕ) → Seen names env xs place → length xs < 2 ^ 64 → before + start + count ≤ length xs
      → ShowsEach names env (map (plain prefix) (map (argument_behind prefix before) (range_with_len start count))) (map symbol_val (take count (drop (before + start) xs)))
  flat_shown xs place before start zero seen few le = tt
  flat_shown xs place before start (suc count) seen few le =
      let x = get_within xs (before + start) (omega (arith, le)) in
      let w = decimal_word (before + start) (omega (arith, le, few)) in
      let rest = flat_shown xs place before (start + 1) count seen few (omega (arith, le)) in
      let moved : before + (start + 1) ≡ suc (before + start) = omega arith in
      let parts : drop (before + start) xs ≡ x.0 ∷ drop (suc (before + start)) xs = drop_there xs (before + start) x.0 x.1 in
      subst (λ ys. ShowsEach names env (map (plain prefix) (map (argument_behind prefix before) (range_with_len start (suc count)))) (map symbol_val (take (suc count) ys))) (sym parts)
      (subst (λ k. Shows names env k (symbol_val x.0)) (sym (word_plain is (decimal (before + start)) w)) (seen_at names env xs place (before + start) x.0 seen x.1), subst (λ k. ShowsEach names env (map (plain prefix) (map (argument_behind prefix before) (range_with_len (start + 1) count))) (map symbol_val (take count (drop k xs)))) moved rest)

  module _ (g : Grammar) (same : g.prefix ≡ prefix) (plain_names : ArePlain prefix g.parameters) (vals : List Val) where
    -- the parameters come first
    pub with_params : (texts : List (List ℕ)) (ws : List Val) → ShowsEach names env (names_of g) vals → ShowsEach names env (map (plain prefix) texts) ws → ShowsEach names env (map (plain prefix) (names_of g ++ texts)) (vals ++ ws)
    with_params texts ws params h =
        subst (λ ks. ShowsEach names env ks (vals ++ ws)) (sym (map-append (plain prefix) (names_of g) texts ∙ ap (λ ks. ks ++ map (plain prefix) texts) (names_plain prefix g.parameters plain_names)))
        (each-append names env (names_of g) (map (plain prefix) texts) vals ws params h)

    -- what an inlined action is given
    pub inner_shown : (xs : List (Spanned Value)) (place at : Loc × Loc) (n before count : ℕ) → ShowsEach names env (names_of g) vals → Seen names env xs place → length xs < 2 ^ 64 → before + count ≤ length xs
        → Shows names env (start_name n) (location at.0) → Shows names env (end_name n) (location at.1)
        → ShowsEach names env (map (plain prefix) (inner_arguments g n before count)) (arguments vals (take count (drop before xs)) at)
    inner_shown xs place at n before zero params seen few le first last =
        let own : ShowsEach names env (map (plain prefix) (span_start_name prefix n ∷ span_end_name prefix n ∷ [])) (location at.0 ∷ location at.1 ∷ []) =
        (subst (λ k. Shows names env k (location at.0)) (sym (borrowed (codes "start" ++ decimal n))) first, (subst (λ k. Shows names env k (location at.1)) (sym (borrowed (codes "end" ++ decimal n))) last, tt)) in
        with_params (span_start_name g.prefix n ∷ span_end_name g.prefix n ∷ []) (location at.0 ∷ location at.1 ∷ []) params
        (subst (λ q. ShowsEach names env (map (plain prefix) (span_start_name q n ∷ span_end_name q n ∷ [])) (location at.0 ∷ location at.1 ∷ [])) (sym same) own)
    inner_shown xs place at n before (suc count) params seen few le first last =
        let x = get_within xs before (omega (arith, le)) in
        let ys = take (suc count) (drop before xs) in
        let zero_before : before + 0 ≡ before = omega arith in
        let own = subst (λ k. ShowsEach names env (map (plain prefix) (map (argument_behind prefix before) (range_with_len 0 (suc count)))) (map symbol_val (take (suc count) (drop k xs)))) zero_before (flat_shown xs place before 0 (suc count) seen few (omega (arith, le))) in
        let some : 0 < length ys = (let l : length ys ≡ suc (length (take count (drop (suc before) xs))) = ap (λ zs. length (take (suc count) zs)) (drop_there xs before x.0 x.1) in omega arith) in
        let printed : own_arguments g.prefix n before (suc count) ≡ map (argument_behind prefix before) (range_with_len 0 (suc count)) =
        ap (λ b. if b then map (argument_behind g.prefix before) (range_with_len 0 (suc count)) else span_start_name g.prefix n ∷ span_end_name g.prefix n ∷ []) (lt-ltb 0 (suc count) (omega arith)) ∙ ap (λ q. map (argument_behind q before) (range_with_len 0 (suc count))) same in
        subst (λ l. ShowsEach names env (map (plain prefix) (inner_arguments g n before (suc count))) l) (sym (some_arguments vals ys at some))
        (with_params (own_arguments g.prefix n before (suc count)) (map symbol_val ys) params (subst (λ l. ShowsEach names env (map (plain prefix) l) (map symbol_val ys)) (sym printed) own))
