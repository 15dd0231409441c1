-- The call of `~expected`, over the states of the run: it gives the terminals whose trials say yes, or is spent.
use Rattle.std.proofs.Common.{◌≡◌, ℕ, suc, ◌+◌, ◌*◌, ◌<◌, ◌≤◌, Bool, true, false, List, [], ◌∷◌, ◌++◌, length, map, pos, Option, Some, refl, sym, ap, ◌∙◌, subst, ⊎_elim, arith, append_assoc, append-nil}
use Rattle.std.specs.Prelude.{slice_get}
use Rattle.std.specs.Option.{option_map, option_and_then}
use Rattle.lp_core.specs.declared.expr.Function.{Function}
use Rattle.lp_core.specs.declared.expr.Join.TheVariants as join
use Rattle.lp_core.specs.declared.expr.Leaf.TheVariants as leaf
use Rattle.lp_core.specs.declared.expr.Op.TheVariants as op
use Rattle.lp_core.specs.declared.expr.Target.TheVariants as target
use Rattle.lp_core.specs.declared.value.StateType.{StateType}
use Rattle.lp_core.specs.declared.value.Tag.TheVariants as tag
use Rattle.lp_core.specs.CellMeaning.{states_in}
use Rattle.lp_core.specs.Datum.{Cell, Unset, Written}
use Rattle.lp_core.specs.Effect.{set_value, unit, new_cell_of}
use Rattle.lp_core.specs.JoinMeaning.{list_val, texts_among, texts_of}
use Rattle.lp_core.specs.Numbers.{index, truth}
use Rattle.lp_core.specs.Reading.{option_val}
use Rattle.lp_core.specs.Store.{Program, UserCall, Held, States}
use Rattle.lp_core.specs.Tree.{Apply, If, Loop, trees_of, end}
use Rattle.lp_core.specs.Tree as tree
use Rattle.lp_core.specs.Val.{Val, Plain}
use Rattle.lp_core.proofs.Values.{list_of_vals}
use Rattle.lp_driver.specs.Values.{Text}
use Rattle.lp_repr.specs.declared.lr1.Lr1State.{Lr1State}
use Rattle.lp_repr.specs.declared.repr.Grammar.{Grammar}
use Rattle.lp_machine.specs.Tables.{Tables}
use Rattle.lp_maker.specs.Constructs.{absent, read, write, call_function, one_after_another}
use Rattle.lp_bodies.specs.Source.{function}
use Rattle.lp_bodies.specs.Tables.{kept_calls}
use Rattle.lp_code_laws.specs.Ends.Cut.{Cut}
use Rattle.lp_code_laws.specs.Ends.Ends as ends
use Rattle.lp_code_laws.specs.Ends.Ends.{Moment, moment, Eval, Arguments, Enter, Outcome, Giving, EndsIn}
use Rattle.lp_code_laws.proofs.Ends.Calls.{arguments_done, enter, enter_with_cells, joined_found}
use Rattle.lp_code_laws.proofs.Ends.Cuts.{cut_argument, cut_arguments, cut_behind, cut_block, cut_call, cut_called, cut_enter, cut_line, cut_test}
use Rattle.lp_code_laws.proofs.Ends.Rules.{apply_to, argument, block, block_left, block_next, call, if_true, if_false, plain}
use Rattle.lp_code_laws.proofs.Ends.Steps.{steps_are}
use Rattle.lp_code_laws.proofs.Ends.Values as values
use Rattle.lp_turn_laws.specs.Paths.Over.{IsOver}
use Rattle.lp_turn_laws.specs.Paths.Standing.{IsOnPath}
use Rattle.lp_question_laws.proofs.Gotos.LinkTerminals.{AreNamed}
use Rattle.lp_question_laws.specs.Expected.Trials.{Tried, Tries, with_kept, Collects, Lags}
use Rattle.lp_question_laws.proofs.Expected.Accepts.{kept_val}
use Rattle.lp_question_laws.proofs.Expected.Filters.{held, collects_held, kept, kept_is, Names, names_more}
use Rattle.lp_question_laws.proofs.Expected.Lists.{expected_code}
use Rattle.lp_back_end_laws.proofs.Call.TrialTurns as turns
use Rattle.lp_back_end_laws.proofs.Call.TrialTurns.{Trial, trial_at, turn}
use Rattle.lp_back_end_laws.proofs.Call.Trials.{HasLookUps, Ends, Stops, trial_ends, trial_stops}

-- whether a stack of states accepts a terminal
abbrev pub accepts_code : StateType → ℕ → ℕ → ℕ → Function
accepts_code kind action simulate goto = function 2 7 (one_after_another (write 2 (Apply op.CopyStates (read 0)) ∷ Loop (turn kind action simulate goto) ∷ []))

-- `Some(terminal)` where it does
abbrev pub keep_code : ℕ → Function
keep_code accepts = function 3 0 (If (call_function accepts (read 2 ∷ read 0 ∷ [])) (Apply (op.Wrap tag.Present) (read 1)) absent)

-- nothing is written yet
abbrev unwritten : turns.Written
unwritten = record { top = Plain Unset; action = Plain Unset; simulated = Plain Unset; pop = Plain Unset; nonterminal = Plain Unset; spare = Plain Unset }

-- a program has the functions that an expected list is made by, over what is looked up as the tables have it
pub record HasTrials (p : Program) (kind : StateType) (states : List Lr1State) (t : Tables) (expected : ℕ) : Type 0 where
  pub action : ℕ
  pub simulate : ℕ
  pub goto : ℕ
  pub looks_up : HasLookUps p kind states t action simulate goto
  pub accepts : ℕ
  pub accepts_there : slice_get p.functions accepts ≡ Some (accepts_code kind action simulate goto)
  pub closure : ℕ
  pub closure_there : slice_get p.functions closure ≡ Some (keep_code accepts)
  pub texts : List ℕ
  pub named : AreNamed p.texts texts t.names
  pub expected_there : slice_get p.functions expected ≡ Some (expected_code closure texts)

-- over these cells
abbrev pub stands : List Held → ℕ → List UserCall → List Val → Moment
stands cells taken so_far env = moment (record { env = env; cells = cells; taken = taken }) so_far

module _ {g : Grammar} {start : ℕ} {states : List Lr1State} {t : Tables} (over : IsOver g start states t) {p : Program} {kind : StateType} {expected : ℕ} (has : HasTrials p kind states t expected) (stack : List ℕ) (path : IsOnPath states stack)
    (cells : List Held) (list : ℕ) (there : slice_get cells list ≡ Some (States (map pos stack))) (taken : ℕ) (so_far : List UserCall) where
  abbrev place : List Val → Moment
  place env = stands cells taken so_far env

  abbrev list_cell : Val
  list_cell = Plain (Cell list)

  module _ (i : ℕ) (known : i < length t.names) where
    abbrev trial : Trial
    trial = record { cells = cells; list = list; taken = taken; calls = so_far; terminal = i }

    -- the states are copied
    abbrev begins : Moment
    begins = place (list_cell ∷ index i ∷ Plain Unset ∷ Plain Unset ∷ Plain Unset ∷ Plain Unset ∷ Plain Unset ∷ Plain Unset ∷ Plain Unset ∷ [])

    copy_line : EndsIn p (Eval (write 2 (Apply op.CopyStates (read 0)))) begins 0 (Giving unit (trial_at trial unwritten (map pos stack)))
    copy_line = values.write (apply_to (values.read refl refl) (ap (λ (o : Option Held). new_cell_of (option_map States (option_and_then states_in o)) begins.store) there)) refl

    -- whether the trial says yes
    record Accepts (k : ℕ) (b : Bool) : Type 0 where
      steps : ℕ
      few : steps ≤ 4 * k + 4
      many : suc k ≤ steps
      ends : (env : List Val) → EndsIn p (Enter has.accepts (list_cell ∷ index i ∷ [])) (place env) steps (Giving (truth b) (place env))

    accepts_by : (k : ℕ) (b : Bool) → Ends over has.looks_up trial known unwritten stack k b → Accepts k b
    accepts_by k b e = record {
      steps = suc e.steps;
      few = omega (arith, e.few);
      many = omega (arith, e.many);
      ends = λ env. enter_with_cells cells (States e.copy ∷ []) has.accepts_there refl
          (block (block_next copy_line (block_left e.ends))) refl refl;
    }

    -- it is spent
    record Rests (n : ℕ) : Type 0 where
      steps : ℕ
      many : n ≤ steps
      cut : (env : List Val) → Cut p (Enter has.accepts (list_cell ∷ index i ∷ [])) (place env) steps so_far

    rests_by : (n : ℕ) → Stops over has.looks_up trial known unwritten stack n → Rests n
    rests_by n s = record {
      steps = suc s.steps;
      many = omega (arith, s.many);
      cut = λ env. cut_enter has.accepts_there refl
          (cut_block (cut_behind copy_line (cut_line s.cut)));
    }

    -- the call of the closure, for the terminal of a text
    module _ (text : ℕ) where
      abbrev arguments : List Val
      arguments = index i ∷ Plain (Written text) ∷ list_cell ∷ []

      -- it keeps the terminal where the trial says yes
      record Keeps (k : ℕ) (b : Bool) : Type 0 where
        steps : ℕ
        few : steps ≤ 4 * k + 5
        many : suc k ≤ steps
        ends : (env : List Val) → EndsIn p (Enter has.closure arguments) (place env) steps (Giving (kept_val b text) (place env))

      keeps_by : (k : ℕ) (b : Bool) → Accepts k b → Keeps k b
      keeps_by k true a = record {
        steps = suc (ends.steps a.steps 0);
        few = omega (arith, a.few, steps_are a.steps 0);
        many = omega (arith, a.many, steps_are a.steps 0);
        ends = λ env. enter has.closure_there refl (if_true (call (argument (values.read refl refl) (argument (values.read refl refl) (arguments_done (a.ends arguments))))) refl (apply_to (values.read refl refl) refl)) refl;
      }
      keeps_by k false a = record {
        steps = suc (ends.steps a.steps 0);
        few = omega (arith, a.few, steps_are a.steps 0);
        many = omega (arith, a.many, steps_are a.steps 0);
        ends = λ env. enter has.closure_there refl (if_false (call (argument (values.read refl refl) (argument (values.read refl refl) (arguments_done (a.ends arguments))))) refl (plain refl)) refl;
      }

      keeps : (k : ℕ) (b : Bool) → Tried t i k stack b → Keeps k b
      keeps k b tried = keeps_by k b (accepts_by k b (trial_ends over has.looks_up trial known unwritten stack k b path tried))

      -- it is spent
      record Halts (n : ℕ) : Type 0 where
        steps : ℕ
        many : n ≤ steps
        cut : (env : List Val) → Cut p (Enter has.closure arguments) (place env) steps so_far

      halts_by : (n : ℕ) → Rests n → Halts n
      halts_by n r = record {
        steps = suc r.steps;
        many = omega (arith, r.many);
        cut = λ env. cut_enter has.closure_there refl (cut_test (cut_call (cut_arguments (values.read refl refl) (cut_arguments (values.read refl refl) (cut_called (r.cut arguments))))));
      }

      halts : (n : ℕ) → Tries t i n stack → Halts n
      halts n tries = halts_by n (rests_by n (trial_stops over has.looks_up trial known unwritten stack n path tries))

  -- ---- the filter
  -- its one parameter is the cell of the list
  abbrev asked : Moment
  asked = place (list_cell ∷ [])

  -- the calls for some terminals, before others
  record Filters (i : ℕ) (texts : List ℕ) (n : ℕ) (names : List Text) : Type 0 where
    answers : List (Option Val)
    named : Names p answers names
    steps : ℕ
    few : steps ≤ 5 * n
    ends : (vs : List Val) (o : Outcome) → EndsIn p (Arguments (target.Join join.Collect) end (vs ++ map option_val answers)) asked 0 o → EndsIn p (Arguments (target.Join join.Collect) (trees_of (kept_calls has.closure 0 i texts)) vs) asked steps o

  -- the call for a terminal
  one_call : (i text : ℕ) (known : i < length t.names) (k : ℕ) (b : Bool) (r : Keeps i known text k b)
      → EndsIn p (Eval (call_function has.closure (tree.Plain (leaf.Index i) ∷ tree.Plain (leaf.Text text) ∷ read 0 ∷ []))) asked r.steps (Giving (option_val (kept b text)) asked)
  one_call i text known k b r =
      subst (λ (v : Val). EndsIn p (Eval (call_function has.closure (tree.Plain (leaf.Index i) ∷ tree.Plain (leaf.Text text) ∷ read 0 ∷ []))) asked r.steps (Giving v asked)) (kept_is b text)
      (call (argument (plain refl) (argument (plain refl) (argument (values.read refl refl) (arguments_done (r.ends (list_cell ∷ [])))))))

  filters_more : (i text : ℕ) (texts : List ℕ) (name : Text) (known : i < length t.names) (k : ℕ) (b : Bool) (m : ℕ) (names : List Text) → slice_get p.texts text ≡ Some name
      → Keeps i known text k b → Filters (suc i) texts m names → Filters i (text ∷ texts) (suc (k + m)) (with_kept b name names)
  filters_more i text texts name known k b m names is r rest =
      let v = option_val (kept b text) in
      record {
        answers = kept b text ∷ rest.answers;
        named = names_more p b text name rest.answers names is rest.named;
        steps = ends.steps r.steps rest.steps;
        few = omega (arith, steps_are r.steps rest.steps, r.few, rest.few);
        ends = λ vs o h. argument (one_call i text known k b r) (rest.ends (vs ++ v ∷ []) o (subst (λ (l : List Val). EndsIn p (Arguments (target.Join join.Collect) end l) asked 0 o) (sym (append_assoc vs (v ∷ []) (map option_val rest.answers))) h));
      }

  filters : (i : ℕ) (texts : List ℕ) (names : List Text) (n : ℕ) (found : List Text) → AreNamed p.texts texts names → i + length names ≡ length t.names → Collects t stack i names n found → Filters i texts n found
  filters i [] [] n found are count c = record { answers = []; named = λ before. ap Some (sym (append-nil before) ∙ ap (λ (l : List Text). before ++ l) (sym c.1)); steps = 0; few = omega arith; ends = λ vs o h. subst (λ (l : List Val). EndsIn p (Arguments (target.Join join.Collect) end l) asked 0 o) (append-nil vs) h }
  filters i [] (name ∷ names) n found are count c = absurd are
  filters i (text ∷ texts) [] n found are count c = absurd are
  filters i (text ∷ texts) (name ∷ names) n found are count c =
      let known : i < length t.names = omega arith in
      let rest = filters (suc i) texts names c.2 c.3 are.1 (omega arith) c.5 in
      let r = keeps i known text c.0 c.1 c.4 in
      subst (λ (l : List Text). Filters i (text ∷ texts) n l) (sym c.7) (subst (λ (j : ℕ). Filters i (text ∷ texts) j (with_kept c.1 name c.3)) (sym c.6) (filters_more i text texts name known c.0 c.1 c.2 c.3 are.0 r rest))

  -- the calls for some terminals are spent after at least so many steps
  record Lates (i : ℕ) (texts : List ℕ) (n : ℕ) : Type 0 where
    steps : ℕ
    many : n ≤ steps
    cut : (vs : List Val) → Cut p (Arguments (target.Join join.Collect) (trees_of (kept_calls has.closure 0 i texts)) vs) asked steps so_far

  late_now : (i text : ℕ) (texts : List ℕ) (known : i < length t.names) (n : ℕ) → Halts i known text n → Lates i (text ∷ texts) n
  late_now i text texts known n h = record {
    steps = h.steps;
    many = h.many;
    cut = λ vs. cut_argument (cut_call (cut_arguments (plain refl) (cut_arguments (plain refl) (cut_arguments (values.read refl refl) (cut_called (h.cut (list_cell ∷ [])))))));
  }

  late_more : (i text : ℕ) (texts : List ℕ) (known : i < length t.names) (k : ℕ) (b : Bool) (m : ℕ) → Keeps i known text k b → Lates (suc i) texts m → Lates i (text ∷ texts) (suc (k + m))
  late_more i text texts known k b m r rest = record {
    steps = ends.steps r.steps rest.steps;
    many = omega (arith, steps_are r.steps rest.steps, r.many, rest.many);
    cut = λ vs. cut_arguments (one_call i text known k b r) (rest.cut (vs ++ option_val (kept b text) ∷ []));
  }

  lates : (i : ℕ) (texts : List ℕ) (names : List Text) (n : ℕ) → AreNamed p.texts texts names → i + length names ≡ length t.names → Lags t stack i names n → Lates i texts n
  lates i texts [] n are count l = absurd l
  lates i [] (name ∷ names) n are count l = absurd are
  lates i (text ∷ texts) (name ∷ names) n are count l =
      let known : i < length t.names = omega arith in
      ⊎_elim (λ (tries : Tries t i n stack). late_now i text texts known n (halts i known text n tries))
      (λ (r : (k : ℕ) × (b : Bool) × (m : ℕ) × Tried t i k stack b × Lags t stack (suc i) names m × (n ≡ suc (k + m))).
      subst (λ (j : ℕ). Lates i (text ∷ texts) j) (sym r.5) (late_more i text texts known r.0 r.1 r.2 (keeps i known text r.0 r.1 r.3) (lates (suc i) texts names r.2 are.1 (omega arith) r.4)))
      l

  -- ---- the call
  -- it gives the list that so many looks find
  pub record Gives (n : ℕ) (found : List Text) : Type 0 where
    pub steps : ℕ
    pub few : steps ≤ 5 * n + 1
    pub value : Val
    pub read : texts_of p value ≡ Some found
    pub set : set_value value ≡ Some value
    pub ends : (env : List Val) → EndsIn p (Enter expected (list_cell ∷ [])) (place env) steps (Giving value (place env))

  gives_by : (n : ℕ) (found : List Text) → Filters 0 has.texts n found → Gives n found
  gives_by n found f = record {
    steps = suc f.steps;
    few = omega (arith, f.few);
    value = list_val (held f.answers);
    read = ap (texts_among p []) (list_of_vals (held f.answers)) ∙ f.named [];
    set = refl;
    ends = λ env. enter has.expected_there refl (call (f.ends [] _ (joined_found _ refl refl (ap (option_map list_val) (collects_held [] f.answers))))) refl;
  }

  -- it is spent after at least so many steps
  pub record Lacks (n : ℕ) : Type 0 where
    pub steps : ℕ
    pub many : suc n ≤ steps
    pub cut : (env : List Val) → Cut p (Enter expected (list_cell ∷ [])) (place env) steps so_far

  lacks_by : (n : ℕ) → Lates 0 has.texts n → Lacks n
  lacks_by n l = record { steps = suc l.steps; many = omega (arith, l.many); cut = λ env. cut_enter has.expected_there refl (cut_call (l.cut [])) }

  all_names : 0 + length t.names ≡ length t.names
  all_names = omega arith

  pub gives : (n : ℕ) (found : List Text) → Collects t stack 0 t.names n found → Gives n found
  gives n found c = gives_by n found (filters 0 has.texts t.names n found has.named all_names c)

  pub lacks : (n : ℕ) → Lags t stack 0 t.names n → Lacks n
  lacks n l = lacks_by n (lates 0 has.texts t.names n has.named all_names l)
