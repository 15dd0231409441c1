-- The calls that a trial is made by: of the printed function, and of the closure that keeps a terminal.
use Rattle.std.proofs.Common.{◌≡◌, ℕ, suc, ◌+◌, ◌*◌, ◌<◌, ◌≤◌, ℤ, pos, Bool, true, false, List, [], ◌∷◌, map, length, Some, refl, arith}
use Rattle.std.specs.Prelude.{slice_get, if◌then◌else◌}
use Rattle.lp_core.specs.declared.expr.Function.{Function}
use Rattle.lp_core.specs.declared.expr.Join.TheVariants as join
use Rattle.lp_core.specs.declared.expr.Op.TheVariants as op
use Rattle.lp_core.specs.declared.value.StateType.{StateType}
use Rattle.lp_core.specs.declared.value.Tag.TheVariants as tag
use Rattle.lp_core.specs.Datum.{Unset, Written}
use Rattle.lp_core.specs.Numbers.{index, truth}
use Rattle.lp_core.specs.Reading.{empty, wrapped}
use Rattle.lp_core.specs.Store.{Program, UserCall, States}
use Rattle.lp_core.specs.Tree.{Apply, If, Loop}
use Rattle.lp_core.specs.Val.{Val, Plain}
use Rattle.lp_repr.specs.declared.lr1.Lr1State.{Lr1State}
use Rattle.lp_repr.specs.declared.repr.Grammar.{Grammar}
use Rattle.lp_machine.specs.Tables.{Tables}
use Rattle.lp_maker.specs.Constructs.{absent, read, write, joined, call_function, one_after_another}
use Rattle.lp_bodies.specs.Source.{function}
use Rattle.lp_turns.specs.Readings.{cell_val}
use Rattle.lp_code_laws.specs.Ends.Cut.{Cut}
use Rattle.lp_code_laws.specs.Ends.Ends.{Moment, moment, Enter, Giving, EndsIn}
use Rattle.lp_code_laws.specs.Ends.Ends as ends
use Rattle.lp_code_laws.proofs.Ends.Steps.{steps_are}
use Rattle.lp_code_laws.proofs.Ends.Calls.{arguments_done, enter, enter_with_cells}
use Rattle.lp_code_laws.proofs.Ends.Calls as calls
use Rattle.lp_code_laws.proofs.Ends.Cuts.{cut_arguments, cut_behind, cut_block, cut_call, cut_called, cut_enter, cut_line, cut_test}
use Rattle.lp_code_laws.proofs.Ends.Rules.{apply_to, argument, block, block_left, block_next, call, if_true, if_false, plain}
use Rattle.lp_code_laws.proofs.Ends.Values as values
use Rattle.lp_turn_laws.specs.Paths.Over.{IsOver}
use Rattle.lp_turn_laws.specs.Paths.Standing.{IsOnPath}
use Rattle.lp_question_laws.specs.Expected.Trials.{Tried, Tries}
use Rattle.lp_question_laws.proofs.Expected.Lines as lines
use Rattle.lp_question_laws.proofs.Expected.Lines.{turn}
use Rattle.lp_question_laws.proofs.Expected.Verdicts.{HasLookUps}
use Rattle.lp_question_laws.proofs.Expected.Loops.{Ends, Stops, trial_ends, trial_stops}

-- where the states that were lent are all that there is
abbrev pub lent : List ℤ → List UserCall → List Val → Moment
lent own so_far env = moment (record { env = env; cells = States own ∷ []; taken = 0 }) so_far

-- whether a stack accepts a token
abbrev pub accepts_code : StateType → ℕ → ℕ → ℕ → ℕ → Function
accepts_code kind eof action simulate goto =
    function 3 9 (one_after_another (write 3 (Apply op.CopyStates (read 1)) ∷ joined join.Extend (read 3 ∷ read 0 ∷ []) ∷ Loop (turn kind eof action simulate goto) ∷ []))

-- `Some(terminal)` where it does
abbrev pub keep_code : ℕ → Function
keep_code accepts =
    function 3 0 (If (call_function accepts (absent ∷ read 2 ∷ Apply (op.Wrap tag.Present) (read 0) ∷ [])) (Apply (op.Wrap tag.Present) (read 1)) absent)

-- nothing is written yet
unwritten : lines.Written
unwritten = record { count = Plain Unset; top = Plain Unset; action = Plain Unset; token = Plain Unset; simulated = Plain Unset; pop = Plain Unset; nonterminal = Plain Unset; under = Plain Unset }

-- what is kept
abbrev pub kept_val : Bool → ℕ → Val
kept_val b n = if b then wrapped tag.Present (Plain (Written n)) else empty tag.Absent

-- a program has the closure that keeps a terminal, over the printed function, and this over what is looked up as the tables have it
pub record HasClosure (p : Program) (kind : StateType) (states : List Lr1State) (t : Tables) : Type 0 where
  pub action : ℕ
  pub simulate : ℕ
  pub goto : ℕ
  pub looks_up : HasLookUps p kind states t action simulate goto
  pub eof : ℕ
  pub accepts : ℕ
  pub accepts_there : slice_get p.functions accepts ≡ Some (accepts_code kind eof action simulate goto)
  pub closure : ℕ
  pub closure_there : slice_get p.functions closure ≡ Some (keep_code accepts)

module _ {g : Grammar} {start : ℕ} {states : List Lr1State} {t : Tables} (over : IsOver g start states t) {p : Program} {kind : StateType} (has : HasClosure p kind states t) (stack : List ℕ) (path : IsOnPath states stack) (so_far : List UserCall) where
  module _ (i : ℕ) (known : i < length t.names) where
    -- the call of the printed function tells whether the trial says yes
    pub record Accepts (k : ℕ) (b : Bool) : Type 0 where
      pub steps : ℕ
      pub few : steps ≤ 4 * (k + 1) + 1
      pub many : suc k ≤ steps
      pub ends : (env : List Val) → EndsIn p (Enter has.accepts (empty tag.Absent ∷ cell_val 0 ∷ wrapped tag.Present (index i) ∷ [])) (lent (map pos stack) so_far env) steps (Giving (truth b) (lent (map pos stack) so_far env))

    accepts_by : (k : ℕ) (b : Bool) → Ends over has.looks_up has.eof (map pos stack) i known so_far unwritten stack k b → Accepts k b
    unfolding unwritten
    accepts_by k b e = record {
      steps = suc e.steps;
      few = omega (arith, e.few);
      many = omega (arith, e.many);
      ends = λ env. enter_with_cells (States (map pos stack) ∷ []) (States e.copy ∷ []) has.accepts_there refl
          (block (block_next (values.write (apply_to (values.read refl refl) refl) refl) (block_next (call (argument (values.read refl refl) (argument (values.read refl refl) (calls.joined refl refl)))) (block_left e.ends)))) refl refl;
    }

    pub accepts_ends : (k : ℕ) (b : Bool) → Tried t i k stack b → Accepts k b
    accepts_ends k b tried = accepts_by k b (trial_ends over has.looks_up has.eof (map pos stack) i known so_far unwritten stack k b path tried)

    -- it is spent
    pub record Rests (n : ℕ) : Type 0 where
      pub steps : ℕ
      pub many : n ≤ steps
      pub cut : (env : List Val) → Cut p (Enter has.accepts (empty tag.Absent ∷ cell_val 0 ∷ wrapped tag.Present (index i) ∷ [])) (lent (map pos stack) so_far env) steps so_far

    rests_by : (n : ℕ) → Stops over has.looks_up has.eof (map pos stack) i known so_far unwritten stack n → Rests n
    unfolding unwritten
    rests_by n s = record {
      steps = suc s.steps;
      many = omega (arith, s.many);
      cut = λ env. cut_enter has.accepts_there refl
          (cut_block (cut_behind (values.write (apply_to (values.read refl refl) refl) refl) (cut_behind (call (argument (values.read refl refl) (argument (values.read refl refl) (calls.joined refl refl)))) (cut_line s.cut))));
    }

    pub accepts_rests : (n : ℕ) → Tries t i n stack → Rests n
    accepts_rests n tries = rests_by n (trial_stops over has.looks_up has.eof (map pos stack) i known so_far unwritten stack n path tries)

    -- the call of the closure, for the terminal of a text
    module _ (text : ℕ) where
      abbrev pub arguments : List Val
      arguments = index i ∷ Plain (Written text) ∷ cell_val 0 ∷ []

      -- it keeps the terminal where the trial says yes
      pub record Keeps (k : ℕ) (b : Bool) : Type 0 where
        pub steps : ℕ
        pub few : steps ≤ 4 * (k + 1) + 2
        pub many : suc k ≤ steps
        pub ends : (env : List Val) → EndsIn p (Enter has.closure arguments) (lent (map pos stack) so_far env) steps (Giving (kept_val b text) (lent (map pos stack) so_far env))

      keeps_by : (k : ℕ) (b : Bool) → Accepts k b → Keeps k b
      keeps_by k true a = record {
        steps = suc (ends.steps a.steps 0);
        few = omega (arith, a.few, steps_are a.steps 0);
        many = omega (arith, a.many, steps_are a.steps 0);
        ends = λ env. enter has.closure_there refl
            (if_true (call (argument (plain refl) (argument (values.read refl refl) (argument (apply_to (values.read refl refl) refl) (arguments_done (a.ends arguments)))))) refl (apply_to (values.read refl refl) refl)) refl;
      }
      keeps_by k false a = record {
        steps = suc (ends.steps a.steps 0);
        few = omega (arith, a.few, steps_are a.steps 0);
        many = omega (arith, a.many, steps_are a.steps 0);
        ends = λ env. enter has.closure_there refl
            (if_false (call (argument (plain refl) (argument (values.read refl refl) (argument (apply_to (values.read refl refl) refl) (arguments_done (a.ends arguments)))))) refl (plain refl)) refl;
      }

      pub keeps : (k : ℕ) (b : Bool) → Tried t i k stack b → Keeps k b
      keeps k b tried = keeps_by k b (accepts_ends k b tried)

      -- it is spent
      pub record Halts (n : ℕ) : Type 0 where
        pub steps : ℕ
        pub many : n ≤ steps
        pub cut : (env : List Val) → Cut p (Enter has.closure arguments) (lent (map pos stack) so_far env) steps so_far

      halts_by : (n : ℕ) → Rests n → Halts n
      halts_by n r = record {
        steps = suc r.steps;
        many = omega (arith, r.many);
        cut = λ env. cut_enter has.closure_there refl
            (cut_test (cut_call (cut_arguments (plain refl) (cut_arguments (values.read refl refl) (cut_arguments (apply_to (values.read refl refl) refl) (cut_called (r.cut arguments)))))));
      }

      pub halts : (n : ℕ) → Tries t i n stack → Halts n
      halts n tries = halts_by n (accepts_rests n tries)
