-- The filter over the terminals keeps those whose trials say yes.
use Rattle.std.proofs.Common.{◌≡◌, ℕ, suc, ◌+◌, ◌*◌, ◌<◌, ◌≤◌, Bool, true, false, List, [], ◌∷◌, ◌++◌, length, map, pos, Option, Some, None, refl, sym, ap, ◌∙◌, subst, ⊎_elim, arith, append_assoc, append-nil}
use Rattle.std.specs.Prelude.{slice_get}
use Rattle.std.specs.Option.{option_and_then}
use Rattle.lp_core.specs.declared.expr.Join.TheVariants as join
use Rattle.lp_core.specs.declared.expr.Target.TheVariants as target
use Rattle.lp_core.specs.declared.value.StateType.{StateType}
use Rattle.lp_core.specs.Datum.{Written}
use Rattle.lp_core.specs.JoinMeaning.{collected, texts_among}
use Rattle.lp_core.specs.Reading.{option_val}
use Rattle.lp_core.specs.Store.{Program, UserCall}
use Rattle.lp_core.specs.Tree.{trees_of, end}
use Rattle.lp_core.specs.Tree as tree
use Rattle.lp_core.specs.declared.expr.Leaf.TheVariants as leaf
use Rattle.lp_maker.specs.Constructs.{read, call_function}
use Rattle.lp_core.specs.Val.{Val, Plain}
use Rattle.lp_driver.specs.Values.{Text}
use Rattle.lp_repr.specs.declared.lr1.Lr1State.{Lr1State}
use Rattle.lp_repr.specs.declared.repr.Grammar.{Grammar}
use Rattle.lp_machine.specs.Tables.{Tables}
use Rattle.lp_bodies.specs.Tables.{kept_calls}
use Rattle.lp_turns.specs.Readings.{cell_val}
use Rattle.lp_code_laws.specs.Ends.Cut.{Cut}
use Rattle.lp_code_laws.specs.Ends.Ends as ends
use Rattle.lp_code_laws.specs.Ends.Ends.{Moment, Eval, Arguments, Enter, Outcome, Giving, EndsIn}
use Rattle.lp_code_laws.proofs.Ends.Calls.{arguments_done}
use Rattle.lp_code_laws.proofs.Ends.Cuts.{cut_argument, cut_arguments, cut_call, cut_called}
use Rattle.lp_code_laws.proofs.Ends.Rules.{argument, call, plain}
use Rattle.lp_code_laws.proofs.Ends.Steps.{steps_are}
use Rattle.lp_code_laws.proofs.Ends.Values as values
use Rattle.lp_turn_laws.specs.Paths.Over.{IsOver}
use Rattle.lp_question_laws.proofs.Gotos.LinkTerminals.{AreNamed}
use Rattle.lp_turn_laws.specs.Paths.Standing.{IsOnPath}
use Rattle.lp_question_laws.specs.Expected.Trials.{Tried, Tries, with_kept, Collects, Lags}
use Rattle.lp_question_laws.proofs.Expected.Accepts.{HasClosure, lent, kept_val, Keeps, keeps, Halts, halts}

-- what some options hold
abbrev pub held : List (Option Val) → List Val
held [] = []
held (None ∷ os) = held os
held (Some v ∷ os) = v ∷ held os

-- the options are collected so
pub collects_held : (before : List Val) (os : List (Option Val)) → collected before (map option_val os) ≡ Some (before ++ held os)
collects_held before [] = ap Some (sym (append-nil before))
collects_held before (None ∷ os) = collects_held before os
collects_held before (Some v ∷ os) = collects_held (before ++ v ∷ []) os ∙ ap Some (append_assoc before (v ∷ []) (held os))

-- a terminal's text is kept, or it isn't
abbrev pub kept : Bool → ℕ → Option Val
kept true text = Some (Plain (Written text))
kept false text = None

pub kept_is : (b : Bool) (text : ℕ) → kept_val b text ≡ option_val (kept b text)
kept_is true text = refl
kept_is false text = refl

-- texts that are named after others
abbrev pub Names : Program → List (Option Val) → List Text → Type 0
Names p os names = (before : List Text) → texts_among p before (held os) ≡ Some (before ++ names)

pub names_more : (p : Program) (b : Bool) (text : ℕ) (name : Text) (os : List (Option Val)) (names : List Text) → slice_get p.texts text ≡ Some name → Names p os names → Names p (kept b text ∷ os) (with_kept b name names)
names_more p true text name os names is rest before =
    ap (λ (o : Option Text). option_and_then (λ (x : Text). texts_among p (before ++ x ∷ []) (held os)) o) is ∙ rest (before ++ name ∷ []) ∙ ap Some (append_assoc before (name ∷ []) names)
names_more p false text name os names is rest before = rest before

module _ {g : Grammar} {start : ℕ} {states : List Lr1State} {t : Tables} (over : IsOver g start states t) {p : Program} {kind : StateType} (has : HasClosure p kind states t) (stack : List ℕ) (path : IsOnPath states stack) (so_far : List UserCall) where
  -- where the filter runs: its one parameter is the list that was lent
  abbrev pub place : Moment
  place = lent (map pos stack) so_far (cell_val 0 ∷ [])

  -- the calls for some terminals, before others
  pub record Filters (i : ℕ) (texts : List ℕ) (n : ℕ) (names : List Text) : Type 0 where
    pub answers : List (Option Val)
    pub named : Names p answers names
    pub steps : ℕ
    pub few : steps ≤ 6 * n
    pub ends : (vs : List Val) (o : Outcome) → EndsIn p (Arguments (target.Join join.Collect) end (vs ++ map option_val answers)) place 0 o → EndsIn p (Arguments (target.Join join.Collect) (trees_of (kept_calls has.closure 0 i texts)) vs) place steps o

  -- the call for a terminal
  one_call : (i text : ℕ) (known : i < length t.names) (k : ℕ) (b : Bool) (r : Keeps over has stack path so_far i known text k b)
      → EndsIn p (Eval (call_function has.closure (tree.Plain (leaf.Index i) ∷ tree.Plain (leaf.Text text) ∷ read 0 ∷ []))) place r.steps (Giving (option_val (kept b text)) place)
  one_call i text known k b r =
      subst (λ (v : Val). EndsIn p (Eval (call_function has.closure (tree.Plain (leaf.Index i) ∷ tree.Plain (leaf.Text text) ∷ read 0 ∷ []))) place r.steps (Giving v place)) (kept_is b text)
      (call (argument (plain refl) (argument (plain refl) (argument (values.read refl refl) (arguments_done (r.ends (cell_val 0 ∷ [])))))))

  filters_more : (i text : ℕ) (texts : List ℕ) (name : Text) (known : i < length t.names) (k : ℕ) (b : Bool) (m : ℕ) (names : List Text) → slice_get p.texts text ≡ Some name
      → Keeps over has stack path so_far i known text k b → Filters (suc i) texts m names → Filters i (text ∷ texts) (suc (k + m)) (with_kept b name names)
  filters_more i text texts name known k b m names is r rest =
      let v = option_val (kept b text) in
      record {
        answers = kept b text ∷ rest.answers;
        named = names_more p b text name rest.answers names is rest.named;
        steps = ends.steps r.steps rest.steps;
        few = omega (arith, steps_are r.steps rest.steps, r.few, rest.few);
        ends = λ vs o h. argument (one_call i text known k b r) (rest.ends (vs ++ v ∷ []) o (subst (λ (l : List Val). EndsIn p (Arguments (target.Join join.Collect) end l) place 0 o) (sym (append_assoc vs (v ∷ []) (map option_val rest.answers))) h));
      }

  pub filters : (i : ℕ) (texts : List ℕ) (names : List Text) (n : ℕ) (list : List Text) → AreNamed p.texts texts names → i + length names ≡ length t.names → Collects t stack i names n list → Filters i texts n list
  filters i [] [] n list are count c = record { answers = []; named = λ before. ap Some (sym (append-nil before) ∙ ap (λ (l : List Text). before ++ l) (sym c.1)); steps = 0; few = omega arith; ends = λ vs o h. subst (λ (l : List Val). EndsIn p (Arguments (target.Join join.Collect) end l) place 0 o) (append-nil vs) h }
  filters i [] (name ∷ names) n list are count c = absurd are
  filters i (text ∷ texts) [] n list are count c = absurd are
  filters i (text ∷ texts) (name ∷ names) n list are count c =
      let known : i < length t.names = omega arith in
      let rest = filters (suc i) texts names c.2 c.3 are.1 (omega arith) c.5 in
      let r = keeps over has stack path so_far i known text c.0 c.1 c.4 in
      subst (λ (l : List Text). Filters i (text ∷ texts) n l) (sym c.7) (subst (λ (j : ℕ). Filters i (text ∷ texts) j (with_kept c.1 name c.3)) (sym c.6) (filters_more i text texts name known c.0 c.1 c.2 c.3 are.0 r rest))

  -- the calls for some terminals are spent after at least so many steps
  pub record Lates (i : ℕ) (texts : List ℕ) (n : ℕ) : Type 0 where
    pub steps : ℕ
    pub many : n ≤ steps
    pub cut : (vs : List Val) → Cut p (Arguments (target.Join join.Collect) (trees_of (kept_calls has.closure 0 i texts)) vs) place steps so_far

  late_now : (i text : ℕ) (texts : List ℕ) (known : i < length t.names) (n : ℕ) → Halts over has stack path so_far i known text n → Lates i (text ∷ texts) n
  late_now i text texts known n h = record {
    steps = h.steps;
    many = h.many;
    cut = λ vs. cut_argument (cut_call (cut_arguments (plain refl) (cut_arguments (plain refl) (cut_arguments (values.read refl refl) (cut_called (h.cut (cell_val 0 ∷ [])))))));
  }

  late_more : (i text : ℕ) (texts : List ℕ) (known : i < length t.names) (k : ℕ) (b : Bool) (m : ℕ) → Keeps over has stack path so_far i known text k b → Lates (suc i) texts m → Lates i (text ∷ texts) (suc (k + m))
  late_more i text texts known k b m r rest = record {
    steps = ends.steps r.steps rest.steps;
    many = omega (arith, steps_are r.steps rest.steps, r.many, rest.many);
    cut = λ vs. cut_arguments (one_call i text known k b r) (rest.cut (vs ++ option_val (kept b text) ∷ []));
  }

  pub lates : (i : ℕ) (texts : List ℕ) (names : List Text) (n : ℕ) → AreNamed p.texts texts names → i + length names ≡ length t.names → Lags t stack i names n → Lates i texts n
  lates i texts [] n are count l = absurd l
  lates i [] (name ∷ names) n are count l = absurd are
  lates i (text ∷ texts) (name ∷ names) n are count l =
      let known : i < length t.names = omega arith in
      ⊎_elim (λ (tries : Tries t i n stack). late_now i text texts known n (halts over has stack path so_far i known text n tries))
      (λ (r : (k : ℕ) × (b : Bool) × (m : ℕ) × Tried t i k stack b × Lags t stack (suc i) names m × (n ≡ suc (k + m))).
      subst (λ (j : ℕ). Lates i (text ∷ texts) j) (sym r.5) (late_more i text texts known r.0 r.1 r.2 (keeps over has stack path so_far i known text r.0 r.1 r.3) (lates (suc i) texts names r.2 are.1 (omega arith) r.4)))
      l
