-- The goto of a reduction that goes on is told by the built function for gotos.
use Rattle.std.proofs.Common.{◌≡◌, ℕ, zero, suc, ◌-◌, ◌≤◌, pos, List, [], ◌∷◌, ◌++◌, length, map, take, Option, Some, None, refl, sym, ap, ◌∙◌, arith, codes}
use Rattle.std.specs.Prelude.{slice_get}
use Rattle.std.specs.Option.{option_map}
use Rattle.std.proofs.lemmas.List.{length-map, map-append}
use Rattle.std.proofs.lemmas.Option.{slice_get-map}
use Rattle.lp_repr.specs.Numbering.{nonterminals_of, productions_of}
use Rattle.lp_repr.specs.ValidTables.{IsValidTables}
use Rattle.lp_repr.specs.declared.lr1.Lr1State.{Lr1State}
use Rattle.lp_repr.specs.declared.repr.Grammar.{Grammar}
use Rattle.lp_driver.specs.DriverState.{last_of}
use Rattle.lp_form.specs.declared.part.Part.TheVariants as part
use Rattle.lp_build.specs.Built as built
use Rattle.lp_core.specs.declared.expr.Function.{Function}
use Rattle.lp_core.specs.declared.value.StateType.{StateType}
use Rattle.lp_core.specs.CellMeaning.{last_in}
use Rattle.lp_core.specs.Numbers.{index, number}
use Rattle.lp_machine.specs.ExpectedList.{goto_from}
use Rattle.lp_machine.specs.Lookup.{goto_at}
use Rattle.lp_machine.specs.ReductionSpan.{below}
use Rattle.lp_machine.specs.Tables.{Tables}
use Rattle.lp_table.specs.Starts.{Start, state_text}
use Rattle.lp_table.specs.TableLines as lines
use Rattle.lp_view.specs.PartLists.{Form}
use Rattle.lp_maker.specs.declared.methods.Methods.{Methods}
use Rattle.lp_bodies.specs.Tables.{goto_function, goto_of}
use Rattle.lp_turns.specs.Asking.{Asking}
use Rattle.lp_core.specs.Flow.{Gives}
use Rattle.lp_code_laws.specs.Ends.Ends.{Moment, at, Enter, Giving, EndsIn}
use Rattle.lp_question_laws.proofs.Gotos.Goto.{Counts, answers, found, in_range, same_goto}
use Rattle.lp_question_laws.proofs.Gotos.GotoAnswered.{built_items, goto_made}
use Rattle.lp_question_laws.proofs.Gotos.GotoCode.{IsState, gotos_at}
use Rattle.lp_question_laws.proofs.Gotos.GotoData.{GotosAre, column_gotos_are}
use Rattle.lp_question_laws.proofs.Gotos.GotoRun.{goto_called}
use Rattle.lp_question_laws.proofs.Gotos.LinkTable.{goto_declared}
use Rattle.lp_question_laws.proofs.Gotos.StateTypes.{Numbers}
use Rattle.lp_turn_laws.specs.Paths.Standing.{LooksUp}
use Rattle.lp_question_laws.proofs.Tables.Built.{RunsBuilt}
use Rattle.lp_question_laws.proofs.Reductions.Reducing.{GoesTo}
use Rattle.lp_question_laws.proofs.Reductions.Later.{Stays, row_stays}
use Rattle.lp_question_laws.proofs.Reductions.Linked.{last, p, function_runs}

take_mapped : {A B : Type 0} (f : A → B) (n : ℕ) (xs : List A) → take n (map f xs) ≡ map f (take n xs)
take_mapped f zero xs = refl
take_mapped f (suc n) [] = refl
take_mapped f (suc n) (x ∷ xs) = ap (λ l. f x ∷ l) (take_mapped f n xs)

pub below_mapped : {A B : Type 0} (f : A → B) (n : ℕ) (xs : List A) → below n (map f xs) ≡ map f (below n xs)
below_mapped f n xs = ap (λ k. take (k - n) (map f xs)) (length-map xs f) ∙ take_mapped f (length xs - n) xs

last_mapped : (xs : List ℕ) (q : ℕ) → last_of xs ≡ Some q → last_in (map pos xs) ≡ Some (pos q)
last_mapped xs q is = ap (λ k. slice_get (map pos xs) (k - 1)) (length-map xs pos) ∙ slice_get-map pos xs (length xs - 1) ∙ ap (option_map pos) is

-- a goto from the top of a stack
pub top_goto : (t : Tables) (o : Option ℕ) (n to : ℕ) → goto_from t o n ≡ Some to → (q : ℕ) × (o ≡ Some q) × (t.goto q n ≡ Some to)
top_goto t None n to is = cc
top_goto t (Some q) n to is = (q, refl, is)

module _ {prefix : List ℕ} {program : Form} {g : Grammar} {states : List Lr1State} {st : Start} {asked : Asking} {methods : Methods} (runs : RunsBuilt prefix program g states st asked methods) (start : ℕ) (valid : IsValidTables g start states) (counts : Counts g states) (types : Numbers (state_text g states) (length states) (length (productions_of g))) where
  abbrev kind : StateType
  kind = types.kind

  goto_typed : goto_function (lines.goto_function g states) ≡ goto_of (Some kind) (built.over part.GotoFn (state_text g states ∷ []) (lines.gotos_from states 0 (nonterminals_of g)))
  unfolding lines.goto_function
  goto_typed = ap (λ o. goto_of o (lines.goto_function g states)) types.read

  -- the goto function under its name
  row : Stays prefix (last runs) (codes "goto") (lines.goto_function g states)
  row = row_stays prefix program (built_items g states st) (lines.goto_function g states) (codes "goto") [] (goto_declared g states st)

  goto_there : slice_get (p runs).functions row.number ≡ Some (goto_of (Some kind) (built.over part.GotoFn (state_text g states ∷ []) (lines.gotos_from states 0 (nonterminals_of g))))
  goto_there = function_runs runs row.number _ row.function ∙ ap (λ (f : Function). Some f) (goto_made row.maker g states ∙ goto_typed)

  -- it tells the goto of the tables
  goto_ends : (q n to : ℕ) → goto_at states q n ≡ Some to → (m : Moment) → EndsIn (p runs) (Enter row.number (number kind (pos q) ∷ index n ∷ [])) m 1 (Giving (number kind (pos to)) m)
  goto_ends q n to is m =
      let names = nonterminals_of g in
      let are : (k : ℕ) → GotosAre (IsState kind) (gotos_at states k) = λ k. column_gotos_are (IsState kind) k states (λ j lt. types.holds j (omega arith))
      (λ j t e. let r = (in_range g start states valid j k t (sym (same_goto states k j) ∙ e)).1 in types.holds t (omega arith)) in
      let within = (in_range g start states valid q n to is).0 in
      record {
        runs = λ left. goto_called (p runs) kind states row.number q n (state_text g states) names goto_there (types.holds 0 (omega arith)) are counts.nonterminals_fit within m.store.env m.store.cells m.store.taken m.calls left
            ∙ ap (λ k. Gives (number kind (pos k)) (at m left)) (answers states n q to is);
      }

  pub goes_to : (t : Tables) → LooksUp g states t → (stack : List ℕ) (n nonterminal to : ℕ) → n ≤ length stack → goto_from t (last_of (below n stack)) nonterminal ≡ Some to → GoesTo (p runs) (last runs) kind (map pos stack) n nonterminal (map pos (below n stack ++ to ∷ []))
  goes_to t known stack n nonterminal to enough is =
      let w = top_goto t (last_of (below n stack)) nonterminal to is in
      let there : goto_at states w.0 nonterminal ≡ Some to = sym (known.goto w.0 nonterminal) ∙ w.2 in
      let fits = types.holds w.0 (omega (arith, (found states w.0 nonterminal to there).within)) in
      record {
        tops = map pos (below n stack);
        top = pos w.0;
        to = pos to;
        next_is = map-append pos (below n stack) (to ∷ []);
        enough = omega (arith, length-map stack pos, enough);
        cut = below_mapped pos n stack;
        last = last_mapped (below n stack) w.0 w.1;
        fits = ap (option_map (number kind)) fits.fits;
        function = row.number;
        named = row.named;
        goes = goto_ends w.0 nonterminal to there;
      }
