-- Items become triples as the machine takes them.
use Rattle.std.proofs.Common.{◌≡◌, ℕ, ◌≤◌, Bool, true, false, List, [], ◌∷◌, Option, Some, refl, sym, ap, subst, ◌∙◌, arith, length}
use Rattle.std.specs.Prelude.{slice_get}
use Rattle.lp_repr.specs.declared.lr1.Lr1State.{Lr1State}
use Rattle.lp_repr.specs.declared.repr.Grammar.{Grammar}
use Rattle.lp_repr.specs.declared.values.RunItem.{RunItem}
use Rattle.lp_repr.specs.declared.values.RunItem.TheVariants as item
use Rattle.lp_repr.specs.declared.values.Loc.{Loc}
use Rattle.lp_driver.specs.Questions.{To_triple, Said}
use Rattle.lp_core.specs.declared.expr.Function.{Function}
use Rattle.lp_core.specs.OpMeaning.{place, item_val}
use Rattle.lp_machine.specs.Move.{located}
use Rattle.lp_machine.specs.TableAnswers.{located_item}
use Rattle.lp_maker.specs.declared.methods.Methods.{Methods}
use Rattle.lp_maker.specs.Making.{unmade}
use Rattle.lp_bodies.specs.MachineMethods.{with_methods}
use Rattle.lp_table.specs.Starts.{Start}
use Rattle.lp_turns.specs.Asking.{Asking}
use Rattle.lp_turns.specs.Readings.{item_of}
use Rattle.lp_turns.specs.Readings as readings
use Rattle.lp_turns.specs.declared.runner.Runner.{Runner}
use Rattle.lp_turns.specs.DriverCall.{program_answers, asks, to_triple}
use Rattle.lp_view.specs.PartLists.{Form}
use Rattle.lp_run.specs.Entered.{module_made}
use Rattle.lp_run.specs.Promised.{beginning}
use Rattle.lp_turn_laws.specs.Alike.Answered.{Tells}
use Rattle.lp_turn_laws.specs.Asked.Runners.{Asks, asking_over, Replies}
use Rattle.lp_turn_laws.proofs.Asked.Asked.{asks_replies}
use Rattle.lp_question_laws.proofs.Gotos.GotoAnswered.{built_items}
use Rattle.lp_question_laws.proofs.Gotos.LinkMaps.{get_more}
use Rattle.lp_question_laws.proofs.Gotos.LinkModule.{complete, all_extends, finished_there}
use Rattle.lp_question_laws.proofs.Gotos.LinkTable.{items_driven, items_plain}
use Rattle.lp_question_laws.proofs.Tables.Built.{RunsBuilt, is_made}
use Rattle.lp_question_laws.proofs.Tokens.Triples.{HasSource, item_made, item_read, item_ends}
use Rattle.lp_question_laws.proofs.Tokens.Closure.{Source, HasClosure, Without, With, closure_there}

same_place : (b : Bool) (at : Loc) → place b at ≡ located b at
same_place true at = refl
same_place false at = refl

same_item : (b : Bool) (i : RunItem) → readings.located_item b i ≡ located_item b i
same_item b (item.Token x token y) = ap (λ a. item.Token a token (place b y)) (same_place b x) ∙ ap (item.Token (located b x) token) (same_place b y)
same_item b (item.Fault name) = refl

-- whether items keep their locations
abbrev pub keeps_locations : List ℕ → Form → Bool
keeps_locations prefix program = (beginning (unmade prefix) program).located

-- the closure is asked, with an item as the token source gives it
abbrev to_triple_by : ℕ → Bool → Runner → RunItem → Said RunItem Runner
to_triple_by n keeps d i = asks item_of n (item_val keeps i ∷ []) d

module_located : (prefix : List ℕ) (program items : Form) → (module_made prefix program items).located ≡ keeps_locations prefix program
unfolding module_made
module_located prefix program items = refl

module _ {prefix : List ℕ} {program : Form} {g : Grammar} {states : List Lr1State} {st : Start} {asked : Asking} {methods : Methods} (runs : RunsBuilt prefix program g states st asked methods) where
  abbrev keeps : Bool
  keeps = keeps_locations prefix program

  keeps_is : asked.program.located ≡ keeps
  keeps_is = runs.located ∙ module_located prefix program (built_items g states st)

  -- a function that was made is the program's
  function_runs : (j : ℕ) (f : Function) → slice_get (complete prefix program (built_items g states st)).functions j ≡ Some (Some f) → slice_get asked.program.functions j ≡ Some f
  function_runs j f at =
      let is = is_made runs in
      let all = complete prefix program (built_items g states st) in
      let form = (items_driven g states st).machine in
      let e = (all_extends form is.names (length is.fields) all).functions in
      ap (λ (fs : List Function). slice_get fs j) (runs.functions ∙ is.functions)
      ∙ finished_there (with_methods form is.names (length is.fields) all).functions j f (ap (λ (fs : List (Option Function)). slice_get fs j) e.1 ∙ get_more all.functions e.0 j (Some f) at)

  has_source : (low n : ℕ) → Source keeps low (complete prefix program (built_items g states st)).functions n → HasSource asked.program keeps n
  has_source low n h = record {
    first = h.first;
    error = h.error;
    fault = h.fault;
    first_there = function_runs h.first _ h.first_there.1;
    error_there = λ e. function_runs h.error _ (h.error_there e).1;
    fault_there = function_runs h.fault _ h.fault_there.1;
    item_there = function_runs n _ h.item_there.1;
  }

  by_closure : (low : ℕ) (closure : Option ℕ) → HasClosure keeps low (complete prefix program (built_items g states st)).functions closure → (i : RunItem) (d : Runner) → Asks asked methods closure d → (most : ℕ) → 3 ≤ most
      → Replies asked methods closure d most (λ x. x ≡ located_item keeps i) (to_triple closure i d)
  by_closure low _ Without i d h most enough =
      let located_so : d.asked.program.located ≡ keeps = ap (λ (a : Asking). a.program.located) h.program ∙ keeps_is in
      Tells (readings.located_item d.asked.program.located i) d h (omega arith) refl (ap (λ (b : Bool). readings.located_item b i) located_so ∙ same_item keeps i)
  by_closure low _ (With n source) i d h most enough =
      let located_so : d.asked.program.located ≡ keeps = ap (λ (a : Asking). a.program.located) h.program ∙ keeps_is in
      let has : HasSource d.asked.program keeps n = subst (λ (a : Asking). HasSource a.program keeps n) (sym h.program) (has_source low n source) in
      let ends = item_ends keeps n has i (asking_over [] d) in
      subst (λ (b : Bool). Replies asked methods (Some n) d most (λ x. x ≡ located_item keeps i) (to_triple_by n b d i)) (sym located_so)
      (asks_replies asked methods (Some n) item_of n (item_val keeps i ∷ []) d most (λ x. x ≡ located_item keeps i) ends.0 (item_made keeps i) (asking_over [] d) (readings.located_item keeps i) h ends.2 refl (item_read keeps i) (same_item keeps i) (let few = ends.1 in omega arith))

  -- the driver asks for the triple of an item: it is answered after three steps at most
  pub triple_answered : (closure : Option ℕ) → closure ≡ (module_made prefix program (built_items g states st)).closure → (i : RunItem) (d : Runner) → Asks asked methods closure d → (most : ℕ) → 3 ≤ most
      → Replies asked methods closure d most (λ x. x ≡ located_item keeps i) (program_answers (To_triple i) d)
  triple_answered closure is i d h most enough =
      let all = complete prefix program (built_items g states st) in
      let b = beginning (unmade prefix) program in
      let has : HasClosure keeps (length b.actions.made.functions) all.functions closure = subst (HasClosure keeps (length b.actions.made.functions) all.functions) (sym (is ∙ (is_made runs).closure)) (closure_there prefix program (built_items g states st) (items_plain g states st)) in
      subst (λ (o : Option ℕ). Replies asked methods closure d most (λ x. x ≡ located_item keeps i) (to_triple o i d)) (sym h.source) (by_closure (length b.actions.made.functions) closure has i d h most enough)
