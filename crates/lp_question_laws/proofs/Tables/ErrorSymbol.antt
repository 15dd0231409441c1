-- The symbol of an error is the variant of the error terminal's type, with the machine's value.
use Rattle.std.proofs.Common.{◌≡◌, ℕ, ◌≤◌, List, [], ◌∷◌, Option, Some, refl, ap, ◌∙◌}
use Rattle.std.specs.Prelude.{slice_get, unwrap_or, length}
use Rattle.lp_repr.specs.declared.lr1.Lr1State.{Lr1State}
use Rattle.lp_repr.specs.declared.numbering.SymbolNumber.TheVariants as by_number
use Rattle.lp_repr.specs.declared.repr.Grammar.{Grammar}
use Rattle.lp_repr.specs.declared.values.Recovery.{Recovery}
use Rattle.lp_driver.specs.Questions.{Error_symbol, Says}
use Rattle.lp_driver.specs.Values.{Value, Recovered}
use Rattle.lp_core.specs.declared.expr.Function.{Function}
use Rattle.lp_core.specs.declared.expr.Op.TheVariants as op
use Rattle.lp_core.specs.declared.value.Tag.TheVariants as tag
use Rattle.lp_core.specs.Datum.{Parsed}
use Rattle.lp_core.specs.Reading.{wrapped}
use Rattle.lp_core.specs.Store.{Program}
use Rattle.lp_core.specs.Tree.{Tree, Apply}
use Rattle.lp_core.specs.Val.{Plain}
use Rattle.lp_machine.specs.GrammarTables.{error_of}
use Rattle.lp_maker.specs.declared.methods.Methods.{Methods}
use Rattle.lp_maker.specs.Constructs.{take_slot}
use Rattle.lp_maker.specs.Making.{Making, number_in}
use Rattle.lp_bodies.specs.MachineMethods.{Recovering, after_expected, recovery_rows}
use Rattle.lp_bodies.specs.Source.{function}
use Rattle.lp_table.specs.Pieces.{variant_text}
use Rattle.lp_table.specs.ReductionLines.{variant_at}
use Rattle.lp_table.specs.Starts.{Start}
use Rattle.lp_turns.specs.Asking.{Asking}
use Rattle.lp_turns.specs.declared.runner.Runner.{Runner}
use Rattle.lp_turns.specs.DriverCall.{program_answers, with_calls}
use Rattle.lp_valid.specs.ValidGrammar.{IsValidGrammar}
use Rattle.lp_view.specs.PartLists.{Form}
use Rattle.lp_code_laws.specs.Ends.Ends.{Moment, Enter, Giving, EndsIn}
use Rattle.lp_code_laws.proofs.Ends.Calls.{enter}
use Rattle.lp_code_laws.proofs.Ends.Rules.{apply_found}
use Rattle.lp_code_laws.proofs.Ends.Values.{take}
use Rattle.lp_turn_laws.specs.Asked.Runners.{Asks, asking_over, Replies}
use Rattle.lp_turn_laws.proofs.Asked.Asked.{over_replies}
use Rattle.lp_question_laws.proofs.Gotos.GotoAnswered.{built_items}
use Rattle.lp_question_laws.proofs.Gotos.LinkModule.{complete}
use Rattle.lp_question_laws.proofs.Gotos.LinkTable.{items_driven, machine_is}
use Rattle.lp_question_laws.specs.Tables.Symbols.{IsSymbol, IsVariant}
use Rattle.lp_question_laws.proofs.Tables.Built.{RunsBuilt, is_made, method_runs}
use Rattle.lp_question_laws.proofs.Tables.Methods.{before_recovery, error_symbol_method}
use Rattle.lp_question_laws.proofs.Tables.Recovering.{error_variant, recovered, recovers}

-- `Variant(recovery)`
abbrev pub wrap_code : ℕ → Function
wrap_code n = function 1 0 (Apply (op.Wrap (tag.Variant n)) (take_slot 0))

wrapped_once : (p : Program) (f n : ℕ) (value : Value) (m : Moment) → slice_get p.functions f ≡ Some (wrap_code n) → EndsIn p (Enter f (Plain (Parsed value) ∷ [])) m 1 (Giving (wrapped (tag.Variant n) (Plain (Parsed value))) m)
wrapped_once p f n value m is = enter is refl (apply_found _ (take refl refl) refl refl) refl

module _ {prefix : List ℕ} {program : Form} {g : Grammar} {states : List Lr1State} {st : Start} {asked : Asking} {methods : Methods} (runs : RunsBuilt prefix program g states st asked methods) (rules : IsValidGrammar g) where
  abbrev last : Making
  last = complete prefix program (built_items g states st)

  module _ (e n : ℕ) (mended : error_of g ≡ Some e) (variant : IsVariant g last (by_number.Terminal e) n) where
    error_symbol_runs : slice_get asked.program.functions methods.error_recovery_symbol ≡ Some (wrap_code n)
    error_symbol_runs =
        let form = (items_driven g states st).machine in
        let is = is_made runs in
        let m = after_expected form last in
        let v = variant_text (variant_at g (Some (by_number.Terminal e))) in
        let kept : number_in v m.variants ≡ Some n = (before_recovery form is.names (length is.fields) last).variants v n variant in
        let code : Tree → Option Function = λ (t : Tree). Some (function 1 0 t) in
        method_runs runs (λ m. m.error_recovery_symbol) _ (error_symbol_method form is.names (length is.fields) last)
        ∙ ap (λ (f : Form). code (recovery_rows m f).symbol) (machine_is g states st)
        ∙ ap (λ (r : Recovering). code r.symbol) (recovers m g states st)
        ∙ ap (λ (o : Option (List ℕ)). code (recovered m o).symbol) (error_variant g rules e mended)
        ∙ ap (λ (o : Option ℕ). Some (wrap_code (unwrap_or o (length m.variants)))) kept

    -- the driver asks for it: it is answered after a step
    pub error_symbol_answered : (recovery : Recovery) (closure : Option ℕ) (d : Runner) → Asks asked methods closure d → (most : ℕ) → 1 ≤ most
        → Replies asked methods closure d most (λ x. IsSymbol g last (by_number.Terminal e) x (Recovered recovery)) (program_answers (Error_symbol recovery) d)
    error_symbol_answered recovery closure d h most few =
        let v = wrapped (tag.Variant n) (Plain (Parsed (Recovered recovery))) in
        let there : slice_get d.asked.program.functions d.methods.error_recovery_symbol ≡ Some (wrap_code n) =
        ap (λ (a : Asking). slice_get a.program.functions d.methods.error_recovery_symbol) h.program ∙ ap (λ (m : Methods). slice_get asked.program.functions m.error_recovery_symbol) h.by ∙ error_symbol_runs in
        over_replies asked methods closure d.methods.error_recovery_symbol (Plain (Parsed (Recovered recovery)) ∷ []) [] d (λ r d'. Says r.0 d') d.calls most (λ x. IsSymbol g last (by_number.Terminal e) x (Recovered recovery)) 1 v (asking_over [] d) v h
        (wrapped_once d.asked.program d.methods.error_recovery_symbol n (Recovered recovery) (asking_over [] d) there)
        (refl {a = d.calls}) (λ k. refl {a = Says v (with_calls d d.calls k)}) (record { number = n; variant = variant; holds = refl {a = v} }) few
