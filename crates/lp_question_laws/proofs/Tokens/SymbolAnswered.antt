-- The symbol of a token is the variant of its terminal's type, with the machine's value.
use Rattle.std.proofs.Common.{◌≡◌, ℕ, ◌+◌, ◌≤◌, ◌^◌, List, [], ◌∷◌, ◌++◌, length, Option, Some, refl, sym, ap, subst, ◌∙◌, arith, codes, append_assoc, Bool, true}
use Rattle.std.specs.Prelude.{slice_get}
use Rattle.std.specs.Str.{bytes_eq}
use Rattle.std.proofs.lemmas.Iterator.Adapters.{position_from-zero}
use Rattle.lp_repr.specs.Numbering.{terminals_of}
use Rattle.lp_repr.specs.declared.lr1.Lr1State.{Lr1State}
use Rattle.lp_repr.specs.declared.numbering.SymbolNumber.TheVariants as by_number
use Rattle.lp_repr.specs.declared.repr.Grammar.{Grammar}
use Rattle.lp_driver.specs.Questions.{Token_to_symbol, Says}
use Rattle.lp_driver.specs.Values.{Text, Token}
use Rattle.lp_core.specs.declared.expr.Function.{Function}
use Rattle.lp_core.specs.declared.value.Tag.TheVariants as tag
use Rattle.lp_core.specs.Datum.{Parsed}
use Rattle.lp_core.specs.Numbers.{index}
use Rattle.lp_core.specs.Reading.{wrapped}
use Rattle.lp_core.specs.Val.{Plain}
use Rattle.lp_machine.specs.declared.lookup.KnownTerminal.{KnownTerminal}
use Rattle.lp_machine.specs.GrammarTables.{known_among}
use Rattle.lp_machine.specs.Lookup.{terminal_in, value_with}
use Rattle.lp_machine.specs.TablesView.{value_by}
use Rattle.lp_maker.specs.declared.methods.Methods.{Methods}
use Rattle.lp_maker.specs.Constructs.{called}
use Rattle.lp_maker.specs.Making.{Making}
use Rattle.lp_bodies.specs.Actions.{takes}
use Rattle.lp_bodies.specs.Source.{function}
use Rattle.lp_bodies.specs.Tables.{symbol_function, with_symbols}
use Rattle.lp_table.specs.Starts.{Start}
use Rattle.lp_table.specs.Pieces.{variant_text}
use Rattle.lp_table.specs.TokenLines.{terminal_variant, token_symbols}
use Rattle.lp_turns.specs.Asking.{Asking}
use Rattle.lp_turns.specs.declared.runner.Runner.{Runner}
use Rattle.lp_turns.specs.DriverCall.{program_answers, token_val, with_calls}
use Rattle.lp_view.specs.PartLists.{Form}
use Rattle.lp_run.specs.Entered.{module_made}
use Rattle.lp_run.specs.Functions.{Made, function_made, made_of}
use Rattle.lp_turn_laws.specs.Asked.Runners.{Asks, asking_over, Replies}
use Rattle.lp_turn_laws.proofs.Asked.Asked.{over_replies}
use Rattle.lp_question_laws.proofs.Gotos.GotoAnswered.{built_items}
use Rattle.lp_question_laws.proofs.Gotos.LinkGrows.{Grown}
use Rattle.lp_question_laws.proofs.Gotos.LinkModule.{complete, RowMade, row_made, row_function}
use Rattle.lp_question_laws.proofs.Gotos.LinkTable.{symbols_declared, items_driven}
use Rattle.lp_question_laws.specs.Tables.Symbols.{IsSymbol}
use Rattle.lp_question_laws.proofs.Tables.Built.{RunsBuilt, is_made, method_runs}
use Rattle.lp_question_laws.proofs.Tables.Looks.{handed_on}
use Rattle.lp_question_laws.proofs.Tables.Methods.{symbol_method}
use Rattle.lp_question_laws.specs.Tokens.Told.{AreTold}
use Rattle.lp_question_laws.proofs.Tokens.Forms.{is_form}
use Rattle.lp_question_laws.proofs.Tokens.Groups.{found_at}
use Rattle.lp_question_laws.proofs.Tokens.Known.{AreKnown}
use Rattle.lp_question_laws.proofs.Tokens.Symbols.{whole, symbols_made, Called, symbol_called}
use Rattle.lp_question_laws.proofs.Tokens.FormOf.{AllWord}

-- the function of the row, and what is made with it
symbols_are_made : (m : Making) (g : Grammar) → function_made m (token_symbols g) ≡ made_of (symbol_function m (token_symbols g)) (with_symbols (token_symbols g) m)
unfolding function_made token_symbols
symbols_are_made m g = refl

module _ {prefix : List ℕ} {program : Form} {g : Grammar} {states : List Lr1State} {st : Start} {asked : Asking} {methods : Methods} (runs : RunsBuilt prefix program g states st asked methods)
    (same : prefix ≡ g.prefix) (w : AllWord g.prefix) (known : AreKnown g (terminals_of g)) (told : AreTold g) (few : length (terminals_of g) ≤ 2 ^ 63) where
  -- all that is made
  abbrev pub last : Making
  last = complete prefix program (built_items g states st)

  -- the symbol of a value at a place of the list of terminals
  symbol_at : (token : Token) (j : ℕ) (k : KnownTerminal) → slice_get (known_among g (terminals_of g)) j ≡ Some k → is_form token k.form ≡ true → (closure : Option ℕ) (d : Runner) → Asks asked methods closure d → (most : ℕ) → 2 ≤ most
      → Replies asked methods closure d most (λ x. IsSymbol g last (by_number.Terminal (0 + j)) x (value_with k.captures token)) (program_answers (Token_to_symbol (0 + j) token) d)
  symbol_at token j k at fits closure d h most enough =
      let items = built_items g states st in
      let form = (items_driven g states st).machine in
      let is = is_made runs in
      let row : RowMade prefix last (codes "token_to_symbol") (token_symbols g) = row_made prefix program items (token_symbols g) (codes "token_to_symbol") [] (symbols_declared g states st) in
      let made_so = symbols_are_made row.maker g in
      let made = whole g w known told few row.maker (row.same ∙ same) in
      let grown : Grown made.made last = subst (λ (m : Making). Grown m last) (ap (λ (m : Made). m.making) made_so ∙ symbols_made g w known told few row.maker (row.same ∙ same)) row.grown in
      let p = d.asked.program in
      let there : slice_get p.functions row.number ≡ Some (symbol_function row.maker (token_symbols g)) =
      ap (λ (a : Asking). slice_get a.program.functions row.number) h.program ∙ ap (λ (fs : List Function). slice_get fs row.number) runs.functions
      ∙ row_function prefix (module_made prefix program items) last form (token_symbols g) (codes "token_to_symbol") is row ∙ ap (λ (m : Made). Some m.function) made_so in
      let method : slice_get p.functions d.methods.token_to_symbol ≡ Some (function 2 0 (called (takes 2) (Some row.number))) =
      ap (λ (a : Asking). slice_get a.program.functions d.methods.token_to_symbol) h.program ∙ ap (λ (m : Methods). slice_get asked.program.functions m.token_to_symbol) h.by
      ∙ method_runs runs (λ m. m.token_to_symbol) _ (symbol_method form is.names (length is.fields) last row.number row.named) in
      let texts : p.texts ≡ made.made.texts ++ (grown.texts.0 ++ is.texts.0) =
      ap (λ (a : Asking). a.program.texts) h.program ∙ runs.texts ∙ is.texts.1 ∙ ap (λ (l : List Text). l ++ is.texts.0) grown.texts.1 ∙ append_assoc made.made.texts grown.texts.0 is.texts.0 in
      let called_so : Called g w known told few row.maker (row.same ∙ same) p row.number there (grown.texts.0 ++ is.texts.0) texts token j k at fits =
      symbol_called g w known told few row.maker (row.same ∙ same) p row.number there (grown.texts.0 ++ is.texts.0) texts token j k at fits in
      let v = wrapped (tag.Variant called_so.number) (Plain (Parsed (value_with k.captures token))) in
      over_replies asked methods closure d.methods.token_to_symbol (index (0 + j) ∷ token_val token ∷ []) [] d (λ r d'. Says r.0 d') d.calls most (λ x. IsSymbol g last (by_number.Terminal (0 + j)) x (value_with k.captures token)) 2 v (asking_over [] d) v h
      (handed_on p d.methods.token_to_symbol row.number 1 (index (0 + j)) (token_val token) v (asking_over [] d) method refl refl called_so.ends)
      (refl {a = d.calls}) (λ n. refl {a = Says v (with_calls d d.calls n)}) (record { number = called_so.number; variant = grown.variants (variant_text (terminal_variant g (0 + j))) called_so.number called_so.variant; holds = refl {a = v} }) enough

  -- the driver asks for the symbol of a token: it is answered after two steps
  pub symbol_answered : (token : Token) (i : ℕ) → terminal_in (known_among g (terminals_of g)) token ≡ Some i → (closure : Option ℕ) (d : Runner) → Asks asked methods closure d → (most : ℕ) → 2 ≤ most
      → Replies asked methods closure d most (λ x. IsSymbol g last (by_number.Terminal i) x (value_by (slice_get (known_among g (terminals_of g)) i) token)) (program_answers (Token_to_symbol i token) d)
  symbol_answered token i is closure d h most enough =
      let ks = known_among g (terminals_of g) in
      let test : KnownTerminal → Bool = λ k. bytes_eq k.form token.form in
      let f = found_at test 0 i ks (sym (position_from-zero test ks) ∙ is) in
      let j = f.0 in
      let k = f.1 in
      let none : 0 + j ≡ j = omega arith in
      let there : slice_get ks (0 + j) ≡ Some k = ap (slice_get ks) none ∙ f.3 in
      let Answer : ℕ → Type 0 = λ (n : ℕ). Replies asked methods closure d most (λ x. IsSymbol g last (by_number.Terminal n) x (value_by (slice_get ks n) token)) (program_answers (Token_to_symbol n token) d) in
      subst Answer (sym f.2)
      (subst (λ (o : Option KnownTerminal). Replies asked methods closure d most (λ x. IsSymbol g last (by_number.Terminal (0 + j)) x (value_by o token)) (program_answers (Token_to_symbol (0 + j) token) d)) (sym there)
      (symbol_at token j k f.3 f.4 closure d h most enough))
