-- The number of a token is that of the first terminal that has its form.
use Rattle.std.proofs.Common.{◌≡◌, ℕ, ◌+◌, ◌≤◌, ◌^◌, cond, List, [], ◌∷◌, ◌++◌, length, map, Option, Some, None, refl, sym, ap, subst, ◌∙◌, arith, codes}
use Rattle.std.specs.Prelude.{slice_get}
use Rattle.std.specs.List.{position_from}
use Rattle.std.specs.Option.{option_map}
use Rattle.std.specs.Str.{bytes_eq}
use Rattle.std.proofs.lemmas.Iterator.Adapters.{position_from-zero}
use Rattle.std.proofs.lemmas.List.{length-map}
use Rattle.lp_repr.specs.Numbering.{terminals_of}
use Rattle.lp_repr.specs.declared.lr1.Lr1State.{Lr1State}
use Rattle.lp_repr.specs.declared.repr.Grammar.{Grammar}
use Rattle.lp_driver.specs.Questions.{Token_to_index}
use Rattle.lp_driver.specs.Values.{Text, Token}
use Rattle.lp_core.specs.declared.expr.Function.{Function}
use Rattle.lp_core.specs.Numbers.{index}
use Rattle.lp_core.specs.Reading.{option_val}
use Rattle.lp_machine.specs.declared.lookup.KnownTerminal.{KnownTerminal}
use Rattle.lp_machine.specs.GrammarTables.{known_among}
use Rattle.lp_machine.specs.Lookup.{terminal_in}
use Rattle.lp_maker.specs.declared.methods.Methods.{Methods}
use Rattle.lp_maker.specs.Constructs.{called}
use Rattle.lp_maker.specs.Making.{Making}
use Rattle.lp_bodies.specs.Actions.{takes}
use Rattle.lp_bodies.specs.Source.{function}
use Rattle.lp_bodies.specs.Tables.{integer_function, with_integers}
use Rattle.lp_table.specs.Starts.{Start}
use Rattle.lp_table.specs.TokenLines.{token_numbers}
use Rattle.lp_turns.specs.Asking.{Asking}
use Rattle.lp_turns.specs.Readings.{index_option}
use Rattle.lp_turns.specs.declared.runner.Runner.{Runner}
use Rattle.lp_turns.specs.DriverCall.{program_answers, token_val}
use Rattle.lp_view.specs.PartLists.{Form}
use Rattle.lp_run.specs.Entered.{module_made}
use Rattle.lp_run.specs.Functions.{Made, function_made, made_of}
use Rattle.lp_turn_laws.specs.Asked.Runners.{Asks, asking_over, Replies}
use Rattle.lp_turn_laws.proofs.Asked.Asked.{asks_replies}
use Rattle.lp_question_laws.proofs.Gotos.GotoAnswered.{built_items}
use Rattle.lp_question_laws.proofs.Gotos.LinkHeaders.{IsWordy}
use Rattle.lp_question_laws.proofs.Gotos.LinkModule.{complete, RowMade, row_made, row_function}
use Rattle.lp_question_laws.proofs.Gotos.LinkTable.{integers_declared, items_driven}
use Rattle.lp_question_laws.proofs.Tables.Built.{RunsBuilt, is_made, method_runs}
use Rattle.lp_question_laws.proofs.Tables.Methods.{index_method}
use Rattle.lp_question_laws.proofs.Tables.Terminals.{known_few}
use Rattle.lp_question_laws.proofs.Tokens.Known.{AreKnown}
use Rattle.lp_question_laws.proofs.Tokens.Forms.{is_form, AreTexts}
use Rattle.lp_question_laws.proofs.Tokens.Integers.{forms, integers_texts, integer_ends}
use Rattle.lp_question_laws.proofs.Tokens.Texts.{texts_behind, handed_on_one}

-- the function of the row, and what is made with it
numbers_made : (m : Making) (g : Grammar) → function_made m (token_numbers g) ≡ made_of (integer_function m (token_numbers g)) (with_integers (token_numbers g) m)
unfolding function_made token_numbers
numbers_made m g = refl

-- the first form is that of the first terminal
form_place : (token : Token) (n : ℕ) (ks : List KnownTerminal) → position_from (is_form token) n (map (λ (k : KnownTerminal). k.form) ks) ≡ position_from (λ (k : KnownTerminal). bytes_eq k.form token.form) n ks
form_place token n [] = refl
form_place token n (k ∷ ks) = ap (cond (bytes_eq k.form token.form) (Some n)) (form_place token (n + 1) ks)

pub form_number : (token : Token) (ks : List KnownTerminal) → position_from (is_form token) 0 (map (λ (k : KnownTerminal). k.form) ks) ≡ terminal_in ks token
form_number token ks = form_place token 0 ks ∙ sym (position_from-zero (λ (k : KnownTerminal). bytes_eq k.form token.form) ks)

-- it is read as that
number_read : (o : Option ℕ) → index_option (option_val (option_map index o)) ≡ Some o
number_read None = refl
number_read (Some n) = refl

-- a program has the function, with its forms among the texts, and its method hands on to it
pub record HasNumbers (g : Grammar) (asked : Asking) (methods : Methods) : Type 0 where
  pub maker : Making
  pub same : maker.prefix ≡ g.prefix
  pub number : ℕ
  pub there : slice_get asked.program.functions number ≡ Some (integer_function maker (token_numbers g))
  pub texts : AreTexts asked.program.texts (length maker.texts) (forms g)
  pub method : slice_get asked.program.functions methods.token_to_index ≡ Some (function 1 0 (called (takes 1) (Some number)))

module _ {prefix : List ℕ} {program : Form} {g : Grammar} {states : List Lr1State} {st : Start} {asked : Asking} {methods : Methods} (runs : RunsBuilt prefix program g states st asked methods)
    (same : prefix ≡ g.prefix) (w : IsWordy g.prefix) (known : AreKnown g (terminals_of g)) (few : length (terminals_of g) ≤ 2 ^ 64) where
  forms_few : length (forms g) ≤ 2 ^ 64
  forms_few = omega (arith, length-map (known_among g (terminals_of g)) (λ (k : KnownTerminal). k.form), known_few g (terminals_of g))

  has_numbers : HasNumbers g asked methods
  has_numbers =
      let items = built_items g states st in
      let all = complete prefix program items in
      let form = (items_driven g states st).machine in
      let is = is_made runs in
      let r : RowMade prefix all (codes "token_to_integer") (token_numbers g) = row_made prefix program items (token_numbers g) (codes "token_to_integer") [] (integers_declared g states st) in
      let made_so = numbers_made r.maker g in
      let front : (function_made r.maker (token_numbers g)).making.texts ≡ r.maker.texts ++ forms g = ap (λ (m : Made). m.making.texts) made_so ∙ integers_texts g known r.maker (r.same ∙ same) w forms_few in
      record {
        maker = r.maker;
        same = r.same ∙ same;
        number = r.number;
        there = ap (λ (fs : List Function). slice_get fs r.number) runs.functions ∙ row_function prefix (module_made prefix program items) all form (token_numbers g) (codes "token_to_integer") is r ∙ ap (λ (m : Made). Some m.function) made_so;
        texts = texts_behind asked.program.texts r.maker.texts (forms g) r.grown.texts.0 is.texts.0
            (runs.texts ∙ is.texts.1 ∙ ap (λ (l : List Text). l ++ is.texts.0) (r.grown.texts.1 ∙ ap (λ (l : List Text). l ++ r.grown.texts.0) front));
        method = method_runs runs (λ m. m.token_to_index) _ (index_method form is.names (length is.fields) all r.number r.named);
      }

  -- the driver asks for a token's number: it is answered after two steps
  pub index_answered : (closure : Option ℕ) (token : Token) (d : Runner) → Asks asked methods closure d → (most : ℕ) → 2 ≤ most
      → Replies asked methods closure d most (λ x. x ≡ terminal_in (known_among g (terminals_of g)) token) (program_answers (Token_to_index token) d)
  index_answered closure token d h most enough =
      let has = has_numbers in
      let p = d.asked.program in
      let number = position_from (is_form token) 0 (forms g) in
      let v = option_val (option_map index number) in
      let code : slice_get p.functions has.number ≡ Some (integer_function has.maker (token_numbers g)) = ap (λ (a : Asking). slice_get a.program.functions has.number) h.program ∙ has.there in
      let texts : AreTexts p.texts (length has.maker.texts) (forms g) = subst (λ (a : Asking). AreTexts a.program.texts (length has.maker.texts) (forms g)) (sym h.program) has.texts in
      let method : slice_get p.functions d.methods.token_to_index ≡ Some (function 1 0 (called (takes 1) (Some has.number))) =
      ap (λ (a : Asking). slice_get a.program.functions d.methods.token_to_index) h.program ∙ ap (λ (m : Methods). slice_get asked.program.functions m.token_to_index) h.by ∙ has.method in
      asks_replies asked methods closure index_option d.methods.token_to_index (token_val token ∷ []) d most (λ x. x ≡ terminal_in (known_among g (terminals_of g)) token) 2 v (asking_over [] d) number h
      (handed_on_one p d.methods.token_to_index has.number 1 (token_val token) v (asking_over [] d) method refl
      (integer_ends g known has.maker has.same w forms_few p has.number token texts code))
      refl (number_read number) (form_number token (known_among g (terminals_of g))) enough
