-- The function from a token to the number of its terminal: its code, and a call.
use Rattle.std.proofs.Common.{◌≡◌, ℕ, suc, ◌+◌, ◌-◌, ◌<◌, ◌≤◌, ◌^◌, List, [], ◌∷◌, ◌++◌, length, Option, Some, None, refl, ap, sym, subst, ◌∙◌, arith, codes, decimal, append_assoc, append-nil, length-append}
use Rattle.std.proofs.Math.Seq.{take-length}
use Rattle.std.specs.Prelude.{slice_get}
use Rattle.std.specs.List.{position_from}
use Rattle.std.specs.Option.{option_map}
use Rattle.lp_repr.specs.Numbering.{terminals_of}
use Rattle.lp_repr.specs.declared.repr.Grammar.{Grammar}
use Rattle.lp_driver.specs.Values.{Token}
use Rattle.lp_core.specs.declared.expr.Function.{Function}
use Rattle.lp_core.specs.declared.expr.Leaf.TheVariants as leaf
use Rattle.lp_core.specs.declared.expr.Op.TheVariants as op
use Rattle.lp_core.specs.declared.expr.Test.TheVariants as test
use Rattle.lp_core.specs.declared.value.Tag.TheVariants as tag
use Rattle.lp_core.specs.Datum.{Unset}
use Rattle.lp_core.specs.Eval.{run, enter}
use Rattle.lp_core.specs.Flow.{State, Gives, spend, leave}
use Rattle.lp_core.specs.Numbers.{index}
use Rattle.lp_core.specs.Reading.{option_val}
use Rattle.lp_core.specs.Store.{Program}
use Rattle.lp_core.specs.Tree.{Tree, Plain, Apply}
use Rattle.lp_core.specs.Val.{Val}
use Rattle.lp_core.specs.Val as val
use Rattle.lp_form.specs.declared.part.Part.TheVariants as part
use Rattle.lp_build.specs.Built as built
use Rattle.lp_build.specs.Built.{row}
use Rattle.lp_build.specs.declared.functions.FunctionName.TheVariants as name
use Rattle.lp_parts.specs.Texts.{token_text}
use Rattle.lp_table.specs.Headers.{header_lines, token_header, generics_of, clauses_of}
use Rattle.lp_table.specs.MachineLines.{phantom_parameter}
use Rattle.lp_table.specs.TokenLines.{token_numbers, token_reference, number_type}
use Rattle.lp_view.specs.PartLists.{Form, parts_of, over}
use Rattle.lp_maker.specs.Slots.{Names, no_names, names_of, after_slots}
use Rattle.lp_maker.specs.Constructs.{absent, take_slot, function_of}
use Rattle.lp_maker.specs.Constructs as made
use Rattle.lp_maker.specs.Making.{Making, parameters, take_name}
use Rattle.lp_bodies.specs.Arms.{Gathered, no_arms, with_header, with_body, with_case}
use Rattle.lp_bodies.specs.Tables.{Reading, reading_of, choice_at, integer_row, integer_rows, integer_function, with_integers}
use Rattle.lp_turns.specs.DriverCall.{token_val}
use Rattle.lp_code_laws.specs.Ends.Ends.{Moment, at, Enter, Giving, EndsIn}
use Rattle.lp_question_laws.proofs.Gotos.Digits.{number_of_decimal}
use Rattle.lp_question_laws.proofs.Gotos.Whole.{IsWhole, AreWhole, flat, parts_over}
use Rattle.lp_question_laws.proofs.Gotos.Arms.{Arm, Shows, one_shown, settled, arms_run}
use Rattle.lp_question_laws.proofs.Gotos.LinkHeaders.{IsWordy, wordy_by, header_names, prefixed_bound, bind_all}
use Rattle.lp_question_laws.proofs.Tokens.Known.{AreKnown, form_items, forms_of, rows_are}
use Rattle.lp_question_laws.proofs.Tokens.Forms.{is_form, form_arms, body_or, AreTexts, form_picked}

-- `Some(n)`
abbrev pub present : ℕ → Tree
present n = Apply (op.Wrap tag.Present) (Plain (leaf.Index n))

abbrev pub row_forms : ℕ → List (List ℕ) → List Form
row_forms n [] = []
row_forms n (f ∷ fs) = (row part.IntegerRow (f ∷ decimal n ∷ []) ∷ []) ∷ row_forms (n + 1) fs

rows_flat : (n : ℕ) (fs : List (List ℕ)) → form_items n fs ≡ flat (row_forms n fs)
rows_flat n [] = refl
rows_flat n (f ∷ fs) = ap (λ is. row part.IntegerRow (f ∷ decimal n ∷ []) ∷ is) (rows_flat (n + 1) fs)

rows_whole : (n : ℕ) (fs : List (List ℕ)) → AreWhole (row_forms n fs)
rows_whole n [] = tt
rows_whole n (f ∷ fs) = (refl, rows_whole (n + 1) fs)

-- arms and texts are added, and names stay
pub record Adds (a b : Reading) (ms : List Arm) (fs : List (List ℕ)) : Type 0 where
  pub shows : Shows b.arms ms
  pub names : b.arms.names ≡ a.arms.names
  pub params : b.arms.params ≡ a.arms.params
  pub texts : b.made.texts ≡ a.made.texts ++ fs

row_read : (n : ℕ) (f : List ℕ) (s : Reading) → n < 2 ^ 64 → (integer_row s (row part.IntegerRow (f ∷ decimal n ∷ []) ∷ [])).arms ≡ with_body (present n) (with_case (test.Form (length s.made.texts)) s.arms)
row_read n f s small = ap (λ (o : Option ℕ). with_body (Apply (op.Wrap tag.Present) (made.index o)) (with_case (test.Form (length s.made.texts)) s.arms)) (number_of_decimal n small)

rows_added : (n : ℕ) (fs : List (List ℕ)) (s : Reading) (ms : List Arm) → n + length fs ≤ 2 ^ 64 → Shows s.arms ms → Adds s (over integer_row s (row_forms n fs)) (ms ++ form_arms present (length s.made.texts) n fs) fs
rows_added n [] s ms h shows = record { shows = subst (Shows s.arms) (sym (append-nil ms)) shows; names = refl; params = refl; texts = sym (append-nil s.made.texts) }
rows_added n (f ∷ fs) s ms h shows =
    let t = integer_row s (row part.IntegerRow (f ∷ decimal n ∷ []) ∷ []) in
    let b = length s.made.texts in
    let arm : Arm = (test.Form b ∷ [], present n) in
    let read = row_read n f s (omega arith) in
    let longer : length t.made.texts ≡ b + 1 = length-append s.made.texts (f ∷ []) in
    let here : Shows t.arms (ms ++ arm ∷ []) = subst (λ (a : Gathered). Shows a (ms ++ arm ∷ [])) (sym read) (one_shown s.arms ms arm shows) in
    let rest = rows_added (n + 1) fs t (ms ++ arm ∷ []) (omega arith) here in
    record {
      shows = subst (Shows (over integer_row t (row_forms (n + 1) fs)).arms) (ap (λ (k : ℕ). (ms ++ arm ∷ []) ++ form_arms present k (n + 1) fs) longer ∙ append_assoc ms (arm ∷ []) (form_arms present (b + 1) (n + 1) fs)) rest.shows;
      names = rest.names ∙ ap (λ (a : Gathered). a.names) read;
      params = rest.params ∙ ap (λ (a : Gathered). a.params) read;
      texts = rest.texts ∙ append_assoc s.made.texts (f ∷ []) fs;
    }

-- ---- the function
module _ (g : Grammar) where
  the_header : Form
  the_header = token_header g name.TokenToInteger (token_reference g ∷ phantom_parameter g ∷ []) number_type

  one_name : Names
  one_name = names_of ((codes "~token", 0) ∷ []) 1

  header_bound : IsWordy g.prefix → parameters g.prefix the_header ≡ one_name
  unfolding the_header one_name phantom_parameter
  header_bound w =
      header_names g.prefix name.TokenToInteger (generics_of g) (token_reference g ∷ phantom_parameter g ∷ []) number_type (clauses_of g)
      ∙ ap (λ ns. bind_all g.prefix ns (phantom_parameter g ∷ [])) (prefixed_bound g.prefix (codes "token") (32 ∷ 38 ∷ token_text g) no_names w (wordy_by (codes "token") refl refl refl) (omega arith))

  header_whole : IsWhole the_header
  unfolding the_header header_lines
  header_whole = refl

  header_no_arm : (s : Reading) → integer_row s the_header ≡ reading_of (with_header s.made.prefix the_header s.arms) s.made
  unfolding the_header header_lines
  header_no_arm s = refl

  abbrev pub forms : List (List ℕ)
  forms = forms_of g (terminals_of g)

  module _ (known : AreKnown g (terminals_of g)) where
    numbers_parts : parts_of (token_numbers g) ≡ the_header ∷ row_forms 0 forms
    unfolding token_numbers the_header
    numbers_parts =
        ap (λ t. parts_of (built.over part.TokenToInteger [] (the_header ++ t))) (rows_are g 0 (terminals_of g) known ∙ rows_flat 0 forms)
        ∙ parts_over part.TokenToInteger [] (the_header ∷ row_forms 0 forms) (header_whole, rows_whole 0 forms)

    module _ (m : Making) (same : m.prefix ≡ g.prefix) (w : IsWordy g.prefix) (few : length forms ≤ 2 ^ 64) where
      abbrev whole_reading : Reading
      whole_reading = integer_rows m (token_numbers g)

      abbrev start : Reading
      start = reading_of (with_header m.prefix the_header no_arms) m

      rows : whole_reading ≡ over integer_row start (row_forms 0 forms)
      rows = ap (over integer_row (reading_of no_arms m)) numbers_parts ∙ ap (λ s. over integer_row s (row_forms 0 forms)) (header_no_arm (reading_of no_arms m))

      adds : Adds start whole_reading (form_arms present (length m.texts) 0 forms) forms
      adds = subst (λ (r : Reading). Adds start r (form_arms present (length m.texts) 0 forms) forms) (sym rows) (rows_added 0 forms start [] (omega arith) (record { cases = refl; bodies = refl }))

      -- the forms are texts behind those that there were
      pub integers_texts : (with_integers (token_numbers g) m).texts ≡ m.texts ++ forms
      integers_texts = adds.texts

      header_is : parameters m.prefix the_header ≡ one_name
      header_is = ap (λ (q : List ℕ). parameters q the_header) same ∙ header_bound w

      integers_are : integer_function m (token_numbers g) ≡ record { params = 1; slots = 1; body = choice_at (take_slot 0) 1 absent whole_reading.arms }
      unfolding one_name
      integers_are =
          let a = whole_reading.arms in
          let names : a.names ≡ one_name = adds.names ∙ header_is in
          let params : a.params ≡ 1 = adds.params ∙ ap (λ (n : Names). n.next) header_is in
          ap (λ (n : Names). function_of a.params (after_slots 1 n) (choice_at (take_name n (codes "~token")) n.next absent a)) names
          ∙ ap (λ k. record { params = k; slots = 2 - k; body = choice_at (take_slot 0) 1 absent a }) params

      module _ (p : Program) (f : ℕ) (token : Token) (texts : AreTexts p.texts (length m.texts) forms) (there : slice_get p.functions f ≡ Some (integer_function m (token_numbers g))) where
        abbrev number : Option ℕ
        number = position_from (is_form token) 0 forms

        number_run : (o : Option ℕ) (st : State) → run p (body_or present absent o) st ≡ Gives (option_val (option_map index o)) st
        number_run None st = refl
        number_run (Some n) st = refl

        -- a call with a token is a step, and gives the number of its form
        pub integer_ends : (k : Moment) → EndsIn p (Enter f (token_val token ∷ [])) k 1 (Giving (option_val (option_map index number)) k)
        integer_ends k = record {
          runs = λ left.
              let vs = token_val token ∷ [] in
              let a = whole_reading.arms in
              let arms = form_arms present (length m.texts) 0 forms in
              let st : State = record { store = record k.store { env = token_val token ∷ val.Plain Unset ∷ [] }; calls = k.calls; left = left } in
              let bare : State = record { store = record k.store { env = val.Plain Unset ∷ val.Plain Unset ∷ [] }; calls = k.calls; left = left } in
              let st' : State = record { store = record k.store { env = val.Plain Unset ∷ token_val token ∷ [] }; calls = k.calls; left = left } in
              let body : run p (choice_at (take_slot 0) 1 absent a) st ≡ Gives (option_val (option_map index number)) st' =
              arms_run p (take_slot 0) 1 absent a arms st adds.shows ∙ ap (λ o. settled p 1 (token_val token) o bare) (form_picked p token present absent (length m.texts) 0 forms texts) ∙ number_run number st' in
              ap (λ (o : Option Function). spend (at k (suc left)) (enter p o (run p) vs)) (there ∙ ap Some integers_are)
              ∙ ap (leave k.store.env (length k.store.cells)) body
              ∙ ap (λ cs. Gives (option_val (option_map index number)) (record { store = record k.store { cells = cs }; calls = k.calls; left = left })) (take-length k.store.cells);
        }
