-- The modules of all starts among the parts of a program, by the code that is asked for, and the items that a name enters among them.
use Rattle.std.proofs.Common.{◌≡◌, ◌⊎◌, inl, inr, ℕ, zero, suc, ◌<◌, ◌==◌, Bool, true, false, List, [], ◌∷◌, ◌++◌, Option, Some, None, slice_get, refl, sym, ap, ◌∙◌, subst, arith, append_assoc, append-nil}
use Rattle.std.specs.Prelude.{if◌then◌else◌}
use Rattle.std.specs.Option.{option_or}
use Rattle.std.specs.Str.{bytes_eq}
use Rattle.std.proofs.lemmas.Bool.{cases_Bool, eqb-true, eqb-false}
use Rattle.std.proofs.lemmas.Slice.Eq.{bytes_eq-Decides}
use Rattle.lp_repr.specs.declared.lr1.Lr1State.{Lr1State}
use Rattle.lp_repr.specs.declared.lr1.StartStates.{StartStates}
use Rattle.lp_repr.specs.declared.repr.Grammar.{Grammar}
use Rattle.lp_repr.specs.declared.repr.LrCodeGeneration.{LrCodeGeneration}
use Rattle.lp_repr.specs.declared.repr.LrCodeGeneration.TheVariants.{RecursiveAscent, TableDriven, TestAll}
use Rattle.lp_repr.specs.declared.repr.NonterminalString.{NonterminalString}
use Rattle.lp_tree.specs.ProgramTree.{Item}
use Rattle.lp_view.specs.PartLists.{Form, first_given}
use Rattle.lp_ascent.specs.BuiltAscent.{built_ascent, built_ascent_for}
use Rattle.lp_table.specs.BuiltTable.{built_table, built_for}
use Rattle.lp_table.specs.FrameLines.{module_parts, parser_parts, table_parser}
use Rattle.lp_table.specs.MachineLines.{drive_call}
use Rattle.lp_table.specs.Starts.{Start, start_for}
use Rattle.lp_assembly.specs.Built.{AreFollowed, AreModules, IsModuleBy, reexport_lines}
use Rattle.lp_run.specs.Named.{entered_by}
use Rattle.lp_question_laws.proofs.Gotos.GotoAnswered.{built_items}
use Rattle.lp_question_laws.proofs.Gotos.LinkTable.{parser_found}
use Rattle.lp_question_laws.proofs.Gotos.Whole.{IsWhole}
use Rattle.lp_agreement.proofs.Composed.AscentModules.{ascent_form}
use Rattle.lp_agreement.proofs.Composed.AscentModules.{entered as ascent_entered}
use Rattle.lp_agreement.proofs.Composed.ModuleParts.{entered_over}
use Rattle.lp_agreement.proofs.Composed.Rows.{AreForms, no_form, one_form, forms_then, GiveNone, given_behind, given_front, none-append}
use Rattle.lp_agrees.specs.Emission.{IsByTables}

-- ---- the module of a start, by the code that is asked for
abbrev pub module_by : LrCodeGeneration → Grammar → List Lr1State → Start → Form
module_by RecursiveAscent g states st = built_ascent g states st
module_by _ g states st = built_table g states st

-- its items
abbrev pub items_by : LrCodeGeneration → Grammar → List Lr1State → Start → Form
items_by RecursiveAscent g states st = ascent_form g states st
items_by _ g states st = built_items g states st

module_is : (c : LrCodeGeneration) (g : Grammar) (start : ℕ) (states : List Lr1State) (names : NonterminalString × NonterminalString) (lines : List Item) → slice_get g.start_nonterminals.entries start ≡ Some names
    → IsModuleBy c g start states lines → lines ≡ module_by c g states (start_for g names.0 names.1)
module_is RecursiveAscent g start states names lines at is = is ∙ ap (built_ascent_for g states) at
module_is TableDriven g start states names lines at is = is ∙ ap (built_for g states) at
module_is TestAll g start states names lines at is = is ∙ ap (built_for g states) at

module_whole : (c : LrCodeGeneration) (g : Grammar) (states : List Lr1State) (st : Start) → IsWhole (module_by c g states st)
unfolding module_parts
module_whole RecursiveAscent g states st = refl
module_whole TableDriven g states st = refl
module_whole TestAll g states st = refl

table_entered : (g : Grammar) (states : List Lr1State) (st : Start) (start : List ℕ) → entered_by start (built_table g states st) ≡ (if bytes_eq st.public_name start then Some (built_items g states st) else None)
unfolding module_parts table_parser parser_parts
table_entered g states st = entered_over g st.nonterminal.0 (built_items g states st) refl refl (table_parser g st (drive_call g)) (parser_found g states st) st.public_name refl

entered : (c : LrCodeGeneration) (g : Grammar) (states : List Lr1State) (st : Start) (start : List ℕ) → entered_by start (module_by c g states st) ≡ (if bytes_eq st.public_name start then Some (items_by c g states st) else None)
entered RecursiveAscent g states st start = ascent_entered g states st start
entered TableDriven g states st start = table_entered g states st start
entered TestAll g states st start = table_entered g states st start

-- for code by tables, and for recursive ascent
pub module_of_tables : (c : LrCodeGeneration) (g : Grammar) (states : List Lr1State) (st : Start) → IsByTables c → module_by c g states st ≡ built_table g states st
module_of_tables RecursiveAscent g states st by = absurd by
module_of_tables TableDriven g states st by = refl
module_of_tables TestAll g states st by = refl

pub items_of_tables : (c : LrCodeGeneration) (g : Grammar) (states : List Lr1State) (st : Start) → IsByTables c → items_by c g states st ≡ built_items g states st
items_of_tables RecursiveAscent g states st by = absurd by
items_of_tables TableDriven g states st by = refl
items_of_tables TestAll g states st by = refl

pub module_of_ascent : (c : LrCodeGeneration) (g : Grammar) (states : List Lr1State) (st : Start) → c ≡ RecursiveAscent → module_by c g states st ≡ built_ascent g states st
module_of_ascent c g states st is = ap (λ (d : LrCodeGeneration). module_by d g states st) is

pub items_of_ascent : (c : LrCodeGeneration) (g : Grammar) (states : List Lr1State) (st : Start) → c ≡ RecursiveAscent → items_by c g states st ≡ ascent_form g states st
items_of_ascent c g states st is = ap (λ (d : LrCodeGeneration). items_by d g states st) is

-- ---- the modules of all starts
abbrev pub reexport_form : Grammar → NonterminalString × NonterminalString → Form
reexport_form g names = reexport_lines g names.0 names.1

-- the module of a start and its re-export, where the start has states
abbrev pub start_forms : Grammar → Option (NonterminalString × NonterminalString) → Option StartStates → List Form
start_forms g None list = []
start_forms g (Some names) None = []
start_forms g (Some names) (Some list) = module_by g.algorithm.codegen g list.states (start_for g names.0 names.1) ∷ reexport_form g names ∷ []

-- those of the first starts, so many
abbrev pub module_forms : Grammar → List StartStates → ℕ → List Form
module_forms g states zero = []
module_forms g states (suc n) = module_forms g states n ++ start_forms g (slice_get g.start_nonterminals.entries n) (slice_get states n)

module _ (g : Grammar) (states : List StartStates) where
  followed_are : (n : ℕ) (names : Option (NonterminalString × NonterminalString)) (list : Option StartStates) (before lines : List Item) (forms : List Form) → slice_get g.start_nonterminals.entries n ≡ names
      → AreForms before forms → AreFollowed g n names list before lines → AreForms lines (forms ++ start_forms g names list)
  followed_are n None list before lines forms e fs m = absurd m
  followed_are n (Some names) None before lines forms e fs m = subst (λ (l : List Item). AreForms l (forms ++ [])) (sym m) (subst (λ (l : List Item). AreForms l (forms ++ [])) (append-nil before) (forms_then fs no_form))
  followed_are n (Some names) (Some list) before lines forms e fs m =
      let own : Form = module_by g.algorithm.codegen g list.states (start_for g names.0 names.1) in
      let inside : m.0 ≡ own = module_is g.algorithm.codegen g n list.states names m.0 e m.1 in
      let both : AreForms ((before ++ own) ++ reexport_form g names) ((forms ++ own ∷ []) ++ reexport_form g names ∷ []) =
      forms_then (forms_then fs (one_form own (module_whole g.algorithm.codegen g list.states (start_for g names.0 names.1)))) (one_form (reexport_form g names) refl) in
      subst (λ (l : List Item). AreForms l (forms ++ start_forms g (Some names) (Some list))) (sym (m.2 ∙ ap (λ (i : List Item). (before ++ i) ++ reexport_form g names) inside))
      (subst (AreForms ((before ++ own) ++ reexport_form g names)) (append_assoc forms (own ∷ []) (reexport_form g names ∷ [])) both)

  pub modules_are : (n : ℕ) (lines : List Item) → AreModules g states n lines → AreForms lines (module_forms g states n)
  modules_are zero lines m = subst (λ (l : List Item). AreForms l []) (sym m) no_form
  modules_are (suc n) lines m = followed_are n (slice_get g.start_nonterminals.entries n) (slice_get states n) m.0 lines (module_forms g states n) refl (modules_are n m.0 m.1) m.2

-- ---- entering by a name
-- a public name is another
abbrev pub IsOther : List ℕ → Option (NonterminalString × NonterminalString) → Type 0
IsOther name None = Unit {0}
IsOther name (Some names) = bytes_eq names.0.0 name ≡ false

module _ (g : Grammar) (states : List StartStates) (name : List ℕ) where
  others_give_none : (names : Option (NonterminalString × NonterminalString)) (list : Option StartStates) → IsOther name names → GiveNone (entered_by name) (start_forms g names list)
  others_give_none None list other = tt
  others_give_none (Some names) None other = tt
  others_give_none (Some names) (Some list) other =
      let st = start_for g names.0 names.1 in
      (entered g.algorithm.codegen g list.states st name ∙ ap (λ (b : Bool). if b then Some (items_by g.algorithm.codegen g list.states st) else None) other, (refl, tt))

  -- where all names are others, none is entered
  modules_give_none : (n : ℕ) → ((j : ℕ) → j < n → IsOther name (slice_get g.start_nonterminals.entries j)) → GiveNone (entered_by name) (module_forms g states n)
  modules_give_none zero other = tt
  modules_give_none (suc n) other =
      none-append (entered_by name) (module_forms g states n) (start_forms g (slice_get g.start_nonterminals.entries n) (slice_get states n))
      (modules_give_none n (λ j l. other j (omega arith))) (others_give_none (slice_get g.start_nonterminals.entries n) (slice_get states n) (other n (omega arith)))

  -- the first start of a name is entered by it
  module _ (i : ℕ) (names : NonterminalString × NonterminalString) (list : StartStates) (at : slice_get g.start_nonterminals.entries i ≡ Some names) (has : slice_get states i ≡ Some list)
      (is : names.0.0 ≡ name) (first : (j : ℕ) → j < i → IsOther name (slice_get g.start_nonterminals.entries j)) where
    abbrev its_items : Form
    its_items = items_by g.algorithm.codegen g list.states (start_for g names.0 names.1)

    start_given : first_given (entered_by name) (start_forms g (slice_get g.start_nonterminals.entries i) (slice_get states i)) ≡ Some its_items
    start_given =
        let st = start_for g names.0 names.1 in
        let own : Form = module_by g.algorithm.codegen g list.states st in
        let here : entered_by name own ≡ Some its_items = entered g.algorithm.codegen g list.states st name ∙ ap (λ (b : Bool). if b then Some its_items else None) ((bytes_eq-Decides names.0.0 name).1 is) in
        ap (λ (o : Option (NonterminalString × NonterminalString)). first_given (entered_by name) (start_forms g o (slice_get states i))) at
        ∙ ap (λ (o : Option StartStates). first_given (entered_by name) (start_forms g (Some names) o)) has
        ∙ given_front (entered_by name) (own ∷ []) (reexport_form g names ∷ []) its_items (ap (λ (o : Option Form). option_or o None) here)

    pub module_given : (n : ℕ) → i < n → first_given (entered_by name) (module_forms g states n) ≡ Some its_items
    module_given zero l = absurd (omega arith)
    module_given (suc n) l = by (module_given n) (cases_Bool (i == n))
      where
        pair : Option (NonterminalString × NonterminalString)
        pair = slice_get g.start_nonterminals.entries n

        by : (i < n → first_given (entered_by name) (module_forms g states n) ≡ Some its_items) → ((i == n) ≡ true) ⊎ ((i == n) ≡ false) → first_given (entered_by name) (module_forms g states (suc n)) ≡ Some its_items
        by earlier (inl same) =
            let e : i ≡ n = eqb-true i n same in
            given_behind (entered_by name) (module_forms g states n) (start_forms g pair (slice_get states n)) (modules_give_none n (λ j less. first j (omega (arith, e))))
            ∙ ap (λ (k : ℕ). first_given (entered_by name) (start_forms g (slice_get g.start_nonterminals.entries k) (slice_get states k))) (sym e) ∙ start_given
        by earlier (inr other) =
            let e : (i ≡ n → ⊥) = eqb-false i n other in
            given_front (entered_by name) (module_forms g states n) (start_forms g pair (slice_get states n)) its_items (earlier (omega (arith, e)))
