-- A program that runs the built module: its methods, and the first answers of a run.
use Rattle.std.proofs.Common.{◌≡◌, ℕ, ◌+◌, ◌*◌, ◌<◌, ◌≤◌, ◌^◌, ℤ, pos, Bool, true, false, if◌then◌else◌, List, [], ◌∷◌, length, map, Option, Some, None, refl, sym, ap, ◌∙◌, subst, arith}
use Rattle.std.specs.Prelude.{slice_get, codes, decimal, is_some, ◌==◌}
use Rattle.std.proofs.lemmas.Bool.Decides.{nat_tests}
use Rattle.std.specs.Option.{option_map, option_and_then}
use Rattle.std.proofs.lemmas.Option.{slice_get-map, slice_get_within}
use Rattle.lp_repr.specs.Numbering.{productions_of, terminals_of}
use Rattle.lp_parts.specs.Entries.{action_entries, end_entries}
use Rattle.lp_bodies.specs.Tables.{printed_table}
use Rattle.lp_table.specs.TableLines.{action_lookup, action_table, end_table}
use Rattle.lp_repr.specs.declared.lr1.Lr1State.{Lr1State}
use Rattle.lp_repr.specs.declared.repr.Grammar.{Grammar}
use Rattle.lp_repr.specs.declared.values.Loc.TheVariants.{Default}
use Rattle.lp_driver.specs.Questions.{Start_location, Start_state, Uses_recovery, Action, Error_action, Eof_action, Said}
use Rattle.lp_core.specs.declared.expr.Function.{Function}
use Rattle.lp_core.specs.declared.expr.Table.{Table}
use Rattle.lp_core.specs.declared.expr.Leaf.TheVariants as leaf
use Rattle.lp_core.specs.declared.value.StateType.{StateType}
use Rattle.lp_core.specs.Numbers.{number, index, fitting, typed}
use Rattle.lp_core.specs.OpMeaning.{entry as entry_at}
use Rattle.lp_core.specs.Store.{Program}
use Rattle.lp_code_laws.specs.Ends.Ends.{Moment, Enter, Giving, EndsIn}
use Rattle.lp_core.specs.Reading.{state_of}
use Rattle.lp_core.specs.Tree as tree
use Rattle.lp_core.specs.Val.{Val}
use Rattle.lp_core.specs.Tree.{Tree}
use Rattle.lp_form.specs.declared.part.Part.TheVariants as part
use Rattle.lp_tree.specs.ProgramTree.{leaf as form_leaf}
use Rattle.lp_build.specs.Machine as printed
use Rattle.lp_view.specs.PartLists.{Form, hole_of}
use Rattle.lp_maker.specs.declared.methods.Methods.{Methods}
use Rattle.lp_maker.specs.Constructs.{called, state, take_slot}
use Rattle.lp_maker.specs.Constructs as constructs
use Rattle.lp_maker.specs.Numbers.{number_of}
use Rattle.lp_bodies.specs.Actions.{takes}
use Rattle.lp_run.specs.Functions.{function_made}
use Rattle.lp_question_laws.proofs.Gotos.Digits.{number_of_decimal}
use Rattle.lp_maker.specs.Making.{Making, Entries, entries_of}
use Rattle.lp_maker.specs.Texts.{state_type_of}
use Rattle.lp_bodies.specs.MachineMethods.{last_terminal, recovery_rows, with_methods, methods_of, after_expected}
use Rattle.lp_bodies.specs.Source.{function, default_location}
use Rattle.lp_table.specs.MachineLines.{implementation}
use Rattle.lp_table.specs.Starts.{Start, state_text}
use Rattle.lp_turns.specs.Asking.{Asking}
use Rattle.lp_turns.specs.declared.runner.Runner.{Runner}
use Rattle.lp_turns.specs.DriverCall.{program_answers, or_stuck, asks, state_value}
use Rattle.lp_run.specs.Entered.{module_made}
use Rattle.lp_run.specs.ParseMethod.{By_driver}
use Rattle.lp_question_laws.proofs.Gotos.GotoAnswered.{built_items}
use Rattle.lp_question_laws.proofs.Gotos.LinkModule.{complete, ModuleMade, RowMade, module_is_made, row_made, row_function}
use Rattle.lp_question_laws.proofs.Gotos.LinkTable.{action_declared, items_driven, machine_is, machine_typed, tables_made}
use Rattle.lp_question_laws.proofs.Gotos.StateTypes.{numbers_of}
use Rattle.lp_turn_laws.specs.Alike.Answered.{entry}
use Rattle.lp_turn_laws.specs.Asked.Runners.{Asks, asking_over, Replies}
use Rattle.lp_turn_laws.proofs.Asked.Asked.{asks_replies}
use Rattle.lp_machine.specs.GrammarTables.{error_of}
use Rattle.lp_machine.specs.Lookup.{act_at}
use Rattle.lp_valid.specs.ValidGrammar.{IsValidGrammar}
use Rattle.lp_repr.specs.declared.lr1.Token.TheVariants.{Terminal, Eof}
use Rattle.lp_question_laws.proofs.Gotos.GotoCode.{IsState}
use Rattle.lp_question_laws.proofs.Tables.Begins.{location_replies, state_replies, recovery_replies}
use Rattle.lp_question_laws.proofs.Tables.Entries.{action_at, end_at}
use Rattle.lp_question_laws.proofs.Tables.Lasts.{last_read}
use Rattle.lp_question_laws.proofs.Tables.Looks.{entry_code, entry_found, looked_up, one_row, many_row, look_code, one_looked, many_looked, handed_on, handed_with}
use Rattle.lp_question_laws.proofs.Tables.Recovering.{mends, varied_mended}
use Rattle.lp_question_laws.proofs.Tables.Methods.{action_method, error_method, eof_method, error_kept, location_method, state_method, recovery_method, method_there}

-- a program has the functions, tables and texts of the built module, and is asked by its methods
pub record RunsBuilt (prefix : List ℕ) (program : Form) (g : Grammar) (states : List Lr1State) (st : Start) (asked : Asking) (methods : Methods) : Type 0 where
  pub fields : List (Option ℕ)
  pub parses : (module_made prefix program (built_items g states st)).parse ≡ By_driver methods fields
  pub functions : asked.program.functions ≡ (module_made prefix program (built_items g states st)).functions
  pub tables : map entries_of asked.program.tables ≡ (module_made prefix program (built_items g states st)).tables
  pub texts : asked.program.texts ≡ (module_made prefix program (built_items g states st)).texts
  pub located : asked.program.located ≡ (module_made prefix program (built_items g states st)).located

module _ {prefix : List ℕ} {program : Form} {g : Grammar} {states : List Lr1State} {st : Start} {asked : Asking} {methods : Methods} (runs : RunsBuilt prefix program g states st asked methods) where
  abbrev pub last : Making
  last = complete prefix program (built_items g states st)

  abbrev pub machine : Form
  machine = (items_driven g states st).machine

  pub is_made : ModuleMade (module_made prefix program (built_items g states st)) last machine
  is_made = module_is_made prefix program (built_items g states st) (items_driven g states st)

  pub same_methods : methods_of machine is_made.names (length is_made.fields) last ≡ methods
  same_methods = (let e : By_driver (methods_of machine is_made.names (length is_made.fields) last) is_made.fields ≡ By_driver methods runs.fields = sym is_made.parses ∙ runs.parses in cc)

  -- a method of the module is the program's
  pub method_runs : (pick : Methods → ℕ) (f : Function) → slice_get (with_methods machine is_made.names (length is_made.fields) last).functions (pick (methods_of machine is_made.names (length is_made.fields) last)) ≡ Some (Some f)
      → slice_get asked.program.functions (pick methods) ≡ Some f
  method_runs pick f h =
      ap (λ (n : ℕ). slice_get asked.program.functions n) (ap pick (sym same_methods))
      ∙ ap (λ (fs : List Function). slice_get fs (pick (methods_of machine is_made.names (length is_made.fields) last))) runs.functions
      ∙ method_there is_made (pick (methods_of machine is_made.names (length is_made.fields) last)) f h

  pub location_runs : slice_get asked.program.functions methods.start_location ≡ Some (function 0 0 default_location)
  location_runs = method_runs (λ m. m.start_location) _ (location_method machine is_made.names (length is_made.fields) last)

  pub state_runs : slice_get asked.program.functions methods.start_state ≡ Some (function 0 0 (state (state_type_of (state_text g states)) (Some (pos 0))))
  state_runs =
      method_runs (λ m. m.start_state) _ (state_method machine is_made.names (length is_made.fields) last)
      ∙ ap (λ (t : List ℕ). Some (function 0 0 (state (state_type_of t) (Some (pos 0))))) (machine_typed g states st)

-- ---- tables
-- a program has a table of this number, with this state type and these entries
pub record HasTable (asked : Asking) (n : ℕ) (kind : Option StateType) (entries : List ℤ) : Type 0 where
  pub table : Table
  pub there : slice_get asked.program.tables n ≡ Some table
  pub typed_so : table.entry_type ≡ kind
  pub holds : table.entries.items ≡ entries

table_in : (asked : Asking) (n : ℕ) (e : Entries) (o : Option Table) → slice_get asked.program.tables n ≡ o → option_map entries_of o ≡ Some e → HasTable asked n e.kind e.numbers
table_in asked n e None is h = cc
table_in asked n e (Some table) is h =
    let same : entries_of table ≡ e = cc in
    record { table = table; there = is; typed_so = ap (λ (x : Entries). x.kind) same; holds = ap (λ (x : Entries). x.numbers) same }

module _ {prefix : List ℕ} {program : Form} {g : Grammar} {states : List Lr1State} {st : Start} {asked : Asking} {methods : Methods} (runs : RunsBuilt prefix program g states st asked methods) where
  two_tables : map entries_of asked.program.tables ≡ printed_table (action_table g states) ∷ printed_table (end_table g states) ∷ []
  two_tables = runs.tables ∙ (is_made runs).tables ∙ (tables_made g states st prefix program).tables

  pub actions_there : HasTable asked 0 (state_type_of (state_text g states)) (action_entries (length (terminals_of g)) states)
  unfolding action_table
  actions_there =
      table_in asked 0 (printed_table (action_table g states)) (slice_get asked.program.tables 0) refl (sym (slice_get-map entries_of asked.program.tables 0) ∙ ap (λ (l : List Entries). slice_get l 0) two_tables)

  pub ends_there : HasTable asked 1 (state_type_of (state_text g states)) (end_entries states)
  unfolding end_table
  ends_there =
      table_in asked 1 (printed_table (end_table g states)) (slice_get asked.program.tables 1) refl (sym (slice_get-map entries_of asked.program.tables 1) ∙ ap (λ (l : List Entries). slice_get l 1) two_tables)

  -- the method for the end of the items looks an entry up
  pub end_runs : slice_get asked.program.functions methods.eof_action ≡ Some (entry_code 1)
  end_runs =
      let form = (items_driven g states st).machine in
      let all = complete prefix program (built_items g states st) in
      let is = is_made runs in
      method_runs runs (λ m. m.eof_action) _ (eof_method form is.names (length is.fields) all)
      ∙ ap (λ (n : ℕ). Some (entry_code n)) (error_kept form is.names (length is.fields) all ∙ (tables_made g states st prefix program).eof_table)

-- the look-up of actions, by the number of terminals
abbrev pub row_by : Bool → ℕ → Tree
row_by one n = if one then one_row else many_row (number_of (decimal n))

lookup_by : (m : Making) (text : List ℕ) (n : ℕ) (b : Bool) → (function_made m (if b then form_leaf part.ActionLookupOne (text ∷ []) else form_leaf part.ActionLookup (text ∷ decimal n ∷ []))).function ≡ look_code m.action_table (row_by b n)
unfolding function_made
lookup_by m text n true = refl
lookup_by m text n false = refl

pub lookup_is : (m : Making) (g : Grammar) (states : List Lr1State) → (function_made m (action_lookup g states)).function ≡ look_code m.action_table (row_by (length (terminals_of g) == 1) (length (terminals_of g)))
unfolding action_lookup
lookup_is m g states = lookup_by m (state_text g states) (length (terminals_of g)) (length (terminals_of g) == 1)

-- `~action(state, N - 1)`
abbrev pub error_code : Option ℕ → ℕ → Function
error_code terminal f = function 1 0 (called (take_slot 0 ∷ constructs.index terminal ∷ []) (Some f))

last_printed : (g : Grammar) (states : List Lr1State) (st : Start) → hole_of 9 (items_driven g states st).machine ≡ printed.last_terminal (length (terminals_of g))
unfolding implementation
last_printed g states st = ap (hole_of 9) (machine_is g states st)

-- a program has the look-up, and its methods hand on to it
pub record HasLookup (g : Grammar) (asked : Asking) (methods : Methods) : Type 0 where
  pub number : ℕ
  pub there : slice_get asked.program.functions number ≡ Some (look_code 0 (row_by (length (terminals_of g) == 1) (length (terminals_of g))))
  pub method : slice_get asked.program.functions methods.action ≡ Some (function 2 0 (called (takes 2) (Some number)))
  pub on_error : slice_get asked.program.functions methods.error_action ≡ Some (error_code (last_terminal (printed.last_terminal (length (terminals_of g)))) number)

module _ {prefix : List ℕ} {program : Form} {g : Grammar} {states : List Lr1State} {st : Start} {asked : Asking} {methods : Methods} (runs : RunsBuilt prefix program g states st asked methods) where
  pub has_lookup : HasLookup g asked methods
  has_lookup =
      let items = built_items g states st in
      let all = complete prefix program items in
      let form = (items_driven g states st).machine in
      let is = is_made runs in
      let r : RowMade prefix all (codes "action") (action_lookup g states) = row_made prefix program items (action_lookup g states) (codes "action") [] (action_declared g states st) in
      record {
        number = r.number;
        there = ap (λ (fs : List Function). slice_get fs r.number) runs.functions
            ∙ row_function prefix (module_made prefix program items) all form (action_lookup g states) (codes "action") is r
            ∙ ap Some (lookup_is r.maker g states)
            ∙ ap (λ (n : ℕ). Some (look_code n (row_by (length (terminals_of g) == 1) (length (terminals_of g))))) (r.action_table ∙ (tables_made g states st prefix program).action_table);
        method = method_runs runs (λ m. m.action) _ (action_method form is.names (length is.fields) all r.number r.named);
        on_error = method_runs runs (λ m. m.error_action) _ (error_method form is.names (length is.fields) all r.number r.named)
            ∙ ap (λ (text : List ℕ). Some (error_code (last_terminal text) r.number)) (last_printed g states st);
      }

-- one look-up, for one terminal and for more
pub one_or_more : (p : Program) (f q i n : ℕ) (kind : StateType) (m : Moment) (v : Val) (b : Bool) → (n == 1) ≡ b → i < n → n < 2 ^ 64 → q * n + i < 2 ^ 64 → slice_get p.functions f ≡ Some (look_code 0 (row_by b n)) → entry_at p 0 (index (q * n + i)) ≡ Some v
    → EndsIn p (Enter f (number kind (pos q) ∷ index i ∷ [])) m 1 (Giving v m)
one_or_more p f q i n kind m v true is lt few small there found =
    let one : n ≡ 1 = grind (arith, nat_tests) in
    let same : q * n + i ≡ q + i = ap (λ (k : ℕ). q * k + i) one ∙ (omega arith) in
    one_looked p f 0 q i kind m v there (omega (arith, same)) (ap (λ (k : ℕ). entry_at p 0 (index k)) (sym same) ∙ found)
one_or_more p f q i n kind m v false is lt few small there found =
    many_looked p f 0 q i kind m v n (there ∙ ap (λ (o : Option ℕ). Some (look_code 0 (many_row o))) (number_of_decimal n few)) small found

-- ---- the first answers of a run
module _ {prefix : List ℕ} {program : Form} {g : Grammar} {states : List Lr1State} {st : Start} {asked : Asking} {methods : Methods} (runs : RunsBuilt prefix program g states st asked methods) where
  -- whether errors are mended
  pub recovery_runs : IsValidGrammar g → slice_get asked.program.functions methods.uses_error_recovery ≡ Some (function 0 0 (tree.Plain (leaf.Bool (is_some (error_of g)))))
  recovery_runs rules =
      let form = (items_driven g states st).machine in
      let all = complete prefix program (built_items g states st) in
      let is = is_made runs in
      method_runs runs (λ m. m.uses_error_recovery) _ (recovery_method form is.names (length is.fields) all)
      ∙ ap (λ (e : Tree). Some (function 0 0 e)) (ap (λ (f : Form). (recovery_rows (after_expected form all) f).uses) (machine_is g states st) ∙ mends (after_expected form all) g states st)
      ∙ ap (λ (b : Bool). Some (function 0 0 (tree.Plain (leaf.Bool b)))) (varied_mended g rules)

  module _ (closure : Option ℕ) (d : Runner) (h : Asks asked methods closure d) (most : ℕ) (few : 1 ≤ most) where
    -- a function of the program is one of what is asked
    there : (pick : Methods → ℕ) (f : Function) → slice_get asked.program.functions (pick methods) ≡ Some f → slice_get d.asked.program.functions (pick d.methods) ≡ Some f
    there pick f is = ap (λ (a : Asking). slice_get a.program.functions (pick d.methods)) h.program ∙ ap (λ (m : Methods). slice_get asked.program.functions (pick m)) h.by ∙ is

    pub start_location_answered : Replies asked methods closure d most (λ x. x ≡ Default) (program_answers Start_location d)
    start_location_answered = location_replies asked methods closure d h most few (there (λ m. m.start_location) _ (location_runs runs))

    pub start_state_answered : length states ≤ 2147483647 → length (productions_of g) ≤ 2147483647 → Replies asked methods closure d most (λ x. x ≡ pos 0) (program_answers Start_state d)
    start_state_answered some few_rules =
        let types = numbers_of (length states) (length (productions_of g)) some few_rules in
        state_replies asked methods closure d h most few types.kind (types.holds 0 (omega arith))
        (there (λ m. m.start_state) _ (state_runs runs ∙ ap (λ (k : Option StateType). Some (function 0 0 (state k (Some (pos 0))))) types.read))

    pub recovery_answered : IsValidGrammar g → Replies asked methods closure d most (λ x. x ≡ is_some (error_of g)) (program_answers Uses_recovery d)
    recovery_answered rules = recovery_replies asked methods closure d h most few (is_some (error_of g)) (there (λ m. m.uses_error_recovery) _ (recovery_runs rules))

    -- the entry of a state at the end of the items, where the state type holds it
    pub eof_answered : (kind : StateType) → state_type_of (state_text g states) ≡ Some kind → (q : ℕ) (s : Lr1State) → slice_get states q ≡ Some s → IsState kind q → fitting kind (entry (act_at states q Eof)) ≡ Some (entry (act_at states q Eof))
        → Replies asked methods closure d most (λ x. x ≡ entry (act_at states q Eof)) (program_answers (Eof_action (pos q)) d)
    eof_answered kind is q s at small fits =
        let e = entry (act_at states q Eof) in
        let table = ends_there runs in
        let p = d.asked.program in
        let same : slice_get p.tables 1 ≡ Some table.table = ap (λ (a : Asking). slice_get a.program.tables 1) h.program ∙ table.there in
        let found = entry_found p 1 q table.table kind e same (table.typed_so ∙ is) (ap (λ (l : List ℤ). slice_get l q) table.holds ∙ end_at states q s at) fits in
        let typed_is : d.methods.state_type ≡ Some kind = ap (λ (m : Methods). m.state_type) (h.by ∙ sym (same_methods runs)) ∙ ap state_type_of (machine_typed g states st) ∙ is in
        let said : Option Val → Said ℤ Runner = λ (o : Option Val). or_stuck o d (λ v. asks state_of d.methods.eof_action (v ∷ []) d) in
        let value : state_value d (pos q) ≡ Some (number kind (pos q)) = ap (λ (o : Option StateType). option_and_then (λ (k : StateType). typed k (pos q)) o) typed_is ∙ ap (option_map (number kind)) small.fits in
        subst (λ (o : Option Val). Replies asked methods closure d most (λ x. x ≡ e) (said o)) (sym value)
        (asks_replies asked methods closure state_of d.methods.eof_action (number kind (pos q) ∷ []) d most (λ x. x ≡ e) 1 (number kind e) (asking_over [] d) e h
        (looked_up p d.methods.eof_action 1 q kind (asking_over [] d) (number kind e) (there (λ m. m.eof_action) _ (end_runs runs)) found) refl refl refl few)

    module _ (kind : StateType) (is : state_type_of (state_text g states) ≡ Some kind) where
      -- a state as a number of the printed type
      pub state_is : (q : ℕ) → IsState kind q → state_value d (pos q) ≡ Some (number kind (pos q))
      state_is q small =
          let typed_is : d.methods.state_type ≡ Some kind = ap (λ (m : Methods). m.state_type) (h.by ∙ sym (same_methods runs)) ∙ ap state_type_of (machine_typed g states st) ∙ is in
          ap (λ (o : Option StateType). option_and_then (λ (k : StateType). typed k (pos q)) o) typed_is ∙ ap (option_map (number kind)) small.fits

      module _ (q i : ℕ) (s : Lr1State) (at : slice_get states q ≡ Some s) (lt : i < length (terminals_of g)) (some : length (terminals_of g) < 2 ^ 64) (counted : length (action_entries (length (terminals_of g)) states) < 2 ^ 64)
          (fits : fitting kind (entry (act_at states q (Terminal i))) ≡ Some (entry (act_at states q (Terminal i)))) where
        -- the look-up gives the entry of a state on a terminal
        looks : (m : Moment) → EndsIn d.asked.program (Enter (has_lookup runs).number (number kind (pos q) ∷ index i ∷ [])) m 1 (Giving (number kind (entry (act_at states q (Terminal i)))) m)
        looks m =
            let e = entry (act_at states q (Terminal i)) in
            let n = length (terminals_of g) in
            let table = actions_there runs in
            let look = has_lookup runs in
            let p = d.asked.program in
            let place = action_at states n q i s at lt in
            let within : q * n + i < length (action_entries n states) = slice_get_within (action_entries n states) (q * n + i) e place in
            let same : slice_get p.tables 0 ≡ Some table.table = ap (λ (a : Asking). slice_get a.program.tables 0) h.program ∙ table.there in
            let found = entry_found p 0 (q * n + i) table.table kind e same (table.typed_so ∙ is) (ap (λ (l : List ℤ). slice_get l (q * n + i)) table.holds ∙ place) fits in
            let code : slice_get p.functions look.number ≡ Some (look_code 0 (row_by (n == 1) n)) = ap (λ (a : Asking). slice_get a.program.functions look.number) h.program ∙ look.there in
            one_or_more p look.number q i n kind m (number kind e) (n == 1) refl lt some (omega arith) code found

        module _ (enough : 2 ≤ most) (small : IsState kind q) where
          -- the entry of a state on a terminal, where the state type holds it
          pub action_answered : Replies asked methods closure d most (λ x. x ≡ entry (act_at states q (Terminal i))) (program_answers (Action (pos q) i) d)
          action_answered =
              let e = entry (act_at states q (Terminal i)) in
              let look = has_lookup runs in
              subst (λ (o : Option Val). Replies asked methods closure d most (λ x. x ≡ e) (or_stuck o d (λ v. asks state_of d.methods.action (v ∷ index i ∷ []) d))) (sym (state_is q small))
              (asks_replies asked methods closure state_of d.methods.action (number kind (pos q) ∷ index i ∷ []) d most (λ x. x ≡ e) 2 (number kind e) (asking_over [] d) e h
              (handed_on d.asked.program d.methods.action look.number 1 (number kind (pos q)) (index i) (number kind e) (asking_over [] d) (there (λ m. m.action) _ look.method) refl refl looks) refl refl refl enough)

          -- and on the last terminal
          pub error_action_answered : i + 1 ≡ length (terminals_of g) → Replies asked methods closure d most (λ x. x ≡ entry (act_at states q (Terminal i))) (program_answers (Error_action (pos q)) d)
          error_action_answered last =
              let e = entry (act_at states q (Terminal i)) in
              let look = has_lookup runs in
              let code = look.on_error ∙ ap (λ (o : Option ℕ). Some (error_code o look.number)) (last_read (length (terminals_of g)) i last some) in
              subst (λ (o : Option Val). Replies asked methods closure d most (λ x. x ≡ e) (or_stuck o d (λ v. asks state_of d.methods.error_action (v ∷ []) d))) (sym (state_is q small))
              (asks_replies asked methods closure state_of d.methods.error_action (number kind (pos q) ∷ []) d most (λ x. x ≡ e) 2 (number kind e) (asking_over [] d) e h
              (handed_with d.asked.program d.methods.error_action look.number 1 i (number kind (pos q)) (number kind e) (asking_over [] d) (there (λ m. m.error_action) _ code) refl looks) refl refl refl enough)
