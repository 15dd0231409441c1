-- The rows of the built module of table-driven code.
use Rattle.std.proofs.Common.{◌≡◌, ℕ, ◌+◌, Bool, true, false, List, [], ◌∷◌, ◌++◌, length, Some, None, refl, ap, sym, subst, ◌∙◌, append_assoc, append-nil, if◌then◌else◌}
use Rattle.std.specs.Prelude.{codes, decimal, ◌==◌}
use Rattle.lp_form.specs.declared.part.Part.TheVariants as part
use Rattle.lp_repr.specs.declared.lr1.Lr1State.{Lr1State}
use Rattle.lp_repr.specs.declared.repr.Grammar.{Grammar}
use Rattle.lp_repr.specs.declared.repr.Production.{Production}
use Rattle.lp_tree.specs.ProgramTree.{Item, leaf}
use Rattle.lp_build.specs.Built.{over}
use Rattle.lp_build.specs.Functions.{parser_part}
use Rattle.lp_table.specs.Pieces.{variant_types_shown}
use Rattle.lp_repr.specs.Numbering.{productions_of, terminals_of}
use Rattle.lp_table.specs.Starts.{Start, state_text}
use Rattle.lp_table.specs.Headers.{header_lines}
use Rattle.lp_table.specs.FrameLines.{is_interned, parse_header, source_lines, parser_parts, table_parser}
use Rattle.lp_table.specs.MachineLines.{acceptance, definition, drive_call, expected_list, implementation, simulation, symbol_values}
use Rattle.lp_table.specs.ReductionLines.{pop_function, pops_from, pop_functions, is_called, own_function, if_called, functions_from, reduce_function, reduce_functions}
use Rattle.lp_table.specs.TableLines.{action_lookup, action_table, end_table, expected_lines, goto_function, terminal_lines, terminal_names}
use Rattle.lp_table.specs.TokenLines.{token_numbers, token_symbols}
use Rattle.lp_table.specs.BuiltTable.{table_items}
use Rattle.lp_view.specs.PartLists.{Form, hole_of, is_a, parts_of, first_that}
use Rattle.lp_view.specs.PartLists as view
use Rattle.lp_maker.specs.Making.{Making, Entries, number_in, first_numbered, unmade}
use Rattle.lp_bodies.specs.Tables.{printed_table, with_terminal, with_terminals}
use Rattle.lp_run.specs.Named.{is_parser, parser_of}
use Rattle.lp_run.specs.Entered.{with_source}
use Rattle.lp_run.specs.Functions.{all_made, actions_made}
use Rattle.lp_run.specs.Promised.{with_action_table, with_eof_table, Promising, promising_of, promised, beginning, module_row, module_rows, declared_row, lookup_name, trial_name, header_number, is_lookup, is_trial, is_reduction, is_ascent}
use Rattle.lp_question_laws.proofs.Gotos.Whole.{IsWhole, AreWhole, flat, parts_over, flat-append, whole-append}
use Rattle.lp_question_laws.proofs.Gotos.LinkMaps.{numbered_other, told_apart}
use Rattle.lp_question_laws.proofs.Gotos.LinkGrows.{either, is_of_tables, Tabled, tabled_same, tabled_both}
use Rattle.lp_question_laws.proofs.Gotos.LinkPromises.{AreNoAscent, AreOfTables, promised_are, tables_stay, terminals_quiet}
use Rattle.lp_question_laws.proofs.Gotos.LinkModule.{IsDriven, Declares, complete, begun_tabled, source_tabled, actions_tabled}

-- forms that are no tables
abbrev pub AreUntabled : List Form → Type 0
AreUntabled [] = Unit {0}
AreUntabled (f ∷ fs) = (is_a part.ActionTable f ≡ false) × (is_a part.EofTable f ≡ false) × AreUntabled fs

terminals_tabled : (m : Making) (fs : List Form) → Tabled m (view.over with_terminal m fs)
terminals_tabled m [] = tabled_same m
terminals_tabled m (f ∷ fs) = tabled_both m (with_terminal m f) (view.over with_terminal (with_terminal m f) fs) (record { tables = refl; action_table = refl; eof_table = refl }) (terminals_tabled (with_terminal m f) fs)

-- their rows make none
untabled_row : (s : Promising) (form : Form) → is_a part.ActionTable form ≡ false → is_a part.EofTable form ≡ false → Tabled s.made (module_row s form).made
untabled_row s form a b =
    let P : Promising → Type 0 = λ (t : Promising). Tabled s.made t.made in
    let kept : (name rest : List ℕ) → P (promised name rest s form) = λ name rest. record { tables = refl; action_table = refl; eof_table = refl } in
    subst P (sym (ap (λ (x : Bool). if x then promising_of s.promises (with_action_table form s.made) else (if is_a part.EofTable form then promising_of s.promises (with_eof_table form s.made) else (if is_a part.TerminalList form then promising_of s.promises (with_terminals form s.made) else declared_row s form))) a
    ∙ ap (λ (x : Bool). if x then promising_of s.promises (with_eof_table form s.made) else (if is_a part.TerminalList form then promising_of s.promises (with_terminals form s.made) else declared_row s form)) b))
    (either P (is_a part.TerminalList form) _ _ (terminals_tabled s.made (parts_of form))
    (either P (is_lookup form) _ _ (kept (lookup_name form) []) (either P (is_trial form) _ _ (kept (trial_name form) [])
    (either P (is_reduction form) _ _
    (either P (is_a part.Pop form) _ _ (kept (codes "pop_") (hole_of 0 form)) (either P (is_a part.ReduceFn form) _ _ (kept (codes "reduce") (header_number form)) (either P (is_a part.Reduce form) _ _ (kept (codes "reduce") []) (kept (codes "symbol_type_mismatch") []))))
    (either P (is_ascent form) _ _
    (either P (is_a part.StateFn form) _ _ (kept (codes "state") (header_number form)) (either P (is_a part.AscentSimulate form) _ _ (kept (codes "simulate") []) (either P (is_a part.AscentAccepts form) _ _ (kept (codes "accepts") []) (kept (codes "expected") []))))
    (tabled_same s.made))))))

untabled_rows : (s : Promising) (fs : List Form) → AreUntabled fs → Tabled s.made (view.over module_row s fs).made
untabled_rows s [] a = tabled_same s.made
untabled_rows s (f ∷ fs) a = tabled_both s.made (module_row s f).made (view.over module_row (module_row s f) fs).made (untabled_row s f a.0 a.1) (untabled_rows (module_row s f) fs a.2)

module _ (g : Grammar) where
  unfoldable pub pops : ℕ → List (List ℕ) → List Form
  pops n [] = []
  pops n (ty ∷ types) = pop_function g n ty ∷ pops (n + 1) types

  pops_flat : (n : ℕ) (types : List (List ℕ)) → pops_from g n types ≡ flat (pops n types)
  unfolding pops
  pops_flat n [] = refl
  pops_flat n (ty ∷ types) = ap (λ t. pop_function g n ty ++ t) (pops_flat (n + 1) types)

  pops_whole : (n : ℕ) (types : List (List ℕ)) → AreWhole (pops n types)
  unfolding pops
  pops_whole n [] = tt
  pops_whole n (ty ∷ types) = (refl, pops_whole (n + 1) types)

  pub pops_plain : (n : ℕ) (types : List (List ℕ)) → AreNoAscent (pops n types)
  unfolding pops
  pops_plain n [] = tt
  pops_plain n (ty ∷ types) = (refl, pops_plain (n + 1) types)

  pops_untabled : (n : ℕ) (types : List (List ℕ)) → AreUntabled (pops n types)
  unfolding pops
  pops_untabled n [] = tt
  pops_untabled n (ty ∷ types) = (refl, refl, pops_untabled (n + 1) types)

  module _ (s : Start) where
    unfoldable pub one_own : Bool → ℕ → Production → List Form
    one_own b n p = if b then own_function g s n p ∷ [] else []

    unfoldable pub owns : ℕ → List Production → List Form
    unfolding one_own
    owns n [] = []
    owns n (p ∷ ps) = one_own (is_called g s p) n p ++ owns (n + 1) ps

    owns_flat : (n : ℕ) (ps : List Production) → functions_from g s n ps ≡ flat (owns n ps)
    unfolding owns
    owns_flat n [] = refl
    owns_flat n (p ∷ ps) = ap (λ t. if_called g s n p ++ t) (owns_flat (n + 1) ps) ∙ by (is_called g s p)
      where
        by : (b : Bool) → (if b then own_function g s n p else []) ++ flat (owns (n + 1) ps) ≡ flat (one_own b n p ++ owns (n + 1) ps)
        by true = refl
        by false = refl

    owns_whole : (n : ℕ) (ps : List Production) → AreWhole (owns n ps)
    unfolding owns
    owns_whole n [] = tt
    owns_whole n (p ∷ ps) = whole-append (one_own (is_called g s p) n p) (owns (n + 1) ps) (by (is_called g s p)) (owns_whole (n + 1) ps)
      where
        by : (b : Bool) → AreWhole (one_own b n p)
        by true = (refl, tt)
        by false = tt

    pub owns_plain : (n : ℕ) (ps : List Production) → AreNoAscent (owns n ps)
    unfolding owns
    owns_plain n [] = tt
    owns_plain n (p ∷ ps) = by (is_called g s p) (owns_plain (n + 1) ps)
      where
        by : (b : Bool) → AreNoAscent (owns (n + 1) ps) → AreNoAscent (one_own b n p ++ owns (n + 1) ps)
        by true h = (refl, h)
        by false h = h

    owns_untabled : (n : ℕ) (ps : List Production) → AreUntabled (owns n ps)
    unfolding owns
    owns_untabled n [] = tt
    owns_untabled n (p ∷ ps) = by (is_called g s p) (owns_untabled (n + 1) ps)
      where
        by : (b : Bool) → AreUntabled (owns (n + 1) ps) → AreUntabled (one_own b n p ++ owns (n + 1) ps)
        by true h = (refl, refl, h)
        by false h = h

untabled-append : (fs gs : List Form) → AreUntabled fs → AreUntabled gs → AreUntabled (fs ++ gs)
untabled-append [] gs a b = b
untabled-append (f ∷ fs) gs a b = (a.0, a.1, untabled-append fs gs a.2 b)

pub plain-append : (fs gs : List Form) → AreNoAscent fs → AreNoAscent gs → AreNoAscent (fs ++ gs)
plain-append [] gs a b = b
plain-append (f ∷ fs) gs a b = (a.0, plain-append fs gs a.1 b)

-- none of some forms passes a test
abbrev FailAll : (Form → Bool) → List Form → Type 0
FailAll test [] = Unit {0}
FailAll test (f ∷ fs) = (test f ≡ false) × FailAll test fs

first_among : (test : Form → Bool) (before : List Form) (form : Form) (after : List Form) → FailAll test before → test form ≡ true → first_that test (before ++ form ∷ after) ≡ Some form
first_among test [] form after a h = ap (λ b. if b then Some form else first_that test after) h
first_among test (f ∷ before) form after a h = ap (λ b. if b then Some f else first_that test (before ++ form ∷ after)) a.0 ∙ first_among test before form after a.1 h

-- a row that gives another name a number
abbrev pub Skips : List ℕ → Form → Type 0
Skips q f = (t : Promising) → number_in q (module_row t f).made.names ≡ number_in q t.made.names

abbrev pub AllSkip : List ℕ → List Form → Type 0
AllSkip q [] = Unit {0}
AllSkip q (f ∷ fs) = Skips q f × AllSkip q fs

pub skipped : (q : List ℕ) (fs : List Form) (t : Promising) → AllSkip q fs → number_in q (view.over module_row t fs).made.names ≡ number_in q t.made.names
skipped q [] t a = refl
skipped q (f ∷ fs) t a = skipped q fs (module_row t f) a.1 ∙ a.0 t

pub by_both : (P : Bool → Type 0) → P true → P false → (b : Bool) → P b
by_both P t f true = t
by_both P t f false = f

module _ (g : Grammar) (states : List Lr1State) (s : Start) where
  abbrev pub rows_before : List Form
  rows_before = symbol_values g ∷ action_table g states ∷ action_lookup g states ∷ end_table g states ∷ []

  abbrev pub reductions_after : List Form
  reductions_after = pops g 0 (variant_types_shown g) ++ owns g s 0 (productions_of g)

  abbrev pub rows_after : List Form
  rows_after =
      terminal_names g ∷ expected_lines g states ∷ expected_list g states ∷ definition g ∷ implementation g states s ∷ token_numbers g ∷ token_symbols g
      ∷ simulation g states s ∷ table_parser g s (drive_call g) ∷ acceptance g states ∷ reduce_function g states s ∷ leaf part.Mismatch [] ∷ reductions_after

  pub the_items : Form
  the_items = over part.TableItems [] (table_items g states s)

  rows_flat : table_items g states s ≡ flat (rows_before ++ goto_function g states ∷ rows_after)
  unfolding pop_functions reduce_functions
  rows_flat = simp (append_assoc, flat-append (pops g 0 (variant_types_shown g)) (owns g s 0 (productions_of g)), pops_flat g 0 (variant_types_shown g), owns_flat g s 0 (productions_of g))

  pub opened : Unit {0}
  unfolding symbol_values action_table action_lookup end_table goto_function terminal_lines expected_list definition implementation token_numbers token_symbols simulation table_parser parser_parts acceptance reduce_function
  opened = tt

  pub lookup_is : (P : Form → Type 0) → ((t n : List ℕ) → P (leaf part.ActionLookupOne (t ∷ []))) → ((t n : List ℕ) → P (leaf part.ActionLookup (t ∷ n ∷ []))) → P (action_lookup g states)
  unfolding action_lookup
  lookup_is P one more = either P (length (terminals_of g) == 1) _ _ (one (state_text g states) []) (more (state_text g states) (decimal (length (terminals_of g))))

  pub parser_is : (P : Form → Type 0) → ((b : Bool) (holes : List (List ℕ)) (below : List Item) → P (over (parser_part false b) holes below)) → P (table_parser g s (drive_call g))
  unfolding table_parser parser_parts
  parser_is P h = h (is_interned g) _ _

  before_whole : AreWhole rows_before
  unfolding opened
  before_whole = (refl, (refl, (lookup_is IsWhole (λ t n. refl) (λ t n. refl), (refl, tt))))

  after_whole : AreWhole rows_after
  unfolding opened
  after_whole = (refl, (refl, (refl, (refl, (refl, (refl, (refl, (refl, (parser_is IsWhole (λ b h e. refl), (refl, (refl, (refl, whole-append (pops g 0 (variant_types_shown g)) (owns g s 0 (productions_of g)) (pops_whole g 0 (variant_types_shown g)) (owns_whole g s 0 (productions_of g))))))))))))))

  pub before_plain : AreNoAscent rows_before
  unfolding opened
  before_plain = (refl, (refl, (lookup_is (λ f. is_ascent f ≡ false) (λ t n. refl) (λ t n. refl), (refl, tt))))

  pub after_plain : AreNoAscent rows_after
  unfolding opened
  after_plain = (refl, (refl, (refl, (refl, (refl, (refl, (refl, (refl, (parser_is (λ f. is_ascent f ≡ false) (λ b h e. by_both (λ b. is_ascent (over (parser_part false b) h e) ≡ false) refl refl b), (refl, (refl, (refl, plain-append (pops g 0 (variant_types_shown g)) (owns g s 0 (productions_of g)) (pops_plain g 0 (variant_types_shown g)) (owns_plain g s 0 (productions_of g))))))))))))))

  -- after the two tables no table comes
  lookup_untabled : (is_a part.ActionTable (action_lookup g states) ≡ false) × (is_a part.EofTable (action_lookup g states) ≡ false)
  unfolding opened
  lookup_untabled = (lookup_is (λ f. is_a part.ActionTable f ≡ false) (λ t n. refl) (λ t n. refl), lookup_is (λ f. is_a part.EofTable f ≡ false) (λ t n. refl) (λ t n. refl))

  after_untabled : AreUntabled (goto_function g states ∷ rows_after)
  unfolding opened
  after_untabled = (
    refl,
    refl,
    (
      refl,
      refl,
      (
        refl,
        refl,
        (
          refl,
          refl,
          (
            refl,
            refl,
            (
              refl,
              refl,
              (
                refl,
                refl,
                (
                  refl,
                  refl,
                  (
                    refl,
                    refl,
                    (
                      parser_is (λ f. is_a part.ActionTable f ≡ false) (λ b h e. by_both (λ b. is_a part.ActionTable (over (parser_part false b) h e) ≡ false) refl refl b),
                      parser_is (λ f. is_a part.EofTable f ≡ false) (λ b h e. by_both (λ b. is_a part.EofTable (over (parser_part false b) h e) ≡ false) refl refl b),
                      (refl, refl, (refl, refl, (refl, refl, untabled-append (pops g 0 (variant_types_shown g)) (owns g s 0 (productions_of g)) (pops_untabled g 0 (variant_types_shown g)) (owns_untabled g s 0 (productions_of g))))),
                    ),
                  ),
                ),
              ),
            ),
          ),
        ),
      ),
    ),
  )

  -- the tables of what was made
  pub record TablesMade (last : Making) : Type 0 where
    pub tables : last.tables ≡ printed_table (action_table g states) ∷ printed_table (end_table g states) ∷ []
    pub action_table : last.action_table ≡ 0
    pub eof_table : last.eof_table ≡ 1

  -- the rows of the module
  pub item_rows : parts_of (over part.TableItems [] (table_items g states s)) ≡ rows_before ++ goto_function g states ∷ rows_after
  unfolding opened
  item_rows =
      ap (λ below. parts_of (over part.TableItems [] below)) rows_flat
      ∙ parts_over part.TableItems [] (rows_before ++ goto_function g states ∷ rows_after) (whole-append rows_before (goto_function g states ∷ rows_after) before_whole (refl, after_whole))

  -- the row that declares the goto function
  pub goto_declared : Declares (over part.TableItems [] (table_items g states s)) (codes "goto") [] (goto_function g states)
  unfolding opened
  goto_declared = record {
    before = rows_before;
    after = rows_after;
    rows = item_rows;
    plain_before = before_plain;
    plain_after = after_plain;
    is_plain = refl;
    declares = λ t. refl;
    new = λ m h. lookup_is (λ f. number_in (codes "goto") (module_row (promising_of [] (with_action_table (action_table g states) m)) f).made.names ≡ None) (λ t n. other m ∙ h) (λ t n. other m ∙ h);
    no_action = λ rest. told_apart (codes "goto") (codes "super::action" ++ rest) refl;
  }
    where
      other : (m : Making) → number_in (codes "goto") (first_numbered (codes "action") (length m.functions) m.names) ≡ number_in (codes "goto") m.names
      other m = numbered_other (codes "goto") (codes "action") (length m.functions) m.names (told_apart (codes "goto") (codes "action") refl)

  -- the row that declares the look-up of actions
  pub action_declared : Declares (over part.TableItems [] (table_items g states s)) (codes "action") [] (action_lookup g states)
  unfolding opened
  action_declared = record {
    before = symbol_values g ∷ action_table g states ∷ [];
    after = end_table g states ∷ goto_function g states ∷ rows_after;
    rows = item_rows;
    plain_before = (refl, (refl, tt));
    plain_after = (refl, (refl, after_plain));
    is_plain = lookup_is (λ f. is_of_tables f ≡ true) (λ t n. refl) (λ t n. refl);
    declares = λ t. lookup_is (λ f. module_row t f ≡ promised (codes "action") [] t f) (λ a b. refl) (λ a b. refl);
    new = λ m h. h;
    no_action = λ rest. told_apart (codes "action") (codes "super::action" ++ rest) refl;
  }

  header_whole : IsWhole (parse_header g s)
  unfolding parse_header header_lines
  header_whole = refl

  header_no_drive : is_a part.Drive (parse_header g s) ≡ false
  unfolding parse_header header_lines
  header_no_drive = refl

  source_is : (P : Form → Type 0) → P (leaf part.TokenSourceInterned []) → P (leaf part.TokenSourcePlain []) → P (source_lines g)
  unfolding source_lines
  source_is P a b = by_both (λ b. P (leaf (if b then part.TokenSourceInterned else part.TokenSourcePlain) [])) a b (is_interned g)

  drive_whole : IsWhole (drive_call g)
  unfolding drive_call
  drive_whole = refl

  drive_drives : is_a part.Drive (drive_call g) ≡ true
  unfolding drive_call
  drive_drives = refl

  pub parser_rows : parts_of (table_parser g s (drive_call g)) ≡ parse_header g s ∷ source_lines g ∷ drive_call g ∷ []
  unfolding table_parser parser_parts
  parser_rows =
      let rows = parse_header g s ∷ source_lines g ∷ drive_call g ∷ [] in
      let holes = s.visibility ∷ s.public_name ∷ [] in
      let whole : AreWhole rows = (header_whole, (source_is IsWhole refl refl, (drive_whole, tt))) in
      let flattened : (parse_header g s ++ source_lines g) ++ drive_call g ≡ flat rows = simp (append_assoc, append-nil) in
      ap (λ below. parts_of (over (parser_part false (is_interned g)) holes below)) flattened ∙ parts_over (parser_part false (is_interned g)) holes rows whole

  -- the module's parser drives its machine
  pub items_driven : IsDriven (over part.TableItems [] (table_items g states s))
  unfolding opened
  items_driven = record {
    parser = table_parser g s (drive_call g);
    drive = drive_call g;
    machine = implementation g states s;
    is_parser = ap (first_that is_parser) item_rows
        ∙ first_among is_parser (rows_before ++ goto_function g states ∷ terminal_names g ∷ expected_lines g states ∷ expected_list g states ∷ definition g ∷ implementation g states s ∷ token_numbers g ∷ token_symbols g ∷ simulation g states s ∷ [])
        (table_parser g s (drive_call g)) (acceptance g states ∷ reduce_function g states s ∷ leaf part.Mismatch [] ∷ reductions_after)
        (refl, (refl, (lookup_is (λ f. is_parser f ≡ false) (λ t n. refl) (λ t n. refl), (refl, (refl, (refl, (refl, (refl, (refl, (refl, (refl, (refl, (refl, tt)))))))))))))
        (parser_is (λ f. is_parser f ≡ true) (λ b h e. by_both (λ b. is_parser (over (parser_part false b) h e) ≡ true) refl refl b));
    is_drive = ap (first_that (is_a part.Drive)) parser_rows
        ∙ first_among (is_a part.Drive) (parse_header g s ∷ source_lines g ∷ []) (drive_call g) [] (header_no_drive, (source_is (λ f. is_a part.Drive f ≡ false) refl refl, tt)) drive_drives;
    is_machine = ap (first_that (is_a part.MachineImpl)) item_rows
        ∙ first_among (is_a part.MachineImpl) (rows_before ++ goto_function g states ∷ terminal_names g ∷ expected_lines g states ∷ expected_list g states ∷ definition g ∷ []) (implementation g states s)
        (token_numbers g ∷ token_symbols g ∷ simulation g states s ∷ table_parser g s (drive_call g) ∷ acceptance g states ∷ reduce_function g states s ∷ leaf part.Mismatch [] ∷ reductions_after)
        (refl, (refl, (lookup_is (λ f. is_a part.MachineImpl f ≡ false) (λ t n. refl) (λ t n. refl), (refl, (refl, (refl, (refl, (refl, (refl, tt)))))))))
        refl;
  }

  -- the machine's state type is printed in its hole
  pub machine_typed : hole_of 7 items_driven.machine ≡ state_text g states
  unfolding items_driven implementation
  machine_typed = refl

  rows_tabled : (m : Making) → m.tables ≡ [] → TablesMade (module_rows m (over part.TableItems [] (table_items g states s))).made
  unfolding opened
  rows_tabled m none =
      let t0 = promising_of [] m in
      let t2 = module_row (module_row t0 (symbol_values g)) (action_table g states) in
      let t3 = module_row t2 (action_lookup g states) in
      let t4 = module_row t3 (end_table g states) in
      let look = untabled_row t2 (action_lookup g states) lookup_untabled.0 lookup_untabled.1 in
      let more = untabled_rows t4 (goto_function g states ∷ rows_after) after_untabled in
      let whole : module_rows m (over part.TableItems [] (table_items g states s)) ≡ view.over module_row t4 (goto_function g states ∷ rows_after) = ap (view.over module_row t0) item_rows in
      subst (λ (t : Promising). TablesMade t.made) (sym whole) (record {
        tables = more.tables ∙ ap (λ (l : List Entries). l ++ printed_table (end_table g states) ∷ []) (look.tables ∙ ap (λ (l : List Entries). l ++ printed_table (action_table g states) ∷ []) none);
        action_table = more.action_table ∙ look.action_table ∙ ap length none;
        eof_table = more.eof_table ∙ ap length (look.tables ∙ ap (λ (l : List Entries). l ++ printed_table (action_table g states) ∷ []) none);
      })

  pub goto_plain : is_ascent (goto_function g states) ≡ false
  unfolding goto_function
  goto_plain = refl

  -- no row is of recursive ascent
  pub items_plain : AreNoAscent (parts_of (over part.TableItems [] (table_items g states s)))
  items_plain = subst AreNoAscent (sym item_rows) (plain-append rows_before (goto_function g states ∷ rows_after) before_plain (goto_plain, after_plain))

  -- all that is made has the two tables
  pub tables_made : (prefix : List ℕ) (program : Form) → TablesMade (complete prefix program (over part.TableItems [] (table_items g states s)))
  unfolding complete
  tables_made prefix program =
      let items = over part.TableItems [] (table_items g states s) in
      let b = beginning (unmade prefix) program in
      let m = with_source items b.located b.actions.made in
      let t = module_rows m items in
      let all = all_made t.made t.promises in
      let begun = begun_tabled prefix program in
      let from = source_tabled b.located b.actions.made (parser_of items) in
      let made = rows_tabled m (from.tables ∙ begun.tables) in
      let of_tables : AreOfTables t.promises = promised_are m (parts_of items) items_plain in
      let stay = tabled_both t.made all (actions_made all b.actions.promises) (tables_stay t.made t.promises of_tables) (actions_tabled all b.actions.promises) in
      record { tables = stay.tables ∙ made.tables; action_table = stay.action_table ∙ made.action_table; eof_table = stay.eof_table ∙ made.eof_table }

  pub machine_is : items_driven.machine ≡ implementation g states s
  unfolding items_driven
  machine_is = refl

  pub drive_is : items_driven.drive ≡ drive_call g
  unfolding items_driven
  drive_is = refl

  pub parser_found : parser_of (over part.TableItems [] (table_items g states s)) ≡ Some (table_parser g s (drive_call g))
  unfolding items_driven
  parser_found = items_driven.is_parser

  -- the row that declares the simulation
  pub simulation_declared : Declares (over part.TableItems [] (table_items g states s)) (codes "simulate_reduce") [] (simulation g states s)
  unfolding opened
  simulation_declared =
      let before = rows_before ++ goto_function g states ∷ terminal_names g ∷ expected_lines g states ∷ expected_list g states ∷ definition g ∷ implementation g states s ∷ token_numbers g ∷ token_symbols g ∷ [] in
      let q = codes "simulate_reduce" in
      let skips : AllSkip q before = (λ t. refl, (λ t. refl, (lookup_is (Skips q) (λ a b. λ t. numbered_other q (codes "action") (length t.made.functions) t.made.names (told_apart q (codes "action") refl)) (λ a b. λ t. numbered_other q (codes "action") (length t.made.functions) t.made.names (told_apart q (codes "action") refl)), (λ t. refl, (λ t. numbered_other q (codes "goto") (length t.made.functions) t.made.names (told_apart q (codes "goto") refl), (λ t. ap (number_in q) (terminals_quiet t.made (parts_of (terminal_names g))).1, (λ t. numbered_other q (codes "expected_tokens") (length t.made.functions) t.made.names (told_apart q (codes "expected_tokens") refl), (λ t. numbered_other q (codes "expected_tokens_from_states") (length t.made.functions) t.made.names (told_apart q (codes "expected_tokens_from_states") refl), (λ t. refl, (λ t. refl, (λ t. numbered_other q (codes "token_to_integer") (length t.made.functions) t.made.names (told_apart q (codes "token_to_integer") refl), (λ t. numbered_other q (codes "token_to_symbol") (length t.made.functions) t.made.names (told_apart q (codes "token_to_symbol") refl), tt)))))))))))) in
      record {
        before = before;
        after = table_parser g s (drive_call g) ∷ acceptance g states ∷ reduce_function g states s ∷ leaf part.Mismatch [] ∷ reductions_after;
        rows = item_rows;
        plain_before = (refl, (refl, (lookup_is (λ f. is_ascent f ≡ false) (λ t n. refl) (λ t n. refl), (refl, (refl, (refl, (refl, (refl, (refl, (refl, (refl, (refl, tt))))))))))));
        plain_after = after_plain.1.1.1.1.1.1.1.1;
        is_plain = refl;
        declares = λ t. refl;
        new = λ m h. skipped q before (promising_of [] m) skips ∙ h;
        no_action = λ rest. told_apart q (codes "super::action" ++ rest) refl;
      }

  -- the rows in front of those that look at tokens
  abbrev rows_ahead : List Form
  rows_ahead = rows_before ++ goto_function g states ∷ terminal_names g ∷ expected_lines g states ∷ expected_list g states ∷ definition g ∷ implementation g states s ∷ []

  ahead_plain : AreNoAscent rows_ahead
  unfolding opened
  ahead_plain = (refl, (refl, (lookup_is (λ f. is_ascent f ≡ false) (λ t n. refl) (λ t n. refl), (refl, (refl, (refl, (refl, (refl, (refl, (refl, tt))))))))))

  -- they skip each name but theirs
  ahead_skip : (q : List ℕ) → (q ≡ codes "action" → ⊥) → (q ≡ codes "goto" → ⊥) → (q ≡ codes "expected_tokens" → ⊥) → (q ≡ codes "expected_tokens_from_states" → ⊥) → AllSkip q rows_ahead
  unfolding opened
  ahead_skip q no_action no_goto no_expected no_states =
      let skip : (name : List ℕ) → (q ≡ name → ⊥) → (t : Promising) → number_in q (first_numbered name (length t.made.functions) t.made.names) ≡ number_in q t.made.names = λ name ne t. numbered_other q name (length t.made.functions) t.made.names ne in (
        λ t. refl,
        (
          λ t. refl,
          (
            lookup_is (Skips q) (λ a b. skip (codes "action") no_action) (λ a b. skip (codes "action") no_action),
            (
              λ t. refl,
              (
                skip (codes "goto") no_goto,
                (λ t. ap (number_in q) (terminals_quiet t.made (parts_of (terminal_names g))).1, (skip (codes "expected_tokens") no_expected, (skip (codes "expected_tokens_from_states") no_states, (λ t. refl, (λ t. refl, tt))))),
              ),
            ),
          ),
        ),
      )

  -- the rows that declare what looks at tokens
  pub integers_declared : Declares (over part.TableItems [] (table_items g states s)) (codes "token_to_integer") [] (token_numbers g)
  unfolding opened
  integers_declared =
      let q = codes "token_to_integer" in
      record {
        before = rows_ahead;
        after = token_symbols g ∷ simulation g states s ∷ table_parser g s (drive_call g) ∷ acceptance g states ∷ reduce_function g states s ∷ leaf part.Mismatch [] ∷ reductions_after;
        rows = item_rows;
        plain_before = ahead_plain;
        plain_after = after_plain.1.1.1.1.1.1;
        is_plain = refl;
        declares = λ t. refl;
        new = λ m h. skipped q rows_ahead (promising_of [] m) (ahead_skip q (told_apart q (codes "action") refl) (told_apart q (codes "goto") refl) (told_apart q (codes "expected_tokens") refl) (told_apart q (codes "expected_tokens_from_states") refl)) ∙ h;
        no_action = λ rest. told_apart q (codes "super::action" ++ rest) refl;
      }

  pub symbols_declared : Declares (over part.TableItems [] (table_items g states s)) (codes "token_to_symbol") [] (token_symbols g)
  unfolding opened
  symbols_declared =
      let q = codes "token_to_symbol" in
      let before = rows_ahead ++ token_numbers g ∷ [] in
      record {
        before = before;
        after = simulation g states s ∷ table_parser g s (drive_call g) ∷ acceptance g states ∷ reduce_function g states s ∷ leaf part.Mismatch [] ∷ reductions_after;
        rows = item_rows;
        plain_before = plain-append rows_ahead (token_numbers g ∷ []) ahead_plain (refl, tt);
        plain_after = after_plain.1.1.1.1.1.1.1;
        is_plain = refl;
        declares = λ t. refl;
        new = λ m h. numbered_other q (codes "token_to_integer") (length (view.over module_row (promising_of [] m) rows_ahead).made.functions) (view.over module_row (promising_of [] m) rows_ahead).made.names (told_apart q (codes "token_to_integer") refl)
            ∙ skipped q rows_ahead (promising_of [] m) (ahead_skip q (told_apart q (codes "action") refl) (told_apart q (codes "goto") refl) (told_apart q (codes "expected_tokens") refl) (told_apart q (codes "expected_tokens_from_states") refl)) ∙ h;
        no_action = λ rest. told_apart q (codes "super::action" ++ rest) refl;
      }

  -- the row that declares the list that a stack of states accepts
  pub expected_declared : Declares (over part.TableItems [] (table_items g states s)) (codes "expected_tokens_from_states") [] (expected_list g states)
  unfolding opened
  expected_declared =
      let q = codes "expected_tokens_from_states" in
      let before = rows_before ++ goto_function g states ∷ terminal_names g ∷ expected_lines g states ∷ [] in
      let skips : AllSkip q before = (λ t. refl, (λ t. refl, (lookup_is (Skips q) (λ a b. λ t. numbered_other q (codes "action") (length t.made.functions) t.made.names (told_apart q (codes "action") refl)) (λ a b. λ t. numbered_other q (codes "action") (length t.made.functions) t.made.names (told_apart q (codes "action") refl)), (λ t. refl, (λ t. numbered_other q (codes "goto") (length t.made.functions) t.made.names (told_apart q (codes "goto") refl), (λ t. ap (number_in q) (terminals_quiet t.made (parts_of (terminal_names g))).1, (λ t. numbered_other q (codes "expected_tokens") (length t.made.functions) t.made.names (told_apart q (codes "expected_tokens") refl), tt))))))) in
      record {
        before = before;
        after = definition g ∷ implementation g states s ∷ token_numbers g ∷ token_symbols g ∷ simulation g states s ∷ table_parser g s (drive_call g) ∷ acceptance g states ∷ reduce_function g states s ∷ leaf part.Mismatch [] ∷ reductions_after;
        rows = item_rows;
        plain_before = (refl, (refl, (lookup_is (λ f. is_ascent f ≡ false) (λ t n. refl) (λ t n. refl), (refl, (refl, (refl, (refl, tt)))))));
        plain_after = after_plain.1.1.1;
        is_plain = refl;
        declares = λ t. refl;
        new = λ m h. skipped q before (promising_of [] m) skips ∙ h;
        no_action = λ rest. told_apart q (codes "super::action" ++ rest) refl;
      }

  -- the row that declares whether a stack of states accepts a token
  pub acceptance_declared : Declares (over part.TableItems [] (table_items g states s)) (codes "accepts") [] (acceptance g states)
  unfolding opened
  acceptance_declared =
      let q = codes "accepts" in
      let behind = token_numbers g ∷ token_symbols g ∷ simulation g states s ∷ table_parser g s (drive_call g) ∷ [] in
      let ahead = view.over module_row in
      let skip : (name : List ℕ) → (q ≡ name → ⊥) → (t : Promising) → number_in q (first_numbered name (length t.made.functions) t.made.names) ≡ number_in q t.made.names = λ name ne t. numbered_other q name (length t.made.functions) t.made.names ne in
      let skips : AllSkip q behind = (skip (codes "token_to_integer") (told_apart q (codes "token_to_integer") refl), (skip (codes "token_to_symbol") (told_apart q (codes "token_to_symbol") refl), (skip (codes "simulate_reduce") (told_apart q (codes "simulate_reduce") refl), (parser_is (Skips q) (λ b h e. by_both (λ b. Skips q (over (parser_part false b) h e)) (λ t. refl) (λ t. refl) b), tt)))) in
      record {
        before = rows_ahead ++ behind;
        after = reduce_function g states s ∷ leaf part.Mismatch [] ∷ reductions_after;
        rows = item_rows;
        plain_before = plain-append rows_ahead behind ahead_plain (refl, (refl, (refl, (parser_is (λ f. is_ascent f ≡ false) (λ b h e. by_both (λ b. is_ascent (over (parser_part false b) h e) ≡ false) refl refl b), tt))));
        plain_after = after_plain.1.1.1.1.1.1.1.1.1.1;
        is_plain = refl;
        declares = λ t. refl;
        new = λ m h.
            skipped q behind (ahead (promising_of [] m) rows_ahead) skips
            ∙ skipped q rows_ahead (promising_of [] m) (ahead_skip q (told_apart q (codes "action") refl) (told_apart q (codes "goto") refl) (told_apart q (codes "expected_tokens") refl) (told_apart q (codes "expected_tokens_from_states") refl)) ∙ h;
        no_action = λ rest. told_apart q (codes "super::action" ++ rest) refl;
      }
