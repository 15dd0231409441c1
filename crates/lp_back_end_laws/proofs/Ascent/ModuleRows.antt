-- The other rows of a module of recursive ascent: the parser, the tables, the trials.
use Rattle.std.proofs.Common.{◌≡◌, ℕ, Bool, true, List, [], ◌∷◌, ◌++◌, Option, Some, None, refl, sym, subst, append-nil}
use Rattle.std.specs.Prelude.{codes}
use Rattle.lp_form.specs.declared.part.Part.TheVariants as part
use Rattle.lp_repr.specs.declared.lr1.Lr1State.{Lr1State}
use Rattle.lp_repr.specs.declared.repr.Grammar.{Grammar}
use Rattle.lp_tree.specs.ProgramTree.{Item, leaf}
use Rattle.lp_build.specs.Built.{over}
use Rattle.lp_build.specs.Functions.{parser_part}
use Rattle.lp_table.specs.FrameLines.{is_interned}
use Rattle.lp_table.specs.Starts.{Start, state_text}
use Rattle.lp_table.specs.TableLines.{action_lookup, action_table, goto_function, terminal_lines, terminal_names}
use Rattle.lp_view.specs.PartLists.{Form, is_a, parts_of}
use Rattle.lp_view.specs.PartLists as view
use Rattle.lp_maker.specs.Making.{Making}
use Rattle.lp_bodies.specs.Tables.{with_terminal}
use Rattle.lp_run.specs.Functions.{function_made}
use Rattle.lp_run.specs.Promised.{Promising, module_row}
use Rattle.lp_ascent.specs.AnswerLines.{answer_lines}
use Rattle.lp_ascent.specs.BuiltAscent.{ascent_parser, trial_lines}
use Rattle.lp_question_laws.proofs.Gotos.LinkTable.{by_both, lookup_is}
use Rattle.lp_back_end_laws.proofs.Ascent.Grows.{none, a_function}
use Rattle.lp_back_end_laws.proofs.Ascent.Stays.{texts_both}
use Rattle.lp_back_end_laws.proofs.Ascent.Rows.{AreRows, Leaves, RowIs, rows_append}
use Rattle.lp_back_end_laws.proofs.Ascent.AscentRows.{own_forms, state_names, state_rows}

-- a row that does nothing
pub leaves_same : (s : Promising) → Leaves s s
leaves_same s = record { promises = refl; functions = refl; names = refl; prefix = refl; variants = refl; item_closure = refl; texts = ([], sym (append-nil s.made.texts)) }

-- the names of terminals are texts
pub record Listed (m n : Making) : Type 0 where
  pub functions : n.functions ≡ m.functions
  pub names : n.names ≡ m.names
  pub prefix : n.prefix ≡ m.prefix
  pub variants : n.variants ≡ m.variants
  pub item_closure : n.item_closure ≡ m.item_closure
  pub texts : (ts : List (List ℕ)) × (n.texts ≡ m.texts ++ ts)

pub terminals_listed : (m : Making) (fs : List Form) → Listed m (view.over with_terminal m fs)
terminals_listed m [] = record { functions = refl; names = refl; prefix = refl; variants = refl; item_closure = refl; texts = ([], sym (append-nil m.texts)) }
terminals_listed m (f ∷ fs) =
    let n = with_terminal m f in
    let h = terminals_listed n fs in
    record {
      functions = h.functions;
      names = h.names;
      prefix = h.prefix;
      variants = h.variants;
      item_closure = h.item_closure;
      texts = texts_both m.texts n.texts (view.over with_terminal n fs).texts (_, refl) h.texts;
    }

module _ (g : Grammar) (states : List Lr1State) (st : Start) where
  -- the parser, with the call of the first state
  pub parser_is : (P : Form → Type 0) → ((b : Bool) (holes : List (List ℕ)) (below : List Item) → P (over (parser_part true b) holes below)) → P (ascent_parser g states st)
  unfolding ascent_parser
  parser_is P h = h (is_interned g) _ _

  abbrev pub front_rows : List Form
  front_rows = ascent_parser g states st ∷ answer_lines g ∷ []

  abbrev pub table_rows : List Form
  table_rows = action_table g states ∷ action_lookup g states ∷ goto_function g states ∷ terminal_names g ∷ []

  abbrev pub trial_rows : List Form
  trial_rows = trial_lines g states st ∷ leaf part.AscentAccepts (state_text g states ∷ []) ∷ leaf part.AscentExpected (state_text g states ∷ []) ∷ []

  abbrev pub front_names : List (Option (List ℕ))
  front_names = None ∷ None ∷ []

  abbrev pub table_names : List (Option (List ℕ))
  table_names = None ∷ Some (codes "action") ∷ Some (codes "goto") ∷ None ∷ []

  abbrev pub trial_names : List (Option (List ℕ))
  trial_names = Some (codes "simulate") ∷ Some (codes "accepts") ∷ Some (codes "expected") ∷ []

  pub parser_row : (s : Promising) → module_row s (ascent_parser g states st) ≡ s
  parser_row s = parser_is (λ f. module_row s f ≡ s) (λ b h e. by_both (λ b. module_row s (over (parser_part true b) h e) ≡ s) refl refl b)

  pub answer_row : (s : Promising) → module_row s (answer_lines g) ≡ s
  unfolding answer_lines
  answer_row s = refl

  pub front_are : AreRows front_rows front_names
  front_are = (λ s. subst (Leaves s) (sym (parser_row s)) (leaves_same s), (λ s. subst (Leaves s) (sym (answer_row s)) (leaves_same s), tt))

  pub table_row : RowIs (action_table g states) None
  unfolding action_table
  table_row s = record { promises = refl; functions = refl; names = refl; prefix = refl; variants = refl; item_closure = refl; texts = ([], sym (append-nil s.made.texts)) }

  pub lookup_row : RowIs (action_lookup g states) (Some (codes "action"))
  unfolding function_made
  lookup_row = lookup_is g states st (λ f. RowIs f (Some (codes "action"))) (λ a b. (λ s. refl, λ m. none m)) (λ a b. (λ s. refl, λ m. none m))

  pub goto_row : RowIs (goto_function g states) (Some (codes "goto"))
  unfolding goto_function function_made
  goto_row = (λ s. refl, λ m. none m)

  pub terminals_row : RowIs (terminal_names g) None
  unfolding terminal_lines
  terminals_row s =
      let h = terminals_listed s.made (parts_of (terminal_names g)) in
      record { promises = refl; functions = h.functions; names = h.names; prefix = h.prefix; variants = h.variants; item_closure = h.item_closure; texts = h.texts }

  pub tables_are : AreRows table_rows table_names
  tables_are = (table_row, (lookup_row, (goto_row, (terminals_row, tt))))

  pub simulate_row : RowIs (trial_lines g states st) (Some (codes "simulate"))
  unfolding trial_lines function_made
  simulate_row = (λ s. refl, λ m. none m)

  pub accepts_row : RowIs (leaf part.AscentAccepts (state_text g states ∷ [])) (Some (codes "accepts"))
  unfolding function_made
  accepts_row = (λ s. refl, λ m. none m)

  pub expected_row : RowIs (leaf part.AscentExpected (state_text g states ∷ [])) (Some (codes "expected"))
  unfolding function_made
  expected_row = (λ s. refl, λ m. a_function _ m)

  pub trials_are : AreRows trial_rows trial_names
  trials_are = (simulate_row, (accepts_row, (expected_row, tt)))

  -- ---- all of them
  abbrev pub own_states : List Form
  own_states = own_forms g states 0 states

  abbrev pub all_rows : List Form
  all_rows = front_rows ++ (own_states ++ (table_rows ++ trial_rows))

  abbrev pub all_names : List (Option (List ℕ))
  all_names = front_names ++ (state_names g states 0 states ++ (table_names ++ trial_names))

  pub all_are : AreRows all_rows all_names
  all_are =
      rows_append front_rows (own_states ++ (table_rows ++ trial_rows)) front_names (state_names g states 0 states ++ (table_names ++ trial_names)) front_are
      (rows_append own_states (table_rows ++ trial_rows) (state_names g states 0 states) (table_names ++ trial_names) (state_rows g states 0 states)
      (rows_append table_rows trial_rows table_names trial_names tables_are trials_are))
