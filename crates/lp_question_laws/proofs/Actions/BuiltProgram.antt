-- The program that is built of a grammar and its states has the forms of the actions, and no others.
use Rattle.std.proofs.Common.{◌≡◌, ℕ, zero, suc, false, List, [], ◌∷◌, ◌++◌, length, Option, Some, None, refl, ap, sym, subst, ◌∙◌, append_assoc, append-nil}
use Rattle.std.specs.Prelude.{slice_get}
use Rattle.lp_form.specs.declared.part.Part.TheVariants as part
use Rattle.lp_repr.specs.declared.lr1.Lr1State.{Lr1State}
use Rattle.lp_repr.specs.declared.lr1.StartStates.{StartStates}
use Rattle.lp_repr.specs.declared.repr.Grammar.{Grammar}
use Rattle.lp_repr.specs.declared.repr.InternToken.{InternToken}
use Rattle.lp_repr.specs.declared.repr.LrCodeGeneration.{LrCodeGeneration}
use Rattle.lp_repr.specs.declared.repr.LrCodeGeneration.TheVariants as by_code
use Rattle.lp_repr.specs.declared.repr.NonterminalString.{NonterminalString}
use Rattle.lp_tree.specs.declared.tree.Program.{Program}
use Rattle.lp_tree.specs.ProgramTree.{Item, leaf, program_items}
use Rattle.lp_build.specs.Built.{over}
use Rattle.lp_build.specs.declared.frame.Triples.{Triples}
use Rattle.lp_build.specs.declared.frame.Triples.TheVariants as triples
use Rattle.lp_assembly.specs.Built.{attribute_lines, use_lines, front_lines, IsModuleBy, reexport_lines, AreFollowed, AreModules, token_lines, joined_clauses, implementations, triple_lines_by, triple_lines, IsBuilt}
use Rattle.lp_actions.specs.ActionFunctions.{action_functions}
use Rattle.lp_table.specs.BuiltTable.{built_for}
use Rattle.lp_table.specs.FrameLines.{module_parts}
use Rattle.lp_ascent.specs.BuiltAscent.{built_ascent_for}
use Rattle.lp_view.specs.PartLists.{Form, parts_of}
use Rattle.lp_run.specs.Promised.{is_action}
use Rattle.lp_question_laws.proofs.Gotos.Whole.{AreWhole, IsWhole, flat, parts_over, flat-append, whole-append}
use Rattle.lp_question_laws.specs.Actions.Forms.{AreNone, HasForms}
use Rattle.lp_question_laws.proofs.Actions.BuiltForms.{action_forms, functions_flat, forms_whole, forms_are}

-- forms that stand side by side, none of an action
record AreOuter (items : List Item) : Type 0 where
  forms : List Form
  are : items ≡ flat forms
  whole : AreWhole forms
  none : AreNone forms

none-append : (a b : List Form) → AreNone a → AreNone b → AreNone (a ++ b)
none-append [] b h g = g
none-append (f ∷ a) b h g = (h.0, none-append a b h.1 g)

nothing : AreOuter []
nothing = record { forms = []; are = refl; whole = tt; none = tt }

both : (a b : List Item) → AreOuter a → AreOuter b → AreOuter (a ++ b)
both a b f g = record {
  forms = f.forms ++ g.forms;
  are = ap (λ l. l ++ b) f.are ∙ ap (λ l. flat f.forms ++ l) g.are ∙ sym (flat-append f.forms g.forms);
  whole = whole-append f.forms g.forms f.whole g.whole;
  none = none-append f.forms g.forms f.none g.none;
}

one : (f : Form) → IsWhole f → is_action f ≡ false → AreOuter f
one f whole none = record { forms = f ∷ []; are = sym (append-nil f); whole = (whole, tt); none = (none, tt) }

attributes_outer : (texts : List (List ℕ)) → AreOuter (attribute_lines texts)
attributes_outer [] = nothing
attributes_outer (t ∷ texts) = both (leaf part.Attribute (t ∷ [])) (attribute_lines texts) (one (leaf part.Attribute (t ∷ [])) refl refl) (attributes_outer texts)

uses_outer : (texts : List (List ℕ)) → AreOuter (use_lines texts)
uses_outer [] = nothing
uses_outer (t ∷ texts) = both (leaf part.UseLine (t ∷ [])) (use_lines texts) (one (leaf part.UseLine (t ∷ [])) refl refl) (uses_outer texts)

front_outer : (g : Grammar) → AreOuter (front_lines g)
front_outer g =
    both (attribute_lines g.module_attributes ++ use_lines g.uses) (leaf part.StandardUses []) (both (attribute_lines g.module_attributes) (use_lines g.uses) (attributes_outer g.module_attributes) (uses_outer g.uses))
    (one (leaf part.StandardUses []) refl refl)

table_outer : (g : Grammar) (states : List Lr1State) (names : Option (NonterminalString × NonterminalString)) → AreOuter (built_for g states names)
unfolding module_parts
table_outer g states None = nothing
table_outer g states (Some p) = one (built_for g states (Some p)) refl refl

ascent_outer : (g : Grammar) (states : List Lr1State) (names : Option (NonterminalString × NonterminalString)) → AreOuter (built_ascent_for g states names)
ascent_outer g states None = nothing
ascent_outer g states (Some p) = one (built_ascent_for g states (Some p)) refl refl

module_outer : (code : LrCodeGeneration) (g : Grammar) (start : ℕ) (states : List Lr1State) (lines : List Item) → IsModuleBy code g start states lines → AreOuter lines
module_outer by_code.RecursiveAscent g start states lines is = subst AreOuter (sym is) (ascent_outer g states (slice_get g.start_nonterminals.entries start))
module_outer by_code.TableDriven g start states lines is = subst AreOuter (sym is) (table_outer g states (slice_get g.start_nonterminals.entries start))
module_outer by_code.TestAll g start states lines is = subst AreOuter (sym is) (table_outer g states (slice_get g.start_nonterminals.entries start))

followed_outer : (g : Grammar) (start : ℕ) (names : Option (NonterminalString × NonterminalString)) (list : Option StartStates) (before lines : List Item) → AreOuter before → AreFollowed g start names list before lines → AreOuter lines
followed_outer g start None list before lines h is = absurd is
followed_outer g start (Some names) None before lines h is = subst AreOuter (sym is) h
followed_outer g start (Some names) (Some list) before lines h is =
    subst AreOuter (sym is.2) (both (before ++ is.0) (reexport_lines g names.0 names.1) (both before is.0 h (module_outer g.algorithm.codegen g start list.states is.0 is.1)) (one (reexport_lines g names.0 names.1) refl refl))

modules_outer : (g : Grammar) (states : List StartStates) (n : ℕ) (lines : List Item) → AreModules g states n lines → AreOuter lines
modules_outer g states zero lines is = subst AreOuter (sym is) nothing
modules_outer g states (suc n) lines is = followed_outer g n (slice_get g.start_nonterminals.entries n) (slice_get states n) is.0 lines (modules_outer g states n is.0 is.1) is.2

tokens_outer : (g : Grammar) (tokens : Option InternToken) → AreOuter (token_lines g tokens)
tokens_outer g None = nothing
tokens_outer g (Some tokens) = one (token_lines g (Some tokens)) refl refl

triples_outer : (g : Grammar) (clauses : Option (List ℕ)) (t : Triples) → AreOuter (triple_lines_by g clauses t)
triples_outer g None (triples.Located triple error) = one (triple_lines_by g None (triples.Located triple error)) refl refl
triples_outer g None (triples.Plain token error) = one (triple_lines_by g None (triples.Plain token error)) refl refl
triples_outer g (Some c) (triples.Located triple error) = one (triple_lines_by g (Some c) (triples.Located triple error)) refl refl
triples_outer g (Some c) (triples.Plain token error) = one (triple_lines_by g (Some c) (triples.Plain token error)) refl refl

pub built_forms : (g : Grammar) (states : List StartStates) (program : Program) → IsBuilt g states program → HasForms g (program_items program)
built_forms g states program is =
    let front = (front_lines g ++ is.modules) ++ token_lines g g.intern_token in
    let b = both (front_lines g ++ is.modules) (token_lines g g.intern_token) (both (front_lines g) is.modules (front_outer g) (modules_outer g states (length g.start_nonterminals.entries) is.modules is.each)) (tokens_outer g g.intern_token) in
    let a = triples_outer g (joined_clauses g.where_clauses) (implementations g g.types.loc) in
    let forms = action_forms g 0 g.action_fn_defns in
    let all = b.forms ++ (forms ++ a.forms) in
    let whole : AreWhole all = whole-append b.forms (forms ++ a.forms) b.whole (whole-append forms a.forms (forms_whole g 0 g.action_fn_defns) a.whole) in
    let items : (front ++ action_functions g) ++ triple_lines g ≡ flat all =
    ap (λ l. (l ++ action_functions g) ++ triple_lines g) b.are ∙ ap (λ l. (flat b.forms ++ l) ++ triple_lines g) (functions_flat g) ∙ ap (λ l. (flat b.forms ++ flat forms) ++ l) a.are
    ∙ append_assoc (flat b.forms) (flat forms) (flat a.forms) ∙ ap (λ l. flat b.forms ++ l) (sym (flat-append forms a.forms)) ∙ sym (flat-append b.forms (forms ++ a.forms)) in
    record {
      before = b.forms;
      forms = forms;
      after = a.forms;
      parts = ap parts_of is.parts ∙ ap (λ below. parts_of (over part.Program [] below)) items ∙ parts_over part.Program [] all whole;
      none_before = b.none;
      none_after = a.none;
      each = forms_are g 0 g.action_fn_defns;
    }
