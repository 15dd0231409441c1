-- A program of parts that are known.
use Rattle.std.proofs.Common.{◌≡◌, ◌∙◌, ℕ, Bool, refl, List, [], ◌++◌, length, Result, Ok, Err, IfOk, ap, sym}
use Rattle.std.specs.List.{flat_map}
use Rattle.lp_form.specs.declared.part.Part.TheVariants as part
use Rattle.lp_repr.specs.declared.lr1.StartStates.{StartStates}
use Rattle.lp_repr.specs.declared.repr.Grammar.{Grammar}
use Rattle.lp_tree.specs.ProgramTree.{Item, items, program_items, program_notes}
use Rattle.lp_tree.specs.declared.tree.Node.{Node}
use Rattle.lp_tree.specs.declared.tree.Program.{Program}
use Rattle.lp_build.specs.Built.{over}
use Rattle.lp_notes.specs.Notes.{notes_of_program}
use Rattle.lp_actions.specs.ActionFunctions.{action_functions}
use Rattle.lp_assembly.specs.Built.{AreModules, IsBuiltWith, front_lines, token_lines, triple_lines}

pub built :
    {E : Type 0} (comments : Bool) (g : Grammar) (states : List StartStates) (bare : Program) (result : Result Program E) (modules : List Item) (nodes : List Node) →
    AreModules g states (length g.start_nonterminals.entries) modules →
    flat_map items nodes ≡ ((((front_lines g ++ modules) ++ token_lines g g.intern_token) ++ action_functions g) ++ triple_lines g) →
    bare.prefix ≡ g.prefix → program_items bare ≡ over part.Program [] (flat_map items nodes) →
    IfOk result (λ p. p.prefix ≡ bare.prefix) → IfOk result (λ p. program_items p ≡ program_items bare) →
    IfOk result (λ p. program_notes p ≡ notes_of_program comments g states (program_items bare)) →
    IfOk result (IsBuiltWith comments g states)
built comments g states bare (Ok p) modules nodes each lines prefix parts same_prefix same_parts notes = (
  record {
    prefix = same_prefix ∙ prefix;
    modules = modules;
    each = each;
    parts = same_parts ∙ parts ∙ ap (over part.Program []) lines;
    comments = comments;
    notes = notes ∙ ap (notes_of_program comments g states) (sym same_parts);
  },
  refl,
)
built comments g states bare (Err e) modules nodes each lines prefix parts same_prefix same_parts notes = notes

-- lists that are put behind one another, from none
pub behind :
    (l0 l1 l2 l3 l4 l5 a b c d e : List Item) →
    l0 ≡ [] → l1 ≡ l0 ++ a → l2 ≡ l1 ++ b → l3 ≡ l2 ++ c → l4 ≡ l3 ++ d → l5 ≡ l4 ++ e →
    l5 ≡ ((((a ++ b) ++ c) ++ d) ++ e)
behind l0 l1 l2 l3 l4 l5 a b c d e h0 h1 h2 h3 h4 h5 =
    h5 ∙ ap (λ (l : List Item). l ++ e) (h4 ∙ ap (λ (l : List Item). l ++ d) (h3 ∙ ap (λ (l : List Item). l ++ c) (h2 ∙ ap (λ (l : List Item). l ++ b) (h1 ∙ ap (λ (l : List Item). l ++ a) h0))))
