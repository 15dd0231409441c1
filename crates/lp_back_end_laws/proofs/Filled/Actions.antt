-- A built program has the functions of its grammar's actions, and its texts are plain.
use Rattle.std.proofs.Common.{◌≡◌, ℕ, ◌+◌, ◌<◌, Bool, true, false, Option, None, List, [], ◌∷◌, length, Some, refl}
use Rattle.std.specs.List.{list_all}
use Rattle.lp_repr.specs.declared.lr1.StartStates.{StartStates}
use Rattle.lp_repr.specs.declared.repr.ActionFnDefn.{ActionFnDefn}
use Rattle.lp_repr.specs.declared.repr.ActionFnDefnKind.{ActionFnDefnKind}
use Rattle.lp_repr.specs.declared.repr.ActionFnDefnKind.TheVariants.{User, Lookaround, Inline}
use Rattle.lp_repr.specs.declared.repr.LookaroundActionFn.TheVariants.{Lookahead, Lookbehind}
use Rattle.lp_repr.specs.declared.repr.Grammar.{Grammar}
use Rattle.lp_tree.specs.ProgramTree.{leaf, program_items}
use Rattle.lp_tree.specs.declared.tree.Program.{Program}
use Rattle.lp_view.specs.PartLists.{Form}
use Rattle.lp_actions.specs.ActionFunctions.{kind_lines}
use Rattle.lp_assembly.specs.Built.{IsBuilt, implementations, joined_clauses, triple_lines}
use Rattle.lp_build.specs.Frame.{triple_part}
use Rattle.lp_build.specs.declared.frame.Triples.{Triples}
use Rattle.lp_build.specs.declared.frame.Triples.TheVariants.{Located, Plain}
use Rattle.lp_run.specs.Promised.{is_action}
use Rattle.lp_spelling.specs.HoleEnds.{is_word}
use Rattle.lp_question_laws.proofs.Gotos.LinkHeaders.{IsWordy}
use Rattle.lp_question_laws.specs.Actions.Forms as own
use Rattle.lp_question_laws.specs.Actions.Forms.{HasForms}
use Rattle.lp_question_laws.specs.Actions.Stands.{IsBody}
use Rattle.lp_question_laws.proofs.Actions.Texts as texts
use Rattle.lp_agreement.proofs.Composed.Beginnings.{AreActions, AreIdle}
use Rattle.lp_agreement.proofs.Composed.CodedActions.{action_parts}
use Rattle.lp_agreement.proofs.Composed.Names.{IsPlainName, words_lack}
use Rattle.lp_agreement.proofs.Composed.Programs.{action_forms}
use Rattle.lp_agreement.proofs.Composed.Promises.{HasActionParts, built_actions}

none_idle : (fs : List Form) → AreIdle fs → own.AreNone fs
none_idle [] are = tt
none_idle (f ∷ fs) are = (are.0.no_action, none_idle fs are.1)

body_is : (g : Grammar) (fallible : Bool) (kind : ActionFnDefnKind) → IsBody g fallible kind (kind_lines g fallible kind)
body_is g fallible (User patterns types code) = (refl, refl)
body_is g fallible (Lookaround Lookahead) = refl
body_is g fallible (Lookaround Lookbehind) = refl
body_is g fallible (Inline outer symbols) = refl

each_is : (g : Grammar) (n : ℕ) (actions : List ActionFnDefn) → AreActions (action_forms g n actions) → own.AreActions g n actions (action_forms g n actions)
each_is g n [] are = tt
each_is g n (a ∷ rest) are = (
  record { is = record { body = kind_lines g a.fallible a.kind; parts = action_parts g n a; is_body = body_is g a.fallible a.kind }; taken = are.0.is_one; no_source = are.0.no_source },
  each_is g (n + 1) rest are.1,
)

triple_none : (g : Grammar) → is_action (triple_lines g) ≡ false
triple_none g = by (joined_clauses g.where_clauses) (implementations g g.types.loc)
  where
    by : (clauses : Option (List ℕ)) (triples : Triples) → is_action (leaf (triple_part clauses triples) []) ≡ false
    by (Some c) (Located t e) = refl
    by None (Located t e) = refl
    by (Some c) (Plain t e) = refl
    by None (Plain t e) = refl

pub has_forms : (g : Grammar) (states : List StartStates) (program : Program) → IsBuilt g states program → HasForms g (program_items program)
has_forms g states program is_built =
    let h : HasActionParts g (program_items program) = built_actions g states program is_built in
    record {
      before = h.before;
      forms = action_forms g 0 g.action_fn_defns;
      after = triple_lines g ∷ [];
      parts = h.parts;
      none_before = none_idle h.before h.idle;
      none_after = (triple_none g, tt);
      each = each_is g 0 g.action_fn_defns h.act;
    }

-- the prefix and the names of parameters
wordy : (s : List ℕ) → list_all is_word s ≡ true → IsWordy s
wordy s h = record { no_and = words_lack 38 refl s h; no_open = words_lack 40 refl s h; no_colon = words_lack 58 refl s h }

pub plain_prefix : (p : List ℕ) → list_all is_word p ≡ true → 0 < length p → texts.IsPlainPrefix p
plain_prefix p h some = record { wordy = wordy p h; no_dot = words_lack 46 refl p h; no_star = words_lack 42 refl p h; some = some }

pub plain_name : (p name : List ℕ) → IsPlainName p name → texts.IsPlainName p name
plain_name p name is = record { wordy = wordy name is.words; no_mark = words_lack 126 refl name is.words; some = is.some; not_blank = is.named; apart = is.apart }
