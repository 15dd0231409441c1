-- The functions of actions among the parts of a built program, and whether its items keep their locations.
use Rattle.std.proofs.Common.{◌≡◌, ℕ, List, [], ◌∷◌, ◌++◌, length, is_some, ap, ◌∙◌, append_assoc}
use Rattle.lp_repr.specs.declared.lr1.StartStates.{StartStates}
use Rattle.lp_repr.specs.declared.repr.Grammar.{Grammar}
use Rattle.lp_tree.specs.ProgramTree.{program_items}
use Rattle.lp_tree.specs.declared.tree.Program.{Program}
use Rattle.lp_view.specs.PartLists.{Form, parts_of}
use Rattle.lp_assembly.specs.Built.{IsBuilt, triple_lines}
use Rattle.lp_maker.specs.Making.{unmade}
use Rattle.lp_run.specs.Promised.{Beginning, beginning}
use Rattle.lp_agreement.proofs.Composed.Beginnings.{AreActions, AreIdle, actions_act, beginning_is, front_idle, idle-append, modules_idle, tokens_idle}
use Rattle.lp_agreement.proofs.Composed.Modules.{module_forms}
use Rattle.lp_agreement.proofs.Composed.Programs.{action_forms, front_forms, program_parts, token_forms}

-- the functions of a grammar's actions stand side by side, behind parts that stand for nothing, and how items become triples comes last
pub record HasActionParts (g : Grammar) (program : Form) : Type 0 where
  pub before : List Form
  pub parts : parts_of program ≡ before ++ (action_forms g 0 g.action_fn_defns ++ triple_lines g ∷ [])
  pub idle : AreIdle before
  pub act : AreActions (action_forms g 0 g.action_fn_defns)

module _ (g : Grammar) (states : List StartStates) (program : Program) (is_built : IsBuilt g states program) where
  pub built_actions : HasActionParts g (program_items program)
  built_actions =
      let modules = module_forms g states (length g.start_nonterminals.entries) in
      let before = (front_forms g ++ modules) ++ token_forms g g.intern_token in
      record {
        before = before;
        parts = program_parts g states program is_built ∙ append_assoc before (action_forms g 0 g.action_fn_defns) (triple_lines g ∷ []);
        idle = idle-append (front_forms g ++ modules) (token_forms g g.intern_token) (idle-append (front_forms g) modules (front_idle g) (modules_idle g states (length g.start_nonterminals.entries))) (tokens_idle g g.intern_token);
        act = actions_act g 0 g.action_fn_defns;
      }

  -- items keep their locations where the grammar has a type of them
  pub built_located : (prefix : List ℕ) → (beginning (unmade prefix) (program_items program)).located ≡ is_some g.types.loc
  built_located prefix = ap (λ (b : Beginning). b.located) (beginning_is g states program is_built (unmade prefix))
