-- A program that runs a module, of whatever code, has the functions of the actions.
use Rattle.std.proofs.Common.{◌≡◌, ℕ, zero, suc, ◌+◌, ◌<◌, ◌^◌, true, List, [], ◌∷◌, length, Some, refl, ap, sym, subst, ◌∙◌, arith}
use Rattle.std.specs.Prelude.{slice_get}
use Rattle.lp_form.specs.declared.part.Part.TheVariants as part
use Rattle.lp_repr.specs.declared.lr1.Lr1State.{Lr1State}
use Rattle.lp_repr.specs.declared.repr.ActionFnDefn.{ActionFnDefn}
use Rattle.lp_repr.specs.declared.repr.Grammar.{Grammar}
use Rattle.lp_core.specs.declared.expr.Function.{Function}
use Rattle.lp_core.specs.Store.{Program}
use Rattle.lp_table.specs.Starts.{Start}
use Rattle.lp_view.specs.PartLists.{Form, is_a, parts_of}
use Rattle.lp_maker.specs.declared.methods.Methods.{Methods}
use Rattle.lp_maker.specs.Making.{Making, unmade, number_in}
use Rattle.lp_bodies.specs.Actions.{action_function, code_of}
use Rattle.lp_run.specs.Named.{parser_of}
use Rattle.lp_run.specs.Promised.{promising_of, beginning, module_rows}
use Rattle.lp_run.specs.Functions.{all_made, actions_made}
use Rattle.lp_run.specs.Entered.{with_source, module_made}
use Rattle.lp_turns.specs.Asking.{Asking}
use Rattle.lp_question_laws.proofs.Gotos.LinkModule.{complete}
use Rattle.lp_question_laws.proofs.Gotos.GotoAnswered.{built_items}
use Rattle.lp_question_laws.proofs.Tables.Built.{RunsBuilt}
use Rattle.lp_question_laws.specs.Actions.Forms.{IsAction, AreActions, HasForms}
use Rattle.lp_question_laws.specs.Actions.Stands.{HasActions}
use Rattle.lp_question_laws.proofs.Actions.Linked.{action_name, promises_from, AreNumbered, begins, names_stay, made}
use Rattle.lp_question_laws.proofs.Actions.Makings.{Later, all_later, functions_kept, later_both, rows_later, source_later, texts_kept}

-- ---- all that is made

-- the function of each action has its number there
pub record ActionMade (prefix : List ℕ) (last : Making) (n : ℕ) (form : Form) : Type 0 where
  pub number : ℕ
  pub named : number_in (action_name n) last.names ≡ Some number
  pub maker : Making
  pub knows : maker.names ≡ last.names
  pub same_prefix : maker.prefix ≡ prefix
  pub there : slice_get last.functions number ≡ Some (Some (action_function maker form))
  pub text : (head body : Form) → parts_of form ≡ head ∷ body ∷ [] → is_a part.UserBody body ≡ true → slice_get last.texts (length maker.texts) ≡ Some (code_of body)

numbered_at : (names : List (List ℕ × ℕ)) (n k : ℕ) (fs : List Form) (i : ℕ) (form : Form) → AreNumbered names n k fs → slice_get fs i ≡ Some form → number_in (action_name (n + i)) names ≡ Some (k + i)
numbered_at names n k [] i form h is = absurd cc
numbered_at names n k (f ∷ fs) zero form h is = ap (λ j. number_in (action_name j) names) (omega arith) ∙ h.0 ∙ ap Some (omega arith)
numbered_at names n k (f ∷ fs) (suc i) form h is = ap (λ j. number_in (action_name j) names) (omega arith) ∙ numbered_at names (n + 1) (k + 1) fs i form h.1 is ∙ ap Some (omega arith)

pub action_made : (prefix : List ℕ) (g : Grammar) (program items : Form) → (h : HasForms g program) → length g.action_fn_defns < 2 ^ 64 → (n : ℕ) (form : Form) → slice_get h.forms n ≡ Some form → ActionMade prefix (complete prefix program items) n form
unfolding complete
action_made prefix g program items h small n form is =
    let b = beginning (unmade prefix) program in
    let m = with_source items b.located b.actions.made in
    let s = module_rows m items in
    let all = all_made s.made s.promises in
    let first = begins prefix g program h small in
    let between : Later b.actions.made all = later_both b.actions.made m all (source_later b.located b.actions.made (parser_of items)) (later_both m s.made all (rows_later (promising_of [] m) (parts_of items)) (all_later s.made s.promises)) in
    let r = made all 0 h.forms n form is (let f = first.many in let k = between.many in omega arith) in
    let rest : actions_made all b.actions.promises ≡ actions_made all (promises_from 0 h.forms) = ap (actions_made all) first.promises in
    let names : number_in (action_name n) all.names ≡ Some (0 + n) = between.names (action_name n) (0 + n) (ap (λ j. number_in (action_name j) b.actions.made.names) (let z : n ≡ 0 + n = omega arith in z) ∙ numbered_at b.actions.made.names 0 0 h.forms n form first.numbered is) in
    subst (λ last. ActionMade prefix last n form) (sym rest) (record {
      number = 0 + n;
      named = ap (number_in (action_name n)) (names_stay all (promises_from 0 h.forms)) ∙ names;
      maker = r.maker;
      knows = r.knows ∙ sym (names_stay all (promises_from 0 h.forms));
      same_prefix = r.prefix ∙ between.prefix ∙ first.same_prefix;
      there = r.there;
      text = r.text;
    })

-- ---- the program

-- the form of an action's number
form_at : (g : Grammar) (n : ℕ) (defns : List ActionFnDefn) (fs : List Form) (i : ℕ) (a : ActionFnDefn) → AreActions g n defns fs → slice_get defns i ≡ Some a → (form : Form) × (slice_get fs i ≡ Some form) × IsAction g (n + i) a form
form_at g n [] fs i a h is = absurd cc
form_at g n (b ∷ defns) [] i a h is = absurd h
form_at g n (b ∷ defns) (f ∷ fs) zero a h is =
    let same : b ≡ a = cc in
    let at : n ≡ n + 0 = omega arith in
    (f, refl, subst (λ k. IsAction g k a f) at (subst (λ x. IsAction g n x f) same h.0))
form_at g n (b ∷ defns) (f ∷ fs) (suc i) a h is =
    let r = form_at g (n + 1) defns fs i a h.1 is in
    let at : n + 1 + i ≡ n + suc i = omega arith in
    (r.0, r.1, subst (λ k. IsAction g k a r.0) at r.2)

-- a program with the functions and the texts of a module, of whatever code, has the functions of the actions
pub module_actions : (p : Program) (prefix : List ℕ) (program items : Form) (g : Grammar) → p.functions ≡ (module_made prefix program items).functions → p.texts ≡ (module_made prefix program items).texts → HasForms g program → prefix ≡ g.prefix → length g.action_fn_defns < 2 ^ 64
    → HasActions p g (complete prefix program items).names
module_actions p prefix program items g functions texts forms same small n a there =
    let at = form_at g 0 g.action_fn_defns forms.forms n a forms.each there in
    let zero_n : 0 + n ≡ n = omega arith in
    let is : IsAction g n a at.0 = subst (λ k. IsAction g k a at.0) zero_n at.2 in
    let r = action_made prefix g program items forms small n at.0 at.1 in
    record {
      number = r.number;
      named = r.named;
      maker = r.maker;
      knows = r.knows;
      prefix = r.same_prefix ∙ same;
      form = at.0;
      is = is.is;
      there = ap (λ (fs : List Function). slice_get fs r.number) functions ∙ functions_kept prefix program items r.number (action_function r.maker at.0) r.there;
      text = λ user. ap (λ (ts : List (List ℕ)). slice_get ts (length r.maker.texts)) texts ∙ texts_kept prefix program items (length r.maker.texts) (code_of is.is.body) (r.text _ is.is.body is.is.parts user);
    }

module _ {prefix : List ℕ} {program : Form} {g : Grammar} {states : List Lr1State} {st : Start} {asked : Asking} {methods : Methods} (runs : RunsBuilt prefix program g states st asked methods) where
  abbrev pub names_made : List (List ℕ × ℕ)
  names_made = (complete prefix program (built_items g states st)).names

  -- the module's functions of actions are the program's
  pub has_actions : asked.program.texts ≡ (module_made prefix program (built_items g states st)).texts → HasForms g program → prefix ≡ g.prefix → length g.action_fn_defns < 2 ^ 64 → HasActions asked.program g names_made
  has_actions texts forms same small = module_actions asked.program prefix program (built_items g states st) g runs.functions texts forms same small
