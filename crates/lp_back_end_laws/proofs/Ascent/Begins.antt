-- What stands beside the modules: actions that are promised first and made last, and the closure of the token source.
use Rattle.std.proofs.Common.{◌≡◌, ℕ, suc, Bool, true, false, List, [], ◌∷◌, ◌++◌, Option, Some, None, refl, ap, sym, ◌∙◌, arith, append-nil}
use Rattle.std.specs.Prelude.{slice_get}
use Rattle.lp_core.specs.declared.expr.Function.{Function}
use Rattle.lp_form.specs.declared.part.Part.TheVariants as part
use Rattle.lp_view.specs.PartLists.{Form, is_a, parts_of, over}
use Rattle.lp_maker.specs.Making.{Making, unmade}
use Rattle.lp_bodies.specs.Actions.{action_function, with_action, with_code_under, code_of}
use Rattle.lp_bodies.specs.Source.{with_first, with_error, with_both, with_item}
use Rattle.lp_run.specs.Named.{is_interned}
use Rattle.lp_run.specs.Entered.{with_closure, sourced}
use Rattle.lp_run.specs.Functions.{action_made, actions_made}
use Rattle.lp_run.specs.Promised.{Beginning, beginning, beginning_of, beginning_row, is_source, is_action, with_action_form}
use Rattle.lp_question_laws.proofs.Gotos.LinkGrows.{either}
use Rattle.lp_question_laws.proofs.Gotos.LinkMaps.{get_more}
use Rattle.lp_back_end_laws.proofs.Ascent.Grows.{Adds, none, and_then, a_function, a_text}
use Rattle.lp_back_end_laws.proofs.Ascent.Stays.{Stays, stays_by, stays_both, Waits, waits_more, waits_kept, other_stays, defined_stays}

-- ---- what is promised first
pub record Starts (b : Beginning) : Type 0 where
  pub waits : Waits 0 b.actions.made.functions b.actions.promises
  pub variants : b.actions.made.variants ≡ []
  pub tables : b.actions.made.tables ≡ []
  pub terminals : b.actions.made.terminals ≡ []
  pub item_closure : b.actions.made.item_closure ≡ None

with_form : (b : Beginning) (form : Form) → Starts b → Starts (with_action_form b form)
with_form b form s = record {
  waits = waits_more 0 b.actions.made.functions b.actions.promises form (omega arith) s.waits;
  variants = s.variants;
  tables = s.tables;
  terminals = s.terminals;
  item_closure = s.item_closure;
}

rows_start : (b : Beginning) (fs : List Form) → Starts b → Starts (over beginning_row b fs)
rows_start b [] s = s
rows_start b (f ∷ fs) s =
    rows_start (beginning_row b f) fs
    (either Starts (is_source f) _ _ (record { waits = s.waits; variants = s.variants; tables = s.tables; terminals = s.terminals; item_closure = s.item_closure }) (either Starts (is_action f) _ _ (with_form b f s) s))

pub starts : (prefix : List ℕ) (program : Form) → Starts (beginning (unmade prefix) program)
starts prefix program = rows_start (beginning_of false [] (unmade prefix)) (parts_of program) (record { waits = tt; variants = refl; tables = refl; terminals = refl; item_closure = refl })

-- ---- the closure of the token source
-- functions behind the others, and nothing else
pub record Supplies (m n : Making) : Type 0 where
  pub functions : (fs : List (Option Function)) × (n.functions ≡ m.functions ++ fs)
  pub prefix : n.prefix ≡ m.prefix
  pub names : n.names ≡ m.names
  pub variants : n.variants ≡ m.variants
  pub tables : n.tables ≡ m.tables
  pub texts : n.texts ≡ m.texts
  pub terminals : n.terminals ≡ m.terminals

item_adds : (located : Bool) (m : Making) → Adds m (with_item located m)
item_adds true m =
    let a = with_first true m in
    let b = with_error true a in
    let c = with_both true m in
    and_then m a (with_item true m) (a_function _ m) (and_then a b (with_item true m) (a_function _ a) (and_then b c (with_item true m) (a_function _ b) (a_function _ c)))
item_adds false m =
    let a = with_first false m in
    let c = with_both false m in
    and_then m a (with_item false m) (a_function _ m) (and_then a c (with_item false m) (a_function _ a) (a_function _ c))

closure_supplies : (located : Bool) (m : Making) → Supplies m (with_closure located m)
closure_supplies true m = (let e = (item_adds true m).extends in record { functions = e.functions; prefix = refl; names = refl; variants = refl; tables = refl; texts = refl; terminals = refl })
closure_supplies false m = (let e = (item_adds false m).extends in record { functions = e.functions; prefix = refl; names = refl; variants = refl; tables = refl; texts = refl; terminals = refl })

pub source_supplies : (located : Bool) (m : Making) (o : Option Form) → Supplies m (sourced located m o)
source_supplies located m None = closure_supplies located m
source_supplies located m (Some parser) =
    either (Supplies m) (is_interned parser) _ _ (record { functions = ([], sym (append-nil m.functions)); prefix = refl; names = refl; variants = refl; tables = refl; texts = refl; terminals = refl }) (closure_supplies located m)

-- ---- actions are made last
action_adds : (form : Form) (m : Making) → Adds m (with_action form m)
action_adds form m = by (parts_of form)
  where
    under : (o body : Option Form) → Adds m (with_code_under o body m)
    under None body = none m
    under (Some header) None = none m
    under (Some header) (Some body) = either (Adds m) (is_a part.UserBody body) _ _ (a_text (code_of body) m) (none m)

    by : (fs : List Form) → Adds m (with_code_under (slice_get fs 0) (slice_get fs 1) m)
    by fs = under (slice_get fs 0) (slice_get fs 1)

module _ (m : Making) (r : ℕ × Form) where
  abbrev with_it : Making
  with_it = with_action r.1 m

  beside : (j : ℕ) (x : Option Function) → slice_get m.functions j ≡ Some x → slice_get with_it.functions j ≡ Some x
  beside j x h = (let e = (action_adds r.1 m).extends.functions in ap (λ (fs : List (Option Function)). slice_get fs j) e.1 ∙ get_more m.functions e.0 j x h)

  other_action : (j : ℕ) (x : Option Function) → (j ≡ r.0 → ⊥) → slice_get m.functions j ≡ Some x → slice_get (action_made m r).functions j ≡ Some x
  other_action j x ne h = other_stays r.0 (action_function m r.1) with_it j x ne (beside j x h)

  action_stays : slice_get m.functions r.0 ≡ Some None → Stays m (action_made m r)
  action_stays waits = stays_both m with_it (action_made m r) (stays_by m with_it (action_adds r.1 m)) (defined_stays r.0 (action_function m r.1) with_it (beside r.0 None waits))

pub actions_stay : (m : Making) (low : ℕ) (rs : List (ℕ × Form)) → Waits low m.functions rs → Stays m (actions_made m rs)
actions_stay m low [] w = stays_by m m (none m)
actions_stay m low (r ∷ rs) w =
    let next = action_made m r in
    stays_both m next (actions_made next rs) (action_stays m r w.1)
    (actions_stay next (suc r.0) rs (waits_kept (suc r.0) m.functions next.functions rs (λ j le h. other_action m r j None (λ e. omega (arith, e, le)) h) w.2))
