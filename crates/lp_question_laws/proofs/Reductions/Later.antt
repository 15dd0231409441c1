-- What the making of a row of a module adds stays until all is made.
use Rattle.std.proofs.Common.{◌≡◌, ℕ, ◌+◌, ◌<◌, ◌≤◌, true, if◌then◌else◌, List, [], ◌∷◌, ◌++◌, length, set, Option, Some, None, refl, sym, ap, subst, ◌∙◌, arith, append_assoc, length-append}
use Rattle.std.specs.Prelude.{slice_get, nat_lt}
use Rattle.std.proofs.lemmas.Bool.{lt-ltb}
use Rattle.std.proofs.lemmas.List.{length-set}
use Rattle.std.proofs.lemmas.Option.{slice_get_within}
use Rattle.lp_core.specs.declared.expr.Function.{Function}
use Rattle.lp_view.specs.PartLists.{Form, parts_of, over}
use Rattle.lp_maker.specs.Making.{Making, number_in, unmade, defined}
use Rattle.lp_run.specs.Entered.{with_source}
use Rattle.lp_run.specs.Named.{parser_of}
use Rattle.lp_run.specs.Promised.{promising_of, promised, beginning, module_row, module_rows}
use Rattle.lp_run.specs.Functions.{function_made, one_made, all_made, action_made, actions_made}
use Rattle.lp_question_laws.proofs.Gotos.GotoCode.{over-append}
use Rattle.lp_question_laws.proofs.Gotos.LinkMaps.{numbered_here, get_more, get_end, get_set, get_set_other}
use Rattle.lp_question_laws.proofs.Gotos.LinkGrows.{either, is_of_tables, made_extends}
use Rattle.lp_question_laws.proofs.Gotos.LinkPromises.{AreOfTables, Between, between_are, all-append, rows_go_on, others_above, others_below, all_kept}
use Rattle.lp_question_laws.proofs.Gotos.LinkModule.{Below, Declares, complete, begun, Sourced, source_sourced, code_extends, actions_kept, actions_know}

-- these variants have the same numbers later
abbrev pub Numbered : Making → Making → Type 0
Numbered m n = (q : List ℕ) (k : ℕ) → number_in q m.variants ≡ Some k → number_in q n.variants ≡ Some k

-- what the making of tables' forms keeps
pub record Makes (m n : Making) : Type 0 where
  pub names : n.names ≡ m.names
  pub prefix : n.prefix ≡ m.prefix
  pub variants : Numbered m n
  pub longer : length m.functions ≤ length n.functions

define_length : (k : ℕ) (f : Function) (m : Making) → length (defined k f m).functions ≡ length m.functions
define_length k f m = either (λ fs. length fs ≡ length m.functions) (nat_lt k (length m.functions)) _ _ (length-set m.functions k (Some f)) refl

one_makes : (m : Making) (r : ℕ × Form) → is_of_tables r.1 ≡ true → Makes m (one_made m r)
one_makes m r is =
    let e = made_extends m r.1 is in
    let made = function_made m r.1 in
    record {
      names = e.names;
      prefix = e.prefix;
      variants = e.variants;
      longer = omega (arith, define_length r.0 made.function made.making, ap length e.functions.1, length-append m.functions e.functions.0);
    }

all_make : (m : Making) (rs : List (ℕ × Form)) → AreOfTables rs → Makes m (all_made m rs)
all_make m [] t = record { names = refl; prefix = refl; variants = λ q k h. h; longer = omega arith }
all_make m (r ∷ rs) t =
    let one = one_makes m r t.0 in
    let rest = all_make (one_made m r) rs t.1 in
    record { names = rest.names ∙ one.names; prefix = rest.prefix ∙ one.prefix; variants = λ q k h. rest.variants q k (one.variants q k h); longer = omega (arith, one.longer, rest.longer) }

actions_number : (m : Making) (rs : List (ℕ × Form)) → Numbered m (actions_made m rs)
actions_number m [] q k h = h
actions_number m (r ∷ rs) q k h = actions_number (action_made m r) rs q k ((code_extends (slice_get (parts_of r.1) 0) (slice_get (parts_of r.1) 1) m).variants q k h)

-- a function under another number stays where one is defined
define_kept : (j k : ℕ) (f : Function) (m : Making) (x : Option Function) → (j ≡ k → ⊥) → slice_get m.functions j ≡ Some x → slice_get (defined k f m).functions j ≡ Some x
define_kept j k f m x other h = either (λ fs. slice_get fs j ≡ Some x) (nat_lt k (length m.functions)) _ _ (get_set_other m.functions j k (Some f) other ∙ h) h

define_there : (k : ℕ) (f : Function) (m : Making) → k < length m.functions → slice_get (defined k f m).functions k ≡ Some (Some f)
define_there k f m lt = ap (λ b. slice_get (if b then set m.functions k (Some f) else m.functions) k) (lt-ltb k (length m.functions) lt) ∙ get_set m.functions k (Some f) lt

-- what a row declares stands under its number when all is made, and what its making added is still there
pub record Stays (prefix : List ℕ) (last : Making) (name : List ℕ) (form : Form) : Type 0 where
  pub number : ℕ
  pub named : number_in name last.names ≡ Some number
  pub maker : Making
  pub knows : maker.names ≡ last.names
  pub same : maker.prefix ≡ prefix
  pub function : slice_get last.functions number ≡ Some (Some (function_made maker form).function)
  pub variants : Numbered (function_made maker form).making last
  pub functions : (j : ℕ) (f : Function) → length maker.functions ≤ j → slice_get (function_made maker form).making.functions j ≡ Some (Some f) → slice_get last.functions j ≡ Some (Some f)

-- over promises that are in order
module _ (m : Making) (rs ts actions : List (ℕ × Form)) (k start low high : ℕ) (form : Form) (is : is_of_tables form ≡ true) (before : Between start k rs) (after : Between low high ts) (first : start ≤ k) (above : k < low) (many : length m.functions ≡ high) (free : slice_get m.functions k ≡ Some None)
    (count : ℕ) (below : Below count actions) (late : count ≤ start) where
  abbrev maker : Making
  maker = all_made m rs

  abbrev one : Making
  one = one_made maker (k, form)

  abbrev last : Making
  last = actions_made (all_made one ts) actions

  within : k < high
  within = omega (arith, slice_get_within m.functions k None free, many)

  makes : Makes m maker
  makes = all_make m rs (between_are start k rs before)

  rest : Makes one (all_made one ts)
  rest = all_make one ts (between_are low high ts after)

  pub last_is : actions_made (all_made m (rs ++ (k, form) ∷ ts)) actions ≡ last
  last_is = ap (λ n. actions_made n actions) (all-append m rs ((k, form) ∷ ts))

  pub names_are : last.names ≡ m.names
  names_are = actions_know (all_made one ts) actions ∙ rest.names ∙ (one_makes maker (k, form) is).names ∙ makes.names

  -- its function
  pub stands : slice_get last.functions k ≡ Some (Some (function_made maker form).function)
  stands =
      let made = function_made maker form in
      let e = made_extends maker form is in
      let long : k < length made.making.functions = omega (arith, within, many, makes.longer, ap length e.functions.1, length-append maker.functions e.functions.0) in
      actions_kept (all_made one ts) actions k count (Some made.function) below (omega arith)
      (all_kept one ts k (Some made.function) (others_above k low high ts above after) (define_there k made.function made.making long))

  -- what its making added
  pub added_stays : (j : ℕ) (f : Function) → length maker.functions ≤ j → slice_get (function_made maker form).making.functions j ≡ Some (Some f) → slice_get last.functions j ≡ Some (Some f)
  added_stays j f le h =
      let made = function_made maker form in
      let far : high ≤ j = omega (arith, le, makes.longer, many) in
      actions_kept (all_made one ts) actions j count (Some f) below (omega (arith, far, within))
      (all_kept one ts j (Some f) (others_below j low high ts far after) (define_kept j k made.function made.making (Some f) (λ e. omega (arith, e, within, far)) h))

  pub numbers_stay : Numbered (function_made maker form).making last
  numbers_stay q n h = actions_number (all_made one ts) actions q n (rest.variants q n h)

pub row_stays : (prefix : List ℕ) (program items form : Form) (name rest : List ℕ) → Declares items name rest form → Stays prefix (complete prefix program items) (name ++ rest) form
unfolding complete
row_stays prefix program items form name rest r =
    let b = beginning (unmade prefix) program in
    let m = with_source items b.located b.actions.made in
    let q = name ++ rest in
    let begins = begun q prefix program r.no_action in
    let from : Sourced b.actions.made m = source_sourced b.located b.actions.made (parser_of items) in
    let s0 = promising_of [] m in
    let sb = over module_row s0 r.before in
    let s1 = promised name rest sb form in
    let s = over module_row s1 r.after in
    let k = length sb.made.functions in
    let g1 = rows_go_on s0 r.before r.plain_before in
    let g2 = rows_go_on s1 r.after r.plain_after in
    let rs = g1.promises.0 in
    let ts = g2.promises.0 in
    let low = length (sb.made.functions ++ None ∷ []) in
    let next : low ≡ k + 1 = length-append sb.made.functions (None ∷ []) in
    let late : length m.functions ≤ k = omega (arith, ap length g1.functions.1, length-append m.functions g1.functions.0) in
    let there : slice_get s.made.functions k ≡ Some None = subst (λ fs. slice_get fs k ≡ Some None) (sym g2.functions.1) (get_more (sb.made.functions ++ None ∷ []) g2.functions.0 k None (get_end sb.made.functions [] None)) in
    let new : number_in q sb.made.names ≡ None = r.new m (ap (number_in q) from.0 ∙ begins.new) in
    let named : number_in q s.made.names ≡ Some k = g2.names q k (numbered_here q k sb.made.names new) in
    let all : s.promises ≡ rs ++ (k, form) ∷ ts = g2.promises.1 ∙ ap (λ x. (x ++ (k, form) ∷ []) ++ ts) g1.promises.1 ∙ append_assoc rs ((k, form) ∷ []) ts in
    let rows : module_rows m items ≡ s = ap (over module_row s0) r.rows ∙ over-append module_row s0 r.before (form ∷ r.after) ∙ ap (λ t. over module_row t r.after) (r.declares sb) in
    let actions = b.actions.promises in
    let count = length b.actions.made.functions in
    let last = actions_made (all_made (one_made (all_made s.made rs) (k, form)) ts) actions in
    let whole : complete prefix program items ≡ last = ap (λ t. actions_made (all_made t.made t.promises) actions) rows ∙ ap (λ ps. actions_made (all_made s.made ps) actions) all ∙ last_is s.made rs ts actions k (length m.functions) low (length s.made.functions) form r.is_plain g1.promises.2 g2.promises.2 late (omega arith) refl there count begins.below from.1 in
    let names = names_are s.made rs ts actions k (length m.functions) low (length s.made.functions) form r.is_plain g1.promises.2 g2.promises.2 late (omega arith) refl there count begins.below from.1 in
    let makes = all_make s.made rs (between_are (length m.functions) k rs g1.promises.2) in
    subst (λ l. Stays prefix l q form) (sym whole) (record {
      number = k;
      named = ap (number_in q) names ∙ named;
      maker = all_made s.made rs;
      knows = makes.names ∙ sym names;
      same = makes.prefix ∙ g2.prefix ∙ g1.prefix ∙ from.2 ∙ begins.same;
      function = stands s.made rs ts actions k (length m.functions) low (length s.made.functions) form r.is_plain g1.promises.2 g2.promises.2 late (omega arith) refl there count begins.below from.1;
      variants = numbers_stay s.made rs ts actions k (length m.functions) low (length s.made.functions) form r.is_plain g1.promises.2 g2.promises.2 late (omega arith) refl there count begins.below from.1;
      functions = added_stays s.made rs ts actions k (length m.functions) low (length s.made.functions) form r.is_plain g1.promises.2 g2.promises.2 late (omega arith) refl there count begins.below from.1;
    })
