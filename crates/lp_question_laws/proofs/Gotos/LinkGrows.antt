-- What a function's making adds: functions and texts behind the others, variants, and nothing else.
use Rattle.std.proofs.Common.{◌≡◌, ℕ, ◌||◌, Bool, true, false, List, [], ◌∷◌, ◌++◌, length, Option, Some, None, refl, ap, sym, ◌∙◌, append_assoc, append-nil, if◌then◌else◌}
use Rattle.std.specs.Prelude.{slice_get}
use Rattle.lp_core.specs.declared.expr.Function.{Function}
use Rattle.lp_core.specs.declared.value.Tag.{Tag}
use Rattle.lp_form.specs.declared.part.Part.TheVariants as part
use Rattle.lp_view.specs.PartLists.{Form, is_a, hole_of, parts_of, over}
use Rattle.lp_maker.specs.Slots.{Names}
use Rattle.lp_maker.specs.Making.{Making, with_function, with_text, with_variant, number_in, parameters, variant_tag}
use Rattle.lp_maker.specs.Patterns.{captures_of}
use Rattle.lp_view.specs.Elements.{patterns}
use Rattle.lp_bodies.specs.Arms.{no_arms}
use Rattle.lp_bodies.specs.Tables.{Reading, integer_row, with_integers, pattern_arm, pattern_arms, symbol_arm, symbol_row, is_symbol, with_symbols}
use Rattle.lp_bodies.specs.Reductions.{Arming, Work, Done, reduce_line, found_body, reduce_arm, reduce_row, is_arm, with_last_end, with_reduce, with_production_of}
use Rattle.lp_run.specs.Promised.{is_lookup, is_action_lookup, is_trial, is_reduction}
use Rattle.lp_run.specs.Functions.{Made, lookup_made, trial_made, expected_made, accepts_made, ascent_made, reduction_made, function_made}
use Rattle.lp_question_laws.proofs.Gotos.LinkMaps.{numbered_kept}

pub record Extends (m n : Making) : Type 0 where
  pub prefix : n.prefix ≡ m.prefix
  pub names : n.names ≡ m.names
  pub variants : (q : List ℕ) (k : ℕ) → number_in q m.variants ≡ Some k → number_in q n.variants ≡ Some k
  pub functions : (fs : List (Option Function)) × (n.functions ≡ m.functions ++ fs)
  pub tables : n.tables ≡ m.tables
  pub texts : (ts : List (List ℕ)) × (n.texts ≡ m.texts ++ ts)
  pub terminals : n.terminals ≡ m.terminals
  pub action_table : n.action_table ≡ m.action_table
  pub eof_table : n.eof_table ≡ m.eof_table
  pub item_closure : n.item_closure ≡ m.item_closure

pub same : (m : Making) → Extends m m
same m = record { prefix = refl; names = refl; variants = λ q k h. h; functions = ([], sym (append-nil m.functions)); tables = refl; texts = ([], sym (append-nil m.texts)); terminals = refl; action_table = refl; eof_table = refl; item_closure = refl }

added : {A : Type 0} (xs ys zs : List A) → ((a : List A) × (ys ≡ xs ++ a)) → ((b : List A) × (zs ≡ ys ++ b)) → (c : List A) × (zs ≡ xs ++ c)
added xs ys zs f g = (f.0 ++ g.0, g.1 ∙ ap (λ t. t ++ g.0) f.1 ∙ append_assoc xs f.0 g.0)

pub both : (m n o : Making) → Extends m n → Extends n o → Extends m o
both m n o f g = record {
  prefix = g.prefix ∙ f.prefix;
  names = g.names ∙ f.names;
  variants = λ q k h. g.variants q k (f.variants q k h);
  functions = added m.functions n.functions o.functions f.functions g.functions;
  tables = g.tables ∙ f.tables;
  texts = added m.texts n.texts o.texts f.texts g.texts;
  terminals = g.terminals ∙ f.terminals;
  action_table = g.action_table ∙ f.action_table;
  eof_table = g.eof_table ∙ f.eof_table;
  item_closure = g.item_closure ∙ f.item_closure;
}

pub one_function : (f : Option Function) (m : Making) → Extends m (with_function f m)
one_function f m = record { prefix = refl; names = refl; variants = λ q k h. h; functions = (f ∷ [], refl); tables = refl; texts = ([], sym (append-nil m.texts)); terminals = refl; action_table = refl; eof_table = refl; item_closure = refl }

pub one_text : (t : List ℕ) (m : Making) → Extends m (with_text t m)
one_text t m = record { prefix = refl; names = refl; variants = λ q k h. h; functions = ([], sym (append-nil m.functions)); tables = refl; texts = (t ∷ [], refl); terminals = refl; action_table = refl; eof_table = refl; item_closure = refl }

pub one_variant : (v : List ℕ) (m : Making) → Extends m (with_variant v m)
one_variant v m = record { prefix = refl; names = refl; variants = λ q k h. numbered_kept q v (length m.variants) k m.variants h; functions = ([], sym (append-nil m.functions)); tables = refl; texts = ([], sym (append-nil m.texts)); terminals = refl; action_table = refl; eof_table = refl; item_closure = refl }

pub either : {S : Type 0} (P : S → Type 0) (b : Bool) (x y : S) → P x → P y → P (if b then x else y)
either P true x y h g = h
either P false x y h g = g

pub over_extends : {S : Type 0} (made : S → Making) (step : S → Form → S) → ((s : S) (f : Form) → Extends (made s) (made (step s f))) → (s : S) (fs : List Form) → Extends (made s) (made (over step s fs))
over_extends made step h s [] = same (made s)
over_extends made step h s (f ∷ fs) = both (made s) (made (step s f)) (made (over step (step s f) fs)) (h s f) (over_extends made step h (step s f) fs)

-- what is kept of tables
pub record Tabled (m n : Making) : Type 0 where
  pub tables : n.tables ≡ m.tables
  pub action_table : n.action_table ≡ m.action_table
  pub eof_table : n.eof_table ≡ m.eof_table

pub tabled_same : (m : Making) → Tabled m m
tabled_same m = record { tables = refl; action_table = refl; eof_table = refl }

pub tabled_both : (m n o : Making) → Tabled m n → Tabled n o → Tabled m o
tabled_both m n o f g = record { tables = g.tables ∙ f.tables; action_table = g.action_table ∙ f.action_table; eof_table = g.eof_table ∙ f.eof_table }

pub tabled_more : (m n : Making) → Extends m n → Tabled m n
tabled_more m n e = record { tables = e.tables; action_table = e.action_table; eof_table = e.eof_table }

-- texts keep their numbers, and variants theirs; the closure of the token source is the same
pub record Grown (m n : Making) : Type 0 where
  pub texts : (ts : List (List ℕ)) × (n.texts ≡ m.texts ++ ts)
  pub variants : (q : List ℕ) (k : ℕ) → number_in q m.variants ≡ Some k → number_in q n.variants ≡ Some k
  pub item_closure : n.item_closure ≡ m.item_closure

pub grown_same : (m : Making) → Grown m m
grown_same m = record { texts = ([], sym (append-nil m.texts)); variants = λ q k h. h; item_closure = refl }

pub grown_both : (m n o : Making) → Grown m n → Grown n o → Grown m o
grown_both m n o f g = record { texts = added m.texts n.texts o.texts f.texts g.texts; variants = λ q k h. g.variants q k (f.variants q k h); item_closure = g.item_closure ∙ f.item_closure }

pub grown_more : (m n : Making) → Extends m n → Grown m n
grown_more m n e = record { texts = e.texts; variants = e.variants; item_closure = e.item_closure }

-- ---- tables and tokens

integers_extend : (m : Making) (form : Form) → Extends m (with_integers form m)
integers_extend m form =
    over_extends (λ r. r.made) integer_row (λ s f. either (λ (r : Reading). Extends s.made r.made) (is_a part.IntegerRow f) _ _ (one_text (hole_of 0 f) s.made) (same s.made)) (record { arms = no_arms; made = m }) (parts_of form)

pub patterns_extend : (variant : Tag) (token : ℕ) (names : List (List ℕ)) (s : Reading) (patterns : List (List ℕ)) → Extends s.made (pattern_arms variant token names s patterns).made
patterns_extend variant token names s [] = same s.made
patterns_extend variant token names s (p ∷ ps) =
    let t = pattern_arm variant token names s p in
    both s.made t.made (pattern_arms variant token names t ps).made (one_text _ s.made) (patterns_extend variant token names t ps)

pub symbol_extends : (m : Making) (names : Names) (row : Form) → Extends m (symbol_arm m names row).made
symbol_extends m names row =
    either (λ (d : Done). Extends m d.made) (is_a part.SymbolArm row) _ _ (one_variant (hole_of 1 row) m)
    (both m (with_variant (hole_of 2 row) m) _ (one_variant (hole_of 2 row) m) (patterns_extend (variant_tag (hole_of 2 row) m) names.next (captures_of (hole_of 3 row)) (record { arms = no_arms; made = with_variant (hole_of 2 row) m }) (patterns (hole_of 1 row))))

symbols_extend : (m : Making) (form : Form) → Extends m (with_symbols form m)
symbols_extend m form =
    over_extends (λ r. r.made) symbol_row (λ s f. either (λ (r : Reading). Extends s.made r.made) (is_symbol f) _ _ (symbol_extends s.made s.arms.names f) (same s.made)) (record { arms = no_arms; made = m }) (parts_of form)

-- ---- reductions

pub line_extends : (w : Work) (line : Form) → Extends w.made (reduce_line w line).made
line_extends w line =
    either (λ (v : Work). Extends w.made v.made) (is_a part.SpanEmpty line) _ _ (both w.made (with_function _ w.made) (with_last_end w.made) (one_function _ w.made) (one_function _ (with_function _ w.made)))
    (either (λ (v : Work). Extends w.made v.made) (is_a part.OutcomePush line) _ _ (one_variant (hole_of 0 line) w.made) (same w.made))

pub body_extends : (m : Making) (names : Names) (o : Option Form) → Extends m (found_body m names o).made
body_extends m names None = same m
body_extends m names (Some form) = over_extends (λ w. w.made) reduce_line line_extends (record { lines = record { names = names; parts = [] }; made = m }) (parts_of form)

pub arm_extends : (m : Making) (names : Names) (row : Form) → Extends m (reduce_arm m names row).made
arm_extends m names row = either (λ (d : Done). Extends m d.made) (is_a part.ReduceCallArm row) _ _ (same m) (body_extends m names (slice_get (parts_of row) 0))

reduce_extends : (m : Making) (form : Form) → Extends m (with_reduce form m)
reduce_extends m form =
    over_extends (λ s. s.made) reduce_row (λ s f. either (λ (t : Arming). Extends s.made t.made) (is_arm f) _ _ (arm_extends s.made s.arms.names f) (same s.made)) (record { arms = no_arms; kind = None; made = m }) (parts_of form)

production_extends : (m : Making) (o body : Option Form) → Extends m (with_production_of o body m)
production_extends m None body = same m
production_extends m (Some header) body = body_extends m (parameters m.prefix header) body

-- ---- the function of any form of table-driven code

lookup_extends : (m : Making) (form : Form) → Extends m (lookup_made m form).making
lookup_extends m form =
    let P = λ (d : Made). Extends m d.making in
    either P (is_action_lookup form) _ _ (same m) (either P (is_a part.GotoFn form) _ _ (same m) (either P (is_a part.TokenToInteger form) _ _ (integers_extend m form) (symbols_extend m form)))

expected_extends : (m : Making) (o : Option Form) → Extends m (expected_made m o).making
expected_extends m None = same m
expected_extends m (Some header) = one_function _ m

accepts_extends : (m : Making) (o : Option Form) → Extends m (accepts_made m o).making
accepts_extends m None = same m
accepts_extends m (Some header) = same m

trial_extends : (m : Making) (form : Form) → Extends m (trial_made m form).making
trial_extends m form =
    let P = λ (d : Made). Extends m d.making in
    either P (is_a part.Expected form) _ _ (one_function _ m) (either P (is_a part.ExpectedFromStates form) _ _ (expected_extends m (slice_get (parts_of form) 0))
    (either P (is_a part.SimulateReduce form) _ _ (same m) (accepts_extends m (slice_get (parts_of form) 0))))

reduction_extends : (m : Making) (form : Form) → Extends m (reduction_made m form).making
reduction_extends m form =
    let P = λ (d : Made). Extends m d.making in
    either P (is_a part.Pop form) _ _ (one_variant (hole_of 0 form) m) (either P (is_a part.ReduceFn form) _ _ (production_extends m (slice_get (parts_of form) 0) (slice_get (parts_of form) 1))
    (either P (is_a part.Reduce form) _ _ (reduce_extends m form) (same m)))

abbrev pub is_of_tables : Form → Bool
is_of_tables form = is_lookup form || (is_trial form || is_reduction form)

pub made_extends : (m : Making) (form : Form) → is_of_tables form ≡ true → Extends m (function_made m form).making
unfolding function_made
made_extends m form h = by (is_lookup form) (is_trial form) (is_reduction form) h
  where
    by : (a b c : Bool) → (a || (b || c)) ≡ true → Extends m (if a then lookup_made m form else (if b then trial_made m form else (if c then reduction_made m form else ascent_made m form))).making
    by true b c h = lookup_extends m form
    by false true c h = trial_extends m form
    by false false true h = reduction_extends m form
    by false false false h = absurd cc
