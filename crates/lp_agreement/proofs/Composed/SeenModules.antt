-- The code of a module doesn't depend on what can't be seen of its items and of the program.
use Rattle.std.proofs.Common.{◌≡◌, ℕ, ℤ, Bool, true, false, if◌then◌else◌, List, [], ◌∷◌, length, map, codes, Option, Some, None, option_map, slice_get, refl, sym, ap, ◌∙◌}
use Rattle.std.proofs.lemmas.Bool.{both_ways}
use Rattle.std.proofs.lemmas.List.{map-append}
use Rattle.lp_form.specs.Templates.{steps_of}
use Rattle.lp_form.specs.contracts.part.PartPartialEq.TheImpl as equality
use Rattle.lp_form.specs.declared.part.Part.{Part}
use Rattle.lp_form.specs.declared.part.Part.TheVariants as part
use Rattle.lp_view.specs.PartLists.{Form, is_a, hole_of, parts_of, over, first_that}
use Rattle.lp_reading_laws.specs.Choosing.Laws.{have_table}
use Rattle.lp_maker.specs.Making.{Making, with_table}
use Rattle.lp_bodies.specs.Source.{is_located}
use Rattle.lp_bodies.specs.Tables.{printed_table, with_terminals}
use Rattle.lp_run.specs.Named.{is_items, is_parser, parser_of, named_by, named_items, entered_by, items_under}
use Rattle.lp_run.specs.Promised.{Beginning, Promising, promising_of, promised, number_under, header_number, is_source, is_action, is_lookup, is_trial, is_reduction, is_ascent, lookup_name, trial_name, promised_reduction, promised_ascent, with_action_form, beginning_of, beginning_row, beginning, declared_row, with_action_table, with_eof_table, module_row, module_rows}
use Rattle.lp_agreement.proofs.Composed.Seen.{given_seen, hole_seen, is_seen, part_seen_at, that_seen}
use Rattle.lp_agreement.proofs.Composed.SeenTables.{terminals_seen}
use Rattle.std.specs.Str.{bytes_eq}
use Rattle.lp_agreement.proofs.Composed.Settled.{kept_numbers, parts_seen, seen}

-- ---- names
items_blind : (f : Form) → is_items (seen f) ≡ is_items f
items_blind [] = refl
items_blind (e ∷ es) = refl

parser_blind : (f : Form) → is_parser (seen f) ≡ is_parser f
parser_blind [] = refl
parser_blind (e ∷ es) = refl

pub parser_seen : (items : Form) → parser_of (seen items) ≡ option_map seen (parser_of items)
parser_seen items = that_seen is_parser parser_blind items

named_seen : (name : List ℕ) (items : Form) (parser : Option Form) → named_by name (seen items) (option_map seen parser) ≡ option_map seen (named_by name items parser)
named_seen name items None = refl
named_seen name items (Some parser) = ap (λ (s : List ℕ). if bytes_eq s name then Some (seen items) else None) (hole_seen 1 parser) ∙ by (bytes_eq (hole_of 1 parser) name)
  where
    by : (b : Bool) → (if b then Some (seen items) else None) ≡ option_map seen (if b then Some items else None)
    by true = refl
    by false = refl

named_items_seen : (name : List ℕ) (o : Option Form) → named_items name (option_map seen o) ≡ option_map seen (named_items name o)
named_items_seen name None = refl
named_items_seen name (Some items) = ap (named_by name (seen items)) (parser_seen items) ∙ named_seen name items (parser_of items)

entered_seen : (name : List ℕ) (f : Form) → entered_by name (seen f) ≡ option_map seen (entered_by name f)
entered_seen name f =
    ap (λ (b : Bool). if b then named_items name (first_that is_items (parts_of (seen f))) else None) (is_seen part.ParseModule f)
    ∙ ap (λ (o : Option Form). if is_a part.ParseModule f then named_items name o else None) (that_seen is_items items_blind f)
    ∙ ap (λ (o : Option Form). if is_a part.ParseModule f then o else None) (named_items_seen name (first_that is_items (parts_of f)))
    ∙ by (is_a part.ParseModule f) (named_items name (first_that is_items (parts_of f)))
  where
    by : (b : Bool) (o : Option Form) → (if b then option_map seen o else None) ≡ option_map seen (if b then o else None)
    by true o = refl
    by false o = refl

-- the items that a name enters
pub under_seen : (name : List ℕ) (f : Form) → items_under name (seen f) ≡ option_map seen (items_under name f)
under_seen name f = given_seen (entered_by name) (entered_seen name) f

-- ---- promises
abbrev pub seen_promise : ℕ × Form → ℕ × Form
seen_promise r = (r.0, seen r.1)

abbrev pub seen_promising : Promising → Promising
seen_promising s = promising_of (map seen_promise s.promises) s.made

-- one of two, by tests that are one
choose : {A B : Type 0} (f : A → B) (b c : Bool) (x y : A) (x' y' : B) → c ≡ b → (b ≡ true → x' ≡ f x) → y' ≡ f y → (if c then x' else y') ≡ f (if b then x else y)
choose f true c x y x' y' same one other = ap (λ (t : Bool). if t then x' else y') same ∙ one refl
choose f false c x y x' y' same one other = ap (λ (t : Bool). if t then x' else y') same ∙ other

promised_seen : (name rest : List ℕ) (s : Promising) (f : Form) → promised name rest (seen_promising s) (seen f) ≡ seen_promising (promised name rest s f)
promised_seen name rest s f =
    ap (λ (ps : List (ℕ × Form)). promising_of ps (promised name rest s f).made) (sym (map-append seen_promise s.promises ((length s.made.functions, f) ∷ [])))

promised_by : (name rest rest' : List ℕ) (s : Promising) (f : Form) → rest' ≡ rest → promised name rest' (seen_promising s) (seen f) ≡ seen_promising (promised name rest s f)
promised_by name rest rest' s f same = ap (λ (r : List ℕ). promised name r (seen_promising s) (seen f)) same ∙ promised_seen name rest s f

under_number : (o : Option Form) → number_under (option_map seen o) ≡ number_under o
under_number None = refl
under_number (Some f) = hole_seen 0 f

number_seen : (f : Form) → header_number (seen f) ≡ header_number f
number_seen f = ap number_under (part_seen_at f 0) ∙ under_number (slice_get (parts_of f) 0)

-- over parts, from what is seen of a start
over_along : {S T : Type 0} (h : S → T) (step : S → Form → S) (step' : T → Form → T) → ((s : S) (f : Form) → step' (h s) (seen f) ≡ h (step s f)) → (s : S) (fs : List Form) → over step' (h s) (map seen fs) ≡ h (over step s fs)
over_along h step step' same s [] = refl
over_along h step step' same s (f ∷ fs) = ap (λ (t : _). over step' t (map seen fs)) (same s f) ∙ over_along h step step' same (step s f) fs

-- ---- what stands beside the modules
abbrev pub seen_beginning : Beginning → Beginning
seen_beginning b = record { located = b.located; actions = seen_promising b.actions }

source_blind : (f : Form) → is_source (seen f) ≡ is_source f
source_blind [] = refl
source_blind (e ∷ es) = refl

located_blind : (f : Form) → is_located (seen f) ≡ is_located f
located_blind [] = refl
located_blind (e ∷ es) = refl

action_blind : (f : Form) → is_action (seen f) ≡ is_action f
action_blind [] = refl
action_blind (e ∷ es) = refl

action_form_seen : (b : Beginning) (f : Form) → with_action_form (seen_beginning b) (seen f) ≡ seen_beginning (with_action_form b f)
action_form_seen b f = ap (λ (s : Promising). record b { actions = s }) (promised_by (codes "super::action") (header_number f) (header_number (seen f)) b.actions f (number_seen f))

beginning_row_seen : (b : Beginning) (f : Form) → beginning_row (seen_beginning b) (seen f) ≡ seen_beginning (beginning_row b f)
beginning_row_seen b f =
    choose seen_beginning (is_source f) (is_source (seen f)) (record b { located = is_located f }) (if is_action f then with_action_form b f else b) (record (seen_beginning b) { located = is_located (seen f) })
    (if is_action (seen f) then with_action_form (seen_beginning b) (seen f) else seen_beginning b) (source_blind f)
    (λ _. ap (λ (l : Bool). record (seen_beginning b) { located = l }) (located_blind f))
    (choose seen_beginning (is_action f) (is_action (seen f)) (with_action_form b f) b (with_action_form (seen_beginning b) (seen f)) (seen_beginning b) (action_blind f) (λ _. action_form_seen b f) refl)

pub beginning_seen : (m : Making) (program : Form) → beginning m (seen program) ≡ seen_beginning (beginning m program)
beginning_seen m program = ap (over beginning_row (beginning_of false [] m)) (parts_seen program) ∙ over_along seen_beginning beginning_row beginning_row beginning_row_seen (beginning_of false [] m) (parts_of program)

-- ---- the rows of a module
action_tabled : (p : Part) → (equality.ghosts).eq p part.ActionTable ≡ true → have_table (steps_of p) ≡ true
unfolding steps_of
action_tabled part.ActionTable h = refl
action_tabled _ h = absurd (both_ways false refl h)

eof_tabled : (p : Part) → (equality.ghosts).eq p part.EofTable ≡ true → have_table (steps_of p) ≡ true
unfolding steps_of
eof_tabled part.EofTable h = refl
eof_tabled _ h = absurd (both_ways false refl h)

kept_there : (p : Part) (numbers : List ℤ) → have_table (steps_of p) ≡ true → kept_numbers p numbers ≡ numbers
kept_there p numbers h = ap (λ (b : Bool). if b then numbers else []) h

actions_table_seen : (f : Form) → is_a part.ActionTable f ≡ true → printed_table (seen f) ≡ printed_table f
actions_table_seen [] h = refl
actions_table_seen (e ∷ es) h = ap (λ (n : List ℤ). record (printed_table (e ∷ es)) { numbers = n }) (kept_there e.0 e.2 (action_tabled e.0 h))

ends_table_seen : (f : Form) → is_a part.EofTable f ≡ true → printed_table (seen f) ≡ printed_table f
ends_table_seen [] h = refl
ends_table_seen (e ∷ es) h = ap (λ (n : List ℤ). record (printed_table (e ∷ es)) { numbers = n }) (kept_there e.0 e.2 (eof_tabled e.0 h))

reduction_seen : (s : Promising) (f : Form) → promised_reduction (seen_promising s) (seen f) ≡ seen_promising (promised_reduction s f)
reduction_seen s f =
    let t = seen_promising s in
    let g = seen f in
    choose seen_promising (is_a part.Pop f) (is_a part.Pop g) (promised (codes "pop_") (hole_of 0 f) s f) (if is_a part.ReduceFn f then promised (codes "reduce") (header_number f) s f else (if is_a part.Reduce f then promised (codes "reduce") [] s f else promised (codes "symbol_type_mismatch") [] s f))
    (promised (codes "pop_") (hole_of 0 g) t g) (if is_a part.ReduceFn g then promised (codes "reduce") (header_number g) t g else (if is_a part.Reduce g then promised (codes "reduce") [] t g else promised (codes "symbol_type_mismatch") [] t g)) (is_seen part.Pop f)
    (λ _. promised_by (codes "pop_") (hole_of 0 f) (hole_of 0 g) s f (hole_seen 0 f))
    (choose seen_promising (is_a part.ReduceFn f) (is_a part.ReduceFn g) (promised (codes "reduce") (header_number f) s f) (if is_a part.Reduce f then promised (codes "reduce") [] s f else promised (codes "symbol_type_mismatch") [] s f)
    (promised (codes "reduce") (header_number g) t g) (if is_a part.Reduce g then promised (codes "reduce") [] t g else promised (codes "symbol_type_mismatch") [] t g) (is_seen part.ReduceFn f)
    (λ _. promised_by (codes "reduce") (header_number f) (header_number g) s f (number_seen f))
    (choose seen_promising (is_a part.Reduce f) (is_a part.Reduce g) (promised (codes "reduce") [] s f) (promised (codes "symbol_type_mismatch") [] s f) (promised (codes "reduce") [] t g) (promised (codes "symbol_type_mismatch") [] t g) (is_seen part.Reduce f)
    (λ _. promised_seen (codes "reduce") [] s f) (promised_seen (codes "symbol_type_mismatch") [] s f)))

ascent_promise_seen : (s : Promising) (f : Form) → promised_ascent (seen_promising s) (seen f) ≡ seen_promising (promised_ascent s f)
ascent_promise_seen s f =
    let t = seen_promising s in
    let g = seen f in
    choose seen_promising (is_a part.StateFn f) (is_a part.StateFn g) (promised (codes "state") (header_number f) s f) (if is_a part.AscentSimulate f then promised (codes "simulate") [] s f else (if is_a part.AscentAccepts f then promised (codes "accepts") [] s f else promised (codes "expected") [] s f))
    (promised (codes "state") (header_number g) t g) (if is_a part.AscentSimulate g then promised (codes "simulate") [] t g else (if is_a part.AscentAccepts g then promised (codes "accepts") [] t g else promised (codes "expected") [] t g)) (is_seen part.StateFn f)
    (λ _. promised_by (codes "state") (header_number f) (header_number g) s f (number_seen f))
    (choose seen_promising (is_a part.AscentSimulate f) (is_a part.AscentSimulate g) (promised (codes "simulate") [] s f) (if is_a part.AscentAccepts f then promised (codes "accepts") [] s f else promised (codes "expected") [] s f)
    (promised (codes "simulate") [] t g) (if is_a part.AscentAccepts g then promised (codes "accepts") [] t g else promised (codes "expected") [] t g) (is_seen part.AscentSimulate f)
    (λ _. promised_seen (codes "simulate") [] s f)
    (choose seen_promising (is_a part.AscentAccepts f) (is_a part.AscentAccepts g) (promised (codes "accepts") [] s f) (promised (codes "expected") [] s f) (promised (codes "accepts") [] t g) (promised (codes "expected") [] t g) (is_seen part.AscentAccepts f)
    (λ _. promised_seen (codes "accepts") [] s f) (promised_seen (codes "expected") [] s f)))

lookup_blind : (f : Form) → is_lookup (seen f) ≡ is_lookup f
lookup_blind [] = refl
lookup_blind (e ∷ es) = refl

trial_blind : (f : Form) → is_trial (seen f) ≡ is_trial f
trial_blind [] = refl
trial_blind (e ∷ es) = refl

reduction_blind : (f : Form) → is_reduction (seen f) ≡ is_reduction f
reduction_blind [] = refl
reduction_blind (e ∷ es) = refl

ascent_blind : (f : Form) → is_ascent (seen f) ≡ is_ascent f
ascent_blind [] = refl
ascent_blind (e ∷ es) = refl

lookup_name_blind : (f : Form) → lookup_name (seen f) ≡ lookup_name f
lookup_name_blind [] = refl
lookup_name_blind (e ∷ es) = refl

trial_name_blind : (f : Form) → trial_name (seen f) ≡ trial_name f
trial_name_blind [] = refl
trial_name_blind (e ∷ es) = refl

declared_seen : (s : Promising) (f : Form) → declared_row (seen_promising s) (seen f) ≡ seen_promising (declared_row s f)
declared_seen s f =
    let t = seen_promising s in
    let g = seen f in
    choose seen_promising (is_lookup f) (is_lookup g) (promised (lookup_name f) [] s f) (if is_trial f then promised (trial_name f) [] s f else (if is_reduction f then promised_reduction s f else (if is_ascent f then promised_ascent s f else s)))
    (promised (lookup_name g) [] t g) (if is_trial g then promised (trial_name g) [] t g else (if is_reduction g then promised_reduction t g else (if is_ascent g then promised_ascent t g else t))) (lookup_blind f)
    (λ _. ap (λ (n : List ℕ). promised n [] t g) (lookup_name_blind f) ∙ promised_seen (lookup_name f) [] s f)
    (choose seen_promising (is_trial f) (is_trial g) (promised (trial_name f) [] s f) (if is_reduction f then promised_reduction s f else (if is_ascent f then promised_ascent s f else s))
    (promised (trial_name g) [] t g) (if is_reduction g then promised_reduction t g else (if is_ascent g then promised_ascent t g else t)) (trial_blind f)
    (λ _. ap (λ (n : List ℕ). promised n [] t g) (trial_name_blind f) ∙ promised_seen (trial_name f) [] s f)
    (choose seen_promising (is_reduction f) (is_reduction g) (promised_reduction s f) (if is_ascent f then promised_ascent s f else s) (promised_reduction t g) (if is_ascent g then promised_ascent t g else t) (reduction_blind f)
    (λ _. reduction_seen s f)
    (choose seen_promising (is_ascent f) (is_ascent g) (promised_ascent s f) s (promised_ascent t g) t (ascent_blind f) (λ _. ascent_promise_seen s f) refl)))

row_seen : (s : Promising) (f : Form) → module_row (seen_promising s) (seen f) ≡ seen_promising (module_row s f)
row_seen s f =
    let t = seen_promising s in
    let g = seen f in
    choose seen_promising (is_a part.ActionTable f) (is_a part.ActionTable g) (promising_of s.promises (with_action_table f s.made)) (if is_a part.EofTable f then promising_of s.promises (with_eof_table f s.made) else (if is_a part.TerminalList f then promising_of s.promises (with_terminals f s.made) else declared_row s f))
    (promising_of t.promises (with_action_table g t.made)) (if is_a part.EofTable g then promising_of t.promises (with_eof_table g t.made) else (if is_a part.TerminalList g then promising_of t.promises (with_terminals g t.made) else declared_row t g)) (is_seen part.ActionTable f)
    (λ h. ap (λ (table : _). promising_of t.promises (record (with_table table s.made) { action_table = length s.made.tables })) (actions_table_seen f h))
    (choose seen_promising (is_a part.EofTable f) (is_a part.EofTable g) (promising_of s.promises (with_eof_table f s.made)) (if is_a part.TerminalList f then promising_of s.promises (with_terminals f s.made) else declared_row s f)
    (promising_of t.promises (with_eof_table g t.made)) (if is_a part.TerminalList g then promising_of t.promises (with_terminals g t.made) else declared_row t g) (is_seen part.EofTable f)
    (λ h. ap (λ (table : _). promising_of t.promises (record (with_table table s.made) { eof_table = length s.made.tables })) (ends_table_seen f h))
    (choose seen_promising (is_a part.TerminalList f) (is_a part.TerminalList g) (promising_of s.promises (with_terminals f s.made)) (declared_row s f) (promising_of t.promises (with_terminals g t.made)) (declared_row t g) (is_seen part.TerminalList f)
    (λ _. ap (promising_of t.promises) (terminals_seen s.made f)) (declared_seen s f)))

pub rows_seen : (m : Making) (items : Form) → module_rows m (seen items) ≡ seen_promising (module_rows m items)
rows_seen m items = ap (over module_row (promising_of [] m)) (parts_seen items) ∙ over_along seen_promising module_row module_row row_seen (promising_of [] m) (parts_of items)
