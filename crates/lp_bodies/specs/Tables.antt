-- Tables, and the functions that look at tables and tokens.
use Rattle.std.specs.Prelude.{ℕ, suc, ℤ, pos, ◌||◌, Bool, map, List, [], ◌∷◌, ◌++◌, length, codes, Option, Some, None, if◌then◌else◌}
use Rattle.lp_core.specs.declared.expr.Function.{Function}
use Rattle.lp_core.specs.declared.expr.Join.TheVariants as join
use Rattle.lp_core.specs.declared.expr.Leaf.TheVariants as leaf
use Rattle.lp_core.specs.declared.expr.Op.TheVariants as op
use Rattle.lp_core.specs.declared.expr.Test.TheVariants as test
use Rattle.lp_core.specs.declared.value.StateType.{StateType}
use Rattle.lp_core.specs.declared.value.Tag.{Tag}
use Rattle.lp_core.specs.declared.value.Tag.TheVariants as tag
use Rattle.lp_core.specs.Tree.{Tree, Plain, Apply, If, Match, trees_of}
use Rattle.lp_form.specs.declared.part.Part.TheVariants as part
use Rattle.lp_view.specs.Elements.{patterns}
use Rattle.lp_view.specs.PartLists.{Form, is_a, hole_of, numbers_of, parts_of, over}
use Rattle.lp_maker.specs.Numbers.{number_of, wide_number_of, range_of}
use Rattle.lp_maker.specs.Patterns.{capture_of, captures_of, form_of}
use Rattle.lp_maker.specs.Slots.{Names, after_slots, slot_of}
use Rattle.lp_maker.specs.Texts.{holds, pieces, state_type_of}
use Rattle.lp_maker.specs.Constructs.{stuck, read, write, joined, call_function, one_after_another, absent, state, index, function_of}
use Rattle.lp_maker.specs.Making.{Making, Entries, with_function, with_text, with_variant, variant_tag, call_named, read_name, take_name, parameters}
use Rattle.lp_bodies.specs.Arms.{Gathered, no_arms, with_header, with_case, with_number_case, with_body, with_names, choice_function}
use Rattle.lp_bodies.specs.Reductions.{Done, done_of}
use Rattle.lp_bodies.specs.Source.{function}

-- a table of entries
abbrev pub printed_table : Form → Entries
printed_table form = record { kind = state_type_of (hole_of 0 form); numbers = numbers_of form }

-- the name of a terminal is a text
abbrev pub with_terminal : Making → Form → Making
with_terminal m row = record (with_text (hole_of 0 row) m) { terminals = m.terminals ++ length m.texts ∷ [] }

-- the names of the terminals
abbrev pub with_terminals : Form → Making → Making
with_terminals form m = over with_terminal m (parts_of form)

-- `(state as usize) * n`, without `* n` for one terminal
abbrev pub lookup_row : Form → Tree
lookup_row form =
    if is_a part.ActionLookup form then joined join.Multiply (Apply op.AsIndex (read 0) ∷ index (number_of (hole_of 1 form)) ∷ []) else Apply op.AsIndex (read 0)

-- `~ACTION[(state as usize) * n + integer]`
abbrev pub lookup_function : Making → Form → Function
lookup_function m form = function 2 0 (Apply (op.Entry m.action_table) (joined join.Add (lookup_row form ∷ read 1 ∷ [])))

-- the match of a value, which stands in this slot
abbrev pub choice_at : Tree → ℕ → Tree → Gathered → Tree
choice_at value slot last a = Match value slot a.cases (trees_of (a.bodies ++ last ∷ []))

abbrev pub found_range : Gathered → Option (ℤ × ℤ) → Gathered
found_range a None = a
found_range a (Some r) = with_case (test.Between r.0 r.1) a

abbrev pub range_case : Gathered → List ℕ → Gathered
range_case a text = found_range a (range_of text)

-- tests for the ranges, all of which lead to the next body
abbrev pub range_cases : Gathered → List (List ℕ) → Gathered
range_cases a [] = a
range_cases a (text ∷ texts) = range_cases (range_case a text) texts

-- states, and the state that they go to
abbrev pub goto_row : Option StateType → Gathered → Form → Gathered
goto_row kind a row = with_body (state kind (wide_number_of (hole_of 1 row))) (range_cases a (pieces (codes " | ") (hole_of 0 row)))

abbrev pub goto_rows : Option StateType → Form → Gathered
goto_rows kind arm = over (goto_row kind) no_arms (parts_of arm)

abbrev pub goto_match : Option StateType → Form → Tree
goto_match kind arm = choice_at (read 0) 3 (state kind (wide_number_of (hole_of 1 arm))) (goto_rows kind arm)

-- the state that a nonterminal goes to, by one's own state
abbrev pub goto_body : Option StateType → Form → Tree
goto_body kind arm = if is_a part.GotoOne arm then state kind (wide_number_of (hole_of 1 arm)) else goto_match kind arm

abbrev pub numbered_arm : Option ℤ → Tree → Gathered → Gathered
numbered_arm None body a = a
numbered_arm (Some n) body a = with_body body (with_case (test.Between n n) a)

abbrev pub goto_arm : Option StateType → Gathered → Form → Gathered
goto_arm kind a arm = numbered_arm (wide_number_of (hole_of 0 arm)) (goto_body kind arm) a

abbrev pub goto_arms : Option StateType → Form → Gathered
goto_arms kind form = over (goto_arm kind) no_arms (parts_of form)

abbrev pub goto_of : Option StateType → Form → Function
goto_of kind form = function 2 2 (choice_at (read 1) 2 (state kind (Some (pos 0))) (goto_arms kind form))

-- the goto function
abbrev pub goto_function : Form → Function
goto_function form = goto_of (state_type_of (hole_of 0 form)) form

-- a call of a closure for each terminal from a number on: of the number, the terminal and one captured value
abbrev pub kept_calls : ℕ → ℕ → ℕ → List ℕ → List Tree
kept_calls closure captured i [] = []
kept_calls closure captured i (terminal ∷ terminals) =
    call_function closure (Plain (leaf.Index i) ∷ Plain (leaf.Text terminal) ∷ read captured ∷ []) ∷ kept_calls closure captured (suc i) terminals

-- the terminals for which a closure answers `Some`
abbrev pub filtered : ℕ → ℕ → List ℕ → Tree
filtered closure captured terminals = joined join.Collect (kept_calls closure captured 0 terminals)

-- `Some(terminal)` where the action in the state isn't 0
abbrev pub expected_closure : Making → Function
expected_closure m =
    function 3 1 (one_after_another (write 3 (call_named (codes "action") (read 2 ∷ read 0 ∷ []) m) ∷ If (Apply op.IsZero (read 3)) absent (Apply (op.Wrap tag.Present) (read 1)) ∷ []))

-- the terminals with an action in a state
abbrev pub expected_function : Making → Function
expected_function m = function 1 0 (filtered (length m.functions) 0 m.terminals)

-- `Some(terminal)` where a call of `accepts` says yes
abbrev pub keeping_closure : Making → List Tree → Function
keeping_closure m args = function 3 0 (If (call_named (codes "accepts") args m) (Apply (op.Wrap tag.Present) (read 1)) absent)

abbrev pub with_states_closure : Making → Making
with_states_closure m = with_function (Some (keeping_closure m (absent ∷ read 2 ∷ Apply (op.Wrap tag.Present) (read 0) ∷ []))) m

abbrev pub filter_found : ℕ → List ℕ → Option ℕ → Tree
filter_found closure terminals None = stuck
filter_found closure terminals (Some states) = filtered closure states terminals

abbrev pub expected_by : Making → Names → Function
expected_by m names = function_of names.next names (filter_found (length m.functions) m.terminals (slot_of (codes "~states") names))

-- the terminals that a stack of states accepts
abbrev pub expected_states_function : Making → Form → Function
expected_states_function m header = expected_by m (parameters m.prefix header)

-- the arms so far, and what was made
pub record Reading : Type 0 where
  pub arms : Gathered
  pub made : Making

abbrev pub reading_of : Gathered → Making → Reading
reading_of arms made = record { arms = arms; made = made }

-- the pattern is a text, by whose number tokens are tested
abbrev pub integer_arm : Reading → Form → Reading
integer_arm s row =
    reading_of (with_body (Apply (op.Wrap tag.Present) (index (number_of (hole_of 1 row)))) (with_case (test.Form (length s.made.texts)) s.arms)) (with_text (hole_of 0 row) s.made)

-- a row is an arm, or the header
abbrev pub integer_row : Reading → Form → Reading
integer_row s row =
    if is_a part.IntegerRow row then integer_arm s row else reading_of (with_header s.made.prefix row s.arms) s.made

abbrev pub integer_rows : Making → Form → Reading
integer_rows m form = over integer_row (reading_of no_arms m) (parts_of form)

abbrev pub integer_by : Gathered → Function
integer_by a = choice_function (take_name a.names (codes "~token")) absent a

-- the number of a token, and what is made then
abbrev pub integer_function : Making → Form → Function
integer_function m form = integer_by (integer_rows m form).arms

abbrev pub with_integers : Form → Making → Making
with_integers form m = (integer_rows m form).made

-- what a name captures of the token in a slot that a pattern fits
abbrev pub payload_found : ℕ → List ℕ → List ℕ → Option ℕ → Tree
payload_found token pattern name None = stuck
payload_found token pattern name (Some j) = if holds name pattern then Apply (op.Payload j) (read token) else stuck

abbrev pub payload : List ℕ → ℕ → List ℕ → List ℕ → Tree
payload prefix token pattern name = payload_found token pattern name (capture_of prefix name)

abbrev pub payloads : List ℕ → ℕ → List ℕ → List (List ℕ) → List Tree
payloads prefix token pattern names = map (payload prefix token pattern) names

-- one payload, or the tuple of several
abbrev pub one_or_tuple : List Tree → Tree
one_or_tuple [] = joined join.Payloads []
one_or_tuple (t ∷ []) = t
one_or_tuple (t ∷ u ∷ ts) = joined join.Payloads (t ∷ u ∷ ts)

abbrev pub captured : List ℕ → ℕ → List ℕ → List (List ℕ) → Tree
captured prefix token pattern names = one_or_tuple (payloads prefix token pattern names)

-- the arm of a pattern: its form is a text, by whose number tokens are tested
abbrev pub pattern_arm : Tag → ℕ → List (List ℕ) → Reading → List ℕ → Reading
pattern_arm variant token names s pattern =
    reading_of (with_body (Apply (op.Wrap variant) (captured s.made.prefix token pattern names)) (with_case (test.Form (length s.made.texts)) s.arms)) (with_text (form_of s.made.prefix pattern) s.made)

abbrev pub pattern_arms : Tag → ℕ → List (List ℕ) → Reading → List (List ℕ) → Reading
pattern_arms variant token names s [] = s
pattern_arms variant token names s (pattern ∷ others) = pattern_arms variant token names (pattern_arm variant token names s pattern) others

abbrev pub matched_by : Tree → ℕ → Names → Reading → Done
matched_by token slot names s = done_of (choice_at token slot stuck s.arms) names s.made

-- a symbol by the patterns of its tokens
abbrev pub symbol_match : Making → Names → Form → Done
symbol_match m names row =
    matched_by (take_name names (codes "~token")) names.next (after_slots 1 names) (pattern_arms (variant_tag (hole_of 2 row) m) names.next (captures_of (hole_of 3 row)) (reading_of no_arms (with_variant (hole_of 2 row) m)) (patterns (hole_of 1 row)))

-- a symbol that is its token
abbrev pub symbol_whole : Making → Names → Form → Done
symbol_whole m names row =
    done_of (Apply (op.Wrap (variant_tag (hole_of 1 row) m)) (take_name names (codes "~token"))) names (with_variant (hole_of 1 row) m)

abbrev pub symbol_arm : Making → Names → Form → Done
symbol_arm m names row = if is_a part.SymbolArm row then symbol_whole m names row else symbol_match m names row

-- tests for printed numbers, all of which lead to the next body
abbrev pub number_cases : Gathered → List (List ℕ) → Gathered
number_cases a [] = a
number_cases a (text ∷ texts) = number_cases (with_number_case text a) texts

abbrev pub with_done : List (List ℕ) → Gathered → Done → Reading
with_done texts a d = reading_of (with_body d.value (number_cases (with_names d.names a) texts)) d.made

abbrev pub is_symbol : Form → Bool
is_symbol row = is_a part.SymbolArm row || is_a part.SymbolMatch row

-- a row is an arm, or the header
abbrev pub symbol_row : Reading → Form → Reading
symbol_row s row =
    if is_symbol row then with_done (pieces (codes " | ") (hole_of 0 row)) s.arms (symbol_arm s.made s.arms.names row) else reading_of (with_header s.made.prefix row s.arms) s.made

abbrev pub symbol_rows : Making → Form → Reading
symbol_rows m form = over symbol_row (reading_of no_arms m) (parts_of form)

abbrev pub symbol_by : Gathered → Function
symbol_by a = choice_function (read_name a.names (codes "~token_index")) stuck a

-- the symbol of a token, and what is made then
abbrev pub symbol_function : Making → Form → Function
symbol_function m form = symbol_by (symbol_rows m form).arms

abbrev pub with_symbols : Form → Making → Making
with_symbols form m = (symbol_rows m form).made
