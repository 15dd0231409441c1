-- The next token, and the `parse` method of recursive ascent.
use Rattle.std.specs.Prelude.{ℕ, ◌+◌, [], ◌∷◌, ◌++◌, codes, Option, Some, None}
use Rattle.lp_core.specs.declared.expr.Leaf.TheVariants as leaf
use Rattle.lp_core.specs.declared.expr.Op.TheVariants as op
use Rattle.lp_core.specs.declared.expr.Test.TheVariants as test
use Rattle.lp_core.specs.declared.value.Tag.{Tag}
use Rattle.lp_core.specs.declared.value.Tag.TheVariants as tag
use Rattle.lp_core.specs.Tree.{Tree, Plain, Apply, Match, trees_of}
use Rattle.lp_view.specs.PartLists.{Form, hole_of}
use Rattle.lp_maker.specs.Slots.{Names, after_slots, bound}
use Rattle.lp_maker.specs.Constructs.{stuck, read, take_slot, call_function, one_after_another, give_back, here, on_option, on_result, opened, tried, absent}
use Rattle.lp_maker.specs.Making.{Making, with_variant, variant_tag, read_all, call_named}
use Rattle.lp_bodies.specs.Lines.{Lines, lines_of, with_let}
use Rattle.lp_bodies.specs.Reductions.{Done, done_of}

abbrev pub source_triple : Option ℕ → ℕ → Tree
source_triple None item = take_slot item
source_triple (Some closure) item = call_function closure (take_slot item ∷ [])

abbrev pub source_error : Option ℕ → ℕ → Tree
source_error None token = Apply op.UserError (take_slot token)
source_error (Some closure) token = take_slot token

-- the item in a slot as a triple, or the return of its fault
abbrev pub item_value : Option ℕ → ℕ → ℕ → Tree
item_value closure item token =
    on_result (source_triple closure item) token (Apply (op.Wrap tag.Present) (take_slot token)) (give_back (Apply (op.Wrap tag.Failure) (source_error closure token)))

-- `match ~tokens.next() { .. }`: the next token, where an error of the token source is returned
abbrev pub next_token : Making → Names → Tree
next_token m names =
    on_option (Plain leaf.NextItem) names.next absent (item_value m.item_closure names.next (names.next + 1))

abbrev pub after_token : Names → Names
after_token names = after_slots 2 names

-- `let ~lookahead = ..;`
abbrev pub token_line : Making → Lines → Lines
token_line m l = with_let (codes "~lookahead") (next_token m l.names) (lines_of (after_token l.names) l.parts)

-- `let ~states = ..;`
abbrev pub states_line : Lines → Lines
states_line l = with_let (codes "~states") (Plain leaf.NewStates) l

-- the two lines of `parse`, and the slots of what they let
abbrev pub start_lines : Making → Lines → Lines
start_lines m l = states_line (token_line m l)

abbrev pub lookahead_slot : Names → ℕ
lookahead_slot names = (after_token names).next

abbrev pub states_slot : Names → ℕ
states_slot names = (bound (codes "~lookahead") (after_token names)).next

-- the call of the first state, where the lookahead and the states stand in these slots
abbrev pub first_call : Making → Form → Names → ℕ → ℕ → Tree
first_call m form names lookahead list =
    call_named (codes "state0") (read_all m.prefix names (hole_of 1 form) ++ Plain (leaf.Empty tag.Tuple) ∷ read list ∷ read lookahead ∷ []) m

-- what was made, if it is the start's
abbrev pub start_value : Tag → ℕ → Tree
start_value variant made =
    Match (take_slot made) made (here (test.Is variant) 0 ∷ []) (trees_of (Apply (op.Wrap tag.Success) (opened made (Apply (op.Part 1) (take_slot made))) ∷ stuck ∷ []))

-- answers by what is left and what was made: a token that is left is an error
abbrev pub started : Tag → ℕ → Tree → Tree
started variant left answer =
    one_after_another (Apply (op.Parts left 2) answer ∷ on_option (take_slot left) left (start_value variant (left + 1)) (Apply (op.Wrap tag.Failure) (Apply op.ExtraToken (take_slot left))) ∷ [])

abbrev pub start_answer : Making → Form → Names → ℕ → ℕ → Tree
start_answer m form names lookahead list = tried names.next (first_call m form names lookahead list)

-- what is done with the answer of the first state
abbrev pub start_end : Making → Form → Names → Tree → Done
start_end m form names answer =
    done_of (started (variant_tag (hole_of 3 form) m) names.next answer) (after_slots 2 names) (with_variant (hole_of 3 form) m)

-- lines, and what follows them
abbrev pub lines_then : Lines → Done → Done
lines_then l d = done_of (one_after_another (l.parts ++ d.value ∷ [])) d.names d.made

abbrev pub start_after : Making → Form → ℕ → ℕ → Lines → Done
start_after m form lookahead list l =
    lines_then l (start_end m form (after_slots 1 l.names) (start_answer m form l.names lookahead list))

-- the body of `parse`
abbrev pub start : Making → Names → Form → Done
start m names form =
    start_after m form (lookahead_slot names) (states_slot names) (start_lines m (lines_of names []))
