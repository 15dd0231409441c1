-- What is done with no value, and with one.
use Rattle.std.specs.Prelude.{ℕ, ◌+◌, ℤ, pos, Bool, true, false, List, [], ◌∷◌, length, Option, Some, None, slice_get, ◌==◌, int_lt, if◌then◌else◌}
use Rattle.std.specs.Ordering.{int_eq}
use Rattle.std.specs.Option.{option_map, option_and_then}
use Rattle.lp_repr.specs.declared.values.Loc.{Loc}
use Rattle.lp_repr.specs.declared.values.Loc.TheVariants.{Default}
use Rattle.lp_repr.specs.declared.values.RunItem.{RunItem}
use Rattle.lp_repr.specs.declared.values.RunItem.TheVariants as item
use Rattle.lp_repr.specs.declared.values.UserError.TheVariants as user
use Rattle.lp_repr.specs.declared.values.ParseError.TheVariants as failure
use Rattle.lp_driver.specs.Values.{Text, Token, Token_value, Payload, Value, Failure, Spanned}
use Rattle.lp_core.specs.declared.value.Tag.TheVariants as tag
use Rattle.lp_core.specs.declared.expr.Leaf.{Leaf}
use Rattle.lp_core.specs.declared.expr.Leaf.TheVariants as leaf
use Rattle.lp_core.specs.declared.expr.Op.{Op}
use Rattle.lp_core.specs.declared.expr.Op.TheVariants as op
use Rattle.lp_core.specs.declared.expr.Table.{Table}
use Rattle.lp_core.specs.Datum.{Datum, Unset, Parsed, Failed, Blamed, Written}
use Rattle.lp_core.specs.Val.{Val, Plain}
use Rattle.lp_core.specs.Reading.{datum, parts, parts_of, truth_of, index_of, cell_of, term_of, spanned_of, empty, wrapped, triple, location}
use Rattle.lp_core.specs.Numbers.{index, truth, typed, as_index, number_of, successor, predecessor, negated}
use Rattle.lp_core.specs.Store.{Store, Program, Held, Slot, States}
use Rattle.lp_core.specs.Effect.{Effect, Gave, Returned, gave, did, stored, with_slot, written, all_written, set_value, with_cell, new_cell, new_cell_of}
use Rattle.lp_core.specs.Effect as effect
use Rattle.lp_core.specs.CellMeaning.{Change, cell_change, states_in}

-- a location of an item
abbrev pub place : Bool → Loc → Loc
place true l = l
place false l = Default

-- an item as the token source gives it: `Ok` of its triple, or `Err` of its fault
abbrev pub item_val : Bool → RunItem → Val
item_val located (item.Fault name) = wrapped tag.Failure (Plain (Blamed (user.Fault name)))
item_val located (item.Token a token b) = wrapped tag.Success (triple (place located a) (Plain (Parsed (Token_value token))) (place located b))

-- the next item, if there is one
abbrev pub next_item : Bool → Option RunItem → Store → Effect
next_item located None s = Gave (empty tag.Absent) s
next_item located (Some i) s = Gave (wrapped tag.Present (item_val located i)) (record s { taken = s.taken + 1 })

abbrev pub leaf_meaning : Program → Leaf → Store → Effect
leaf_meaning p (leaf.Empty tag) s = Gave (empty tag) s
leaf_meaning p (leaf.Bool b) s = Gave (truth b) s
leaf_meaning p (leaf.Index n) s = Gave (index n) s
leaf_meaning p (leaf.State kind n) s = gave (typed kind n) s
leaf_meaning p (leaf.Text n) s = Gave (Plain (Written n)) s
leaf_meaning p leaf.DefaultLocation s = Gave (location Default) s
leaf_meaning p (leaf.Read x) s = gave (option_and_then set_value (slice_get s.env x)) s
leaf_meaning p (leaf.Take x) s = gave (option_and_then set_value (slice_get s.env x)) (with_slot x (Plain Unset) s)
leaf_meaning p leaf.NextItem s = next_item p.located (slice_get p.items s.taken) s
leaf_meaning p leaf.NewStates s = new_cell (States (pos 0 ∷ [])) s
leaf_meaning p leaf.Stuck s = effect.Failed

-- a part of a value
abbrev pub part_of : ℕ → Val → Option Val
part_of i v = slice_get (parts v) i

-- so many parts in slots, from the first one on
abbrev pub parts_written : ℕ → ℕ → Store → List Val → Option Store
parts_written first count s vs = if length vs == count then all_written first vs s else None

abbrev pub parts_stored : ℕ → ℕ → Val → Store → Option Store
parts_stored first count v s = option_and_then (λ r. parts_written first count s r.1) (parts_of v)

-- an entry of a table, which is stuck where the printed type is no state type or is too small
abbrev pub entry_in : Table → ℕ → Option Val
entry_in table i = option_and_then (λ n. option_and_then (λ kind. typed kind n) table.entry_type) (slice_get table.entries.items i)

abbrev pub entry : Program → ℕ → Val → Option Val
entry p t v = option_and_then (λ table. option_and_then (entry_in table) (index_of v)) (slice_get p.tables t)

abbrev pub is_zero : ℤ → Val
is_zero n = truth (int_eq n (pos 0))

abbrev pub is_positive : ℤ → Val
is_positive n = truth (int_lt (pos 0) n)

abbrev pub failure_val : Failure → Val
failure_val e = Plain (Failed e)

-- `ParseError::User` of a user error
abbrev pub user_error_in : Datum → Option Val
user_error_in (Blamed error) = Some (failure_val (failure.User error))
user_error_in _ = None

abbrev pub user_error : Val → Option Val
user_error v = option_and_then user_error_in (datum v)

abbrev pub token_in : Value → Option Token
token_in (Token_value token) = Some token
token_in _ = None

abbrev pub spanned_token_in : Spanned Val → Option (Spanned Token)
spanned_token_in x = option_map (λ token. (x.0, token, x.2)) (option_and_then token_in (term_of x.1))

-- the token of a triple that holds one
abbrev pub spanned_token : Val → Option (Spanned Token)
spanned_token v = option_and_then spanned_token_in (spanned_of v)

abbrev pub extra_token : Val → Option Val
extra_token v = option_map (λ token. failure_val (failure.ExtraToken token)) (spanned_token v)

-- a payload that isn't there is the empty text
abbrev pub text_or_empty : Option Text → Text
text_or_empty None = []
text_or_empty (Some text) = text

abbrev pub payload_in : ℕ → Token → Val
payload_in j token = Plain (Parsed (Payload (text_or_empty (slice_get token.payloads j))))

abbrev pub payload : ℕ → Val → Option Val
payload j v = option_map (payload_in j) (option_and_then token_in (term_of v))

abbrev pub holds : Option Bool → Bool
holds None = false
holds (Some b) = b

-- what is done with a cell that is there
abbrev pub changed : ℕ → Store → Change → Effect
changed n s None = effect.Failed
changed n s (Some r) = Gave r.0 (with_cell n r.1 s)

abbrev pub on_cell : Store → (Held → Change) → ℕ → Effect
on_cell s change n = changed n s (option_and_then change (slice_get s.cells n))

abbrev pub on_reference : Store → (Held → Change) → Option ℕ → Effect
on_reference s change None = effect.Failed
on_reference s change (Some n) = on_cell s change n

-- the cell that a value refers to
abbrev pub cell_at : Val → Store → Option Held
cell_at v s = option_and_then (λ n. slice_get s.cells n) (cell_of v)

abbrev pub op_meaning : Program → Op → Val → Store → Effect
op_meaning p (op.Write x) v s = stored (written x v s)
op_meaning p (op.Part i) v s = gave (part_of i v) s
op_meaning p (op.Parts first count) v s = stored (parts_stored first count v s)
op_meaning p (op.Wrap tag) v s = Gave (wrapped tag v) s
op_meaning p op.AsIndex v s = gave (as_index v) s
op_meaning p op.Successor v s = gave (successor v) s
op_meaning p op.Predecessor v s = gave (predecessor v) s
op_meaning p op.Negate v s = gave (negated v) s
op_meaning p op.IsZero v s = gave (option_map is_zero (number_of v)) s
op_meaning p op.IsPositive v s = gave (option_map is_positive (number_of v)) s
op_meaning p (op.Entry table) v s = gave (entry p table v) s
op_meaning p op.Return v s = Returned v s
op_meaning p op.UserError v s = gave (user_error v) s
op_meaning p op.ExtraToken v s = gave (extra_token v) s
op_meaning p (op.Payload j) v s = gave (payload j v) s
op_meaning p op.Assert v s = did (holds (truth_of v)) s
op_meaning p op.NewCell v s = new_cell (Slot (Some v)) s
op_meaning p op.CopyStates v s = new_cell_of (option_map States (option_and_then states_in (cell_at v s))) s
op_meaning p op v s = on_reference s (cell_change op) (cell_of v)
