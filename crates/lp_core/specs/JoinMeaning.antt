-- What is done with several values, after so many calls of user code.
use Rattle.std.specs.Prelude.{ℕ, ◌+◌, ◌*◌, nat_le, List, [], ◌∷◌, ◌++◌, Option, Some, None, slice_get}
use Rattle.std.specs.Option.{option_map, option_and_then, option_to_list}
use Rattle.lp_repr.specs.declared.values.ParseError.TheVariants as failure
use Rattle.lp_driver.specs.Values.{Text, Value, Payload, Tuple}
use Rattle.lp_core.specs.declared.value.Tag.{Tag}
use Rattle.lp_core.specs.declared.value.Tag.TheVariants as tag
use Rattle.lp_core.specs.declared.value.StateType.{StateType}
use Rattle.lp_core.specs.declared.expr.Join.{Join}
use Rattle.lp_core.specs.declared.expr.Join.TheVariants as join
use Rattle.lp_core.specs.Datum.{Datum, Parsed, Written}
use Rattle.lp_core.specs.Val.{Val, Plain, Made, vals_of}
use Rattle.lp_core.specs.Reading.{datum, parts_of, list_parts, index_of, cell_of, term_of, location_of, one, two}
use Rattle.lp_core.specs.Numbers.{truth, typed, index_within, index_less}
use Rattle.lp_core.specs.Store.{Store, Program, UserCall, Held}
use Rattle.lp_core.specs.Effect.{Effect, Gave, gave, unit}
use Rattle.lp_core.specs.Effect as effect
use Rattle.lp_core.specs.CellMeaning.{changes, pushed, cut_to, state_at}
use Rattle.lp_core.specs.OpMeaning.{failure_val, spanned_token, on_reference, cell_at}
use Rattle.lp_core.specs.CallMeaning.{user_call, answer}

-- two `usize`
abbrev pub indices : Val → Val → Option (ℕ × ℕ)
indices a b = option_and_then (λ m. option_map (λ n. (m, n)) (index_of b)) (index_of a)

abbrev pub sum : ℕ × ℕ → Option Val
sum r = index_within (r.0 + r.1)

abbrev pub product : ℕ × ℕ → Option Val
product r = index_within (r.0 * r.1)

abbrev pub difference : ℕ × ℕ → Option Val
difference r = index_less r.0 r.1

abbrev pub at_least : ℕ × ℕ → Val
at_least r = truth (nat_le r.1 r.0)

-- what an option holds; nothing where the value is no option
abbrev pub held_in : Tag × List Val → Option (Option Val)
held_in (tag.Present, vs) = option_map Some (one vs)
held_in (tag.Absent, vs) = Some None
held_in _ = None

abbrev pub option_of : Val → Option (Option Val)
option_of v = option_and_then held_in (parts_of v)

abbrev pub with_option : List Val → Option Val → List Val
with_option held None = held
with_option held (Some v) = held ++ v ∷ []

-- what options hold, after these
abbrev pub collected : List Val → List Val → Option (List Val)
collected held [] = Some held
collected held (v ∷ vs) = option_and_then (λ o. collected (with_option held o) vs) (option_of v)

abbrev pub list_val : List Val → Val
list_val vs = Made tag.List (vals_of vs)

abbrev pub tuple_val : List Text → Val
tuple_val texts = Plain (Parsed (Tuple texts))

abbrev pub payload_text : Value → Option Text
payload_text (Payload text) = Some text
payload_text _ = None

abbrev pub payload_of : Val → Option Text
payload_of v = option_and_then payload_text (term_of v)

-- the texts of payloads, after these
abbrev pub payloads : List Text → List Val → Option (List Text)
payloads texts [] = Some texts
payloads texts (v ∷ vs) = option_and_then (λ text. payloads (texts ++ text ∷ []) vs) (payload_of v)

-- the texts of the program that a list names
abbrev pub text_in : Program → Datum → Option Text
text_in p (Written n) = slice_get p.texts n
text_in p _ = None

abbrev pub named_text : Program → Val → Option Text
named_text p v = option_and_then (text_in p) (datum v)

-- the texts that values name, after these
abbrev pub texts_among : Program → List Text → List Val → Option (List Text)
texts_among p texts [] = Some texts
texts_among p texts (v ∷ vs) = option_and_then (λ text. texts_among p (texts ++ text ∷ []) vs) (named_text p v)

abbrev pub texts_of : Program → Val → Option (List Text)
texts_of p v = option_and_then (texts_among p []) (list_parts v)

abbrev pub unrecognized_token : Program → Val → Val → Option Val
unrecognized_token p a b =
    option_and_then (λ token. option_map (λ texts. failure_val (failure.UnrecognizedToken token texts)) (texts_of p b)) (spanned_token a)

abbrev pub unrecognized_eof : Program → Val → Val → Option Val
unrecognized_eof p a b =
    option_and_then (λ l. option_map (λ texts. failure_val (failure.UnrecognizedEof l texts)) (texts_of p b)) (location_of a)

-- a state of a list, as a number of a type
abbrev pub state_val : StateType → ℕ → Held → Option Val
state_val kind i c = option_and_then (typed kind) (state_at i c)

abbrev pub state_in : StateType → Val → Val → Store → Option Val
state_in kind a b s = option_and_then (λ i. option_and_then (state_val kind i) (cell_at a s)) (index_of b)

-- `extend` of a list by an option
abbrev pub extended : Val → Option (Option Val) → Store → Effect
extended a None s = effect.Failed
extended a (Some None) s = gave (option_map (λ n. unit) (cell_of a)) s
extended a (Some (Some v)) s = on_reference s (λ c. changes (pushed v c)) (cell_of a)

abbrev pub truncated : Val → Option ℕ → Store → Effect
truncated a None s = effect.Failed
truncated a (Some n) s = on_reference s (λ c. changes (cut_to n c)) (cell_of a)

-- what is done with two values that stay
abbrev pub sides_meaning : Join → Val → Val → Store → Effect
sides_meaning join.Add a b s = gave (option_and_then sum (indices a b)) s
sides_meaning join.Multiply a b s = gave (option_and_then product (indices a b)) s
sides_meaning join.Subtract a b s = gave (option_and_then difference (indices a b)) s
sides_meaning join.AtLeast a b s = gave (option_map at_least (indices a b)) s
sides_meaning (join.StateAt kind) a b s = gave (state_in kind a b s) s
sides_meaning join.Truncate a b s = truncated a (index_of b) s
sides_meaning _ a b s = effect.Failed

abbrev pub pair_meaning : Program → Join → Val → Val → Store → Effect
pair_meaning p join.Push a b s = on_reference s (λ c. changes (pushed b c)) (cell_of a)
pair_meaning p join.Extend a b s = extended a (option_of b) s
pair_meaning p join.UnrecognizedToken a b s = gave (unrecognized_token p a b) s
pair_meaning p join.UnrecognizedEof a b s = gave (unrecognized_eof p a b) s
pair_meaning p join a b s = sides_meaning join a b s

abbrev pub on_two : Program → Join → Option (Val × Val) → Store → Effect
on_two p join None s = effect.Failed
on_two p join (Some r) s = pair_meaning p join r.0 r.1 s

abbrev pub join_meaning : Program → ℕ → Join → List Val → Store → Effect
join_meaning p n (join.Make tag) vs s = Gave (Made tag (vals_of vs)) s
join_meaning p n join.Collect vs s = gave (option_map list_val (collected [] vs)) s
join_meaning p n join.Payloads vs s = gave (option_map tuple_val (payloads [] vs)) s
join_meaning p n (join.Event code fallible params) vs s = gave (option_map (λ call. answer p fallible n) (user_call p n code params vs)) s
join_meaning p n join vs s = on_two p join (two vs) s

-- the calls of user code that it makes
abbrev pub join_calls : Program → ℕ → Join → List Val → List UserCall
join_calls p n (join.Event code fallible params) vs = option_to_list (user_call p n code params vs)
join_calls p n _ vs = []
