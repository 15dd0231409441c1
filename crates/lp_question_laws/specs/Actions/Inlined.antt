-- What names show where inlined actions run.
use Rattle.std.specs.Prelude.{ℕ, ◌+◌, List, [], ◌∷◌, ◌++◌, length, map, codes, decimal}
use Rattle.lp_repr.specs.declared.repr.InlinedSymbol.{InlinedSymbol}
use Rattle.lp_repr.specs.declared.repr.InlinedSymbol.TheVariants.{Original, Inlined}
use Rattle.lp_repr.specs.declared.values.Loc.{Loc}
use Rattle.lp_driver.specs.Values.{Spanned, Value}
use Rattle.lp_core.specs.Reading.{location}
use Rattle.lp_core.specs.Store.{Store, UserCall}
use Rattle.lp_core.specs.Val.{Val}
use Rattle.lp_code_laws.specs.Ends.Ends.{Moment, moment}
use Rattle.lp_machine.specs.ActionMeaning.{inlined_span}
use Rattle.lp_maker.specs.Slots.{Names}
use Rattle.lp_actions.specs.Inlines.{inlined_count}
use Rattle.lp_actions.specs.Parameters.{width}
use Rattle.lp_code_laws.specs.Slots.Shows.{Shows}
use Rattle.lp_question_laws.specs.Tables.Acts.{symbol_val}
use Rattle.lp_question_laws.specs.Actions.Keys.{ShowsEach, mark, decimals}

-- the names of an action's own arguments: its symbols by number, or the places around none
abbrev pub own_words : {A : Type 0} → List A → List (List ℕ)
own_words [] = codes "lookbehind" ∷ codes "lookahead" ∷ []
own_words (x ∷ xs) = decimals 0 (x ∷ xs)

abbrev pub own_values : List (Spanned Value) → Loc × Loc → List Val
own_values [] place = location place.0 ∷ location place.1 ∷ []
own_values (x ∷ xs) place = map symbol_val (x ∷ xs)

abbrev pub Seen : Names → List Val → List (Spanned Value) → Loc × Loc → Type 0
Seen names env xs place = ShowsEach names env (map mark (own_words xs)) (own_values xs place)

-- the names of the spans of inlined actions, and of their values
abbrev pub start_name : ℕ → List ℕ
start_name n = codes "~start" ++ decimal n

abbrev pub end_name : ℕ → List ℕ
end_name n = codes "~end" ++ decimal n

abbrev pub temp_name : ℕ → List ℕ
temp_name n = codes "~temp" ++ decimal n

-- the spans of these inlined actions, from a number and a place on
abbrev pub SpansShown : Names → List Val → List (Spanned Value) → Loc × Loc → ℕ → ℕ → List InlinedSymbol → Type 0
SpansShown names env xs place n before [] = Unit {0}
SpansShown names env xs place n before (Original s ∷ ss) = SpansShown names env xs place (n + inlined_count (Original s)) (before + width (Original s)) ss
SpansShown names env xs place n before (Inlined action inner ∷ ss) =
    Shows names env (start_name n) (location (inlined_span xs before (length inner) place).0)
    × Shows names env (end_name n) (location (inlined_span xs before (length inner) place).1)
    × SpansShown names env xs place (n + inlined_count (Inlined action inner)) (before + width (Inlined action inner)) ss

-- a moment of a call with these slots, after these calls of user code
abbrev pub within : Store → List Val → List UserCall → Moment
within s env calls = moment (record s { env = env }) calls
