-- What a call of user code is made with, and what it gives.
use Rattle.std.specs.Prelude.{ℕ, Bool, true, false, List, [], ◌∷◌, ◌++◌, length, Option, Some, None, slice_get, nat_lt, ◌==◌, if◌then◌else◌}
use Rattle.std.specs.List.{list_any}
use Rattle.std.specs.Option.{option_map, option_and_then}
use Rattle.lp_repr.specs.declared.values.Loc.{Loc}
use Rattle.lp_repr.specs.declared.values.UserError.TheVariants as user
use Rattle.lp_repr.specs.declared.values.ParseError.TheVariants as failure
use Rattle.lp_driver.specs.Values.{Text, Value, Call_result, Spanned}
use Rattle.lp_core.specs.declared.value.Tag.TheVariants as tag
use Rattle.lp_core.specs.Datum.{Datum, Parsed, Param}
use Rattle.lp_core.specs.Val.{Val, Plain}
use Rattle.lp_core.specs.Reading.{datum, term_of, location_of, spanned_of, wrapped}
use Rattle.lp_core.specs.Store.{Program, UserCall}
use Rattle.lp_core.specs.OpMeaning.{failure_val}

-- the parameters and triples so far, and the locations: one alone, or the place
pub record Arguments : Type 0 where
  pub params : List Text
  pub args : List (Spanned Value)
  pub start : Option Loc
  pub place : Option (Loc × Loc)

abbrev pub no_arguments : Arguments
no_arguments = record { params = []; args = []; start = None; place = None }

abbrev pub param_in : Program → Datum → Option Text
param_in p (Param n) = slice_get p.params n
param_in p _ = None

abbrev pub param_of : Program → Val → Option Text
param_of p v = option_and_then (param_in p) (datum v)

abbrev pub spanned_term_in : Spanned Val → Option (Spanned Value)
spanned_term_in x = option_map (λ t. (x.0, t, x.2)) (term_of x.1)

abbrev pub spanned_term : Val → Option (Spanned Value)
spanned_term v = option_and_then spanned_term_in (spanned_of v)

abbrev pub with_param : Arguments → Text → Arguments
with_param g text = record g { params = g.params ++ text ∷ [] }

abbrev pub with_triple : Arguments → Spanned Value → Arguments
with_triple g triple = record g { args = g.args ++ triple ∷ [] }

-- the first location begins the place, a later one ends it
abbrev pub with_location : Arguments → Loc → Option Loc → Arguments
with_location g l None = record g { start = Some l }
with_location g l (Some first) = record g { place = Some (first, l) }

abbrev pub location_or_triple : Arguments → Val → Option Loc → Option Arguments
location_or_triple g v (Some l) = Some (with_location g l g.start)
location_or_triple g v None = option_map (with_triple g) (spanned_term v)

-- one more value: the parameters come first
abbrev pub argument : Program → ℕ → Arguments → Val → Option Arguments
argument p params g v =
    if nat_lt (length g.params) params then option_map (with_param g) (param_of p v) else (location_or_triple g v (location_of v))

abbrev pub arguments : Program → ℕ → Arguments → List Val → Option Arguments
arguments p params g [] = Some g
arguments p params g (v ∷ vs) = option_and_then (λ g. arguments p params g vs) (argument p params g v)

abbrev pub made_call : ℕ → Text → Arguments → UserCall
made_call n code g = record { number = n; code = code; params = g.params; args = g.args; place = g.place }

-- the call of this number, of the text of a number of the program
abbrev pub user_call : Program → ℕ → ℕ → ℕ → List Val → Option UserCall
user_call p n code params vs =
    option_and_then (λ text. option_map (made_call n text) (arguments p params no_arguments vs)) (slice_get p.texts code)

-- what the call of a number gives
abbrev pub result_val : ℕ → Val
result_val n = Plain (Parsed (Call_result n))

abbrev pub fallible_answer : ℕ → Bool → Val
fallible_answer n true = wrapped tag.Failure (failure_val (failure.User (user.Call n)))
fallible_answer n false = wrapped tag.Success (result_val n)

abbrev pub answer : Program → Bool → ℕ → Val
answer p false n = result_val n
answer p true n = fallible_answer n (list_any (λ k. k == n) p.failing)
