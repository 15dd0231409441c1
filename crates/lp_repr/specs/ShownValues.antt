-- How the values of a parse are shown: their bytes.
use Rattle.std.specs.Prelude.{ℕ, List, [], ◌∷◌, ◌++◌, Option, None, Some, codes, decimal}
use Rattle.std.specs.List.{join_by}
use Rattle.lp_repr.specs.Escapes.{escaped_text}
use Rattle.lp_repr.specs.declared.values.Loc.{Loc}
use Rattle.lp_repr.specs.declared.values.Loc.TheVariants as loc
use Rattle.lp_repr.specs.declared.values.TokenValue.{TokenValue}
use Rattle.lp_repr.specs.declared.values.Term.{Term}
use Rattle.lp_repr.specs.declared.values.Term.TheVariants as term
use Rattle.lp_repr.specs.declared.values.Recovery.{Recovery}
use Rattle.lp_repr.specs.declared.values.UserError.{UserError}
use Rattle.lp_repr.specs.declared.values.UserError.TheVariants as user
use Rattle.lp_repr.specs.declared.values.ParseError.{ParseError}
use Rattle.lp_repr.specs.declared.values.ParseError.TheVariants as error
use Rattle.lp_repr.specs.declared.values.Event.{Event}
use Rattle.lp_repr.specs.declared.values.Outcome.{Outcome}
use Rattle.lp_repr.specs.declared.values.Outcome.TheVariants as outcome

-- a location
abbrev pub loc_text : Loc → List ℕ
loc_text loc.Default = codes "_"
loc_text (loc.At place) = decimal place

-- what the holes of a pattern captured, as literals
abbrev pub payloads_text : List (List ℕ) → List ℕ
payloads_text payloads = codes "(" ++ (join_by escaped_text (codes ", ") payloads ++ codes ")")

-- the same after a token's form, nothing where it has no holes
abbrev pub given_text : List (List ℕ) → List ℕ
given_text [] = []
given_text (p ∷ ps) = payloads_text (p ∷ ps)

-- a token
abbrev pub token_text : TokenValue → List ℕ
token_text t = codes "<" ++ (t.form ++ (codes ">" ++ given_text t.payloads))

-- a value with its span
abbrev pub spanned_text : {L T : Type 0} → (L → List ℕ) → (T → List ℕ) → L × T × L → List ℕ
spanned_text place shown x = shown x.1 ++ (codes "@" ++ (place x.0 ++ (codes "-" ++ place x.2)))

-- some of them
abbrev pub spanned_list_text : {L T : Type 0} → (L → List ℕ) → (T → List ℕ) → List (L × T × L) → List ℕ
spanned_list_text place shown xs = codes "[" ++ (join_by (spanned_text place shown) (codes ", ") xs ++ codes "]")

-- some texts
abbrev pub list_text : List (List ℕ) → List ℕ
list_text xs = codes "[" ++ (join_by (λ t. t) (codes ", ") xs ++ codes "]")

-- the result of a call
abbrev pub result_text : ℕ → List ℕ
result_text call = codes "#" ++ decimal call

-- an error of user code or of the token source
abbrev pub user_error_text : UserError → List ℕ
user_error_text (user.Call call) = result_text call
user_error_text (user.Fault name) = name

-- how a parse fails, over what gives the texts of locations, tokens and user errors
abbrev pub error_text : {L T E : Type 0} → (L → List ℕ) → (T → List ℕ) → (E → List ℕ) → ParseError L T E → List ℕ
error_text place shown told (error.InvalidToken location) = codes "InvalidToken at " ++ place location
error_text place shown told (error.UnrecognizedEof location expected) = codes "UnrecognizedEof at " ++ (place location ++ (codes " expected " ++ list_text expected))
error_text place shown told (error.UnrecognizedToken token expected) = codes "UnrecognizedToken " ++ (spanned_text place shown token ++ (codes " expected " ++ list_text expected))
error_text place shown told (error.ExtraToken token) = codes "ExtraToken " ++ spanned_text place shown token
error_text place shown told (error.User e) = codes "User " ++ told e

-- how the parse of a run fails
abbrev pub run_error_text : ParseError Loc TokenValue UserError → List ℕ
run_error_text e = error_text loc_text token_text user_error_text e

-- what the error symbol holds
abbrev pub recovery_text : Recovery → List ℕ
recovery_text r = codes "recovery(" ++ (run_error_text r.error ++ (codes ", " ++ (spanned_list_text loc_text token_text r.dropped ++ codes ")")))

-- the value of a symbol
abbrev pub term_text : Term → List ℕ
term_text (term.Payload text) = escaped_text text
term_text (term.Token token) = token_text token
term_text (term.Tuple payloads) = payloads_text payloads
term_text (term.Location location) = codes "loc(" ++ (loc_text location ++ codes ")")
term_text (term.Result call) = result_text call
term_text (term.Recovered recovery) = recovery_text recovery.value

-- the place of a call without arguments
abbrev pub place_text : Option (Loc × Loc) → List ℕ
place_text None = []
place_text (Some place) = codes " at " ++ (loc_text place.0 ++ (codes " " ++ loc_text place.1))

-- the number of a call, and its code as a literal
abbrev pub call_text : ℕ → List ℕ → List ℕ
call_text number code = codes "call " ++ (decimal number ++ (codes " " ++ escaped_text code))

-- a call of user code
abbrev pub event_text : Event → List ℕ
event_text e = call_text e.number e.code ++ (codes " params " ++ (list_text e.params ++ (codes " args " ++ (spanned_list_text loc_text term_text e.args ++ place_text e.place))))

-- how a run ends
abbrev pub outcome_text : Outcome → List ℕ
outcome_text (outcome.Value t) = codes "value " ++ term_text t
outcome_text (outcome.Error e) = codes "error " ++ run_error_text e
outcome_text outcome.Spent = codes "spent"
