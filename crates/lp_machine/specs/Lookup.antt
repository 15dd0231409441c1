-- What stands in LR states and among terminals.
use Rattle.std.specs.Prelude.{ℕ, zero, suc, ◌==◌, List, [], ◌∷◌, ◌++◌, if◌then◌else◌, Option, Some, None, Bool, true, false, position, slice_get}
use Rattle.std.specs.List.{list_any}
use Rattle.std.specs.Ordering.{nat_cmp}
use Rattle.std.specs.BTreeMap.{get}
use Rattle.std.specs.Str.{bytes_eq}
use Rattle.lp_repr.specs.declared.lr1.Token.{Token}
use Rattle.lp_repr.specs.declared.lr1.Token.TheVariants.{Terminal, Eof}
use Rattle.lp_repr.specs.declared.lr1.Lr1State.{Lr1State}
use Rattle.lp_machine.specs.declared.lookup.Act.{Act}
use Rattle.lp_machine.specs.declared.lookup.Act.TheVariants.{Shift, ReduceBy, NoAction}
use Rattle.lp_machine.specs.declared.lookup.KnownTerminal.{KnownTerminal}
use Rattle.lp_driver.specs.Values as values
use Rattle.lp_driver.specs.Values.{Value, Payload, Token_value, Tuple, Text}

abbrev pub same_token : Token → Token → Bool
same_token (Terminal a) (Terminal b) = a == b
same_token (Terminal a) Eof = false
same_token Eof (Terminal b) = false
same_token Eof Eof = true

-- where a token is shifted to
abbrev pub shift_in : Lr1State → Token → Option ℕ
shift_in state (Terminal t) = get nat_cmp state.shifts t
shift_in state Eof = None

abbrev pub reduction_act : Option (List Token × ℕ) → Act
reduction_act None = NoAction
reduction_act (Some r) = ReduceBy r.1

-- the first reduction on a token
abbrev pub reduction_at : List (List Token × ℕ) → Option ℕ → Act
reduction_at reductions None = NoAction
reduction_at reductions (Some i) = reduction_act (slice_get reductions i)

abbrev pub reduction_in : List (List Token × ℕ) → Token → Act
reduction_in reductions token = reduction_at reductions (position (λ r. list_any (λ t. same_token t token) r.0) reductions)

-- a shift is looked up before a reduction
abbrev pub shift_or : Option ℕ → Act → Act
shift_or None act = act
shift_or (Some to) act = Shift to

abbrev pub act_in : Option Lr1State → Token → Act
act_in None token = NoAction
act_in (Some state) token = shift_or (shift_in state token) (reduction_in state.reductions token)

-- what a state does on a token
abbrev pub act_at : List Lr1State → ℕ → Token → Act
act_at states state token = act_in (slice_get states state) token

abbrev pub goto_in : Option Lr1State → ℕ → Option ℕ
goto_in None nonterminal = None
goto_in (Some state) nonterminal = get nat_cmp state.gotos nonterminal

-- the state after a state and a nonterminal
abbrev pub goto_at : List Lr1State → ℕ → ℕ → Option ℕ
goto_at states state nonterminal = goto_in (slice_get states state) nonterminal

-- the first terminal whose form a token has
abbrev pub terminal_in : List KnownTerminal → values.Token → Option ℕ
terminal_in terminals token = position (λ t. bytes_eq t.form token.form) terminals

-- the value of a token: itself, its one payload, or its payloads; a missing payload is empty
abbrev pub text_or_empty : Option Text → Text
text_or_empty None = []
text_or_empty (Some text) = text

abbrev pub payload : values.Token → ℕ → Text
payload token j = text_or_empty (slice_get token.payloads j)

abbrev pub payloads_upto : ℕ → values.Token → List Text
payloads_upto zero token = []
payloads_upto (suc n) token = payloads_upto n token ++ payload token n ∷ []

abbrev pub value_with : ℕ → values.Token → Value
value_with n token = if n == 0 then Token_value token else (if n == 1 then Payload (payload token 0) else (Tuple (payloads_upto n token)))
