-- What a state does on the lookahead, as the machine asks it.
use Rattle.std.proofs.Common.{◌≡◌, ◌⊎◌, ℕ, false, List, Option, Some, None, ap, ◌∙◌, ⊎_elim}
use Rattle.lp_repr.specs.declared.lr1.Lr1State.{Lr1State}
use Rattle.lp_repr.specs.declared.lr1.Token as lr1
use Rattle.lp_repr.specs.declared.lr1.Token.TheVariants.{Terminal, Eof}
use Rattle.lp_repr.specs.declared.repr.Grammar.{Grammar}
use Rattle.lp_repr.specs.declared.values.RunItem.{RunItem}
use Rattle.lp_driver.specs.DriverState.{last_of}
use Rattle.lp_driver.specs.Values.{Token, Spanned}
use Rattle.lp_machine.specs.declared.config.Config.{Config}
use Rattle.lp_machine.specs.declared.config.Lookahead.{Lookahead}
use Rattle.lp_machine.specs.declared.lookup.Act.{Act}
use Rattle.lp_machine.specs.declared.lookup.Act.TheVariants.{NoAction}
use Rattle.lp_machine.specs.ExpectedList.{action_on}
use Rattle.lp_machine.specs.Lookup.{act_at}
use Rattle.lp_machine.specs.Moves.{asks, errs}
use Rattle.lp_machine.specs.StackMachine.{lookahead_terminal}
use Rattle.lp_machine.specs.Tables.{Tables}
use Rattle.lp_turn_laws.specs.Paths.Over.{IsOver}
use Rattle.lp_back_end_laws.specs.Call.Standing.{Holds, Sees, at_end, known, unknown, OnTop}
use Rattle.lp_back_end_laws.proofs.Call.Seen.{token_error, end_error}

-- what the state does at the end, or on a token of a terminal
abbrev pub Does : List Lr1State → Tables → ℕ → Config → Option (Spanned Token) → Act → Type 0
Does states t q c None act = act_at states q Eof ≡ act
Does states t q c (Some x) act = (h : Holds t c x) × (act_at states q (Terminal h.index) ≡ act)

-- that is what it does on some token
pub does_on : (states : List Lr1State) (t : Tables) (q : ℕ) (c : Config) (look : Option (Spanned Token)) (act : Act) → Does states t q c look act → (token : lr1.Token) × (act_at states q token ≡ act)
does_on states t q c None act does = (Eof, does)
does_on states t q c (Some x) act does = (Terminal (does.0).index, does.1)

-- a token of no terminal
abbrev pub IsUnknown : Tables → Option (Spanned Token) → Type 0
IsUnknown t None = ⊥
IsUnknown t (Some x) = t.terminal x.1 ≡ None

module _ {g : Grammar} {start : ℕ} {states : List Lr1State} {t : Tables} (over : IsOver g start states t) (items : List RunItem) {q : ℕ} {c : Config} (top : OnTop states q c) where
  -- so the machine's top state does, where it sees this lookahead and asks
  pub acts_there : (look : Option (Spanned Token)) (act : Act) → Sees t items c look → Does states t q c look act → action_on t (last_of c.states) (lookahead_terminal c.lookahead) ≡ act
  acts_there None act (at_end none ends asked) does =
      ap (λ (o : Option ℕ). action_on t o (lookahead_terminal c.lookahead)) top.top ∙ ap (λ (o : Option Lookahead). action_on t (Some q) (lookahead_terminal o)) none.nothing ∙ (over.known).at_eof q ∙ does
  acts_there (Some x) act sees does =
      let h = does.0 in
      ap (λ (o : Option ℕ). action_on t o (lookahead_terminal c.lookahead)) top.top ∙ ap (λ (o : Option Lookahead). action_on t (Some q) (lookahead_terminal o)) h.in_hand ∙ (over.known).action q h.index ∙ does.1

  -- and it asks there
  pub asked_there : (look : Option (Spanned Token)) (act : Act) → Sees t items c look → Does states t q c look act → c ≡ asks t items c
  asked_there None act (at_end none ends asked) does = asked
  asked_there (Some x) act (known _ h asked) does = asked
  asked_there (Some x) act (unknown _ none token error) does = (let e = (does.0).in_hand in cc)

  -- where it does nothing, or the token is of no terminal, the error stands
  pub error_there : t.error ≡ None → c.mending ≡ None → (look : Option (Spanned Token)) → Sees t items c look → Does states t q c look NoAction ⊎ IsUnknown t look → c ≡ errs t items c look false
  error_there never whole None (at_end none ends asked) why = ⊎_elim (λ (does : Does states t q c None NoAction). end_error t items never c whole asked (acts_there None NoAction (at_end none ends asked) does) none) (λ (no : ⊥). absurd no) why
  error_there never whole (Some x) (known _ h asked) why = ⊎_elim
      (λ (does : Does states t q c (Some x) NoAction). token_error t items never c whole asked (acts_there (Some x) NoAction (known x h asked) does) x h)
      (λ (none : t.terminal x.1 ≡ None). (let e = h.terminal in cc))
      why
  error_there never whole (Some x) (unknown _ none token error) why = error
