-- The turns of a driver that mends no error, over what a definition answers.
use Rattle.std.specs.Prelude.{ℕ, zero, suc, ℤ, pos, negsuc, List, [], ◌∷◌, ◌++◌, Option, Some, None, Bool, true, false}
use Rattle.lp_repr.specs.declared.values.RunItem.{RunItem}
use Rattle.lp_repr.specs.declared.values.RunItem.TheVariants as item
use Rattle.lp_repr.specs.declared.values.UserError.TheVariants as user
use Rattle.lp_repr.specs.declared.values.ParseError.TheVariants as failure
use Rattle.lp_driver.specs.Values.{Token, Spanned, Failure, Ending, Gives, Fails}
use Rattle.lp_driver.specs.Questions.{Answers, To_triple, Token_to_index, Action, Eof_action, Token_to_symbol, Expected, Uses_recovery, Reduce, Reduced}
use Rattle.lp_driver.specs.DriverState.{Lookahead, Driver, Mode, Parsing, Reducing, Next, Goes_on, Ends, on_answer, with_state, top, with_mode, holding}

module _ {S D : Type 0} (answers : Answers S D) where
  -- the error at a token
  abbrev pub unrecognized_token : Driver S → Spanned Token → (Failure → D → Next S D) → D → Next S D
  unrecognized_token w t go d = on_answer (answers (Expected w.states) d) (λ l d'. go (failure.UnrecognizedToken t l) d')

  abbrev pub unrecognized_eof : Driver S → (Failure → D → Next S D) → D → Next S D
  unrecognized_eof w go d = on_answer (answers (Expected w.states) d) (λ l d'. go (failure.UnrecognizedEof w.last l) d')

  abbrev pub fails : Failure → D → Next S D
  fails f d = Ends (Fails f) d

  -- the error is to be mended, or is the answer
  abbrev pub error_or : Driver S → Option Lookahead → Bool → Failure → D → Next S D
  error_or w l true f d = Goes_on (with_mode w (Reducing (record { error = f; dropped = []; lookahead = l }))) d
  error_or w l false f d = fails f d

  abbrev pub error_at_token : Driver S → Lookahead → D → Next S D
  error_at_token w l d = on_answer (answers Uses_recovery d) (λ b d'. unrecognized_token w l.token (error_or w (Some l) b) d')

  abbrev pub error_at_end : Driver S → D → Next S D
  error_at_end w d = on_answer (answers Uses_recovery d) (λ b d'. unrecognized_eof w (error_or w None b) d')

  -- the token and its symbol
  abbrev pub shifted : Driver S → Lookahead → ℕ → S → Driver S
  shifted w l to x = record {
    states = w.states ++ pos to ∷ [];
    symbols = w.symbols ++ (l.token.0, x, l.token.2) ∷ [];
    items = w.items;
    mode = Parsing None;
    begin = w.begin;
    last = w.last;
  }

  abbrev pub reduced : Driver S → Mode → Reduced S → Driver S
  reduced w mode r = record { states = r.states; symbols = r.symbols; items = w.items; mode = mode; begin = w.begin; last = w.last }

  -- a result before the end of the items is one token too much
  abbrev pub after_reduction : Driver S → Lookahead → Reduced S → Option Ending → D → Next S D
  after_reduction w l r None d = Goes_on (reduced w (Parsing (Some l)) r) d
  after_reduction w l r (Some (Gives v)) d = fails (failure.ExtraToken l.token) d
  after_reduction w l r (Some (Fails e)) d = fails e d

  -- what may end a parse, else on in this mode
  abbrev pub ends_or : Driver S → Mode → Reduced S → Option Ending → D → Next S D
  ends_or w mode r None d = Goes_on (reduced w mode r) d
  ends_or w mode r (Some e) d = Ends e d

  -- what an entry says of a token: -(e + 1) is the number of the production
  abbrev pub by_action : Driver S → Lookahead → ℤ → D → Next S D
  by_action w l (pos zero) d = error_at_token w l d
  by_action w l (pos (suc to)) d = on_answer (answers (Token_to_symbol l.index l.token.1) d) (λ x d'. Goes_on (shifted w l to x) d')
  by_action w l (negsuc p) d =
      on_answer (answers (Reduce (pos p) (Some l.token.0) w.states w.symbols) d) (λ r d'. after_reduction w l r r.ending d')

  -- what an entry says at the end of the items
  abbrev pub by_eof_action : Driver S → ℤ → D → Next S D
  by_eof_action w (negsuc p) d =
      on_answer (answers (Reduce (pos p) None w.states w.symbols) d) (λ r d'. ends_or w (Parsing None) r r.ending d')
  by_eof_action w (pos n) d = error_at_end w d

  -- a turn with a token in hand
  abbrev pub at_token : Driver S → Lookahead → D → Next S D
  at_token w l d = with_state (top w) d (λ s. on_answer (answers (Action s l.index) d) (λ e d'. by_action w l e d'))

  -- a turn at the end of the items
  abbrev pub at_end : Driver S → D → Next S D
  at_end w d = with_state (top w) d (λ s. on_answer (answers (Eof_action s) d) (λ e d'. by_eof_action w e d'))

  -- a token is taken: it is in hand then, where it is of a terminal
  abbrev pub taken : Driver S → List RunItem → Spanned Token → Option ℕ → D → Next S D
  taken w items t None d = unrecognized_token w t fails d
  taken w items t (Some i) d =
      Goes_on (record { states = w.states; symbols = w.symbols; items = items; mode = holding w.mode (record { token = t; index = i }); begin = w.begin; last = t.2 }) d

  -- an item as it was handed on: a fault ends the run
  abbrev pub pulled : Driver S → List RunItem → RunItem → D → Next S D
  pulled w items (item.Fault name) d = fails (failure.User (user.Fault name)) d
  pulled w items (item.Token a v b) d = on_answer (answers (Token_to_index v) d) (λ i d'. taken w items (a, v, b) i d')

  -- a turn with no token in hand
  abbrev pub pull : Driver S → List RunItem → D → Next S D
  pull w [] d = at_end w d
  pull w (item ∷ items) d = on_answer (answers (To_triple item) d) (λ it d'. pulled w items it d')

  abbrev pub parsing : Driver S → Option Lookahead → D → Next S D
  parsing w None d = pull w w.items d
  parsing w (Some l) d = at_token w l d
