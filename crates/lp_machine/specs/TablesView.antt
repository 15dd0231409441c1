-- The tables that lists of states, productions, terminals and actions stand for.
use Rattle.std.specs.Prelude.{ℕ, List, Option, Some, None, Bool, map, length, slice_get}
use Rattle.lp_repr.specs.declared.lr1.Lr1State.{Lr1State}
use Rattle.lp_repr.specs.declared.lr1.Token.TheVariants.{Terminal, Eof}
use Rattle.lp_repr.specs.declared.repr.ActionFnDefn.{ActionFnDefn}
use Rattle.lp_driver.specs.declared.answers.Expecting.{Expecting}
use Rattle.lp_driver.specs.Values.{Text, Token, Value, Token_value}
use Rattle.lp_machine.specs.ActionMeaning.{act}
use Rattle.lp_machine.specs.Tables.{Tables}
use Rattle.lp_machine.specs.Lookup.{act_at, goto_at, terminal_in, value_with}
use Rattle.lp_machine.specs.declared.lookup.Rule.{Rule}
use Rattle.lp_machine.specs.declared.lookup.KnownTerminal.{KnownTerminal}
use Rattle.lp_machine.specs.declared.compiled.Compiled.{Compiled}

-- the value of a token of a terminal
abbrev pub value_by : Option KnownTerminal → Token → Value
value_by None token = Token_value token
value_by (Some terminal) token = value_with terminal.captures token

-- the tables of these lists
abbrev pub tables_with : List Lr1State → List Rule → List KnownTerminal → Bool → Option ℕ → Expecting → List Text → List ℕ → List ActionFnDefn → Tables
tables_with states rules terminals is_located error expecting params failing actions = record {
  action = λ s i. act_at states s (Terminal i);
  at_eof = λ s. act_at states s Eof;
  goto = λ s n. goto_at states s n;
  rule = λ p. slice_get rules p;
  is_located = is_located;
  terminal = λ token. terminal_in terminals token;
  value = λ i token. value_by (slice_get terminals i) token;
  names = map (λ (n : KnownTerminal). n.name) terminals;
  error = error;
  expecting = expecting;
  act = act params failing (length actions) actions;
}

abbrev pub tables_of : Compiled → Tables
tables_of t =
    tables_with t.states.now t.rules.items t.terminals.items t.is_located t.error t.expecting t.actions.params t.actions.failing.now t.actions.actions.now
