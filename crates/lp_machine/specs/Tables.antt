-- What the stack machine looks up: LR tables by state, terminal, production and nonterminal number.
use Rattle.std.specs.Prelude.{ℕ, List, Option, Bool}
use Rattle.lp_driver.specs.declared.answers.Expecting.{Expecting}
use Rattle.lp_driver.specs.Values.{Text, Token, Value}
use Rattle.lp_machine.specs.declared.lookup.Act.{Act}
use Rattle.lp_machine.specs.declared.lookup.Rule.{Rule}
use Rattle.lp_machine.specs.ActionMeaning.{Meaning}

pub record Tables : Type 0 where
  pub action : ℕ → ℕ → Act
  pub at_eof : ℕ → Act
  pub goto : ℕ → ℕ → Option ℕ
  pub rule : ℕ → Option Rule
  -- items have locations; without a location type each counts as the default
  pub is_located : Bool
  -- the first terminal that a token matches
  pub terminal : Token → Option ℕ
  -- the value of a token of a terminal
  pub value : ℕ → Token → Value
  -- the printed names of the terminals but the error terminal, by number
  pub names : List Text
  -- the number of the error terminal, where errors are mended
  pub error : Option ℕ
  pub expecting : Expecting
  pub act : Meaning
