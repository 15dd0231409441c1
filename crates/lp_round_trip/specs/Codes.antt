-- User code and bodies of actions that are told in every text.
use Rattle.std.specs.Prelude.{◌≡◌, ℕ, true, List}
use Rattle.lp_program.specs.Trees.{Content, Forest}
use Rattle.lp_reading_laws.specs.Holes.Found.{are_words}
use Rattle.lp_fitting.specs.Bodies.{BodiesSuit, IsOtherCode}
use Rattle.lp_reading_laws.specs.Choosing.Laws.{BodiesTold, IsNoInlined}

-- user code whose first line is none of inlined actions is told in every text
abbrev pub CodesAreTold : Type 0
CodesAreTold = (prefix text code : List ℕ) → are_words prefix ≡ true → IsOtherCode prefix code → IsNoInlined prefix text code

-- so are bodies of actions that suit
abbrev pub BodiesSuitTold : Type 0
BodiesSuitTold = (prefix text : List ℕ) (before : List Content) (f : Forest) → are_words prefix ≡ true → BodiesSuit prefix before f → BodiesTold prefix text before f
