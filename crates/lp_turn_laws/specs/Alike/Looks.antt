-- The looks that make an expected list by trials, one after the other.
use Rattle.std.specs.Prelude.{◌≡◌, ℕ, zero, suc, ◌+◌, List, [], ◌∷◌, ◌++◌, length, Option, Some, None, false, nat_lt, slice_get, if◌then◌else◌}
use Rattle.lp_driver.specs.Values.{Text}
use Rattle.lp_machine.specs.declared.verdict.Verdict.{Verdict}
use Rattle.lp_machine.specs.declared.verdict.Verdict.TheVariants.{Yes, No, GoesOn}
use Rattle.lp_machine.specs.ExpectedList.{verdict}
use Rattle.lp_machine.specs.Tables.{Tables}

-- the terminal that is tried next, the names that were found, and the stack of a trial that goes on
pub record Look : Type 0 where
  pub terminal : ℕ
  pub found : List Text
  pub trial : Option (List ℕ)

-- nothing is tried yet
abbrev pub begun : Look
begun = record { terminal = 0; found = []; trial = None }

-- one name more, where it is there
abbrev pub with_name : List Text → Option Text → List Text
with_name found None = found
with_name found (Some name) = found ++ name ∷ []

-- after what a look at a stack says
abbrev pub said : Tables → Look → Verdict → Look
said t l Yes = record { terminal = l.terminal + 1; found = with_name l.found (slice_get t.names l.terminal); trial = None }
said t l No = record { terminal = l.terminal + 1; found = l.found; trial = None }
said t l (GoesOn stack) = record { terminal = l.terminal; found = l.found; trial = Some stack }

-- a trial begins on this stack; without a terminal that is left nothing changes
abbrev pub look_at : Tables → List ℕ → Look → Option (List ℕ) → Look
look_at t stack l None = if nat_lt l.terminal (length t.names) then said t l (verdict t stack (Some l.terminal)) else l
look_at t stack l (Some trial) = said t l (verdict t trial (Some l.terminal))

-- one look
abbrev pub look : Tables → List ℕ → Look → Look
look t stack l = look_at t stack l l.trial

-- so many looks
abbrev pub looks : Tables → List ℕ → ℕ → Look → Look
looks t stack zero l = l
looks t stack (suc n) l = looks t stack n (look t stack l)

-- no terminal is left
abbrev pub IsComplete : Tables → Look → Type 0
IsComplete t l = (l.trial ≡ None) × (nat_lt l.terminal (length t.names) ≡ false)
