-- How an error is mended: with the least number of dropped tokens, and for it the longest prefix of
-- the stack that serves. The machine's moves come to exactly this.
use Rattle.std.specs.Prelude.{◌≡◌, ℕ, zero, suc, ◌+◌, ◌<◌, List, [], ◌∷◌, ◌++◌, length, take, Option, Some, None, Err, slice_get}
use Rattle.lp_repr.specs.declared.values.RunItem.{RunItem}
use Rattle.lp_machine.specs.declared.config.Lookahead.{Lookahead}
use Rattle.lp_machine.specs.declared.config.Mending.{Mending}
use Rattle.lp_machine.specs.declared.config.Left.TheVariants.{Pulls}
use Rattle.lp_machine.specs.declared.config.Config.{Config}
use Rattle.lp_machine.specs.declared.verdict.Verdict.{Verdict}
use Rattle.lp_machine.specs.declared.verdict.Verdict.TheVariants.{Yes, No}
use Rattle.lp_machine.specs.Tables.{Tables}
use Rattle.lp_machine.specs.ExpectedList.{action_on_error, verdict, says_after}
use Rattle.lp_machine.specs.Recovery.{shift_of}
use Rattle.lp_machine.specs.StackMachine.{with_left, over, lookahead_terminal}
use Rattle.lp_machine.specs.Moves.{looks}
use Rattle.lp_machine.specs.Move.{mends, dropping, moves}

module _ (t : Tables) where
  -- the state that the state at a place shifts the error to
  abbrev pub error_shift : Config → ℕ → Option ℕ
  error_shift c place = shift_of (action_on_error t (slice_get c.states place))

  -- what the trial of the lookahead says on a prefix with the error shifted, within n reductions
  abbrev pub trial_of : ℕ → Config → ℕ → ℕ → Verdict
  trial_of n c place to =
      says_after t n (lookahead_terminal c.lookahead) (verdict t (take (place + 1) c.states ++ to ∷ []) (lookahead_terminal c.lookahead))

  -- a prefix whose last state doesn't shift the error doesn't serve
  abbrev pub says_with : ℕ → Config → ℕ → Option ℕ → Verdict
  says_with n c place None = No
  says_with n c place (Some to) = trial_of n c place to

  -- whether the prefix that ends at a place serves
  abbrev pub prefix_says : ℕ → Config → ℕ → Verdict
  prefix_says n c place = says_with n c place (error_shift c place)

  -- of the first k prefixes none serves
  abbrev pub NoneServes : ℕ → Config → ℕ → Type 0
  NoneServes n c k = (place : ℕ) → place < k → prefix_says n c place ≡ No

  -- of these the one that ends at a place is the longest that serves
  abbrev pub IsLongest : ℕ → Config → ℕ → ℕ → Type 0
  IsLongest n c k place =
      (place < k) × (prefix_says n c place ≡ Yes) × ((longer : ℕ) → place < longer → longer < k → prefix_says n c longer ≡ No)

  module _ (items : List RunItem) where
    -- What an error comes to with d dropped tokens. The first time that a prefix serves, the longest
    -- does. While none serves, the lookahead is dropped; without one the first error stands.
    pub data Recovers (n : ℕ) : Config → ℕ → Config → Type 0 where
      Mends : (c : Config) (place to : ℕ) → IsLongest n c (length c.states) place → error_shift c place ≡ Some to
          → Recovers n c 0 (mends t items (with_left c Pulls) c.mending place to)
      Stands : (c : Config) (mending : Mending) → NoneServes n c (length c.states) → c.mending ≡ Some mending → c.lookahead ≡ None
          → Recovers n c 0 (over (with_left c Pulls) (Err mending.error))
      Drops : (c next end : Config) (d : ℕ) (l : Lookahead) → NoneServes n c (length c.states) → c.lookahead ≡ Some l
          → dropping t items (with_left c Pulls) c.mending ≡ looks t items next → Recovers n next d end → Recovers n c (suc d) end

-- the machine's moves recover so
abbrev pub MovesRecover : Type 0
MovesRecover =
    (t : Tables) (items : List RunItem) (n : ℕ) (c : Config) (d : ℕ) (end : Config) → Recovers t items n c d end → (m : ℕ) × (moves t items m (looks t items c) ≡ end)
