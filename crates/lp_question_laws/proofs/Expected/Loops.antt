-- The loop of a trial ends with the answer of its last look; while its looks go on, it is spent.
use Rattle.std.proofs.Common.{◌≡◌, ◌⊎◌, ℕ, zero, suc, ◌+◌, ◌*◌, ◌<◌, ◌≤◌, ℤ, pos, Bool, true, false, List, length, map, Some, refl, inl, inr, ⊎_elim, subst, arith}
use Rattle.std.specs.Prelude.{if◌then◌else◌}
use Rattle.lp_core.specs.declared.value.StateType.{StateType}
use Rattle.lp_core.specs.Numbers.{truth}
use Rattle.lp_core.specs.Store.{Program, UserCall}
use Rattle.lp_core.specs.Tree.{Loop}
use Rattle.lp_repr.specs.declared.lr1.Lr1State.{Lr1State}
use Rattle.lp_repr.specs.declared.repr.Grammar.{Grammar}
use Rattle.lp_machine.specs.declared.verdict.Verdict.{Verdict}
use Rattle.lp_machine.specs.declared.verdict.Verdict.TheVariants.{Yes, No, GoesOn}
use Rattle.lp_machine.specs.ExpectedList.{verdict}
use Rattle.lp_machine.specs.Tables.{Tables}
use Rattle.lp_code_laws.specs.Ends.Cut.{Cut}
use Rattle.lp_code_laws.specs.Ends.Ends.{Eval, Returning, EndsIn}
use Rattle.lp_code_laws.proofs.Ends.Cuts.{cut_loop, cut_turns}
use Rattle.lp_code_laws.proofs.Ends.Loops as loops
use Rattle.lp_turn_laws.specs.Paths.Over.{IsOver}
use Rattle.lp_turn_laws.specs.Paths.Standing.{IsOnPath}
use Rattle.lp_question_laws.specs.Expected.Trials.{Tried, Tries}
use Rattle.lp_question_laws.proofs.Expected.Lines.{Written, turn, trial_at}
use Rattle.lp_question_laws.proofs.Expected.Verdicts.{HasLookUps, Answers, Moves, Does, does}

-- within so many looks a trial is answered, or all of them go on
abbrev pub Within : Tables → ℕ → ℕ → List ℕ → Type 0
Within t i n stack = ((k : ℕ) × (b : Bool) × (k < n) × Tried t i k stack b) ⊎ Tries t i n stack

later : (t : Tables) (i n : ℕ) (stack next : List ℕ) → verdict t stack (Some i) ≡ GoesOn next → Within t i n next → Within t i (suc n) stack
later t i n stack next is h =
    ⊎_elim (λ (r : (k : ℕ) × (b : Bool) × (k < n) × Tried t i k next b). inl (suc r.0, r.1, (let less = r.2 in omega arith), (next, is, r.3)))
    (λ (r : Tries t i n next). inr (next, is, r)) h

by_verdict : (t : Tables) (i n : ℕ) (stack : List ℕ) (v : Verdict) → verdict t stack (Some i) ≡ v → ((next : List ℕ) → Within t i n next) → Within t i (suc n) stack
by_verdict t i n stack Yes is h = inl (0, true, omega arith, is)
by_verdict t i n stack No is h = inl (0, false, omega arith, is)
by_verdict t i n stack (GoesOn next) is h = later t i n stack next is (h next)

pub tried_or : (t : Tables) (i n : ℕ) (stack : List ℕ) → Within t i n stack
tried_or t i zero stack = inr tt
tried_or t i (suc n) stack = by_verdict t i n stack (verdict t stack (Some i)) refl (λ next. tried_or t i n next)

module _ {g : Grammar} {start : ℕ} {states : List Lr1State} {t : Tables} (over : IsOver g start states t) {p : Program} {kind : StateType} {action simulate goto : ℕ} (code : HasLookUps p kind states t action simulate goto)
    (eof : ℕ) (own : List ℤ) (i : ℕ) (known : i < length t.names) (so_far : List UserCall) where
  -- a trial that ends
  pub record Ends (w : Written) (stack : List ℕ) (k : ℕ) (b : Bool) : Type 0 where
    pub steps : ℕ
    pub few : steps ≤ 4 * (k + 1)
    pub many : suc k ≤ steps
    pub after : Written
    pub copy : List ℤ
    pub ends : EndsIn p (Eval (Loop (turn kind eof action simulate goto))) (trial_at own i so_far w (map pos stack)) steps (Returning (truth b) (trial_at own i so_far after copy))

  -- and one that is spent after at least so many steps
  pub record Stops (w : Written) (stack : List ℕ) (n : ℕ) : Type 0 where
    pub steps : ℕ
    pub many : n ≤ steps
    pub cut : Cut p (Eval (Loop (turn kind eof action simulate goto))) (trial_at own i so_far w (map pos stack)) steps so_far

  ends_now : (w : Written) (stack : List ℕ) (b : Bool) → Answers over code eof own i known so_far w stack b → Ends w stack 0 b
  ends_now w stack b a = record { steps = suc a.steps; few = omega (arith, a.few); many = omega arith; after = a.after; copy = map pos stack; ends = loops.last_turn a.ends }

  answers_by : (w : Written) (stack : List ℕ) (b : Bool) → Does over code eof own i known so_far w stack (if b then Yes else No) → Answers over code eof own i known so_far w stack b
  answers_by w stack true a = a
  answers_by w stack false a = a

  ends_later : (w : Written) (stack next : List ℕ) (k : ℕ) (b : Bool) (m : Moves over code eof own i known so_far w stack next) → Ends m.after next k b → Ends w stack (suc k) b
  ends_later w stack next k b m e = record { steps = suc (suc (suc (suc e.steps))); few = omega (arith, e.few); many = omega (arith, e.many); after = e.after; copy = e.copy; ends = loops.turn m.ends e.ends }

  moves : (w : Written) (stack next : List ℕ) → IsOnPath states stack → verdict t stack (Some i) ≡ GoesOn next → Moves over code eof own i known so_far w stack next
  moves w stack next path is = subst (Does over code eof own i known so_far w stack) is (does over code eof own i known so_far w stack path)

  pub trial_ends : (w : Written) (stack : List ℕ) (k : ℕ) (b : Bool) → IsOnPath states stack → Tried t i k stack b → Ends w stack k b
  trial_ends w stack zero b path tried = ends_now w stack b (answers_by w stack b (subst (Does over code eof own i known so_far w stack) tried (does over code eof own i known so_far w stack path)))
  trial_ends w stack (suc k) b path tried =
      let m = moves w stack tried.0 path tried.1 in
      ends_later w stack tried.0 k b m (trial_ends m.after tried.0 k b m.path tried.2)

  pub trial_stops : (w : Written) (stack : List ℕ) (n : ℕ) → IsOnPath states stack → Tries t i n stack → Stops w stack n
  trial_stops w stack zero path tries = record { steps = 0; many = omega arith; cut = cut_loop }
  trial_stops w stack (suc n) path tries =
      let m = moves w stack tries.0 path tries.1 in
      let rest = trial_stops m.after tries.0 n m.path tries.2 in
      record { steps = suc (suc (suc (suc rest.steps))); many = omega (arith, rest.many); cut = cut_turns m.ends rest.cut }
