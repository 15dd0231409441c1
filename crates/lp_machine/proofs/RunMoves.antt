-- Moves one by one, and moves of a run that is over.
use Rattle.std.proofs.Common.{◌≡◌, ℕ, zero, suc, ◌+◌, ◌-◌, ◌≤◌, Bool, true, false, List, Option, Some, None, refl, sym, ap, ◌∙◌, subst, arith}
use Rattle.std.specs.Prelude.{is_some}
use Rattle.lp_repr.specs.declared.values.RunItem.{RunItem}
use Rattle.lp_repr.specs.declared.values.Outcome.{Outcome}
use Rattle.lp_driver.specs.Values.{Ending}
use Rattle.lp_machine.specs.declared.config.Left.{Left}
use Rattle.lp_machine.specs.declared.config.Left.TheVariants.{Pulls, Shifts, Calls, Reduces, Tries, Simulates, Looks, Checks, Drops, Over}
use Rattle.lp_machine.specs.declared.config.Config.{Config}
use Rattle.lp_machine.specs.Tables.{Tables}
use Rattle.lp_machine.specs.StackMachine.{with_left}
use Rattle.lp_machine.specs.Move.{move, moves, makes}
use Rattle.lp_machine.specs.RunEnds.{ended, TellsEnd}
use Rattle.lp_machine.specs.MachineRun.{moves_made, made_before, Stepped}

module _ (t : Tables) (items : List RunItem) where
  -- a run that is over stays so
  stays : (c : Config) (left : Left) (e : Ending) → ended left ≡ Some e → makes t items (with_left c Pulls) left ≡ with_left c left
  stays c (Over result) e h = refl
  stays c Pulls e h = cc
  stays c (Shifts to) e h = cc
  stays c (Calls rule calls result) e h = cc
  stays c (Reduces rule value) e h = cc
  stays c (Tries listing i) e h = cc
  stays c (Simulates listing i stack) e h = cc
  stays c (Looks places) e h = cc
  stays c (Checks place to stack) e h = cc
  stays c Drops e h = cc

  pub over_stays : (m : ℕ) (c : Config) (e : Ending) → ended c.left ≡ Some e → moves t items m c ≡ c
  over_stays zero c e h = refl
  over_stays (suc m) c e h = ap (moves t items m) (stays c c.left e h) ∙ over_stays m c e h

  pub over_makes_none : (m : ℕ) (c : Config) (e : Ending) → ended c.left ≡ Some e → moves_made t items m c ≡ 0
  over_makes_none zero c e h = refl
  over_makes_none (suc m) c e h = ap (λ o. made_before t items o (moves_made t items m (move t items c))) h

  -- one move more
  pub one_more : (made : ℕ) (c0 c c' : Config) → ((k : ℕ) → moves t items (made + k) c0 ≡ moves t items k c) → c' ≡ move t items c
      → (k : ℕ) → moves t items (made + 1 + k) c0 ≡ moves t items k c'
  one_more made c0 c c' h e k =
      let s : made + 1 + k ≡ made + suc k = omega arith in
      ap (λ n. moves t items n c0) s ∙ h (suc k) ∙ ap (moves t items k) (sym e)

  none_from : (o : Option Ending) → is_some o ≡ false → o ≡ None
  none_from None h = refl
  none_from (Some e) h = cc

  some_from : (o : Option Ending) → is_some o ≡ true → (e : Ending) × (o ≡ Some e)
  some_from None h = cc
  some_from (Some e) h = (e, refl)

  pub one_counted : (made : ℕ) (c0 c c' : Config) → ((k : ℕ) → moves_made t items (made + k) c0 ≡ made + moves_made t items k c) → is_some (ended c.left) ≡ false → c' ≡ move t items c
      → (k : ℕ) → moves_made t items (made + 1 + k) c0 ≡ made + 1 + moves_made t items k c'
  one_counted made c0 c c' h over e k =
      let s : made + 1 + k ≡ made + suc k = omega arith in
      let a : made + (moves_made t items k (move t items c) + 1) ≡ made + 1 + moves_made t items k (move t items c) = omega arith in
      ap (λ n. moves_made t items n c0) s ∙ h (suc k) ∙ ap (λ o. made + made_before t items o (moves_made t items k (move t items c))) (none_from (ended c.left) over) ∙ a
      ∙ ap (λ d. made + 1 + moves_made t items k d) (sym e)

  -- where a run is over, the moves that are left change nothing
  pub over_here : (made most : ℕ) (c0 c : Config) → made ≤ most → ((k : ℕ) → moves t items (made + k) c0 ≡ moves t items k c) → ((k : ℕ) → moves_made t items (made + k) c0 ≡ made + moves_made t items k c)
      → is_some (ended c.left) ≡ true → (c ≡ moves t items most c0) × (made ≡ moves_made t items most c0)
  over_here made most c0 c le same count over =
      let x = some_from (ended c.left) over in
      let m : most ≡ made + (most - made) = omega arith in
      let z : made + 0 ≡ made = omega arith in (
        sym (ap (λ n. moves t items n c0) m ∙ same (most - made) ∙ over_stays (most - made) c x.0 x.1),
        sym (ap (λ n. moves_made t items n c0) m ∙ count (most - made) ∙ ap (λ j. made + j) (over_makes_none (most - made) c x.0 x.1) ∙ z),
      )

  -- and where all moves are made
  pub all_made : (made most : ℕ) (c0 c : Config) → made ≡ most → ((k : ℕ) → moves t items (made + k) c0 ≡ moves t items k c) → ((k : ℕ) → moves_made t items (made + k) c0 ≡ made + moves_made t items k c)
      → (c ≡ moves t items most c0) × (most ≡ moves_made t items most c0)
  all_made made most c0 c e same count =
      let z : made + 0 ≡ most = omega arith in
      let y : made + 0 ≡ made = omega arith in
      (sym (ap (λ n. moves t items n c0) (sym z) ∙ same 0), sym (ap (λ n. moves_made t items n c0) (sym z) ∙ count 0 ∙ y ∙ e))

  -- a step from a configuration
  pub step_stands : (o : Option Outcome) (held : Option Config) (c next : Config) (after : Option Config) → held ≡ Some c → after ≡ Some next → next ≡ move t items c → TellsEnd o (ended next.left)
      → Stepped o (record { tables = t; items = items; config = held }) held (record { tables = t; items = items; config = after })
  step_stands o None c next after held a n e = cc
  step_stands o (Some d) c next after held a n e =
      let same : c ≡ d = cc in
      let m : next ≡ move t items d = n ∙ ap (move t items) same in
      (ap (λ (x : Option Config). record { tables = t; items = items; config = x }) (a ∙ ap Some m), subst (λ (x : Config). TellsEnd o (ended x.left)) m e)
