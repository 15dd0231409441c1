-- The machine's moves at an error are the looks of its list.
use Rattle.std.proofs.Common.{◌≡◌, ◌⊎◌, inl, inr, ℕ, zero, suc, ◌+◌, ◌≤◌, Bool, true, false, List, length, Option, Some, None, refl, sym, ap, ◌∙◌, subst, arith}
use Rattle.std.specs.Prelude.{nat_lt, slice_get, if◌then◌else◌}
use Rattle.lp_repr.specs.declared.values.RunItem.{RunItem}
use Rattle.lp_driver.specs.Values.{Text, Token, Spanned, Ending}
use Rattle.lp_machine.specs.declared.config.Config.{Config}
use Rattle.lp_machine.specs.declared.config.Left.TheVariants.{Pulls, Tries, Simulates}
use Rattle.lp_machine.specs.declared.config.Listing.{Listing}
use Rattle.lp_machine.specs.declared.verdict.Verdict.{Verdict}
use Rattle.lp_machine.specs.declared.verdict.Verdict.TheVariants.{Yes, No, GoesOn}
use Rattle.lp_machine.specs.ExpectedList.{verdict}
use Rattle.lp_machine.specs.Move.{move, moves, tried}
use Rattle.lp_machine.specs.Moves.{completes, tries_next}
use Rattle.lp_machine.specs.RunEnds.{ended}
use Rattle.lp_machine.specs.StackMachine as machine
use Rattle.lp_machine.specs.StackMachine.{with_left}
use Rattle.lp_machine.specs.Tables.{Tables}
use Rattle.lp_turn_laws.specs.Alike.Course.{Leads}
use Rattle.lp_turn_laws.specs.Alike.Looks.{Look, with_name, said, look_at, look, looks, IsComplete}
use Rattle.lp_turn_laws.proofs.Alike.Counted.{none, one_then}

-- a list is complete or isn't
complete_or : (t : Tables) (l : Look) → IsComplete t l ⊎ (IsComplete t l → ⊥)
complete_or t l = by l.trial (nat_lt l.terminal (length t.names))
  where
    by : (o : Option (List ℕ)) (b : Bool) → ((o ≡ None) × (b ≡ false)) ⊎ ((o ≡ None) × (b ≡ false) → ⊥)
    by None false = inl (refl, refl)
    by None true = inr (λ h. let e = h.1 in cc)
    by (Some trial) b = inr (λ h. let e = h.0 in cc)

module _ (t : Tables) (items : List RunItem) (c0 : Config) (token : Option (Spanned Token)) (mends : Bool) where
  abbrev c : Config
  c = with_left c0 Pulls

  abbrev listing : List Text → Listing
  listing found = record { token = token; mends = mends; found = found }

  abbrev placed_at : Look → Option (List ℕ) → Config
  placed_at l None = tries_next t items c (listing l.found) l.terminal
  placed_at l (Some trial) = with_left c (Simulates (listing l.found) l.terminal trial)

  -- where the machine is after looks
  abbrev pub placed : Look → Config
  placed l = placed_at l l.trial

  named : (found : List Text) (o : Option Text) → machine.with_name (listing found) o ≡ listing (with_name found o)
  named found None = refl
  named found (Some name) = refl

  -- what a look says
  says : (l : Look) (v : Verdict) → tried t items c (listing l.found) l.terminal v ≡ placed (said t l v)
  says l Yes = ap (λ (x : Listing). tries_next t items c x (l.terminal + 1)) (named l.found (slice_get t.names l.terminal))
  says l No = refl
  says l (GoesOn stack) = refl

  abbrev either : Look → Bool → Config
  either l b = if b then with_left c (Tries (listing l.found) l.terminal) else completes t items c (listing l.found)

  without_trial : (l : Look) → l.trial ≡ None → (b : Bool) → nat_lt l.terminal (length t.names) ≡ b → placed l ≡ either l b
  without_trial l e b is = ap (placed_at l) e ∙ ap (either l) is

  -- a complete list is handed on
  complete_is : (l : Look) → IsComplete t l → placed l ≡ completes t items c (listing l.found)
  complete_is l h = without_trial l h.0 false h.1

  look_kept : (l : Look) → IsComplete t l → look t c.states l ≡ l
  look_kept l h = ap (look_at t c.states l) h.0 ∙ ap (λ b. if b then said t l (verdict t c.states (Some l.terminal)) else l) h.1

  looks_kept : (n : ℕ) (l : Look) → IsComplete t l → looks t c.states n l ≡ l
  looks_kept zero l h = refl
  looks_kept (suc n) l h = ap (looks t c.states n) (look_kept l h) ∙ looks_kept n l h

  -- without one, a look is a move, and the run isn't over
  record Looked (a b : Config) : Type 0 where
    goes : ended a.left ≡ None
    moves_on : move t items a ≡ b

  by_names : (l : Look) → (IsComplete t l → ⊥) → l.trial ≡ None → (b : Bool) → nat_lt l.terminal (length t.names) ≡ b
      → Looked (either l b) (placed (if b then said t l (verdict t c.states (Some l.terminal)) else l))
  by_names l more e true is = record { goes = refl; moves_on = says l (verdict t c.states (Some l.terminal)) }
  by_names l more e false is = absurd (more (e, is))

  by_trial : (l : Look) → (IsComplete t l → ⊥) → (o : Option (List ℕ)) → l.trial ≡ o → Looked (placed_at l o) (placed (look_at t c.states l o))
  by_trial l more None e = by_names l more e (nat_lt l.terminal (length t.names)) refl
  by_trial l more (Some trial) e = record { goes = refl; moves_on = says l (verdict t trial (Some l.terminal)) }

  looked : (l : Look) → (IsComplete t l → ⊥) → Looked (placed l) (placed (look t c.states l))
  looked l more = by_trial l more l.trial refl

  -- where looks complete a list, so many moves come to it
  pub record Completed (n : ℕ) (l : Look) : Type 0 where
    pub count : ℕ
    pub complete : IsComplete t (looks t c.states count l)
    pub same : looks t c.states count l ≡ looks t c.states n l
    pub leads : Leads t items (placed l) (completes t items c (listing (looks t c.states count l).found)) count

  at_once : (n : ℕ) (l : Look) → IsComplete t l → Completed n l
  at_once n l h = record {
    count = 0;
    complete = h;
    same = sym (looks_kept n l h);
    leads = subst (λ (b : Config). Leads t items (placed l) b 0) (complete_is l h) (none t items (placed l));
  }

  one_look : (n : ℕ) (l : Look) → (IsComplete t l → ⊥) → Completed n (look t c.states l) → Completed (suc n) l
  one_look n l more r =
      let m = looked l more in
      record { count = suc r.count; complete = r.complete; same = r.same; leads = one_then t items (placed l) (placed (look t c.states l)) _ r.count m.goes m.moves_on r.leads }

  either_way : (n : ℕ) (l : Look) → Completed n (look t c.states l) → IsComplete t l ⊎ (IsComplete t l → ⊥) → Completed (suc n) l
  either_way n l r (inl now) = at_once (suc n) l now
  either_way n l r (inr more) = one_look n l more r

  pub completed : (n : ℕ) (l : Look) → IsComplete t (looks t c.states n l) → Completed n l
  completed zero l h = at_once zero l h
  completed (suc n) l h = either_way n l (completed n (look t c.states l) h) (complete_or t l)

  -- the run isn't over before the list is complete
  abbrev ListsBefore : ℕ → Look → Type 0
  ListsBefore k l = (j : ℕ) × (j ≤ k) × IsComplete t (looks t c.states j l)

  abbrev EndsAt : ℕ → Config → Ending → Type 0
  EndsAt k a e = ended (moves t items k a).left ≡ Some e

  one_before : (k : ℕ) (l : Look) (e : Ending) → (EndsAt k (placed (look t c.states l)) e → ListsBefore k (look t c.states l)) → EndsAt (suc k) (placed l) e → IsComplete t l ⊎ (IsComplete t l → ⊥) → ListsBefore (suc k) l
  one_before k l e rest h (inl now) = (0, omega arith, now)
  one_before k l e rest h (inr more) =
      let r = rest (ap (λ (x : Config). ended (moves t items k x).left) (sym (looked l more).moves_on) ∙ h) in
      let le : r.0 ≤ k = r.1 in
      (suc r.0, omega arith, r.2)

  none_before : (l : Look) (e : Ending) → EndsAt 0 (placed l) e → IsComplete t l ⊎ (IsComplete t l → ⊥) → ListsBefore 0 l
  none_before l e h (inl now) = (0, omega arith, now)
  none_before l e h (inr more) = let g = (looked l more).goes in cc

  pub ends_complete : (k : ℕ) (l : Look) (e : Ending) → EndsAt k (placed l) e → ListsBefore k l
  ends_complete zero l e h = none_before l e h (complete_or t l)
  ends_complete (suc k) l e h = one_before k l e (ends_complete k (look t c.states l) e) h (complete_or t l)
