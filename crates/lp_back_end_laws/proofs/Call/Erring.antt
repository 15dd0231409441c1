-- The machine at an error: it makes the list by trials, and then the run is over.
use Rattle.std.proofs.Common.{◌≡◌, ℕ, ◌≤◌, false, List, [], Option, Some, None, Err, refl, sym, ap, ◌∙◌, subst}
use Rattle.std.specs.Prelude.{IsSome}
use Rattle.lp_repr.specs.declared.values.RunItem.{RunItem}
use Rattle.lp_driver.specs.declared.answers.Expecting.{Expecting}
use Rattle.lp_driver.specs.declared.answers.Expecting.TheVariants.{Trial}
use Rattle.lp_driver.specs.Values.{Token, Spanned, Ending}
use Rattle.lp_machine.specs.declared.config.Config.{Config}
use Rattle.lp_machine.specs.declared.config.Left.TheVariants.{Pulls}
use Rattle.lp_machine.specs.declared.config.Listing.{Listing}
use Rattle.lp_machine.specs.Move.{moves}
use Rattle.lp_machine.specs.Moves.{completes, tries_next, errs_by, errs}
use Rattle.lp_machine.specs.RunEnds.{ended}
use Rattle.lp_machine.specs.StackMachine.{with_left, over, failure_at}
use Rattle.lp_machine.specs.Tables.{Tables}
use Rattle.lp_turn_laws.specs.Alike.Course.{Leads}
use Rattle.lp_turn_laws.specs.Alike.Looks.{Look, begun, looks, IsComplete}
use Rattle.lp_turn_laws.proofs.Alike.Looked.{placed, completed, ends_complete}
use Rattle.lp_back_end_laws.proofs.Call.Moves.{left_aside, tries_set, completes_is}

module _ (t : Tables) (items : List RunItem) (trial : t.expecting ≡ Trial) (c : Config) (token : Option (Spanned Token)) (stands : c ≡ errs t items c token false) where
  abbrev listing : Listing
  listing = record { token = token; mends = false; found = [] }

  -- no terminal is tried yet
  begins : placed t items c token false begun ≡ c
  begins = left_aside (λ c. tries_next t items c listing 0) (tries_set t items listing refl 0) c Pulls ∙ ap (λ (e : Expecting). errs_by t items e c token false) (sym trial) ∙ sym stands

  -- looks complete the list, and the run is over with it
  pub record Erred (n : ℕ) : Type 0 where
    pub count : ℕ
    pub same : looks t c.states count begun ≡ looks t c.states n begun
    pub leads : Leads t items c (over c (Err (failure_at c.last token (looks t c.states n begun).found))) count

  pub erred : (n : ℕ) → IsComplete t (looks t c.states n begun) → Erred n
  erred n complete =
      let r = completed t items c token false n begun complete in
      let full : Listing = record { token = token; mends = false; found = (looks t c.states r.count begun).found } in
      let from : Leads t items c (completes t items (with_left c Pulls) full) r.count = subst (λ (a : Config). Leads t items a (completes t items (with_left c Pulls) full) r.count) begins r.leads in
      let to : Leads t items c (over c (Err (failure_at c.last token full.found))) r.count = subst (λ (b : Config). Leads t items c b r.count) (completes_is t items full refl (with_left c Pulls)) from in
      record { count = r.count; same = r.same; leads = subst (λ (l : Look). Leads t items c (over c (Err (failure_at c.last token l.found))) r.count) r.same to }

  -- and it isn't over before that
  pub erred_late : (k : ℕ) → IsSome (ended (moves t items k c).left) → (n : ℕ) × (n ≤ k) × IsComplete t (looks t c.states n begun)
  erred_late k h = by (ended (moves t items k c).left) refl h
    where
      by : (o : Option Ending) → ended (moves t items k c).left ≡ o → IsSome o → (n : ℕ) × (n ≤ k) × IsComplete t (looks t c.states n begun)
      by None e h = cc
      by (Some end) e h = ends_complete t items c token false k begun end (ap (λ (x : Config). ended (moves t items k x).left) begins ∙ e)
