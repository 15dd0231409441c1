-- Expected lists with tried terminals.
use Rattle.std.proofs.Common.{◌≡◌, ℕ, zero, suc, ◌+◌, ◌<◌, ◌≤◌, Bool, true, false, List, [], ◌∷◌, ◌++◌, length, drop, Option, Some, None, refl, sym, ap, ◌∙◌, subst, append_assoc, arith}
use Rattle.std.specs.Prelude.{slice_get, nat_lt, if◌then◌else◌}
use Rattle.std.proofs.lemmas.Bool.{le-ltb}
use Rattle.std.proofs.lemmas.List.{append-nil}
use Rattle.std.proofs.lemmas.Bool.Decides.{nat_tests}
use Rattle.lp_repr.specs.declared.values.RunItem.{RunItem}
use Rattle.lp_driver.specs.Values.{Text}
use Rattle.lp_driver.specs.DriverState.{last_of}
use Rattle.lp_machine.specs.declared.lookup.Act.{Act}
use Rattle.lp_machine.specs.declared.lookup.Act.TheVariants.{Shift, ReduceBy, NoAction}
use Rattle.lp_machine.specs.declared.config.Listing.{Listing}
use Rattle.lp_machine.specs.declared.config.Left.TheVariants.{Pulls, Simulates, Tries}
use Rattle.lp_machine.specs.declared.config.Config.{Config}
use Rattle.lp_machine.specs.declared.verdict.Verdict.{Verdict}
use Rattle.lp_machine.specs.declared.verdict.Verdict.TheVariants.{Yes, No, GoesOn}
use Rattle.lp_machine.specs.Tables.{Tables}
use Rattle.lp_machine.specs.ExpectedList.{action_on, has_action, verdict, verdict_by, says_after, names_with_action}
use Rattle.lp_machine.specs.ExpectedLaw.{IsPartOf, Neither, Both, Second, said_of, names_tried, TriedHaveActions, MovesTryNames}
use Rattle.lp_machine.specs.StackMachine.{with_left, with_name}
use Rattle.lp_machine.specs.Moves.{tries_next, completes}
use Rattle.lp_machine.specs.Move.{tried, move, moves}
use Rattle.lp_machine.proofs.MoreMoves.{moves_after}

-- the rest of a list from one of its places
pub at_place : {A : Type 0} (xs : List A) (i : ℕ) (x : A) (rest : List A) → drop i xs ≡ x ∷ rest → (slice_get xs i ≡ Some x) × (drop (i + 1) xs ≡ rest) × (i < length xs)
at_place [] zero x rest h = cc
at_place [] (suc i) x rest h = cc
at_place (y ∷ xs) zero x rest h =
    let e : y ≡ x = cc in let r : xs ≡ rest = cc in (ap Some e, r, omega arith)
at_place (y ∷ xs) (suc i) x rest h =
    let r = at_place xs i x rest h in
    let e : suc i + 1 ≡ suc (i + 1) = omega arith in
    (r.0, ap (λ n. drop n (y ∷ xs)) e ∙ r.1, omega (arith, r.2))

pub past_place : {A : Type 0} (xs : List A) (i : ℕ) → drop i xs ≡ [] → length xs ≤ i
past_place [] i h = omega arith
past_place (y ∷ xs) zero h = cc
past_place (y ∷ xs) (suc i) h = let r = past_place xs i h in omega (arith, r)

pub chosen : {A : Type 0} (b c : Bool) (x y : A) → b ≡ c → (if b then x else y) ≡ (if c then x else y)
chosen b c x y e = ap (λ v. if v then x else y) e

pub within : (a b : ℕ) → a < b → nat_lt a b ≡ true
within a b h = grind (arith, nat_tests)

module _ (t : Tables) where
  -- a trial that says yes begins with an action
  begins : (n i : ℕ) (stack : List ℕ) (act : Act) → says_after t n (Some i) (verdict_by t stack act) ≡ Yes → has_action act ≡ true
  begins n i stack NoAction h = cc
  begins n i stack (Shift to) h = refl
  begins n i stack (ReduceBy p) h = refl

  -- one more name
  one_more : (name : Text) (b : Bool) (found names : List Text) → IsPartOf found names → IsPartOf found (if b then name ∷ names else names)
  one_more name true found names part = Second name part
  one_more name false found names part = part

  part_by : (n i : ℕ) (stack : List ℕ) (name : Text) (v : Verdict) (tried : Option (List Text)) (found names : List Text)
      → (says_after t n (Some i) (verdict t stack (Some i)) ≡ v) → said_of name v tried ≡ Some found → ((l : List Text) → tried ≡ Some l → IsPartOf l names)
      → IsPartOf found (if has_action (action_on t (last_of stack) (Some i)) then name ∷ names else names)
  part_by n i stack name Yes None found names says h part = cc
  part_by n i stack name Yes (Some l) found names says h part =
      let e : name ∷ l ≡ found = cc in
      subst (λ b. IsPartOf found (if b then name ∷ names else names)) (sym (begins n i stack (action_on t (last_of stack) (Some i)) says)) (subst (λ f. IsPartOf f (name ∷ names)) e (Both name (part l refl)))
  part_by n i stack name No tried found names says h part = one_more name (has_action (action_on t (last_of stack) (Some i))) found names (part found h)
  part_by n i stack name (GoesOn next) tried found names says h part = cc

  pub is_part : (n i : ℕ) (stack : List ℕ) (names found : List Text) → names_tried t n stack i names ≡ Some found → IsPartOf found (names_with_action t (last_of stack) i names)
  is_part n i stack [] found h =
      let e : [] ≡ found = cc in subst (λ f. IsPartOf f []) e Neither
  is_part n i stack (name ∷ names) found h =
      part_by n i stack name (says_after t n (Some i) (verdict t stack (Some i))) (names_tried t n stack (i + 1) names) found (names_with_action t (last_of stack) (i + 1) names) refl h (λ l e. is_part n (i + 1) stack names l e)

  module _ (items : List RunItem) (c0 : Config) where
    abbrev c : Config
    c = with_left c0 Pulls

    -- a trial that ends is made move by move
    yes_leads : (n i : ℕ) (name : Text) (listing : Listing) (v : Verdict) → slice_get t.names i ≡ Some name → says_after t n (Some i) v ≡ Yes
        → (m : ℕ) × (moves t items m (tried t items c listing i v) ≡ tries_next t items c (with_name listing (Some name)) (i + 1))
    yes_leads n i name listing Yes at says = (0, ap (λ o. tries_next t items c (with_name listing o) (i + 1)) at)
    yes_leads n i name listing No at says = cc
    yes_leads zero i name listing (GoesOn stack) at says = cc
    yes_leads (suc n) i name listing (GoesOn stack) at says =
        let r = yes_leads n i name listing (verdict t stack (Some i)) at says in (suc r.0, r.1)

    no_leads : (n i : ℕ) (listing : Listing) (v : Verdict) → says_after t n (Some i) v ≡ No
        → (m : ℕ) × (moves t items m (tried t items c listing i v) ≡ tries_next t items c listing (i + 1))
    no_leads n i listing Yes says = cc
    no_leads n i listing No says = (0, refl)
    no_leads zero i listing (GoesOn stack) says = cc
    no_leads (suc n) i listing (GoesOn stack) says =
        let r = no_leads n i listing (verdict t stack (Some i)) says in (suc r.0, r.1)

    abbrev Lists : ℕ → Listing → List Text → Type 0
    Lists i listing found =
        (m : ℕ) × (moves t items m (tries_next t items c listing i) ≡ completes t items c (record listing { found = listing.found ++ found }))

    -- after the trial of one terminal
    one_listed : (n i : ℕ) (listing : Listing) (name : Text) (v : Verdict) (tried : Option (List Text)) (found : List Text)
        → i < length t.names → slice_get t.names i ≡ Some name → says_after t n (Some i) (verdict t c.states (Some i)) ≡ v → said_of name v tried ≡ Some found
        → ((listing : Listing) (l : List Text) → tried ≡ Some l → Lists (i + 1) listing l) → Lists i listing found
    one_listed n i listing name Yes None found lt at says h more = cc
    one_listed n i listing name Yes (Some l) found lt at says h more =
        let r = yes_leads n i name listing (verdict t c.states (Some i)) at says in
        let s = more (with_name listing (Some name)) l refl in
        let e : name ∷ l ≡ found = cc in
        let begin : tries_next t items c listing i ≡ with_left c (Tries listing i) = chosen (nat_lt i (length t.names)) true _ _ (within i (length t.names) lt) in (
          suc (r.0 + s.0),
          ap (moves t items (suc (r.0 + s.0))) begin ∙ moves_after t items r.0 s.0 _ ∙ ap (moves t items s.0) r.1 ∙ s.1 ∙ ap (λ f. completes t items c (record listing { found = f })) (append_assoc listing.found (name ∷ []) l ∙ ap (λ f. listing.found ++ f) e),
        )
    one_listed n i listing name No tried found lt at says h more =
        let r = no_leads n i listing (verdict t c.states (Some i)) says in
        let s = more listing found h in
        let begin : tries_next t items c listing i ≡ with_left c (Tries listing i) = chosen (nat_lt i (length t.names)) true _ _ (within i (length t.names) lt) in
        (suc (r.0 + s.0), ap (moves t items (suc (r.0 + s.0))) begin ∙ moves_after t items r.0 s.0 _ ∙ ap (moves t items s.0) r.1 ∙ s.1)
    one_listed n i listing name (GoesOn next) tried found lt at says h more = cc

    pub all_listed : (n i : ℕ) (listing : Listing) (names found : List Text) → drop i t.names ≡ names → names_tried t n c.states i names ≡ Some found → Lists i listing found
    all_listed n i listing [] found at h =
        let e : [] ≡ found = cc in
        (0, chosen (nat_lt i (length t.names)) false _ _ (le-ltb i (length t.names) (past_place t.names i at)) ∙ ap (λ f. completes t items c (record listing { found = f })) (sym (append-nil listing.found) ∙ ap (λ f. listing.found ++ f) e))
    all_listed n i listing (name ∷ names) found at h =
        let place = at_place t.names i name names at in
        one_listed n i listing name (says_after t n (Some i) (verdict t c.states (Some i))) (names_tried t n c.states (i + 1) names) found place.2 place.0 refl h (λ other l e. all_listed n (i + 1) other names l place.1 e)

pub tried_have_actions : TriedHaveActions
tried_have_actions t n stack found h = is_part t n 0 stack t.names found h

pub moves_try_names : MovesTryNames
moves_try_names t items n c listing found h = all_listed t items c n 0 listing t.names found refl h
