-- The machine's moves at an error come to the longest prefix that serves, with the least number of
-- dropped tokens.
use Rattle.std.proofs.Common.{◌≡◌, ℕ, zero, suc, ◌+◌, ◌<◌, ◌≤◌, List, [], ◌∷◌, ◌++◌, length, take, Option, Some, None, Err, refl, sym, ap, ◌∙◌, subst, ◌⊎◌, inl, inr, arith}
use Rattle.std.specs.Prelude.{slice_get}
use Rattle.std.proofs.lemmas.Bool.{cases_lt}
use Rattle.lp_repr.specs.declared.values.RunItem.{RunItem}
use Rattle.lp_machine.specs.declared.config.Lookahead.{Lookahead}
use Rattle.lp_machine.specs.declared.config.Mending.{Mending}
use Rattle.lp_machine.specs.declared.config.Left.TheVariants.{Pulls, Looks}
use Rattle.lp_machine.specs.declared.config.Config.{Config}
use Rattle.lp_machine.specs.declared.verdict.Verdict.{Verdict}
use Rattle.lp_machine.specs.declared.verdict.Verdict.TheVariants.{Yes, No, GoesOn}
use Rattle.lp_machine.specs.Tables.{Tables}
use Rattle.lp_machine.specs.ExpectedList.{verdict, says_after}
use Rattle.lp_machine.specs.StackMachine.{with_left, over, lookahead_terminal}
use Rattle.lp_machine.specs.Moves.{looks}
use Rattle.lp_machine.specs.Move.{mends, drops_or, dropping, looks_below, looks_by, looks_at, checked, move, moves}
use Rattle.lp_machine.specs.RecoveryLaw.{error_shift, trial_of, says_with, prefix_says, NoneServes, IsLongest, Recovers, Mends, Stands, Drops, MovesRecover}
use Rattle.lp_machine.proofs.MoreMoves.{Leads, then_leads}

module _ (t : Tables) (items : List RunItem) where
  after_move : (a c : Config) → Leads t items (move t items a) c → Leads t items a c
  after_move a c f = (suc f.0, f.1)

  module _ (c0 : Config) where
    abbrev c : Config
    c = with_left c0 Pulls

    -- a trial that ends is made move by move
    yes_mends : (n place to : ℕ) (v : Verdict) → says_after t n (lookahead_terminal c.lookahead) v ≡ Yes → Leads t items (checked t items c place to v) (mends t items c c.mending place to)
    yes_mends n place to Yes says = (0, refl)
    yes_mends n place to No says = cc
    yes_mends zero place to (GoesOn stack) says = cc
    yes_mends (suc n) place to (GoesOn stack) says = after_move (checked t items c place to (GoesOn stack)) _ (yes_mends n place to (verdict t stack (lookahead_terminal c.lookahead)) says)

    no_looks : (n place to : ℕ) (v : Verdict) → says_after t n (lookahead_terminal c.lookahead) v ≡ No → Leads t items (checked t items c place to v) (looks_below t items c place)
    no_looks n place to Yes says = cc
    no_looks n place to No says = (0, refl)
    no_looks zero place to (GoesOn stack) says = cc
    no_looks (suc n) place to (GoesOn stack) says = after_move (checked t items c place to (GoesOn stack)) _ (no_looks n place to (verdict t stack (lookahead_terminal c.lookahead)) says)

    passes_by : (n place : ℕ) (o : Option ℕ) → says_with t n c place o ≡ No → Leads t items (looks_by t items c place o) (looks_below t items c place)
    passes_by n place None says = (0, refl)
    passes_by n place (Some to) says = no_looks n place to (verdict t (take (place + 1) c.states ++ to ∷ []) (lookahead_terminal c.lookahead)) says

    -- a prefix that doesn't serve is passed
    passes : (n place : ℕ) → prefix_says t n c place ≡ No → Leads t items (with_left c (Looks (suc place))) (looks_below t items c place)
    passes n place says = after_move (with_left c (Looks (suc place))) _ (passes_by n place (error_shift t c place) says)

    takes_by : (n place to : ℕ) (o : Option ℕ) → o ≡ Some to → says_with t n c place o ≡ Yes → Leads t items (looks_by t items c place o) (mends t items c c.mending place to)
    takes_by n place to None is says = cc
    takes_by n place to (Some other) is says =
        let e : other ≡ to = cc in
        subst (λ x. Leads t items (looks_by t items c place (Some other)) (mends t items c c.mending place x)) e (yes_mends n place other (verdict t (take (place + 1) c.states ++ other ∷ []) (lookahead_terminal c.lookahead)) says)

    -- one that serves is taken
    takes : (n place to : ℕ) → error_shift t c place ≡ Some to → prefix_says t n c place ≡ Yes → Leads t items (with_left c (Looks (suc place))) (mends t items c c.mending place to)
    takes n place to is says = after_move (with_left c (Looks (suc place))) _ (takes_by n place to (error_shift t c place) is says)

    none_below : (n k : ℕ) → NoneServes t n c k → Leads t items (looks_below t items c k) (drops_or t items c c.mending c.lookahead)
    none_below n zero none = (0, refl)
    none_below n (suc k) none =
        then_leads t items (looks_below t items c (suc k)) (looks_below t items c k) _ (passes n k (none k (omega arith))) (none_below n k (λ place lt. none place (omega arith)))

    longest_or : (n k place to : ℕ) → IsLongest t n c (suc k) place → error_shift t c place ≡ Some to → (IsLongest t n c k place → Leads t items (looks_below t items c k) (mends t items c c.mending place to))
        → (place < k) ⊎ (k ≤ place) → Leads t items (looks_below t items c (suc k)) (mends t items c c.mending place to)
    longest_or n k place to longest is more (inl lt) =
        then_leads t items (looks_below t items c (suc k)) (looks_below t items c k) _ (passes n k (longest.2 k lt (omega arith)))
        (more (lt, longest.1, λ longer above below. longest.2 longer above (omega arith)))
    longest_or n k place to longest is more (inr le) =
        let h = longest.0 in
        let e : place ≡ k = omega arith in
        subst (λ x. Leads t items (with_left c (Looks (suc x))) (mends t items c c.mending place to)) e (takes n place to is longest.1)

    longest_below : (n k place to : ℕ) → IsLongest t n c k place → error_shift t c place ≡ Some to → Leads t items (looks_below t items c k) (mends t items c c.mending place to)
    longest_below n zero place to longest is = let h = longest.0 in absurd (omega arith)
    longest_below n (suc k) place to longest is = longest_or n k place to longest is (λ less. longest_below n k place to less is) (cases_lt place k)

    -- with no prefix at all one move finds that
    pub begins : (k : ℕ) → Leads t items (with_left c (Looks k)) (looks_below t items c k)
    begins zero = after_move (with_left c (Looks zero)) _ (0, refl)
    begins (suc k) = (0, refl)

  leads_to : (n : ℕ) (c : Config) (d : ℕ) (end : Config) → Recovers t items n c d end → Leads t items (looks t items c) end
  leads_to n _ _ _ (Mends c place to longest is) =
      then_leads t items (looks t items c) (looks_below t items (with_left c Pulls) (length c.states)) _ (begins c (length c.states)) (longest_below c n (length c.states) place to longest is)
  leads_to n _ _ _ (Stands c mending none is ends) =
      let stands : drops_or t items (with_left c Pulls) c.mending c.lookahead ≡ over (with_left c Pulls) (Err mending.error) = ap (λ l. drops_or t items (with_left c Pulls) c.mending l) ends ∙ ap (λ o. drops_or t items (with_left c Pulls) o None) is in
      let f = then_leads t items (looks t items c) (looks_below t items (with_left c Pulls) (length c.states)) _ (begins c (length c.states)) (none_below c n (length c.states) none) in
      (f.0, f.1 ∙ stands)
  leads_to n _ _ _ (Drops c next end d' l none is after more) =
      let drops : drops_or t items (with_left c Pulls) c.mending c.lookahead ≡ drops_or t items (with_left c Pulls) c.mending (Some l) = ap (λ o. drops_or t items (with_left c Pulls) c.mending o) is in
      let f = then_leads t items (looks t items c) (looks_below t items (with_left c Pulls) (length c.states)) _ (begins c (length c.states)) (none_below c n (length c.states) none) in
      let g = leads_to n next d' end more in
      then_leads t items (looks t items c) (drops_or t items (with_left c Pulls) c.mending (Some l)) end (f.0, f.1 ∙ drops)
      (after_move (drops_or t items (with_left c Pulls) c.mending (Some l)) end (g.0, ap (moves t items g.0) after ∙ g.1))

pub moves_recover : MovesRecover
moves_recover t items n c d end r = leads_to t items n c d end r
