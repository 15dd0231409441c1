-- The cases of a state function's match on the lookahead choose the body of the first arm that fits.
use Rattle.std.proofs.Common.{◌≡◌, ℕ, suc, ◌+◌, Bool, true, false, cond, ◌||◌, List, [], ◌∷◌, ◌++◌, Option, Some, None, slice_get, refl, sym, ap, ◌∙◌, subst, arith, ◌⊎◌, ⊎_elim, inl, inr}
use Rattle.std.specs.List.{list_any}
use Rattle.std.specs.Option.{option_map}
use Rattle.lp_repr.specs.declared.lr1.Lr1State.{Lr1State}
use Rattle.lp_repr.specs.declared.lr1.Token.{Token}
use Rattle.lp_repr.specs.declared.lr1.Token.TheVariants.{Terminal, Eof}
use Rattle.lp_repr.specs.declared.repr.Grammar.{Grammar}
use Rattle.lp_driver.specs.Values.{Spanned}
use Rattle.lp_driver.specs.Values as values
use Rattle.lp_core.specs.declared.expr.Case.{Case}
use Rattle.lp_core.specs.CaseMeaning.{fits, chosen, chosen_if, last_body}
use Rattle.lp_core.specs.Store.{Program}
use Rattle.lp_machine.specs.Lookup.{act_at, terminal_in}
use Rattle.lp_machine.specs.declared.lookup.KnownTerminal.{KnownTerminal}
use Rattle.lp_machine.specs.declared.lookup.Act.TheVariants.{NoAction}
use Rattle.lp_machine.specs.Tables.{Tables}
use Rattle.lp_turn_laws.specs.Paths.Over.{IsOver}
use Rattle.lp_back_end_laws.specs.Call.Standing.{look_val}
use Rattle.lp_back_end_laws.specs.Call.Arms.{Arm, IsMatchedOnce, arms_of, is_seen, taken}
use Rattle.lp_back_end_laws.specs.Call.Arms as arms
use Rattle.lp_back_end_laws.specs.Call.Cases.{Sought, is_sought, LooksFor, for_form, for_end, LookForEach, AreCasesOf, AreSoughtBy, Runs, an_arm, the_last}
use Rattle.lp_back_end_laws.proofs.Call.Arms.{arm_at_end, arm_on_token, no_arm_unknown}
use Rattle.lp_back_end_laws.proofs.Call.ShiftArms.{form_fits}

abbrev pub token_of : Option (Spanned values.Token) → Option values.Token
token_of look = option_map (λ x. x.1) look

module _ (p : Program) where
  -- ---- one case after another
  case_fits : (look : Option (Spanned values.Token)) (body : ℕ) (s : Sought) (c : Case) → LooksFor p body s c → fits p c (look_val look) ≡ Some (is_sought (token_of look) s)
  case_fits None body _ _ (for_form text form at) = refl
  case_fits (Some x) body _ _ (for_form text form at) = form_fits p text body form x.0 x.2 x.1 at
  case_fits None body _ _ for_end = refl
  case_fits (Some x) body _ _ for_end = refl

  case_body : (body : ℕ) (s : Sought) (c : Case) → LooksFor p body s c → c.body ≡ body
  case_body body _ _ (for_form text form at) = refl
  case_body body _ _ for_end = refl

  module _ (look : Option (Spanned values.Token)) (bodies : ℕ) where
    abbrev goes : List Case → Option ℕ
    goes cases = chosen p cases bodies (look_val look)

    -- the cases of one arm
    each_chosen : (body : ℕ) (ss : List Sought) (cs rest : List Case) → LookForEach p body ss cs → goes (cs ++ rest) ≡ cond (list_any (is_sought (token_of look)) ss) (Some body) (goes rest)
    each_chosen body [] [] rest h = refl
    each_chosen body [] (c ∷ cs) rest h = absurd h
    each_chosen body (s ∷ ss) [] rest h = absurd h
    each_chosen body (s ∷ ss) (c ∷ cs) rest h =
        ap (chosen_if c.body (goes (cs ++ rest))) (case_fits look body s c h.0)
        ∙ ap (λ k. chosen_if k (goes (cs ++ rest)) (Some (is_sought (token_of look) s))) (case_body body s c h.0)
        ∙ ap (λ o. chosen_if body o (Some (is_sought (token_of look) s))) (each_chosen body ss cs rest h.1)
        ∙ by (is_sought (token_of look) s)
      where
        by : (b : Bool) → chosen_if body (cond (list_any (is_sought (token_of look)) ss) (Some body) (goes rest)) (Some b) ≡ cond (b || list_any (is_sought (token_of look)) ss) (Some body) (goes rest)
        by true = refl
        by false = refl

    -- an arm's body from a number on, or the last
    abbrev Ends : (Token → Bool) → List Arm → ℕ → Option ℕ → Type 0
    Ends test rows k o = ((i : ℕ) × (arm : Arm) × (slice_get rows i ≡ Some arm) × (o ≡ Some (k + i)) × (arm.1 ≡ taken test rows)) ⊎ ((o ≡ last_body bodies) × (taken test rows ≡ NoAction))

    -- the arms in turn
    arms_chosen : (test : Token → Bool) (k : ℕ) (gs : List (List Sought)) (rows : List Arm) (cases : List Case) → AreCasesOf p k gs cases → AreSoughtBy test (token_of look) gs rows
        → Ends test rows k (goes cases)
    arms_chosen test k [] [] cases h s = inr (ap goes h, refl)
    arms_chosen test k [] (a ∷ rows) cases h s = absurd s
    arms_chosen test k (g ∷ gs) [] cases h s = absurd s
    arms_chosen test k (g ∷ gs) (a ∷ rows) cases h s = by (arms.fits test a) refl (arms_chosen test (k + 1) gs rows h.1 h.4 s.1)
      where
        split : goes cases ≡ cond (arms.fits test a) (Some k) (goes h.1)
        split = ap goes h.2 ∙ each_chosen k g h.0 h.1 h.3 ∙ ap (λ b. cond b (Some k) (goes h.1)) s.0

        by : (b : Bool) → arms.fits test a ≡ b → Ends test rows (k + 1) (goes h.1) → Ends test (a ∷ rows) k (goes cases)
        by true f rest =
            let none : k ≡ k + 0 = omega arith in
            inl (0, a, refl, split ∙ ap (λ b. cond b (Some k) (goes h.1)) f ∙ ap Some none, sym (ap (λ b. cond b a.1 (taken test rows)) f))
        by false f rest =
            let skipped : goes cases ≡ goes h.1 = split ∙ ap (λ b. cond b (Some k) (goes h.1)) f in
            let same : taken test (a ∷ rows) ≡ taken test rows = ap (λ b. cond b a.1 (taken test rows)) f in
            ⊎_elim
            (λ (w : (i : ℕ) × (arm : Arm) × (slice_get rows i ≡ Some arm) × (goes h.1 ≡ Some ((k + 1) + i)) × (arm.1 ≡ taken test rows)).
            let next : (k + 1) + w.0 ≡ k + suc w.0 = omega arith in
            inl (suc w.0, w.1, w.2, skipped ∙ w.3 ∙ ap Some next, w.4 ∙ sym same))
            (λ (w : (goes h.1 ≡ last_body bodies) × (taken test rows ≡ NoAction)). inr (skipped ∙ w.0, same ∙ w.1))
            rest

    -- the body of the first arm that fits runs
    pub arm_runs : (test : Token → Bool) (gs : List (List Sought)) (rows : List Arm) (cases : List Case) → AreCasesOf p 0 gs cases → AreSoughtBy test (token_of look) gs rows → Runs (taken test rows) rows bodies (chosen p cases bodies (look_val look))
    arm_runs test gs rows cases h s =
        ⊎_elim
        (λ (w : (i : ℕ) × (arm : Arm) × (slice_get rows i ≡ Some arm) × (goes cases ≡ Some (0 + i)) × (arm.1 ≡ taken test rows)). let none : 0 + w.0 ≡ w.0 = omega arith in an_arm w.0 w.1 w.2 (w.3 ∙ ap Some none) w.4)
        (λ (w : (goes cases ≡ last_body bodies) × (taken test rows ≡ NoAction)). the_last w.0 w.1)
        (arms_chosen test 0 gs rows cases h s)

-- ---- by the lookahead, the body of what the state does
module _ {g : Grammar} {start : ℕ} {states : List Lr1State} {t : Tables} (over : IsOver g start states t) (p : Program) (terminals : List KnownTerminal) (q : ℕ) (s : Lr1State) (at : slice_get states q ≡ Some s) (gs : List (List Sought)) (cases : List Case) (tests : AreCasesOf p 0 gs cases) (bodies : ℕ) where
  -- at the end
  pub runs_at_end : AreSoughtBy (is_seen terminals None) None gs (arms_of g s) → Runs (act_at states q Eof) (arms_of g s) bodies (chosen p cases bodies (look_val None))
  runs_at_end sought = subst (λ act. Runs act (arms_of g s) bodies (chosen p cases bodies (look_val None))) (arm_at_end over terminals q s at) (arm_runs p None bodies (is_seen terminals None) gs (arms_of g s) cases tests sought)

  -- on a token of a terminal
  pub runs_on_token : (x : Spanned values.Token) (i : ℕ) → IsMatchedOnce terminals x.1 → terminal_in terminals x.1 ≡ Some i → AreSoughtBy (is_seen terminals (Some x.1)) (Some x.1) gs (arms_of g s)
      → Runs (act_at states q (Terminal i)) (arms_of g s) bodies (chosen p cases bodies (look_val (Some x)))
  runs_on_token x i once is sought =
      subst (λ act. Runs act (arms_of g s) bodies (chosen p cases bodies (look_val (Some x)))) (arm_on_token over terminals x.1 i q s once is at) (arm_runs p (Some x) bodies (is_seen terminals (Some x.1)) gs (arms_of g s) cases tests sought)

  -- on a token of none
  pub runs_on_unknown : (x : Spanned values.Token) → terminal_in terminals x.1 ≡ None → AreSoughtBy (is_seen terminals (Some x.1)) (Some x.1) gs (arms_of g s) → Runs NoAction (arms_of g s) bodies (chosen p cases bodies (look_val (Some x)))
  runs_on_unknown x none sought =
      subst (λ act. Runs act (arms_of g s) bodies (chosen p cases bodies (look_val (Some x)))) (no_arm_unknown terminals x.1 (arms_of g s) none) (arm_runs p (Some x) bodies (is_seen terminals (Some x.1)) gs (arms_of g s) cases tests sought)
