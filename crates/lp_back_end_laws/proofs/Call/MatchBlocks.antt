-- The match on the lookahead with what follows it: the chosen arm runs first.
use Rattle.std.proofs.Common.{◌≡◌, ℕ, ◌∷◌, Option, Some, None, refl, ap, ◌∙◌}
use Rattle.std.specs.Prelude.{slice_get}
use Rattle.lp_driver.specs.Values.{Token, Spanned}
use Rattle.lp_core.specs.CaseMeaning.{chosen}
use Rattle.lp_core.specs.Effect.{set_value}
use Rattle.lp_core.specs.Eval.{count, run, run_block}
use Rattle.lp_core.specs.Flow.{Flow, then_value}
use Rattle.lp_core.specs.Store.{Program}
use Rattle.lp_core.specs.Tree.{Tree, trees_of}
use Rattle.lp_core.specs.Val.{Val}
use Rattle.lp_core.proofs.Same.{run_next}
use Rattle.lp_bodies.specs.Arms.{Gathered}
use Rattle.lp_ascent_bodies.specs.declared.ascent.Lines.{Lines as Shared}
use Rattle.lp_ascent_bodies.specs.AscentStates.{token_match, after_parts}
use Rattle.lp_code_laws.specs.Ends.Ends.{Moment, at}
use Rattle.lp_back_end_laws.specs.Call.Standing.{look_val}
use Rattle.lp_back_end_laws.proofs.Call.ShiftArms.{match_leads}

-- a lookahead is a value
pub look_set : (look : Option (Spanned Token)) → set_value (look_val look) ≡ Some (look_val look)
look_set None = refl
look_set (Some x) = refl

module _ (p : Program) (shared : Shared) (arms : Gathered) (after : Option Tree) (w : Val) (m : Moment) (look : Option (Spanned Token)) (there : slice_get m.store.env shared.lookahead ≡ Some (look_val look)) (i : ℕ) {body : Tree} (is : chosen p arms.cases (count (trees_of arms.bodies)) (look_val look) ≡ Some i) (found : slice_get arms.bodies i ≡ Some body) where
  -- what follows the match goes on with the arm's value
  pub block_is : (left : ℕ) → run_block p (trees_of (token_match shared arms ∷ after_parts after)) w (at m left) ≡ then_value (run p body (at m left)) (λ v st. run_block p (trees_of (after_parts after)) v st)
  block_is left =
      run_next p (token_match shared arms) (trees_of (after_parts after)) w (at m left)
      ∙ ap (λ (fl : Flow). then_value fl (λ v st. run_block p (trees_of (after_parts after)) v st)) ((match_leads shared arms m (look_val look) i there (look_set look) is found).runs left)
