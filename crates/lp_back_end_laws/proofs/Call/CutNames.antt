-- What names show at the end of a block: what those before it do.
use Rattle.std.proofs.Common.{ℕ, List, None, ap, ◌∙◌, arith}
use Rattle.lp_core.specs.Val.{Val}
use Rattle.lp_maker.specs.Slots.{Names, slot_among}
use Rattle.lp_code_laws.specs.Slots.Shows.{Shows}
use Rattle.lp_question_laws.proofs.Reductions.Arguments.{show_moved}
use Rattle.lp_back_end_laws.specs.Call.Turns.{ShowsFrame}
use Rattle.lp_back_end_laws.proofs.Call.ArmBodies.{IsCut}

module _ {names later : Names} (cut : IsCut names later) {env : List Val} where
  pub shows_cut : {key : List ℕ} {v : Val} → Shows names env key v → Shows later env key v
  shows_cut {key} h = record { slot = h.slot; is = ap (λ l. slot_among key None l) cut.known ∙ h.is; below = omega (arith, h.below, cut.next); held = h.held }

  pub frame_cut : {keys : List (List ℕ)} {given own : List Val} {list : ℕ} → ShowsFrame names env keys given list own → ShowsFrame later env keys given list own
  frame_cut {keys} {given} h = record {
    parameters = show_moved names later env env keys given (λ q v s. shows_cut s) h.parameters;
    tokens = shows_cut h.tokens;
    states = shows_cut h.states;
    slots = λ j v at. shows_cut (h.slots j v at);
  }
