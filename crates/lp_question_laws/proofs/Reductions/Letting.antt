-- One line more that binds a name.
use Rattle.std.proofs.Common.{◌≡◌, ℕ, ◌+◌, ◌≤◌, ℤ, List, length, ◌∙◌, arith}
use Rattle.std.specs.Prelude.{slice_set}
use Rattle.lp_driver.specs.Values.{Spanned}
use Rattle.lp_core.specs.Store.{Program, UserCall}
use Rattle.lp_core.specs.Tree.{Tree}
use Rattle.lp_core.specs.Val.{Val}
use Rattle.lp_maker.specs.Slots.{Names, after_slots}
use Rattle.lp_bodies.specs.Lines.{Lines, lines_of, with_let}
use Rattle.lp_code_laws.specs.Ends.Ends.{Moment, steps, Eval, Giving, EndsIn}
use Rattle.lp_code_laws.proofs.Ends.Steps.{steps_are}
use Rattle.lp_code_laws.proofs.Ends.Lists.{length_set}
use Rattle.lp_code_laws.specs.Slots.Shows.{HasRoom}
use Rattle.lp_code_laws.proofs.Printed.Lines.{ran_let}
use Rattle.lp_question_laws.specs.Reductions.Outer.{IsInner, Lasts}
use Rattle.lp_question_laws.specs.Reductions.Stacks.{over_two}
use Rattle.lp_question_laws.specs.Reductions.Lined.{Lined}
use Rattle.lp_question_laws.proofs.Reductions.Lasting.{lasts_let, lasts_after}

module _ {p : Program} {old : Names} {before : List Val} {start : Moment} {taken : ℕ} {ss : List ℤ} {l : List (Spanned Val)} {calls : List UserCall} {most used : ℕ} {now : List Val} {lines : Lines} (h : Lined p old before start taken ss l calls most used now lines) where
  -- there is room for so many slots more
  pub room_left : (n : ℕ) → old.next + (used + n) ≤ length before → HasRoom n lines.names now
  room_left n fits = record { room = omega (arith, h.next, h.size) }

  -- the slots that were given out before
  pub not_before : old.next ≤ lines.names.next
  not_before = omega (arith, h.next)

  -- a name is bound to a value, in so many steps, after more calls
  pub let_lined : (name : List ℕ) (e : Tree) (w : Val) (after : List Val) (later : List UserCall) (j : ℕ) → EndsIn p (Eval e) (over_two now taken calls ss l) j (Giving w (over_two after taken later ss l)) → length after ≡ length now → Lasts old before lines.names after → IsInner name → old.next + (used + 1) ≤ length before
      → Lined p old before start taken ss l later (most + j) (used + 1) (slice_set after lines.names.next w) (with_let name e lines)
  let_lined name e w after later j ends same lasts inner fits = record {
    count = steps h.count j;
    ran = ran_let lines name 0 h.ran ends (record { room = omega (arith, h.next, h.size, same) });
    few = omega (arith, steps_are h.count j, h.few);
    next = omega (arith, h.next);
    size = length_set after lines.names.next w ∙ same ∙ h.size;
    lasts = lasts_let lasts not_before name w inner;
  }

  -- slots are given out
  pub after_lined : (c : ℕ) → Lined p old before start taken ss l calls most (used + c) now (lines_of (after_slots c lines.names) lines.parts)
  after_lined c = record {
    count = h.count;
    ran = record { value = h.ran.value; ends = h.ran.ends };
    few = h.few;
    next = omega (arith, h.next);
    size = h.size;
    lasts = lasts_after h.lasts not_before c;
  }
