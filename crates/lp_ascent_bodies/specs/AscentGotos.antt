-- What a state function does with a symbol that was made.
use Rattle.std.specs.Prelude.{ℕ, ◌+◌, List, [], ◌∷◌, ◌++◌, length, codes, slice_get, if◌then◌else◌}
use Rattle.lp_ascent_bodies.specs.declared.ascent.Lines.{Lines as Shared}
use Rattle.lp_ascent_bodies.specs.declared.ascent_goto.GotoLines.{GotoLines}
use Rattle.lp_core.specs.declared.expr.Join.TheVariants as join
use Rattle.lp_core.specs.declared.expr.Leaf.TheVariants as leaf
use Rattle.lp_core.specs.declared.expr.Op.TheVariants as op
use Rattle.lp_core.specs.declared.expr.Test.TheVariants as test
use Rattle.lp_core.specs.declared.value.Tag.TheVariants as tag
use Rattle.lp_core.specs.Tree.{Tree, Plain, Apply, If, Loop}
use Rattle.lp_form.specs.declared.part.Part.TheVariants as part
use Rattle.lp_view.specs.PartLists.{Form, is_a, hole_of, parts_of, over}
use Rattle.lp_maker.specs.Slots.{Names, after_slots, named, cut_to}
use Rattle.lp_maker.specs.Constructs.{stuck, read, take_slot, joined, one_after_another, give_back}
use Rattle.lp_maker.specs.Making.{Making, with_variant, variant_tag}
use Rattle.lp_bodies.specs.Arms.{Gathered, gathered, no_arms, with_case}
use Rattle.lp_bodies.specs.Tables.{Reading, reading_of, choice_at}
use Rattle.lp_bodies.specs.Lines.{Lines, lines_of, with_let}
use Rattle.lp_bodies.specs.Reductions.{Done, done_of}
use Rattle.lp_ascent_bodies.specs.AscentReductions.{top_slot, give_made}
use Rattle.lp_ascent_bodies.specs.AscentMoves.{found_transition}
use Rattle.lp_ascent_bodies.specs.AscentArms.{Arming, arming_of, block_arm}

-- `if ~symj.is_none() { return Ok(~result); }`
abbrev pub empty_check : Shared → Names → Form → Tree
empty_check shared names line = If (Apply op.IsEmpty (top_slot line names)) (give_made shared) (Plain (leaf.Empty tag.Tuple))

abbrev pub arm_lines : Making → Shared → ℕ → Names → Form → Lines
arm_lines m shared made names line =
    found_transition m shared (slice_get (parts_of line) 0) (with_let (codes "~sym" ++ hole_of 1 line) (Apply (op.Part 0) (read made)) (lines_of names []))

-- what was gathered of a loop over gotos: the names, the checks of empty slots, the arms, what is done with another
-- symbol, and what was made
pub record Going : Type 0 where
  pub names : Names
  pub checks : List Tree
  pub arms : Gathered
  pub other : Tree
  pub made : Making

abbrev pub going_of : Names → GotoLines → Making → Going
going_of names g made = record { names = names; checks = g.checks.items; arms = gathered g.arms; other = g.other; made = made }

abbrev pub no_gotos : Names → Making → Going
no_gotos names made = record { names = names; checks = []; arms = no_arms; other = stuck; made = made }

-- `return Ok((~lookahead, ~nt));`, whose parts stand in these slots
abbrev pub goto_other : ℕ → ℕ → Tree
goto_other token made = give_back (Apply (op.Wrap tag.Success) (joined (join.Make tag.Tuple) (take_slot token ∷ take_slot made ∷ [])))

-- a test for a variant, which leads to the next body
abbrev pub variant_case : List ℕ → Reading → Reading
variant_case name s = reading_of (with_case (test.Is (variant_tag name s.made)) s.arms) (with_variant name s.made)

-- goes on with a symbol that was made, whose value stands in this slot
abbrev pub goto_arm : Shared → ℕ → Form → Arming → Arming
goto_arm shared made line a =
    block_arm (length a.names.known) (arm_lines a.made shared made a.names line) (variant_case (hole_of 0 line) (reading_of a.arms a.made))

abbrev pub with_arming : Going → Arming → Going
with_arming g a = record g { names = a.names; arms = a.arms; made = a.made }

-- in the arms the lookahead stands in this slot
abbrev pub going_arm : Shared → ℕ → ℕ → Form → Going → Going
going_arm shared token made line g =
    with_arming g (goto_arm shared made line (arming_of (named (codes "~lookahead") token g.names) g.arms g.made))

abbrev pub going_row : Shared → ℕ → ℕ → Going → Form → Going
going_row shared token made g line =
    if is_a part.EmptyCheck line then record g { checks = g.checks ++ empty_check shared g.names line ∷ [] } else (if is_a part.GotoArm line then going_arm shared token made line g else (if is_a part.GotoOther line then record g { other = goto_other token made } else g))

abbrev pub going_rows : Shared → ℕ → ℕ → Form → Going → Going
going_rows shared token made form g = over (going_row shared token made) g (parts_of form)

-- one turn: the checks, what a state function gave in two parts, and the arm of its symbol
abbrev pub goto_turn : Shared → ℕ → ℕ → List Tree → Gathered → Tree → Tree
goto_turn shared token made checks arms other =
    one_after_another (checks ++ Apply (op.Parts token 2) (read shared.made) ∷ choice_at (take_slot made) made other arms ∷ [])

abbrev pub goto_done : Shared → ℕ → ℕ → ℕ → Going → Done
goto_done shared mark token made g =
    done_of (Loop (goto_turn shared token made g.checks g.arms g.other)) (cut_to mark g.names) g.made

-- goes on with what a state function gave, turn by turn
abbrev pub goto_loop : Shared → Making → Names → Form → Done
goto_loop shared m names form =
    goto_done shared (length names.known) names.next (names.next + 1) (going_rows shared names.next (names.next + 1) form (no_gotos (after_slots 2 names) m))
