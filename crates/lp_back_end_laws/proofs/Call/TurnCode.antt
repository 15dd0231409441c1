-- The code of a turn of a state's loop over gotos: the check of the top slot, the arms of the gotos, and what is done with another symbol.
use Rattle.std.proofs.Common.{◌≡◌, ℕ, ◌+◌, ◌<◌, ◌≤◌, Bool, true, List, [], ◌∷◌, length, Some, slice_get, ap, ◌∙◌, subst}
use Rattle.std.specs.Prelude.{nat_lt}
use Rattle.std.proofs.lemmas.Bool.{lt-ltb}
use Rattle.std.proofs.lemmas.Option.{none-some}
use Rattle.lp_repr.specs.declared.lr1.Lr1State.{Lr1State}
use Rattle.lp_repr.specs.declared.repr.Grammar.{Grammar}
use Rattle.lp_core.specs.declared.value.StateType.{StateType}
use Rattle.lp_core.specs.Store.{Program}
use Rattle.lp_maker.specs.Making.{Making}
use Rattle.lp_maker.specs.Slots.{Names}
use Rattle.lp_bodies.specs.Reductions.{Done}
use Rattle.lp_ascent_bodies.specs.declared.ascent.Lines.{Lines as Shared}
use Rattle.lp_ascent_bodies.specs.AscentGotos.{Going, goto_done, goto_loop, goto_other, goto_turn}
use Rattle.lp_ascent.specs.AnswerLines.{answer_names}
use Rattle.lp_ascent.specs.GotoLines.{goto_lines, gotos_of, named_gotos, optional_top}
use Rattle.lp_ascent.specs.Slots.{Layout, layouts_of}
use Rattle.lp_back_end_laws.specs.Call.Slots.{layout}
use Rattle.lp_back_end_laws.specs.Call.Turns.{Looping}
use Rattle.lp_back_end_laws.proofs.Call.Linked.{IsIn}
use Rattle.lp_back_end_laws.proofs.Call.LoopArms.{arms_keep}
use Rattle.lp_back_end_laws.proofs.Call.LoopCode.{LoopCode, loop_form}
use Rattle.lp_back_end_laws.proofs.Call.LoopRows.{check_trees, other_tree, checked, armed, all_rows, loop_is}

-- where there is a goto
some_gotos : (g : Grammar) (ls : List Layout) (l : Layout) (shared : Shared) (names : Names) (m : Making) (gotos : List (List ℕ × ℕ)) (i : ℕ) (y : List ℕ × ℕ) → slice_get gotos i ≡ Some y
    → goto_loop shared m names (gotos_of g ls l gotos) ≡ goto_done shared (length names.known) names.next (names.next + 1) (all_rows g ls l shared names m gotos)
some_gotos g ls l shared names m [] i y at = absurd (none-some y at)
some_gotos g ls l shared names m (x ∷ gotos) i y at = loop_is g ls l shared names m x gotos

printed : (g : Grammar) (states : List Lr1State) (q : ℕ) (s : Lr1State) (shared : Shared) (names : Names) (m : Making) (i : ℕ) (y : List ℕ × ℕ) → slice_get (named_gotos (answer_names g) s.gotos.entries) i ≡ Some y
    → goto_loop shared m names (loop_form g states q s) ≡ goto_done shared (length names.known) names.next (names.next + 1) (all_rows g (layouts_of g states) (layout g states q) shared names m (named_gotos (answer_names g) s.gotos.entries))
unfolding goto_lines
printed g states q s shared names m i y at = some_gotos g (layouts_of g states) (layout g states q) shared names m (named_gotos (answer_names g) s.gotos.entries) i y at

module _ {g : Grammar} {states : List Lr1State} {p : Program} {variant : ℕ → ℕ} {kind : StateType} {before : Making} {q : ℕ} {s : Lr1State} {loop : Looping} (code : LoopCode g states p variant kind before q s loop) where
  abbrev pub named : List (List ℕ × ℕ)
  named = named_gotos (answer_names g) s.gotos.entries

  -- before the arms, behind them, and behind all rows
  abbrev pub first_rows : Going
  first_rows = checked code.shared loop.names code.made (layout g states q)

  abbrev pub arm_rows : Going
  arm_rows = armed g (layouts_of g states) (layout g states q) code.shared loop.names code.made named

  abbrev pub last_rows : Going
  last_rows = all_rows g (layouts_of g states) (layout g states q) code.shared loop.names code.made named

  module _ (i : ℕ) (y : List ℕ × ℕ) (at : slice_get named i ≡ Some y) where
    done_is : goto_loop code.shared code.made loop.names (loop_form g states q s) ≡ goto_done code.shared (length loop.names.known) loop.names.next (loop.names.next + 1) last_rows
    done_is = printed g states q s code.shared loop.names code.made i y at

    pub turn_is : loop.turn ≡ goto_turn code.shared loop.names.next (loop.names.next + 1) last_rows.checks last_rows.arms last_rows.other
    turn_is = (let e = code.turn ∙ ap (λ (d : Done). d.value) done_is in cc)

    pub rows_room : arm_rows.names.next ≤ loop.many
    rows_room = subst (λ (d : Done). d.names.next ≤ loop.many) done_is code.room

    pub rows_in : IsIn g p variant arm_rows.made
    rows_in = subst (λ (d : Done). IsIn g p variant d.made) done_is code.made_in

  pub rows_checks : last_rows.checks ≡ check_trees code.shared loop.names.next (loop.names.next + 1) first_rows.names (optional_top (layout g states q))
  rows_checks = (arms_keep g (layouts_of g states) (layout g states q) code.shared loop.names.next (loop.names.next + 1) first_rows named).0

  -- where a nonterminal has no goto another symbol is answered
  pub rows_other : length named < length (answer_names g) → last_rows.other ≡ goto_other loop.names.next (loop.names.next + 1)
  rows_other less = other_by (lt-ltb (length named) (length (answer_names g)) less)
    where
      other_by : nat_lt (length named) (length (answer_names g)) ≡ true → last_rows.other ≡ goto_other loop.names.next (loop.names.next + 1)
      other_by e = ap (λ (b : Bool). other_tree code.shared loop.names.next (loop.names.next + 1) b arm_rows.other) e
