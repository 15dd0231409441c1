-- The check of a turn: where slots were taken the top one is an empty cell, and the frame returns; else nothing happens.
use Rattle.std.proofs.Common.{◌≡◌, ℕ, ◌-◌, ◌<◌, ◌≤◌, Bool, true, false, ◌&&◌, List, [], ◌∷◌, decimal, Option, Some, None, slice_get, refl, sym, ap, ◌∙◌, subst, arith}
use Rattle.std.specs.Prelude.{if◌then◌else◌, nat_lt}
use Rattle.std.proofs.lemmas.Bool.{and_parts, lt-ltb, ltb-true}
use Rattle.lp_driver.specs.Values.{Spanned, Value}
use Rattle.lp_core.specs.declared.value.Tag.TheVariants as tag
use Rattle.lp_core.specs.Datum.{Cell, Unset}
use Rattle.lp_core.specs.Effect.{set_value}
use Rattle.lp_core.specs.Reading.{wrapped}
use Rattle.lp_core.specs.Store.{Program}
use Rattle.lp_core.specs.Tree.{Tree, trees_of}
use Rattle.lp_core.specs.Val.{Val, Plain}
use Rattle.lp_code_laws.specs.Ends.Ends.{Moment, Sequence, Giving, Returning, EndsIn}
use Rattle.lp_code_laws.proofs.Ends.Rules.{block_end}
use Rattle.lp_code_laws.proofs.Ends.Blocks.{sequence_one}
use Rattle.lp_maker.specs.Slots.{Names, after_slots}
use Rattle.lp_code_laws.specs.Slots.Shows.{Shows}
use Rattle.lp_code_laws.proofs.Slots.Names.{shows_after}
use Rattle.lp_question_laws.specs.Tables.Acts.{symbol_val}
use Rattle.lp_form.specs.declared.part.Part.TheVariants as part
use Rattle.lp_tree.specs.ProgramTree.{leaf}
use Rattle.lp_ascent_bodies.specs.declared.ascent.Lines.{Lines as Shared}
use Rattle.lp_ascent.specs.GotoLines.{optional_top}
use Rattle.lp_ascent.specs.Slots.{Layout, count_of, is_cell}
use Rattle.lp_question_laws.specs.Reductions.Outer.{sym_name}
use Rattle.lp_back_end_laws.specs.Call.Frames.{AreSlots}
use Rattle.lp_back_end_laws.proofs.Call.Loops.{check_empty, check_full}
use Rattle.lp_back_end_laws.proofs.Call.LoopRows.{check_trees}
use Rattle.lp_back_end_laws.proofs.Call.TurnSlots.{top_taken, top_full}

-- the top slot that is checked
abbrev asked : Layout → Bool
asked l = nat_lt 0 (count_of l) && is_cell l (count_of l - 1)

top_if : (l : Layout) (b : Bool) → asked l ≡ b → optional_top l ≡ (if b then Some (count_of l - 1) else None)
top_if l b e = ap (λ (c : Bool). if c then Some (count_of l - 1) else None) e

abbrev checks : Shared → ℕ → ℕ → Names → Option ℕ → List Tree
checks shared token made names top = check_trees shared token made (after_slots 2 names) top

module _ {p : Program} (shared : Shared) (token made : ℕ) (names : Names) (l : Layout) {triples : List (Spanned Value)} {own : List Val} {m : Moment} (slots : (j : ℕ) (v : Val) → slice_get own j ≡ Some v → Shows names m.store.env (sym_name j) v) where
  -- no slot was taken: the check passes
  pub check_passes : AreSlots l (is_cell l) 0 triples m.store.cells own → (w : Val) × EndsIn p (Sequence (trees_of (checks shared token made names (optional_top l))) (Plain Unset)) m 0 (Giving w m)
  check_passes are = by (asked l) refl
    where
      by : (b : Bool) → asked l ≡ b → (w : Val) × EndsIn p (Sequence (trees_of (checks shared token made names (optional_top l))) (Plain Unset)) m 0 (Giving w m)
      by false e = subst (λ (o : Option ℕ). (w : Val) × EndsIn p (Sequence (trees_of (checks shared token made names o)) (Plain Unset)) m 0 (Giving w m)) (sym (top_if l false e)) (Plain Unset, block_end)
      by true e =
          let both = and_parts (nat_lt 0 (count_of l)) (is_cell l (count_of l - 1)) e in
          let some : 0 < count_of l = ltb-true 0 (count_of l) both.0 in
          let top : ℕ = count_of l - 1 in
          let f = top_full are top (omega (arith, some)) refl both.1 in
          subst (λ (o : Option ℕ). (w : Val) × EndsIn p (Sequence (trees_of (checks shared token made names o)) (Plain Unset)) m 0 (Giving w m)) (sym (top_if l true e))
          (_, sequence_one (check_full shared (after_slots 2 names) (leaf part.EmptyCheck (decimal top ∷ [])) f.1 (symbol_val f.0) (shows_after 2 (slots top (Plain (Cell f.1)) f.2)) f.3))

  -- some were: it returns what was made
  pub check_returns : {inner : Val} (d : ℕ) → 0 < d → d ≤ count_of l → AreSlots l (is_cell l) d triples m.store.cells own → slice_get m.store.env shared.made ≡ Some inner → set_value inner ≡ Some inner → EndsIn p (Sequence (trees_of (checks shared token made names (optional_top l))) (Plain Unset)) m 0 (Returning (wrapped tag.Success inner) m)
  check_returns {inner} d some within are there set =
      let top : ℕ = count_of l - 1 in
      let t = top_taken are top (omega (arith, some, within)) some in
      let e : asked l ≡ true = ap (λ (b : Bool). b && is_cell l top) (lt-ltb 0 (count_of l) (omega (arith, some, within))) ∙ t.0 in
      subst (λ (o : Option ℕ). EndsIn p (Sequence (trees_of (checks shared token made names o)) (Plain Unset)) m 0 (Returning (wrapped tag.Success inner) m)) (sym (top_if l true e))
      (sequence_one (check_empty shared there set (after_slots 2 names) (leaf part.EmptyCheck (decimal top ∷ [])) t.1 (shows_after 2 (slots top (Plain (Cell t.1)) t.2)) t.3))
