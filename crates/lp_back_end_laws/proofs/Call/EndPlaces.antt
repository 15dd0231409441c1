-- The place of an error at the end: where the frame's top symbol ends, which is where the last token ended.
use Rattle.std.proofs.Common.{◌≡◌, ℕ, zero, suc, ◌+◌, ◌-◌, Bool, true, false, List, [], ◌∷◌, length, map, decimal, Option, Some, refl, sym, ap, ◌∙◌, subst, arith, lt-ltb, true≢false}
use Rattle.std.specs.Prelude.{slice_get, nat_lt, ◌==◌, if◌then◌else◌}
use Rattle.std.proofs.lemmas.Bool.Decides.{nat_tests}
use Rattle.lp_repr.specs.declared.values.Loc.TheVariants.{Default}
use Rattle.lp_driver.specs.DriverState.{last_of}
use Rattle.lp_driver.specs.RecoveryTurns.{end_or}
use Rattle.lp_driver.specs.Values.{Spanned, Value}
use Rattle.lp_machine.specs.declared.config.Config.{Config}
use Rattle.lp_core.specs.declared.value.Tag.TheVariants as tag
use Rattle.lp_core.specs.Datum.{Cell}
use Rattle.lp_core.specs.Reading.{empty}
use Rattle.lp_core.specs.Store.{Program}
use Rattle.lp_core.specs.Val.{Val, Plain}
use Rattle.lp_question_laws.specs.Tables.Acts.{symbol_val}
use Rattle.lp_ascent.specs.Slots.{Layout, count_of, is_cell}
use Rattle.lp_ascent.specs.StateLines.{downwards, error_in, error_location}
use Rattle.lp_form.specs.declared.part.Part.TheVariants as part
use Rattle.lp_view.specs.PartLists.{Form, parts_of}
use Rattle.lp_build.specs.Built.{row, text_rows, over}
use Rattle.lp_tree.specs.ProgramTree.{leaf}
use Rattle.lp_maker.specs.Slots.{Names}
use Rattle.lp_maker.specs.Making.{Making}
use Rattle.lp_bodies.specs.Reductions.{part_function}
use Rattle.lp_ascent_bodies.specs.AscentErrors.{error_names, found_location}
use Rattle.lp_code_laws.specs.Ends.Ends.{Moment, Eval, Giving, EndsIn}
use Rattle.lp_code_laws.proofs.Ends.Tags.{slot_is}
use Rattle.lp_core.specs.Reading as reading
use Rattle.lp_code_laws.specs.Slots.Shows.{Shows}
use Rattle.lp_code_laws.proofs.Slots.Slots.{get_within}
use Rattle.lp_question_laws.proofs.Gotos.Whole.{parts_over}
use Rattle.lp_question_laws.proofs.Actions.Rows.{row_forms, rows_flat, rows_whole}
use Rattle.lp_question_laws.specs.Reductions.Outer.{sym_name}
use Rattle.lp_back_end_laws.specs.Call.Frames.{IsSlot, AreSlots, by_value, full, taken}
use Rattle.lp_back_end_laws.specs.Call.Standing.{EndsThere}
use Rattle.lp_back_end_laws.proofs.Call.Lookups.{get_dropped}
use Rattle.lp_back_end_laws.proofs.Call.FrameSlots.{slot_symbol}
use Rattle.lp_back_end_laws.proofs.Call.ErrorArms.{Placed, default_placed, fixed_placed, chain_placed, shown_at_end}

-- the first row of a chain is that of the top slot
pub first_row : (k : ℕ) → slice_get (parts_of (over part.LocationChain [] (text_rows part.LocationRow (map decimal (downwards (suc k)))))) 0 ≡ Some (row part.LocationRow (decimal k ∷ []) ∷ [])
first_row k =
    let texts = map decimal (downwards (suc k)) in
    ap (λ below. slice_get (parts_of (over part.LocationChain [] below)) 0) (sym (rows_flat part.LocationRow texts)) ∙ ap (λ (fs : List Form). slice_get fs 0) (parts_over part.LocationChain [] (row_forms part.LocationRow texts) (rows_whole part.LocationRow texts))

-- the form of the place, by whether there are slots, and the number of the top one
abbrev shape : Layout → Bool → ℕ → ℕ → Form
shape l none top count =
    if none then leaf part.LocationDefault [] else (if is_cell l top then over part.LocationChain [] (text_rows part.LocationRow (map decimal (downwards count))) else leaf part.LocationFixed (decimal top ∷ []))

pub located_by : (l : Layout) (o : Option Form) → o ≡ Some (error_location l) → (k : ℕ) → count_of l ≡ suc k → (b : Bool) → is_cell l k ≡ b
    → o ≡ Some (if b then over part.LocationChain [] (text_rows part.LocationRow (map decimal (downwards (suc k)))) else leaf part.LocationFixed (decimal k ∷ []))
located_by l o first k count b is =
    let some : (suc k == 0) ≡ false = grind (arith, nat_tests) in
    let top : suc k - 1 ≡ k = omega arith in
    first
    ∙ ap (λ (n : ℕ). Some (shape l (n == 0) (n - 1) n)) count
    ∙ ap (λ (z : Bool). Some (shape l z (suc k - 1) (suc k))) some
    ∙ ap (λ (j : ℕ). Some (shape l false j (suc k))) top
    ∙ ap (λ (c : Bool). Some (if c then over part.LocationChain [] (text_rows part.LocationRow (map decimal (downwards (suc k)))) else leaf part.LocationFixed (decimal k ∷ []))) is

module _ {p : Program} (made : Making) (names : Names) (form : Form) (l : Layout) (first : slice_get (parts_of form) 0 ≡ Some (error_location l)) {m : Moment} where
  module _ (k : ℕ) (x : Spanned Value) (count : count_of l ≡ suc k) (ends : is_cell l k ≡ true → slice_get p.functions (length made.functions) ≡ Some (part_function 2)) where
    -- by what stands in the top slot
    top_placed : (cell held : Bool) (v : Val) → IsSlot m.store.cells x cell held v → is_cell l k ≡ cell → held ≡ true → Shows names m.store.env (sym_name k) v → Placed made names form p m x.2
    top_placed false true v by_value is all shown = record {
      many = 0;
      few = omega arith;
      ends = λ list. subst (λ (o : Option Form). EndsIn p (Eval (found_location made (error_names names) o)) (slot_is (names.next + 1) (empty tag.Absent) (slot_is names.next list m)) 0 (Giving (reading.location x.2) (slot_is (names.next + 1) (empty tag.Absent) (slot_is names.next list m)))) (sym (located_by l (slice_get (parts_of form) 0) first k count false is))
          (fixed_placed made (error_names names) k x (shown_at_end made names form m.store.env (sym_name k) (symbol_val x) refl shown list (empty tag.Absent)));
    }
    top_placed true true v (full n there) is all shown = record {
      many = 1;
      few = omega arith;
      ends = λ list. subst (λ (o : Option Form). EndsIn p (Eval (found_location made (error_names names) o)) (slot_is (names.next + 1) (empty tag.Absent) (slot_is names.next list m)) 1 (Giving (reading.location x.2) (slot_is (names.next + 1) (empty tag.Absent) (slot_is names.next list m)))) (sym (located_by l (slice_get (parts_of form) 0) first k count true is))
          (chain_placed made (error_names names) k x (over part.LocationChain [] (text_rows part.LocationRow (map decimal (downwards (suc k))))) (row part.LocationRow (decimal k ∷ []) ∷ []) n (first_row k) refl (ends is)
          (shown_at_end made names form m.store.env (sym_name k) (Plain (Cell n)) refl shown list (empty tag.Absent)) there);
    }
    top_placed false false v slot is all shown = absurd (true≢false (sym all))
    top_placed true false v (taken n there) is all shown = absurd (true≢false (sym all))

  module _ (c : Config) (own : List Val) (are : AreSlots l (is_cell l) 0 c.triples m.store.cells own) (shown : (j : ℕ) (v : Val) → slice_get own j ≡ Some v → Shows names m.store.env (sym_name j) v) (there : EndsThere c)
      (none : count_of l ≡ 0 → c.triples ≡ []) (ends : (k : ℕ) → count_of l ≡ suc k → is_cell l k ≡ true → slice_get p.functions (length made.functions) ≡ Some (part_function 2)) where
    by_count : (n : ℕ) → count_of l ≡ n → Placed made names form p m c.last
    by_count zero count =
        let default : c.last ≡ Default = sym there ∙ ap (λ xs. end_or (last_of xs) Default) (none count) in
        let located : slice_get (parts_of form) 0 ≡ Some (leaf part.LocationDefault []) = first ∙ ap (λ (n : ℕ). Some (if n == 0 then leaf part.LocationDefault [] else error_in l (n - 1))) count in
        subst (Placed made names form p m) (sym default) (record {
          many = 0;
          few = omega arith;
          ends = λ list. subst (λ (o : Option Form). EndsIn p (Eval (found_location made (error_names names) o)) (slot_is (names.next + 1) (empty tag.Absent) (slot_is names.next list m)) 0 (Giving (reading.location Default) (slot_is (names.next + 1) (empty tag.Absent) (slot_is names.next list m)))) (sym located)
              (default_placed made (error_names names));
        })
    by_count (suc k) count =
        let s = slot_symbol are k (omega (arith, count)) in
        let v = get_within own k (omega (arith, are.count, count)) in
        let fits = are.fits in
        let last : last_of c.triples ≡ Some s.0 = sym (get_dropped c.triples (length c.triples - count_of l) k (length c.triples - 1) (omega (arith, fits, count))) ∙ s.1 in
        let ended : c.last ≡ (s.0).2 = sym there ∙ ap (λ o. end_or o Default) last in
        let less : nat_lt (k + 0) (count_of l) ≡ true = lt-ltb (k + 0) (count_of l) (omega (arith, count)) in
        subst (Placed made names form p m) (sym ended) (top_placed k s.0 count (ends k count) (is_cell l k) (nat_lt (k + 0) (count_of l)) v.0 (are.each k s.0 v.0 s.1 v.1) refl less (shown k v.0 v.1))

    -- between tokens and at the end the place is where the last token ended
    pub end_placed : Placed made names form p m c.last
    end_placed = by_count (count_of l) refl
