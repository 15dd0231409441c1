-- The lines that take symbols off, by their number.
use Rattle.std.proofs.Common.{◌≡◌, ℕ, zero, suc, ◌+◌, ◌<◌, ◌≤◌, ◌^◌, false, List, [], ◌∷◌, ◌++◌, length, map, Some, ℤ, refl, ap, sym, subst, ◌∙◌, arith, codes, decimal, append_assoc, append-nil}
use Rattle.std.specs.Prelude.{slice_get, slice_set}
use Rattle.std.specs.Str.{bytes_eq}
use Rattle.std.proofs.lemmas.Fmt.{decimal_injective}
use Rattle.std.proofs.lemmas.Option.{slice_get_within}
use Rattle.lp_driver.specs.Values.{Spanned}
use Rattle.lp_core.specs.declared.value.Tag.TheVariants as tag
use Rattle.lp_core.specs.Datum.{Parsed, Cell}
use Rattle.lp_core.specs.Store.{Program, UserCall}
use Rattle.lp_core.specs.Tree.{Tree}
use Rattle.lp_core.specs.Val.{Val, Plain}
use Rattle.lp_form.specs.declared.part.Part.TheVariants as part
use Rattle.lp_build.specs.Built.{row}
use Rattle.lp_view.specs.PartLists.{Form, over}
use Rattle.lp_maker.specs.Slots.{Names, bound}
use Rattle.lp_maker.specs.Making.{Making, number_in}
use Rattle.lp_bodies.specs.Lines.{Lines}
use Rattle.lp_bodies.specs.Reductions.{Work, work_of, reduce_line}
use Rattle.lp_code_laws.specs.Ends.Ends.{Moment, steps}
use Rattle.lp_code_laws.proofs.Ends.Steps.{steps_are}
use Rattle.lp_code_laws.proofs.Ends.Pops.{pop_fn}
use Rattle.lp_code_laws.proofs.Ends.Lists.{length_set}
use Rattle.lp_code_laws.specs.Slots.Shows.{Shows, HasRoom}
use Rattle.lp_code_laws.proofs.Slots.Names.{other_text, let_other, let_this}
use Rattle.lp_code_laws.specs.Printed.Ran.{Ran}
use Rattle.lp_code_laws.proofs.Printed.Pops.{pop_line_ran}
use Rattle.lp_question_laws.proofs.Gotos.GotoCode.{over-append}
use Rattle.lp_question_laws.specs.Tables.Acts.{symbol_val}
use Rattle.lp_question_laws.specs.Reductions.Outer.{sym_name, Lasts}
use Rattle.lp_question_laws.specs.Reductions.Stacks.{over_two, Symbol, on_stack}
use Rattle.lp_question_laws.proofs.Reductions.Lasting.{lasts_all, lasts_let, outer_symbols, inner_symbol}

abbrev pub pop_form : ℕ → Symbol → Form
pop_form k x = row part.PopLine (decimal k ∷ x.variant ∷ []) ∷ []

-- the last one first
abbrev pub pop_forms : ℕ → List Symbol → List Form
pop_forms k [] = []
pop_forms k (x ∷ xs) = pop_forms (k + 1) xs ++ pop_form k x ∷ []

digits_same : (i j : ℕ) → sym_name i ≡ sym_name j → decimal i ≡ decimal j
digits_same i j e = cc

pub sym_apart : (i j : ℕ) → i < 2 ^ 64 → j < 2 ^ 64 → (i ≡ j → ⊥) → bytes_eq (sym_name i) (sym_name j) ≡ false
sym_apart i j a b ne = other_text (sym_name i) (sym_name j) (λ e. ne (decimal_injective i j a b (digits_same i j e)))

-- each of some symbols is shown by its name
abbrev pub AreShown : ℕ → List Symbol → Names → List Val → Type 0
AreShown k xs names env = (i : ℕ) (x : Symbol) → slice_get xs i ≡ Some x → Shows names env (sym_name (k + i)) (symbol_val x.item)

-- one more
one_shown : (k : ℕ) (xs : List Symbol) (x : Symbol) (names : Names) (env : List Val) → HasRoom 1 names env → k + suc (length xs) ≤ 2 ^ 64 → AreShown (k + 1) xs names env
    → AreShown k (x ∷ xs) (bound (sym_name k) names) (slice_set env names.next (symbol_val x.item))
one_shown k xs x names env room small h zero y e =
    let now : Names = bound (sym_name k) names in
    let after : List Val = slice_set env names.next (symbol_val x.item) in
    let same : x ≡ y = cc in
    let none : k ≡ k + 0 = omega arith in
    subst (λ (y : Symbol). Shows now after (sym_name (k + 0)) (symbol_val y.item)) same (subst (λ (j : ℕ). Shows now after (sym_name j) (symbol_val x.item)) none (let_this (sym_name k) names env (symbol_val x.item) room))
one_shown k xs x names env room small h (suc i) y e =
    let lt : i < length xs = slice_get_within xs i y e in
    let moved : (k + 1) + i ≡ k + suc i = omega arith in
    subst (λ (j : ℕ). Shows (bound (sym_name k) names) (slice_set env names.next (symbol_val x.item)) (sym_name j) (symbol_val y.item)) moved
    (let_other (sym_name k) (symbol_val x.item) (sym_apart k ((k + 1) + i) (omega arith) (omega arith) (λ e. omega arith)) (h i y e))

module _ (p : Program) (made : Making) where
  -- there is a function that takes its variant off
  pub record CanPop (x : Symbol) : Type 0 where
    pub function : ℕ
    pub other : Tree
    pub named : number_in (codes "pop_" ++ x.variant) made.names ≡ Some function
    pub there : slice_get p.functions function ≡ Some (pop_fn (tag.Variant x.number) other)

  abbrev pub AllPop : List Symbol → Type 0
  AllPop [] = Unit {0}
  AllPop (x ∷ xs) = CanPop x × AllPop xs

  -- the lines have taken symbols off, each of which its name shows
  pub record Popped (taken : ℕ) (calls : List UserCall) (ss : List ℤ) (old : Names) (before : List Val) (start : Moment) (many k : ℕ) (xs : List Symbol) (l : List (Spanned Val)) (w : Work) : Type 0 where
    pub now : List Val
    pub count : ℕ
    pub ran : Ran p w.lines start count (over_two now taken calls ss l)
    pub counted : count ≡ many + length xs
    pub made_same : w.made ≡ made
    pub next : w.lines.names.next ≡ old.next + length xs
    pub size : length now ≡ length before
    pub lasts : Lasts old before w.lines.names now
    pub shown : AreShown k xs w.lines.names now

  module _ (taken : ℕ) (calls : List UserCall) (ss : List ℤ) (lines : Lines) (env : List Val) (start : Moment) (many : ℕ) (here : Shows lines.names env (codes "~symbols") (Plain (Cell 1))) where
    pub all_popped : (xs : List Symbol) (k : ℕ) (l : List (Spanned Val)) → AllPop xs → Ran p lines start many (over_two env taken calls ss (l ++ map on_stack xs)) → HasRoom (length xs) lines.names env → k + length xs ≤ 2 ^ 64
        → Popped taken calls ss lines.names env start many k xs l (over reduce_line (work_of lines made) (pop_forms k xs))
    all_popped [] k l can ran room small = record {
      now = env;
      count = many;
      ran = subst (λ (y : List (Spanned Val)). Ran p lines start many (over_two env taken calls ss y)) (append-nil l) ran;
      counted = omega arith;
      made_same = refl;
      next = omega arith;
      size = refl;
      lasts = lasts_all lines.names env;
      shown = λ i x h. absurd cc;
    }
    all_popped (x ∷ xs) k l can ran room small =
        let h = all_popped xs (k + 1) (l ++ on_stack x ∷ []) can.1 (subst (λ (y : List (Spanned Val)). Ran p lines start many (over_two env taken calls ss y)) (sym (append_assoc l (on_stack x ∷ []) (map on_stack xs))) ran) (record { room = omega (arith, room.room) }) (omega arith) in
        let w = over reduce_line (work_of lines made) (pop_forms (k + 1) xs) in
        let names = w.lines.names in
        let c = can.0 in
        let named : number_in (codes "pop_" ++ x.variant) w.made.names ≡ Some c.function = ap (λ (y : Making). number_in (codes "pop_" ++ x.variant) y.names) h.made_same ∙ c.named in
        let fits : HasRoom 1 names h.now = record { room = omega (arith, room.room, h.next, h.size) } in
        let low : lines.names.next ≤ names.next = omega (arith, h.next) in
        let shows : Shows names h.now (codes "~symbols") (Plain (Cell 1)) = h.lasts.shown (codes "~symbols") (Plain (Cell 1)) outer_symbols here in
        let done : Popped taken calls ss lines.names env start many k (x ∷ xs) l (reduce_line w (pop_form k x)) = record {
          now = slice_set h.now names.next (symbol_val x.item);
          count = steps h.count 1;
          ran = pop_line_ran p w.made (pop_form k x) w.lines c.function 1 x.number 0 c.other l x.item.0 (Plain (Parsed x.item.1)) x.item.2 start (over_two h.now taken calls ss (l ++ on_stack x ∷ [])) h.count h.ran named c.there shows refl refl fits;
          counted = omega (arith, steps_are h.count 1, h.counted);
          made_same = h.made_same;
          next = omega (arith, h.next);
          size = length_set h.now names.next (symbol_val x.item) ∙ h.size;
          lasts = lasts_let h.lasts low (sym_name k) (symbol_val x.item) (inner_symbol k (omega arith));
          shown = one_shown k xs x names h.now fits (omega arith) h.shown;
        } in
        subst (Popped taken calls ss lines.names env start many k (x ∷ xs) l) (sym (over-append reduce_line (work_of lines made) (pop_forms (k + 1) xs) (pop_form k x ∷ []))) done
