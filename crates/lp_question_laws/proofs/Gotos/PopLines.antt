-- The lines of a reduction that take its symbols off.
use Rattle.std.proofs.Common.{◌≡◌, ℕ, zero, suc, ◌+◌, ◌<◌, ◌≤◌, ◌^◌, List, [], ◌∷◌, ◌++◌, length, map, Some, ℤ, refl, ap, sym, subst, ◌∙◌, arith, codes, decimal, append_assoc, append-nil, add-zero}
use Rattle.std.specs.Prelude.{slice_get, slice_set}
use Rattle.std.proofs.lemmas.Fmt.{decimal_injective}
use Rattle.std.proofs.lemmas.List.{length-set}
use Rattle.lp_repr.specs.declared.values.Loc.{Loc}
use Rattle.lp_driver.specs.Values.{Spanned}
use Rattle.lp_core.specs.Val as val
use Rattle.lp_core.specs.Val.{Val}
use Rattle.lp_core.specs.Datum.{Cell}
use Rattle.lp_core.specs.Reading.{spanned_val}
use Rattle.lp_core.specs.Effect.{set_value}
use Rattle.lp_core.specs.Store.{Program, States, Symbols}
use Rattle.lp_core.specs.Flow.{State, Gives}
use Rattle.lp_core.specs.Eval.{run, run_call}
use Rattle.lp_form.specs.declared.part.Part.TheVariants as part
use Rattle.lp_build.specs.Built.{row}
use Rattle.lp_view.specs.PartLists.{Form, over}
use Rattle.lp_maker.specs.Slots.{Names, bound}
use Rattle.lp_maker.specs.Making.{Making, number_in, call_named}
use Rattle.lp_bodies.specs.Lines.{Lines}
use Rattle.lp_bodies.specs.Reductions.{Work, work_of, reduce_line, symbols}
use Rattle.lp_question_laws.proofs.Gotos.GotoCode.{over-append}
use Rattle.lp_question_laws.proofs.Gotos.Digits.{Lacks, decimal_lacks}
use Rattle.std.proofs.lemmas.Option.{slice_get_within}
use Rattle.lp_question_laws.proofs.Gotos.Pops.{pop_code, symbol_at, pop_called}
use Rattle.lp_question_laws.proofs.Gotos.Lets.{Shows, shows_new, shows_old, with_env, Ran, let_ran, call_one}

-- a symbol with the text of its variant
pub record Symbol : Type 0 where
  pub variant : List ℕ
  pub number : ℕ
  pub start : Loc
  pub value : Val
  pub finish : Loc

abbrev pub triple_of : Symbol → Val
triple_of x = spanned_val (x.start, x.value, x.finish)

abbrev pub on_stack : Symbol → Spanned Val
on_stack x = symbol_at x.start x.number x.value x.finish

abbrev pub pop_form : ℕ → Symbol → Form
pop_form k x = row part.PopLine (decimal k ∷ x.variant ∷ []) ∷ []

abbrev pub pop_forms : ℕ → List Symbol → List Form
pop_forms k [] = []
pop_forms k (x ∷ xs) = pop_forms (k + 1) xs ++ pop_form k x ∷ []

abbrev pub sym_name : ℕ → List ℕ
sym_name k = codes "~sym" ++ decimal k

-- such names are different
digits_same : (i : ℕ) (ds : List ℕ) → sym_name i ≡ codes "~sym" ++ ds → decimal i ≡ ds
digits_same i ds e = cc

sym_apart : (i j : ℕ) → i < 2 ^ 64 → j < 2 ^ 64 → (i ≡ j → ⊥) → sym_name i ≡ sym_name j → ⊥
sym_apart i j a b ne e = ne (decimal_injective i j a b (digits_same i (decimal j) e))

sym_symbols : (i : ℕ) → i < 2 ^ 64 → sym_name i ≡ codes "~symbols" → ⊥
sym_symbols i h e = (subst (Lacks 98) (digits_same i (codes "bols") e) (decimal_lacks 98 i (λ r. omega arith) h)).0 refl

next_after : (n old count : ℕ) → n ≡ old + count → n + 1 ≡ old + suc count
next_after n old count e = omega arith

shown_there : (k : ℕ) (xs : List Symbol) (x : Symbol) (names : Names) (env : List Val) → names.next < length env → k + suc (length xs) ≤ 2 ^ 64 →
    ((i : ℕ) (y : Symbol) → slice_get xs i ≡ Some y → Shows names env (sym_name ((k + 1) + i)) (triple_of y)) →
    (i : ℕ) (y : Symbol) → slice_get (x ∷ xs) i ≡ Some y → Shows (bound (sym_name k) names) (slice_set env names.next (triple_of x)) (sym_name (k + i)) (triple_of y)
shown_there k xs x names env fits small h zero y e =
    let same : x ≡ y = cc in
    subst (λ (y : Symbol). Shows (bound (sym_name k) names) (slice_set env names.next (triple_of x)) (sym_name (k + 0)) (triple_of y)) same
    (subst (λ j. Shows (bound (sym_name k) names) (slice_set env names.next (triple_of x)) (sym_name j) (triple_of x)) (sym (add-zero k)) (shows_new names env (sym_name k) (triple_of x) fits))
shown_there k xs x names env fits small h (suc i) y e =
    let lt : i < length xs = slice_get_within xs i y e in
    let moved : (k + 1) + i ≡ k + suc i = omega arith in
    subst (λ j. Shows (bound (sym_name k) names) (slice_set env names.next (triple_of x)) (sym_name j) (triple_of y)) moved
    (shows_old names env (sym_name ((k + 1) + i)) (sym_name k) (triple_of y) (triple_of x) (sym_apart k ((k + 1) + i) (omega arith) (omega arith) (λ e. omega arith)) (h i y e))

module _ (p : Program) (m : Making) where
  -- there is a function that pops its variant, and its value is one
  pub record CanPop (x : Symbol) : Type 0 where
    pub function : ℕ
    pub maker : Making
    pub named : number_in (codes "pop_" ++ x.variant) m.names ≡ Some function
    pub there : slice_get p.functions function ≡ Some (pop_code maker x.number)
    pub set : set_value x.value ≡ Some x.value

  abbrev pub AllPop : List Symbol → Type 0
  AllPop [] = Unit {0}
  AllPop (x ∷ xs) = CanPop x × AllPop xs

  -- the lines have popped: the stack without the symbols, each of which its name shows
  pub record Popped (k left : ℕ) (xs : List Symbol) (ss : List ℤ) (l : List (Spanned Val)) (old : Names) (old_env : List Val) (st : State) (w : Work) : Type 0 where
    pub now : State
    pub ran : Ran p w.lines.parts st now
    pub made : w.made ≡ m
    pub cells : now.store.cells ≡ States ss ∷ Symbols l ∷ []
    pub steps : now.left ≡ left
    pub next : w.lines.names.next ≡ old.next + length xs
    pub size : length now.store.env ≡ length old_env
    pub shown : (i : ℕ) (x : Symbol) → slice_get xs i ≡ Some x → Shows w.lines.names now.store.env (sym_name (k + i)) (triple_of x)
    pub kept : (q : List ℕ) (v : Val) → ((i : ℕ) → k ≤ i → i < k + length xs → sym_name i ≡ q → ⊥) → Shows old old_env q v → Shows w.lines.names now.store.env q v

  all_popped : (ss : List ℤ) (xs : List Symbol) (k left : ℕ) (l : List (Spanned Val)) (lines : Lines) (st st1 : State) → AllPop xs → Ran p lines.parts st st1 →
      Shows lines.names st1.store.env (codes "~symbols") (val.Plain (Cell 1)) → st1.store.cells ≡ States ss ∷ Symbols (l ++ map on_stack xs) ∷ [] → st1.left ≡ left + length xs →
      lines.names.next + length xs ≤ length st1.store.env → k + length xs ≤ 2 ^ 64 →
      Popped k left xs ss l lines.names st1.store.env st (over reduce_line (work_of lines m) (pop_forms k xs))
  all_popped ss [] k left l lines st st1 a ran shows cells steps room small = record {
    now = st1;
    ran = ran;
    made = refl;
    cells = cells ∙ ap (λ x. States ss ∷ Symbols x ∷ []) (append-nil l);
    steps = steps ∙ add-zero left;
    next = sym (add-zero lines.names.next);
    size = refl;
    shown = λ i x h. absurd cc;
    kept = λ q v ne s. s;
  }
  all_popped ss (x ∷ xs) k left l lines st st1 a ran shows cells steps room small =
      let h = all_popped ss xs (k + 1) (suc left) (l ++ on_stack x ∷ []) lines st st1 a.1 ran shows (cells ∙ ap (λ y. States ss ∷ Symbols y ∷ []) (sym (append_assoc l (on_stack x ∷ []) (map on_stack xs)))) (omega arith) (omega arith) (omega arith) in
      let w = over reduce_line (work_of lines m) (pop_forms (k + 1) xs) in
      let names = w.lines.names in
      let now = h.now in
      let can = a.0 in
      let vs = val.Plain (Cell 1) ∷ [] in
      let here : Shows names now.store.env (codes "~symbols") (val.Plain (Cell 1)) = h.kept (codes "~symbols") (val.Plain (Cell 1)) (λ i le lt. sym_symbols i (omega arith)) shows in
      let named : number_in (codes "pop_" ++ x.variant) w.made.names ≡ Some can.function = ap (λ (y : Making). number_in (codes "pop_" ++ x.variant) y.names) h.made ∙ can.named in
      let call = call_named (codes "pop_" ++ x.variant) (symbols names ∷ []) w.made in
      let st2 : State = record now { store = record now.store { cells = States ss ∷ Symbols l ∷ [] }; left = left } in
      let runs : run p call now ≡ Gives (triple_of x) st2 =
      call_one p w.made names (codes "pop_" ++ x.variant) can.function (codes "~symbols") (val.Plain (Cell 1)) now named here refl
      ∙ ap (λ cs. run_call p can.function vs (record now { store = record now.store { cells = cs } })) h.cells
      ∙ ap (λ n. run_call p can.function vs (record now { store = record now.store { cells = States ss ∷ Symbols (l ++ on_stack x ∷ []) ∷ [] }; left = n })) h.steps
      ∙ pop_called p can.maker can.function x.number left now.store.taken now.calls ss l x.start x.finish x.value now.store.env can.set can.there in
      let fits : names.next < length now.store.env = (let n = h.next in let e = h.size in omega arith) in
      let done : Popped k left (x ∷ xs) ss l lines.names st1.store.env st (reduce_line w (pop_form k x)) = record {
        now = with_env p st2 (slice_set now.store.env names.next (triple_of x));
        ran = let_ran p w.lines (sym_name k) call (triple_of x) st now st2 h.ran runs fits;
        made = h.made;
        cells = refl;
        steps = refl;
        next = (let n = h.next in next_after names.next lines.names.next (length xs) n);
        size = length-set now.store.env names.next (triple_of x) ∙ h.size;
        shown = shown_there k xs x names now.store.env fits (omega arith) h.shown;
        kept = λ q v ne s. shows_old names now.store.env q (sym_name k) v (triple_of x) (ne k (omega arith) (omega arith)) (h.kept q v (λ i le lt. ne i (omega arith) (omega arith)) s);
      } in
      subst (Popped k left (x ∷ xs) ss l lines.names st1.store.env st) (sym (over-append reduce_line (work_of lines m) (pop_forms (k + 1) xs) (pop_form k x ∷ []))) done
